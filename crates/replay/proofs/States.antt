-- The lines of bytes with a state's places, transitions and width in their head show the state.
-- Assumes nothing.
use mathlib.Core.Path.{◌≡◌, refl, sym, ap, ◌∙◌}
use mathlib.Core.List.{List, ◌∷◌}
use Prim.Native.Nat.{ℕ, zero, suc, ◌+◌, ◌*◌, ◌/◌, ◌%◌, ◌<◌}
use native.Mathlib.Nat.{div-add-mod', mod-lt}
use native.Mathlib.Omega.{arith}
use Rattle.model.specs.Tab.{tab}
use Rattle.model.specs.Net.{Net, width, tokens, count}
use Rattle.forms.specs.Word.{byte, word}
use Rattle.forms.specs.Places.{mark_at}
use Rattle.forms.specs.Stored.{state_of}
use Rattle.forms.proofs.Stored.{count-place, count_at_lem, tokens-are}
use Rattle.moves.proofs.Fired.{cell-once}
use Rattle.replay.specs.Lines.{count_of, ShowsState}

tab-cong : (n : ℕ) (f g : ℕ → ℕ) → ((i : ℕ) → i < n → f i ≡ g i) → tab n f ≡ tab n g
unfolding tab
tab-cong zero f g same = refl
tab-cong (suc n) f g same =
    ap (λ (x : ℕ). x ∷ tab n (λ k. f (suc k))) (same 0 (omega arith)) ∙ ap (λ (l : List ℕ). g 0 ∷ l) (tab-cong n (λ k. f (suc k)) (λ k. g (suc k)) (λ i h. same (suc i) (omega arith)))

module _ (N : Net) (b : List ℕ) (places_are : byte b 5 ≡ N.places) (transitions_are : byte b 6 ≡ N.transitions) (width_is : byte b 7 ≡ width N) where
  abbrev D : ℕ
  D = width N

  -- transition and age of a cell, by its number
  parted : (t j : ℕ) → j < width N → ((t * width N + j) / width N ≡ t) × ((t * width N + j) % width N ≡ j)
  parted t j l =
      let cell = t * D + j in
      cell-once D (cell / D) (cell % D) t j (mod-lt cell (omega arith)) l (div-add-mod' cell D)

  counted : (t j : ℕ) → t < N.transitions → j < width N → count_of b (t * width N + j) ≡ count (state_of N b) t j
  unfolding count_of
  counted t j h l =
      let two = parted t j l in
      rw (width_is, places_are, two.0, two.1, count-place N.places (width N) t j) (sym (count_at_lem N b t j h l))

  pub shows-state : ShowsState N b
  shows-state = record {
    marks_are = rw (places_are) (tab-cong N.places (λ p. word b (mark_at p)) (tokens (state_of N b)) (λ p h. sym (tokens-are N b p h)));
    cells_are = rw (transitions_are, width_is);
    fields_are = λ t j h l.
        let two = parted t j l in
        rw (counted t j h l, width_is, two.0, two.1);
  }
