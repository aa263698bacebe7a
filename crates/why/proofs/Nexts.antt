-- The laws of `next_from` and `each_from`: one phrase of those that are told one by one.
-- Assumes nothing.
use mathlib.Core.Path.{◌≡◌, refl}
use mathlib.Core.Bool.{Bool, true, false}
use mathlib.Core.List.{List, ◌∷◌}
use Prim.Native.Nat.{ℕ, zero, suc, ◌+◌, ◌-◌, ◌<◌, ◌≤◌}
use native.Mathlib.Numerals.{add-one}
use native.Mathlib.Omega.{arith}
use Rattle.std.proofs.Common.{Some, None}
use Rattle.why.specs.declared.phrase.Phrase.{Phrase}
use Rattle.why.specs.Each.{next_from, each_from}

one_less : (top i : ℕ) → i < top → top - i ≡ suc (top - (i + 1))
one_less top i h = omega arith

none_left : (top i : ℕ) → top ≤ i → top - i ≡ zero
none_left top i h = omega arith

module _ (p : ℕ → Bool) (f : ℕ → Phrase) (top : ℕ) (rest : List Phrase) where
  -- what is told from i on, where something is found
  abbrev Turn : ℕ → ℕ → Type 0
  Turn n i = (j : ℕ) → next_from p n i ≡ Some j → each_from p f n i rest ≡ f j ∷ each_from p f (top - (j + 1)) (j + 1) rest

  turn_on : (n i : ℕ) (b : Bool) → p i ≡ b → suc n ≡ top - i → Turn n (suc i) → Turn (suc n) i
  unfolding next_from each_from
  turn_on n i true e l on j h =
      let here : i ≡ j = let s = rw e at h in cc in
      let m : n ≡ top - suc i = omega arith in
      rw (e, ← here, add-one i, m) refl
  turn_on n i false e l on j h = rw e (on j (rw (e, add-one i) at h))

  turn : (n i : ℕ) → n ≡ top - i → Turn n i
  unfolding next_from
  turn zero i l j h = cc
  turn (suc n) i l j h = turn_on n i (p i) refl l (turn n (suc i) (omega arith)) j h

  abbrev Over : ℕ → ℕ → Type 0
  Over n i = next_from p n i ≡ None → each_from p f n i rest ≡ rest

  over_on : (n i : ℕ) (b : Bool) → p i ≡ b → Over n (suc i) → Over (suc n) i
  unfolding next_from each_from
  over_on n i true e on h = let s = rw e at h in cc
  over_on n i false e on h = rw e (on (rw (e, add-one i) at h))

  over : (n i : ℕ) → Over n i
  unfolding each_from
  over zero i h = refl
  over (suc n) i h = over_on n i (p i) refl (over n (suc i)) h

  pub each_turn : (i j : ℕ) → next_from p (top - i) i ≡ Some j → each_from p f (top - i) i rest ≡ f j ∷ each_from p f (top - (j + 1)) (j + 1) rest
  each_turn i j h = turn (top - i) i refl j h

  pub each_over : (i : ℕ) → next_from p (top - i) i ≡ None → each_from p f (top - i) i rest ≡ rest
  each_over i h = over (top - i) i h

  pub each_none : (i : ℕ) → top ≤ i → each_from p f (top - i) i rest ≡ rest
  unfolding each_from
  each_none i h = rw (none_left top i h) refl

pub each_all : (f : ℕ → Phrase) (top i : ℕ) (rest : List Phrase) → i < top
    → each_from (λ _. true) f (top - i) i rest ≡ f i ∷ each_from (λ _. true) f (top - (i + 1)) (i + 1) rest
unfolding each_from
each_all f top i rest h = rw (one_less top i h, add-one i) refl
