-- The loop of `change` in `marking`, turn by turn: no place passed fails, and their markings are written.
-- Assumes nothing.
use mathlib.Core.Path.{◌≡◌, refl, sym, ap, ◌∙◌}
use mathlib.Core.Bool.{Bool, true, false, not, cond}
use mathlib.Core.List.{List}
use Prim.Native.Nat.{ℕ, zero, suc, ◌+◌, ◌-◌, ◌<◌, ◌≤◌}
use native.Mathlib.Nat.{zero-add}
use native.Mathlib.Omega.{arith}
use lib.Dec.{eqb, ltb}
use lib.ListN.{length, take, length-take}
use lib.Seq.{get_or-take}
use borrow.Author.Tests.{lt-ltb, le-ltb, eq-eqb, ne_eqb}
use Rattle.std.proofs.Common.{Option, Some, None}
use Rattle.std.specs.Option.{SomeIff}
use Rattle.model.specs.Tab.{Tells, all, lowest}
use Rattle.model.specs.Limits.{Held, is_held}
use Rattle.model.specs.Owed.{Lowest}
use Rattle.model.proofs.Alls.{all-turn}
use Rattle.model.proofs.Lowest.{lowest-is}
use Rattle.model.proofs.Tests.{ltb-tells, held_tells, told-true}
use Rattle.forms.specs.Word.{Bytes, byte, word, set_word, put_words}
use Rattle.forms.specs.Places.{mark_at}
use Rattle.forms.proofs.Runs.{put-turn}
use Rattle.forms.proofs.WordLaws.{word-put_words, word_fits}
use Rattle.owed.specs.Marks.{is_short, short_place}
use Rattle.owed.specs.Weights.{AreZero}
use Rattle.owed.proofs.ModelTests.{lowest-found, lowest_end, lowest-all}
use Rattle.owed.proofs.Passing.{same, all-on}
use Rattle.moves.specs.Marking.{Changes, Changed, after_taking, after_giving, is_roomy, taken, given}
use Rattle.moves.proofs.Marked.{put_on, put_back}

-- what is told of a place, by cases
told-none : (b : Bool) (v : ℕ) → None ≡ cond b None (Some v) → b ≡ true
told-none true v e = refl
told-none false v e = let z : ◌≡◌ {A = ℕ} 0 1 = cc in absurd (omega arith)

told-some : (b : Bool) (v u : ℕ) → Some u ≡ cond b None (Some v) → (b ≡ false) × (u ≡ v)
told-some true v u e = let z : ◌≡◌ {A = ℕ} 0 1 = cc in absurd (omega arith)
told-some false v u e = (refl, cc)

-- x is what the state s has become where the loop has come to place `at`; the weights from there up to place p are 0
module _ (made : ℕ → ℕ → Option ℕ → Type 0) (ws s : List ℕ) (small : Bytes s) (fails : ℕ → Bool) (g : ℕ → ℕ) (changes : Changes made ws s fails g)
    (at : ℕ) (x : List ℕ) (inv : (x ≡ put_words (mark_at 0) at g s) × (all at (λ k. not (fails k)) ≡ true))
    (p : ℕ) (up : at ≤ p) (inside : p ≤ length ws) (zeros : AreZero ws at p) where
  passed : (x ≡ put_words (mark_at 0) p g s) × (all p (λ k. not (fails k)) ≡ true)
  passed = (
    inv.0 ∙ put_on g s small at p up (λ q u l. (changes.stays q (omega arith) (zeros q u l)).1),
    all-on (λ k. not (fails k)) at p inv.1 (λ q u l. rw (changes.stays q (omega arith) (zeros q u l)).0),
  )

  run-of : (n : ℕ) → p ≡ lowest n n fails → x ≡ put_words (mark_at 0) (lowest n n fails) g s
  run-of n e = passed.0 ∙ ap (λ (m : ℕ). put_words (mark_at 0) m g s) e

  -- no place is left
  pub change-end : (n : ℕ) → n ≡ p → (lowest n n fails ≡ n) × (x ≡ put_words (mark_at 0) (lowest n n fails) g s)
  change-end n e =
      let none : n ≡ lowest n n fails = lowest_end fails n p (omega arith) (omega arith) passed.1 in
      (sym none, run-of n (sym e ∙ none))

  -- place p is asked, with the marking m and the weight w
  module _ (m w : ℕ) (marking : m ≡ word s (mark_at p)) (weight : w ≡ byte ws p) (l : p < length ws) where
    asked : (r : Option ℕ) → made m w r → r ≡ cond (fails p) None (Some (g p))
    asked r h = changes.told p r l (rw (marking, weight) at h)

    pub change-stop : made m w None → ((p < length ws) × (p ≡ lowest (length ws) (length ws) fails)) × (x ≡ put_words (mark_at 0) (lowest (length ws) (length ws) fails) g s)
    change-stop h =
        let here = lowest-found fails (length ws) p l (told-none (fails p) (g p) (asked None h)) passed.1 in
        ((l, here), run-of (length ws) here)

    pub change-turn : (v : ℕ) → made m w (Some v) → (y : List ℕ) → y ≡ set_word x (mark_at p) v → (behind : ℕ) → behind ≡ p + 1
        → (y ≡ put_words (mark_at 0) behind g s) × (all behind (λ k. not (fails k)) ≡ true)
    change-turn v h y wrote behind e =
        let (well, value) = told-some (fails p) (g p) v (asked (Some v) h) in
        let here : (y ≡ put_words (mark_at 0) (p + 1) g s) × (all (p + 1) (λ k. not (fails k)) ≡ true) =
        (put-turn (mark_at 0) g s p x y v passed.0 wrote value, all-turn (λ k. not (fails k)) p (rw well) passed.1) in
        rw (sym e) at here

-- what is made of a place, where that never fails, fits where it does
pub some-fits : (v u : ℕ) → Some v ≡ Some u → u < 65536 → v < 65536
some-fits v u e l = let same : v ≡ u = cc in omega arith

-- where no place fails, all are written
pub changed-all : (n : ℕ) (g : ℕ → ℕ) (s : List ℕ) (found : Option ℕ) (after : List ℕ) → Changed (λ _. false) g n s found after → after ≡ put_words (mark_at 0) n g s
unfolding all
changed-all n g s found after h = h.1 ∙ ap (λ (m : ℕ). put_words (mark_at 0) m g s) (sym (lowest_end (λ _. false) n n (omega arith) (omega arith) (all-on (λ _. true) 0 n refl (λ q u l. refl))))

-- the first p weights
module _ (ws : List ℕ) (p : ℕ) (l : p ≤ length ws) where
  pub front-length : length (take p ws) ≡ p
  front-length = omega (arith, length-take p ws)

  pub front-byte : (q : ℕ) → q < p → byte (take p ws) q ≡ byte ws q
  front-byte q h = get_or-take p ws q 0 h

-- the places before the first that fails do not fail
fails-not : (fails : ℕ → Bool) (Fails : ℕ → Type 0) → ((q : ℕ) → Tells (fails q) (Fails q)) → (n p : ℕ) → p ≡ lowest n n fails → (q : ℕ) → q < p → ¬ Fails q
fails-not fails Fails tells n p e q l = go (lowest-is tells n n) e
  where
    go : {m : ℕ} → Lowest Fails n n m → p ≡ m → ¬ Fails q
    go (Lowest.found h here below) same = below q (omega arith)
    go (Lowest.empty none) same = none q (omega arith)

-- where the first p markings are written as f, and these then as they stood, all is as it was
back-again : (f g : ℕ → ℕ) (s x : List ℕ) (p m : ℕ) → Bytes s → x ≡ put_words (mark_at 0) p f s → m ≡ p → ((q : ℕ) → q < p → g q ≡ word s (mark_at q))
    → (y : List ℕ) → y ≡ put_words (mark_at 0) m g x → y ≡ s
back-again f g s x p m small before e own y back = rw e at back ∙ ap (put_words (mark_at 0) p g) before ∙ put_back f g s p small own

-- WHAT `take` MAKES OF IT: s is the state at first, and x what `change` has made of it

module _ (ws s : List ℕ) where
  -- what the subtraction tells of a place
  pub take-told : (p : ℕ) (r : Option ℕ) → SomeIff r (byte ws p ≤ word s (mark_at p)) (word s (mark_at p) - byte ws p)
      → r ≡ cond (is_short ws 0 s p) None (Some (after_taking ws 0 s p))
  take-told p r h = rw (zero-add p) (by r h)
    where
      less : {m w : ℕ} → ¬ (w ≤ m) → m < w
      less f = omega arith

      by : (o : Option ℕ) → SomeIff o (byte ws p ≤ word s (mark_at p)) (word s (mark_at p) - byte ws p)
          → o ≡ cond (ltb (word s (mark_at p)) (byte ws p)) None (Some (word s (mark_at p) - byte ws p))
      by None none = rw (lt-ltb (word s (mark_at p)) (byte ws p) (less none))
      by (Some v) some = rw (le-ltb (word s (mark_at p)) (byte ws p) some.0) (ap Some some.1)

  pub take-stays : (p : ℕ) → byte ws p ≡ 0 → (is_short ws 0 s p ≡ false) × (after_taking ws 0 s p ≡ word s (mark_at p))
  take-stays p z =
      let zero-here : byte ws (0 + p) ≡ 0 = same ws p (0 + p) p (omega arith) ∙ z in
      (le-ltb (word s (mark_at p)) (byte ws (0 + p)) (omega arith), omega arith)

  -- no place is short
  pub take-all : (x : List ℕ) → Changed (is_short ws 0 s) (after_taking ws 0 s) (length ws) s None x → x ≡ taken ws 0 s (length ws)
  unfolding taken short_place
  take-all x h = h.1 ∙ rw (h.0, eq-eqb (length ws) (length ws) refl)

  module _ (x : List ℕ) (p : ℕ) (h : Changed (is_short ws 0 s) (after_taking ws 0 s) (length ws) s (Some p) x) (fits : mark_at (length ws) ≤ length s) where
    written : x ≡ put_words (mark_at 0) p (after_taking ws 0 s) s
    written = h.1 ∙ ap (λ (m : ℕ). put_words (mark_at 0) m (after_taking ws 0 s) s) (sym h.0.1)

    -- the places before it had their weights
    take-word : (q : ℕ) → q < p → word x (mark_at q) + byte ws q ≡ word s (mark_at q)
    take-word q l =
        let had = fails-not (is_short ws 0 s) _ (λ k. ltb-tells (word s (mark_at k)) (byte ws (0 + k))) (length ws) p h.0.1 q l in
        let now : word x (mark_at q) ≡ after_taking ws 0 s q = rw written (word-put_words (mark_at 0) (after_taking ws 0 s) s p q (omega (arith, h.0.0)) l) in
        omega (arith, same ws q (0 + q) q (omega arith))

    -- they may have them back, and then all is as it was
    pub take-held : Bytes s → (q : ℕ) → q < length (take p ws) → Held (word x (mark_at q) + byte (take p ws) q)
    take-held small q l =
        let m : q < p = omega (arith, front-length ws p (omega (arith, h.0.0))) in
        omega (arith, take-word q m, front-byte ws p (omega (arith, h.0.0)) q m, word_fits s (mark_at q) small)

    pub take-undone : Bytes s → (y : List ℕ) → y ≡ put_words (mark_at 0) (length (take p ws)) (after_giving (take p ws) 0 x) x → y ≡ taken ws 0 s (length ws)
    unfolding taken short_place
    take-undone small y back =
        back-again (after_taking ws 0 s) (after_giving (take p ws) 0 x) s x p _ small written (front-length ws p (omega (arith, h.0.0)))
        (λ q l. omega (arith, take-word q l, same (take p ws) q (0 + q) q (omega arith), front-byte ws p (omega (arith, h.0.0)) q l)) y back
        ∙ rw (ne_eqb (lowest (length ws) (length ws) (is_short ws 0 s)) (length ws) (λ e. omega (arith, h.0)))

-- WHAT `give` MAKES OF IT

not-not : (n : ℕ) (f : ℕ → Bool) → all n (λ k. not (not (f k))) ≡ all n f
unfolding all
not-not zero f = refl
not-not (suc n) f = rw (twice (f n), not-not n f) refl
  where
    twice : (b : Bool) → not (not b) ≡ b
    twice true = refl
    twice false = refl

module _ (ws s : List ℕ) where
  abbrev full : ℕ → Bool
  full p = not (is_held (after_giving ws 0 s p))

  -- what is told of a place: a sum that is held
  pub give-told : (p : ℕ) (r : Option ℕ) → r ≡ cond (is_held (word s (mark_at p) + byte ws p)) (Some (word s (mark_at p) + byte ws p)) None
      → r ≡ cond (not (is_held (after_giving ws 0 s p))) None (Some (after_giving ws 0 s p))
  give-told p r h = rw (zero-add p) (h ∙ turned (is_held (word s (mark_at p) + byte ws p)) (word s (mark_at p) + byte ws p))
    where
      turned : (b : Bool) (v : ℕ) → ◌≡◌ {A = Option ℕ} (cond b (Some v) None) (cond (not b) None (Some v))
      turned true v = refl
      turned false v = refl

  pub give-stays : Bytes s → (p : ℕ) → byte ws p ≡ 0 → (not (is_held (after_giving ws 0 s p)) ≡ false) × (after_giving ws 0 s p ≡ word s (mark_at p))
  give-stays small p z =
      let zero-here : byte ws (0 + p) ≡ 0 = same ws p (0 + p) p (omega arith) ∙ z in
      (rw (told-true (held_tells (after_giving ws 0 s p)) (omega (arith, word_fits s (mark_at p) small))), omega arith)

  -- each place has room where none is found that has not
  roomy : (r : ℕ) → r ≡ lowest (length ws) (length ws) full → eqb r (length ws) ≡ is_roomy ws 0 s (length ws)
  unfolding is_roomy
  roomy r e = ap (λ (m : ℕ). eqb m (length ws)) e ∙ lowest-all full (length ws) ∙ not-not (length ws) (λ p. is_held (after_giving ws 0 s p))

  module _ (x : List ℕ) where
    -- every place has room
    pub give-all : Changed full (after_giving ws 0 s) (length ws) s None x → (true ≡ is_roomy ws 0 s (length ws)) × (x ≡ given ws 0 s (length ws))
    unfolding given
    give-all h =
        let yes : is_roomy ws 0 s (length ws) ≡ true = sym (roomy (length ws) (sym h.0)) ∙ eq-eqb (length ws) (length ws) refl in
        (sym yes, h.1 ∙ rw (h.0, yes))

    module _ (p : ℕ) (h : Changed full (after_giving ws 0 s) (length ws) s (Some p) x) (fits : mark_at (length ws) ≤ length s) where
      gave : x ≡ put_words (mark_at 0) p (after_giving ws 0 s) s
      gave = h.1 ∙ ap (λ (m : ℕ). put_words (mark_at 0) m (after_giving ws 0 s) s) (sym h.0.1)

      give-word : (q : ℕ) → q < p → word x (mark_at q) ≡ word s (mark_at q) + byte ws q
      give-word q l =
          let now : word x (mark_at q) ≡ after_giving ws 0 s q = rw gave (word-put_words (mark_at 0) (after_giving ws 0 s) s p q (omega (arith, h.0.0)) l) in
          omega (arith, same ws q (0 + q) q (omega arith))

      -- the places before it may give it back, and then all is as it was
      pub give-had : (q : ℕ) → q < length (take p ws) → byte (take p ws) q ≤ word x (mark_at q)
      give-had q l =
          let m : q < p = omega (arith, front-length ws p (omega (arith, h.0.0))) in
          omega (arith, give-word q m, front-byte ws p (omega (arith, h.0.0)) q m)

      pub give-undone : Bytes s → (y : List ℕ) → y ≡ put_words (mark_at 0) (length (take p ws)) (after_taking (take p ws) 0 x) x
          → (false ≡ is_roomy ws 0 s (length ws)) × (y ≡ given ws 0 s (length ws))
      unfolding given
      give-undone small y back =
          let no : is_roomy ws 0 s (length ws) ≡ false = sym (roomy p h.0.1) ∙ ne_eqb p (length ws) (λ e. omega (arith, h.0.0)) in
          let again : y ≡ s = back-again (after_giving ws 0 s) (after_taking (take p ws) 0 x) s x p _ small gave (front-length ws p (omega (arith, h.0.0)))
          (λ q l. omega (arith, give-word q l, same (take p ws) q (0 + q) q (omega arith), front-byte ws p (omega (arith, h.0.0)) q l)) y back in
          (sym no, rw no again)
