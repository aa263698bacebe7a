-- The lowest number of a set that a test tells: it is found, and there is one.
-- Assumes nothing.
use mathlib.Core.Path.{◌≡◌, refl, sym}
use mathlib.Core.Bool.{Bool, true, false, cond}
use mathlib.Core.Logic.{◌⊎◌, inl, inr}
use Prim.Native.Nat.{ℕ, zero, suc, ◌<◌, ◌≤◌}
use native.Mathlib.Omega.{arith}
use Rattle.model.specs.Tab.{Tells, lowest}
use Rattle.model.specs.Owed.{Lowest}
use Rattle.model.proofs.Tab.{below-or-past, at-or-below}

module _ {f : ℕ → Bool} {A : ℕ → Type 0} (each : (i : ℕ) → Tells (f i) (A i)) where
  -- l is the lowest from n on and below m, or z where there is none
  LowestFrom : ℕ → ℕ → ℕ → ℕ → Type 0
  LowestFrom z n m l =
      ((l < m) × (n ≤ l) × A l × ((i : ℕ) → n ≤ i → i < l → ¬ A i))
      ⊎ ((l ≡ z) × ((i : ℕ) → n ≤ i → i < m → ¬ A i))

  lower : (z n m l : ℕ) → n < m → LowestFrom z (suc n) m l → (b : Bool) → Tells b (A n) → LowestFrom z n m (cond b n l)
  unfolding LowestFrom
  lower z n m l h so_far true t = inl (h, omega arith, t.sound tt, λ i a b. absurd (omega arith))
  lower z n m l h so_far false t = elim so_far [
    | inl (b, o, here, none) ↦ inl (b, omega arith, here, λ i p q. from-n i p (λ r. none i r q))
    | inr (e, none) ↦ inr (e, λ i p q. from-n i p (λ r. none i r q))
  ]
    where
      -- what holds of none from n + 1 on, and not of n, holds of none from n on
      from-n : (i : ℕ) → n ≤ i → (suc n ≤ i → ¬ A i) → ¬ A i
      from-n i p above = at-or-below n i p (λ e. rw (← e) t.complete) above

  descend : (z n m l : ℕ) → n ≤ m → LowestFrom z n m l → LowestFrom z 0 m (lowest l n f)
  unfolding lowest
  descend z zero m l h so_far = so_far
  descend z (suc n) m l h so_far = descend z n m (cond (f n) n l) (omega arith) (lower z n m l (omega arith) so_far (f n) (each n))

  pub lowest-is : (z m : ℕ) → Lowest A m z (lowest z m f)
  unfolding LowestFrom
  lowest-is z m = elim (descend z m m z (omega arith) (inr (refl, λ i p q. absurd (omega arith)))) [
    | inl (b, o, here, none) ↦ Lowest.found b here (λ i q. none i (omega arith) q)
    | inr (e, none) ↦ rw e (Lowest.empty (λ i q. none i (omega arith) q))
  ]

-- two lowest ones of one set are equal
pub lowest-once : {A : ℕ → Type 0} {n z k l : ℕ} → Lowest A n z k → Lowest A n z l → k ≡ l
lowest-once {k} {l} (Lowest.found p a none) (Lowest.found q b none') =
    below-or-past k l (λ h. absurd (none' k h a)) (λ h. at-or-below l k h sym (λ g. absurd (none l g b)))
lowest-once {k} (Lowest.found p a none) (Lowest.empty none') = absurd (none' k p a)
lowest-once {l} (Lowest.empty none) (Lowest.found q b none') = absurd (none l q b)
lowest-once (Lowest.empty none) (Lowest.empty none') = refl
