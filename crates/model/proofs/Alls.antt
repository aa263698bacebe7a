-- Laws for code that computes the model's tests. A loop that tests each number below n, and ends at the first that fails, keeps
-- that the test passed at all numbers so far.
-- Assumes nothing.
use mathlib.Core.Path.{◌≡◌, refl, sym, ap, ◌∙◌}
use mathlib.Core.Bool.{Bool, true, false, cond}
use Prim.Native.Nat.{ℕ, ◌+◌, ◌<◌, ◌≤◌}
use native.Mathlib.Numerals.{add-one}
use native.Mathlib.Omega.{arith}
use Rattle.model.specs.Tab.{Tells, all}
use Rattle.model.proofs.Tab.{all-tells}
use Rattle.model.proofs.Tests.{told-true, told-false}

module _ (f : ℕ → Bool) where
  pub all-begin : all 0 f ≡ true
  unfolding all
  all-begin = refl

  pub all-turn : (i : ℕ) → f i ≡ true → all i f ≡ true → all (i + 1) f ≡ true
  unfolding all
  all-turn i e h = rw (add-one, e, h)

  pub all-stop : (n i : ℕ) → i < n → f i ≡ false → all n f ≡ false
  all-stop n i l e =
      told-false (all-tells n (λ k. record { sound = λ x. x; complete = λ x. x })) (λ g. rw e at (g i l))

  pub all_end : (n i : ℕ) → n ≤ i → i ≤ n → all i f ≡ true → all n f ≡ true
  all_end n i l u h = let e : n ≡ i = omega arith in rw e h

-- two tests that tell things which follow from each other are one
pub tells-same : {a b : Bool} {A B : Type 0} → Tells a A → Tells b B → (A → B) → (B → A) → a ≡ b
tells-same {b = true} s t f g = told-true s (g (t.sound tt))
tells-same {b = false} s t f g = told-false s (λ x. t.complete (f x))

-- a test that the code calls and then finds true, or false, by `if !f(..)`
pub passed : {a b : Bool} → a ≡ b → a ≡ true → b ≡ true
passed e h = sym e ∙ h

pub failed : {a b : Bool} → a ≡ b → a ≡ false → b ≡ false
failed e h = sym e ∙ h

-- what a test that is known to be true, or false, says
pub holds : {b : Bool} {A : Type 0} → Tells b A → b ≡ true → A
holds {b = true} t e = t.sound tt
holds {b = false} t e = let z : ◌≡◌ {A = ℕ} 0 1 = cc in absurd (omega arith)

pub lacks : {b : Bool} {A : Type 0} → Tells b A → b ≡ false → ¬ A
lacks {b = true} t e = let z : ◌≡◌ {A = ℕ} 0 1 = cc in absurd (omega arith)
lacks {b = false} t e = t.complete

-- where something is not known yet, whatever would follow from it does
pub not_yet : {A : Type 0} → false ≡ true → A
not_yet e = let z : ◌≡◌ {A = ℕ} 1 0 = ap (λ (b : Bool). cond b 0 1) e in absurd (omega arith)
