-- `(0..n).all(..)`, where the closure answers a test: it is the model's test of each number below n. And `(0..n).fold(..)`.
-- Assumes nothing.
use mathlib.Core.Path.{◌≡◌, sym, ap, ◌∙◌}
use mathlib.Core.Bool.{Bool, true, false}
use mathlib.Core.List.{List}
use Prim.Native.Nat.{ℕ, zero, suc, ◌+◌, ◌<◌}
use native.Mathlib.Numerals.{add-one}
use native.Mathlib.Omega.{arith}
use lib.ListN.{length, get_or}
use denote.Param.Members.{Mut}
use Rattle.std.specs.Bool.{MatchBool}
use Rattle.std.specs.Fn.{Called}
use Rattle.std.specs.Iterator.{ChecksAll, FoldsItems}
use Rattle.std.specs.List.{range_with_len, AllWithin, HoldsAt, fold}
use Rattle.std.specs.declared.ops.Range.{Range}
use Rattle.std.proofs.iter.Yields.{nat_range_steps}
use Rattle.std.proofs.lemmas.Iterator.{cases_from_all, YieldsList-from_range}
use Rattle.std.proofs.lemmas.Iterator.Consumers.{fold_from_yields_List}
use Rattle.std.proofs.lemmas.List.FromFn.{length-range_with_len, get_or-range_with_len}
use Rattle.model.specs.Tab.{all}
use Rattle.model.proofs.Alls.{all-stop}
use Rattle.model.proofs.Tab.{all-tells}
use Rattle.model.proofs.Tests.{told-true}

module _ (test : ℕ → Bool) (n : ℕ) where
  abbrev below : List ℕ
  below = range_with_len 0 n

  -- the test answers b at x
  abbrev Answers : Bool → ℕ → Type 0
  Answers b x = b ≡ test x

  item : (b : Bool) (i : ℕ) → i < n → Answers b (get_or below i 0) → test i ≡ b
  item b i l h = let e : get_or below i 0 ≡ i = omega (arith, get_or-range_with_len 0 n i 0 l) in sym (rw e at h)

  by_cases : (r : Bool) → MatchBool r (AllWithin (Answers true) below 0 (length below)) ((k : ℕ) × (k < length below) × HoldsAt (Answers false) below k) → r ≡ all n test
  by_cases true h =
      sym (told-true (all-tells n (λ i. record { sound = λ x. x; complete = λ x. x }))
      (λ i l. rw (item true i l (h i 0 (omega arith) (omega (arith, length-range_with_len 0 n)))) tt))
  by_cases false h =
      let l : h.0 < n = omega (arith, length-range_with_len 0 n, h.1) in
      sym (all-stop test n h.0 l (item false h.0 l (h.2 0)))

  -- n is also known as m
  pub all-below : {F : Type 0} {g : Mut F (ℕ × Unit {0}) Bool} {s u : Range ℕ} {f : F} {r : Bool} (m : ℕ)
      → ChecksAll nat_range_steps g s f r u → s ≡ record { start = 0; end = m } → m ≡ n
      → ((x : ℕ) (b : Bool) (q : F) → Called g f (x, tt) b q → (q ≡ f) × (b ≡ test x))
      → r ≡ all n test
  all-below {u = u} {f = f} {r = r} m d e same says =
      by_cases r (cases_from_all u f r (Answers true) (Answers false) d (YieldsList-from_range 0 n n (e ∙ ap (λ (k : ℕ). record { start = 0; end = k }) same) (omega arith)) (λ x. says x true) (λ x q k. (says x false q k).1))

-- `acc i` is what the numbers below i make of `acc 0`, each by h
module _ {B : Type 0} (h : B → ℕ → B) (acc : ℕ → B) (n : ℕ) (turn : (i : ℕ) → i < n → acc (suc i) ≡ h (acc i) i) where
  fold-from : (k i : ℕ) → i + k ≡ n → fold h (acc i) (range_with_len i k) ≡ acc n
  fold-from zero i e = let here : i ≡ n = omega arith in ap acc here
  fold-from (suc k) i e =
      ap (λ (a : B). fold h a (range_with_len (i + 1) k)) (sym (turn i (omega arith))) ∙ rw (add-one i) (fold-from k (suc i) (omega arith))

  pub fold-below : {F : Type 0} {g : Mut F (B × (ℕ × Unit {0})) B} {s : Range ℕ} {f : F} {r : B} (m : ℕ)
      → FoldsItems nat_range_steps g s f (acc 0) r → s ≡ record { start = 0; end = m } → m ≡ n
      → ((a : B) (x : ℕ) (b : B) (q : F) → Called g f (a, (x, tt)) b q → (q ≡ f) × (b ≡ h a x))
      → r ≡ acc n
  fold-below {g = g} {f = f} {r = r} m d e same says =
      fold_from_yields_List g h (acc 0) r d (YieldsList-from_range 0 n n (e ∙ ap (λ (k : ℕ). record { start = 0; end = k }) same) (omega arith)) says
      ∙ fold-from n 0 (omega arith)
