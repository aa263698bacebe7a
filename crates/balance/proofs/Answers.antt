-- What weighing comes to, by the outcomes of its tests; and which number is told exactly when.
-- Assumes nothing.
use mathlib.Core.Path.{◌≡◌, refl, sym, ap, ◌∙◌}
use mathlib.Core.Bool.{Bool, true, false}
use mathlib.Core.Logic.{◌↔◌}
use mathlib.Core.List.{List}
use Prim.Native.Nat.{ℕ, ◌*◌, ◌<◌, ◌≤◌}
use native.Mathlib.Omega.{arith}
use lib.Dec.{eqb}
use lib.ListN.{length}
use borrow.Author.Tests.{eqb-true, eqb-false, lt-ltb, le-ltb, eq-eqb, ne_eqb}
use Rattle.std.proofs.Common.{Ok, Err}
use Rattle.model.specs.Net.{Net, State}
use Rattle.model.specs.Owed.{Lowest}
use Rattle.model.proofs.Tab.{below-or-past}
use Rattle.model.proofs.Tests.{eqb_tells, not-tells}
use Rattle.model.proofs.Lowest.{lowest-is, lowest-once}
use Rattle.balance.specs.declared.call.BalanceTold.{BalanceTold}
use Rattle.balance.specs.declared.weigh.Imbalance.TheVariants as imbalance
use Rattle.balance.specs.Weights.{weight_in, weight_out, BalancedAt, Balanced, LowestUnbalanced, first_unbalanced, total}
use Rattle.balance.specs.Told.{weight_at, balance_of, weighing, checked_weighing}
use Rattle.balance.specs.Promised.{says_balance}

-- WHICH TRANSITION IS NOT BALANCED

-- two numbers that cannot differ are equal
not-differ : (a b : ℕ) → ¬ (¬ (a ≡ b)) → a ≡ b
not-differ a b h = go (eqb a b) refl
  where
    go : (x : Bool) → eqb a b ≡ x → a ≡ b
    go true e = eqb-true a b e
    go false e = absurd (h (eqb-false a b e))

module _ (N : Net) (w : ℕ → ℕ) where
  NotBalanced : ℕ → Type 0
  NotBalanced t = ¬ BalancedAt N w t

  first-is : Lowest NotBalanced N.transitions N.transitions (first_unbalanced N w)
  unfolding first_unbalanced NotBalanced
  first-is = lowest-is (λ t. not-tells (eqb_tells (weight_in N w t) (weight_out N w t))) N.transitions N.transitions

  unbalanced-of : {t : ℕ} → Lowest NotBalanced N.transitions N.transitions t → t < N.transitions → LowestUnbalanced N w t
  unfolding NotBalanced
  unbalanced-of (Lowest.found l a none) h = record { known = l; unbalanced = a; lower_balanced = λ u k. not-differ _ _ (none u (omega arith)) }
  unbalanced-of (Lowest.empty none) h = absurd (omega arith)

  balanced-of : {t : ℕ} → Lowest NotBalanced N.transitions N.transitions t → N.transitions ≤ t → Balanced N w
  unfolding NotBalanced
  balanced-of (Lowest.found l a none) h = absurd (omega arith)
  balanced-of (Lowest.empty none) h = λ u k. not-differ _ _ (none u k)

  first-unbalanced : first_unbalanced N w < N.transitions → LowestUnbalanced N w (first_unbalanced N w)
  first-unbalanced = unbalanced-of first-is

  none-unbalanced : N.transitions ≤ first_unbalanced N w → Balanced N w
  none-unbalanced = balanced-of first-is

  unbalanced-first : (t : ℕ) → LowestUnbalanced N w t → t ≡ first_unbalanced N w
  unfolding NotBalanced
  unbalanced-first t h =
      let here : Lowest NotBalanced N.transitions N.transitions t =
      Lowest.found h.known h.unbalanced (λ u k no. no (h.lower_balanced u k)) in
      lowest-once here first-is

  unbalanced-once : (t u : ℕ) → LowestUnbalanced N w t → LowestUnbalanced N w u → t ≡ u
  unbalanced-once t u h k = unbalanced-first t h ∙ sym (unbalanced-first u k)

-- WHAT WEIGHING COMES TO

module _ (N : Net) (w : ℕ → ℕ) (S : State) where
  pub is-unbalanced : first_unbalanced N w < N.transitions → weighing N w S ≡ Err (imbalance.Unbalanced (first_unbalanced N w))
  unfolding weighing
  is-unbalanced l = rw (lt-ltb (first_unbalanced N w) N.transitions l)

  pub is-total : N.transitions ≤ first_unbalanced N w → weighing N w S ≡ Ok (total N w S)
  unfolding weighing
  is-total l = rw (le-ltb (first_unbalanced N w) N.transitions l)

module _ (N : Net) (weights : List ℕ) (S : State) where
  pub not-by : ¬ (length weights ≡ 2 * N.places) → checked_weighing N weights S ≡ Err imbalance.NoWeights
  unfolding checked_weighing
  not-by d = rw (ne_eqb (length weights) (2 * N.places) d)

  pub by_weights : length weights ≡ 2 * N.places → checked_weighing N weights S ≡ weighing N (weight_at weights) S
  unfolding checked_weighing
  by_weights e = rw (eq-eqb (length weights) (2 * N.places) e)

-- THE NUMBERS

-- one of three is told
pub data Comes (N : Net) (weights : List ℕ) (S : State) (r : BalanceTold) : Type 0 where
  no_weights : ¬ (length weights ≡ 2 * N.places) → r ≡ says_balance 31 0 0 → Comes N weights S r
  unbalanced : length weights ≡ 2 * N.places → (t : ℕ) → LowestUnbalanced N (weight_at weights) t → r ≡ says_balance 30 t 0 → Comes N weights S r
  balanced : length weights ≡ 2 * N.places → Balanced N (weight_at weights) → r ≡ says_balance 0 0 (total N (weight_at weights) S)
      → Comes N weights S r

pub comes : (N : Net) (weights : List ℕ) (S : State) → Comes N weights S (balance_of (checked_weighing N weights S))
comes N weights S = go (eqb (length weights) (2 * N.places)) refl
  where
    go : (x : Bool) → eqb (length weights) (2 * N.places) ≡ x → Comes N weights S (balance_of (checked_weighing N weights S))
    go false d =
        let off = eqb-false (length weights) (2 * N.places) d in
        Comes.no_weights off (ap balance_of (not-by N weights S off))
    go true d =
        let e = eqb-true (length weights) (2 * N.places) d in
        below-or-past (first_unbalanced N (weight_at weights)) N.transitions
        (λ l. Comes.unbalanced e (first_unbalanced N (weight_at weights)) (first-unbalanced N (weight_at weights) l)
        (ap balance_of (by_weights N weights S e ∙ is-unbalanced N (weight_at weights) S l)))
        (λ l. Comes.balanced e (none-unbalanced N (weight_at weights) l)
        (ap balance_of (by_weights N weights S e ∙ is-total N (weight_at weights) S l)))

abbrev number_of : BalanceTold → ℕ
number_of r = r.number

-- no answer has two numbers
clash : {A : Type 0} (r : BalanceTold) (x y : BalanceTold) → r ≡ x → r ≡ y → ¬ (x.number ≡ y.number) → A
clash r x y e g d = absurd (d (ap number_of (sym e ∙ g)))

module _ {N : Net} {weights : List ℕ} {S : State} {r : BalanceTold} where
  pub is-31 : Comes N weights S r → (r ≡ says_balance 31 0 0) ↔ ¬ (length weights ≡ 2 * N.places)
  is-31 (Comes.no_weights off e) = ((λ z. off), λ z. e)
  is-31 (Comes.unbalanced is t l e) = ((λ z. clash r _ _ e z (λ q. omega arith)), λ off. absurd (off is))
  is-31 (Comes.balanced is even e) = ((λ z. clash r _ _ e z (λ q. omega arith)), λ off. absurd (off is))

  pub is-30 : Comes N weights S r → (t : ℕ)
      → (r ≡ says_balance 30 t 0) ↔ ((length weights ≡ 2 * N.places) × LowestUnbalanced N (weight_at weights) t)
  is-30 (Comes.no_weights off e) t = ((λ z. clash r _ _ e z (λ q. omega arith)), λ (is, l). absurd (off is))
  is-30 (Comes.unbalanced is u l e) t = (
    (λ z. let same : u ≡ t = ap (λ (x : BalanceTold). x.index) (sym e ∙ z) in (is, rw same at l)),
    λ (_, k). e ∙ ap (λ (x : ℕ). says_balance 30 x 0) (unbalanced-once N (weight_at weights) u t l k),
  )
  is-30 (Comes.balanced is even e) t = ((λ z. clash r _ _ e z (λ q. omega arith)), λ (_, l). absurd (l.unbalanced (even t l.known)))

  pub is-0 : Comes N weights S r → (r.number ≡ 0) ↔ ((length weights ≡ 2 * N.places) × Balanced N (weight_at weights))
  is-0 (Comes.no_weights off e) = ((λ z. let n : r.number ≡ 31 = ap number_of e in absurd (omega arith)), λ (is, _). absurd (off is))
  is-0 (Comes.unbalanced is t l e) = (
    (λ z. let n : r.number ≡ 30 = ap number_of e in absurd (omega arith)),
    λ (_, even). absurd (l.unbalanced (even t l.known)),
  )
  is-0 (Comes.balanced is even e) = ((λ z. (is, even)), λ z. ap number_of e)

  pub is-total-told : Comes N weights S r → r.number ≡ 0 → r ≡ says_balance 0 0 (total N (weight_at weights) S)
  is-total-told (Comes.no_weights off e) z = let n : r.number ≡ 31 = ap number_of e in absurd (omega arith)
  is-total-told (Comes.unbalanced is t l e) z = let n : r.number ≡ 30 = ap number_of e in absurd (omega arith)
  is-total-told (Comes.balanced is even e) z = e
