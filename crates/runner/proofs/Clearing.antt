-- What is known of a state before it is looked at: nothing at first, and behind each event what the event leaves.
-- Assumes nothing.
use mathlib.Core.Path.{◌≡◌, refl, sym, ap}
use mathlib.Core.Bool.{false}
use Prim.Native.Nat.{ℕ, ◌<◌, ◌≤◌}
use native.Mathlib.Omega.{arith}
use Rattle.std.proofs.Common.{Option, Some, None, MatchOption}
use Rattle.model.specs.declared.event.Event.{Event}
use Rattle.model.specs.Net.{Net, State, Lawful, count}
use Rattle.model.specs.Moves.{Enabled, Starts, Ends, Moves}
use Rattle.model.proofs.Tab.{below-or-past, at-or-below, one-off}
use Rattle.model.proofs.Shape.{lfd-fits}
use Rattle.moves.proofs.Calm.{still-calm, still-runs}
use Rattle.runner.specs.Choice.{LowestOf, Chooses}
use Rattle.runner.specs.Chosen.{LowestFrom, clear_of, IsClear, clear_after}

pub clear_first : (N : Net) (S : State) → IsClear N S (clear_of 0 (Some 0))
clear_first N S = record {
  ends_known = omega arith;
  no_end = λ t h. absurd (omega arith);
  no_start = (omega arith, λ t h. absurd (omega arith));
}

module _ {N : Net} {S S₁ : State} {t u : ℕ} (b : u < N.transitions) (off : ¬ (t ≡ u)) where
  -- the ends that another transition owes are as they were
  end_same : {j : ℕ} → Ends N false S t j S₁ → count S₁ u (N.lfd u) ≡ count S u (N.lfd u)
  end_same {j} m = omega (arith, m.counted u (N.lfd u) b (lfd-fits N u b), one-off t j u (N.lfd u) (λ e _. off e))

  start-same : Starts N S t S₁ → count S₁ u (N.lfd u) ≡ count S u (N.lfd u)
  start-same m = omega (arith, m.counted u (N.lfd u) b (lfd-fits N u b), one-off t 0 u (N.lfd u) (λ e _. off e))

-- a start takes tokens and gives none
start-shrinks : {N : Net} {S S₁ : State} {t : ℕ} (u : ℕ) → Starts N S t S₁ → Enabled N S₁ u 1 → Enabled N S u 1
start-shrinks u m en p l = omega (arith, en p l, m.marked p l)

module _ (N : Net) (S : State) (lawful : Lawful N S) (S₁ : State) where
  pub clear_next : {e : Event} → Chooses N S e → Moves N false S e S₁ → IsClear N S₁ (clear_after e)
  clear_next (Chooses.end {t} (o, lower)) m = record {
    ends_known = omega (arith, o.0);
    no_end = λ u h (b, due). lower u h (b, omega (arith, end_same {t = t} b (λ e. omega arith) m));
    no_start = (omega arith, λ u h. absurd (omega arith));
  }
  clear_next (Chooses.start {t} none (o, lower)) m = record {
    ends_known = omega (arith, o.0);
    no_end = λ u h (b, due). omega (arith, none u b, start-same {t = t} b (λ e. omega arith) m);
    no_start = (omega (arith, o.0), λ u h (b, en). lower u h (b, start-shrinks u m en));
  }
  clear_next (Chooses.tick none none' runs) m = record {
    ends_known = omega arith;
    no_end = λ u h. absurd (omega arith);
    no_start = ((λ u (b, en). still-calm N S S₁ lawful m u b en), still-runs N S S₁ lawful m);
  }

-- A LOOK FROM THERE ON

-- what `find` over a range gives, where the test tells of each number below n whether A holds of it
pub lowest_from : {A Yes No : ℕ → Type 0} {n m : ℕ} (from : ℕ) (r : Option ℕ) → m ≡ n → ((t : ℕ) → t < n → Yes t → A t) → ((t : ℕ) → No t → ¬ A t)
    → MatchOption r ((k : ℕ) → from ≤ k → k < m → No k) (λ t. (from ≤ t) × (t < m) × Yes t × ((k : ℕ) → from ≤ k → k < t → No k))
    → LowestFrom A from n r
lowest_from from None e holds fails none = LowestFrom.empty (λ k l h. fails k (none k l (omega arith)))
lowest_from {n = n} from (Some t) e holds fails (l, h, y, lower) = let b : t < n = omega arith in LowestFrom.found l b (holds t b y) (λ k m g. fails k (lower k m g))

module _ {A : ℕ → Type 0} {from : ℕ} (below : (t : ℕ) → t < from → ¬ A t) where
  -- one is found, and it is the lowest of all
  pub found-lowest : {n t : ℕ} → LowestFrom A from n (Some t) → LowestOf A t
  found-lowest (LowestFrom.found l h a lower) = (a, λ u k x. below-or-past u from (λ q. below u q x) (λ q. lower u q k x))

  -- none is
  pub none_found : {n : ℕ} → LowestFrom A from n None → (t : ℕ) → t < n → ¬ A t
  none_found (LowestFrom.empty none) t l x = below-or-past t from (λ q. below t q x) (λ q. none t q l x)

pub known-from : {A : ℕ → Type 0} {from n t : ℕ} → LowestFrom A from n (Some t) → t < n
known-from (LowestFrom.found l h a lower) = h

-- and there is one answer
pub from-once : {A : ℕ → Type 0} {from n : ℕ} {r r' : Option ℕ} → LowestFrom A from n r → LowestFrom A from n r' → r ≡ r'
from-once (LowestFrom.found {t} l h a lower) (LowestFrom.found {t = u} l' h' a' lower') =
    ap Some (below-or-past t u (λ k. absurd (lower' t l k a)) (λ k. at-or-below u t k sym (λ g. absurd (lower u l' g a'))))
from-once (LowestFrom.found {t} l h a lower) (LowestFrom.empty none) = absurd (none t l h a)
from-once (LowestFrom.empty none) (LowestFrom.found {t} l h a lower) = absurd (none t l h a)
from-once (LowestFrom.empty none) (LowestFrom.empty none') = refl
