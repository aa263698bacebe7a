-- What the call promises of the very bytes that it was lent and of what it tells (r), in the form of the engine's promises: `BalancePromise` is the
-- last clause of its contract in src/call.rt. It speaks, too, of what the calls that move a state leave of this one.
-- Assumes nothing.
use Rattle.std.specs.Prelude.{◌≡◌, Bool, ◌↔◌, List, ℕ, ◌*◌, ◌/◌, ◌<◌, ◌≤◌, length}
use Rattle.model.specs.Net.{tokens}
use Rattle.forms.specs.Checked.{number_of_fault, index_of_fault}
use Rattle.forms.specs.Word.{Bytes}
use Rattle.forms.specs.Stored.{net_of, stored}
use Rattle.engine.specs.Calls.{event_left, back_left, run_left, walk_left}
use Rattle.engine.specs.Promised.{OfState}
use Rattle.runner.specs.Call.{state_left}
use Rattle.balance.specs.declared.call.BalanceTold.{BalanceTold}
use Rattle.balance.specs.Weights.{Balanced, LowestUnbalanced, total}
use Rattle.balance.specs.Demands.{NoOverflow}
use Rattle.balance.specs.Told.{weight_at, balance_told}

-- what is told, field by field, as the statements write it; the contract's own records are those of Told
abbrev pub says_balance : ℕ → ℕ → ℕ → BalanceTold
says_balance number index amount = record { number = number; index = index; total = amount }

-- two bytes for each place
abbrev pub WeightsFor : List ℕ → List ℕ → Type 0
WeightsFor net weights = length weights ≡ 2 * (net_of net).places

-- b' is left of b by events, steps back, runs, walks and pages, each with any bytes, in whatever order, accepted or refused. (Not by `initial`,
-- which begins anew)
pub data Used (net : List ℕ) : List ℕ → List ℕ → Type 0 where
  unused : {b : List ℕ} → Used net b b
  event : {b b' : List ℕ} (first second : ℕ) (started : Bool) → Used net (event_left net b first second started) b' → Used net b b'
  back : {b b' : List ℕ} (first second : ℕ) (started : Bool) → Used net (back_left net b first second started) b' → Used net b b'
  run : {b b' : List ℕ} (log : List ℕ) (started : Bool) → Used net (run_left net b log started) b' → Used net b b'
  walk : {b b' : List ℕ} (log : List ℕ) (n : ℕ) (started : Bool) → Used net (walk_left net b log n started) b' → Used net b b'
  page : {b b' : List ℕ} (log : List ℕ) (budget : ℕ) → Used net (state_left net b log budget) b' → Used net b b'

-- r is told of all that they leave of b, too
abbrev pub ToldAlike : List ℕ → List ℕ → List ℕ → BalanceTold → Type 0
ToldAlike net b weights r = (b' : List ℕ) → Used net b b' → balance_told net b' weights ≡ r

-- what is told of a net and a state that are in form: 31, then 30, and else the total
pub record BalanceGiven (net b weights : List ℕ) (r : BalanceTold) : Type 0 where
  pub weights_bytes : Bytes weights
  pub no_weights : (r ≡ says_balance 31 0 0) ↔ ¬ WeightsFor net weights
  pub unbalanced : (t : ℕ) → (r ≡ says_balance 30 t 0) ↔ (WeightsFor net weights × LowestUnbalanced (net_of net) (weight_at weights) t)
  pub balanced : (r.number ≡ 0) ↔ (WeightsFor net weights × Balanced (net_of net) (weight_at weights))
  pub total_is : r.number ≡ 0 → r ≡ says_balance 0 0 (total (net_of net) (weight_at weights) (stored net b))
  pub no_overflow : NoOverflow (net_of net) (weight_at weights) (stored net b)
  pub alike : ToldAlike net b weights r
  -- so where the net balances, what those calls leave has this total, and no place of weight above 0 holds more than the total over its weight
  pub total_kept : r.number ≡ 0 → (b' : List ℕ) → Used net b b' → total (net_of net) (weight_at weights) (stored net b') ≡ r.total
  pub no_place_over : r.number ≡ 0 → (b' : List ℕ) → Used net b b' → (p : ℕ) → p < (net_of net).places → 0 < weight_at weights p
      → tokens (stored net b') p ≤ r.total / weight_at weights p

abbrev pub BalancePromise : List ℕ → List ℕ → List ℕ → BalanceTold → Type 0
BalancePromise net b weights r = OfState net b (λ why. r ≡ says_balance (number_of_fault why) (index_of_fault why) 0) (BalanceGiven net b weights r)
