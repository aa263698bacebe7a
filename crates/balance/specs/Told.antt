-- What `balance` tells, for any bytes: number, index and total.
-- Assumes nothing.
use Rattle.std.specs.Prelude.{cond, List, ℕ, ◌*◌, eqb, ltb, length, Result, Ok, Err}
use Rattle.model.specs.Net.{Net, State}
use Rattle.forms.specs.declared.fault.Fault.{Fault}
use Rattle.forms.specs.Checked.{number_of_fault, index_of_fault}
use Rattle.forms.specs.Word.{word}
use Rattle.forms.specs.Stored.{net_of, stored}
use Rattle.engine.specs.Examined.{examine_state, if_fit}
use Rattle.balance.specs.declared.call.BalanceTold.{BalanceTold}
use Rattle.balance.specs.declared.weigh.Imbalance.{Imbalance}
use Rattle.balance.specs.declared.weigh.Imbalance.TheVariants as imbalance
use Rattle.balance.specs.Weights.{first_unbalanced, total}

-- the weight of place p: two bytes for each
abbrev pub weight_at : List ℕ → ℕ → ℕ
weight_at weights p = word weights (2 * p)

-- the total, or why there is none
abbrev pub Weighing : Type 0
Weighing = Result ℕ Imbalance

-- the lowest transition whose outputs weigh other than its inputs, and else the total
unfoldable pub weighing : Net → (ℕ → ℕ) → State → Weighing
weighing N weight S =
    cond (ltb (first_unbalanced N weight) N.transitions) (Err (imbalance.Unbalanced (first_unbalanced N weight))) (Ok (total N weight S))

-- but first: the weights are 2P bytes
unfoldable pub checked_weighing : Net → List ℕ → State → Weighing
checked_weighing N weights S = cond (eqb (length weights) (2 * N.places)) (weighing N (weight_at weights) S) (Err imbalance.NoWeights)

abbrev pub tells : ℕ → ℕ → ℕ → BalanceTold
tells number index amount = record { number = number; index = index; total = amount }

-- number, index and total of what weighing comes to
abbrev pub balance_of : Weighing → BalanceTold
balance_of (Ok amount) = tells 0 0 amount
balance_of (Err (imbalance.Unbalanced t)) = tells 30 t 0
balance_of (Err imbalance.NoWeights) = tells 31 0 0

abbrev pub no_balance : Fault → BalanceTold
no_balance why = tells (number_of_fault why) (index_of_fault why) 0

-- 1 to 6, 8, 9, 31, 30
unfoldable pub balance_told : List ℕ → List ℕ → List ℕ → BalanceTold
balance_told net state weights = if_fit (examine_state net state) (balance_of (checked_weighing (net_of net) weights (stored net state))) no_balance
