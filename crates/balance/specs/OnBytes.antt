-- That nothing leaks: of every net of the model, and of any bytes.
-- Assumes nothing.
use Rattle.std.specs.Prelude.{List, ℕ}
use Rattle.model.specs.Net.{Net, State, Lawful}
use Rattle.forms.specs.Word.{Bytes}
use Rattle.balance.specs.Weights.{Balanced}
use Rattle.balance.specs.Demands.{Accounted, TotalKept, ChangesUnlessBalanced, Small, NoOverflow}
use Rattle.balance.specs.Told.{balance_told}
use Rattle.balance.specs.Promised.{ToldAlike, BalancePromise}

pub record OnBytes : Type 0 where
  pub accounted : (N : Net) (weight : ℕ → ℕ) → Accounted N weight
  pub total_kept : (N : Net) (weight : ℕ → ℕ) → Balanced N weight → TotalKept N weight
  pub changes : (N : Net) (weight : ℕ → ℕ) → ChangesUnlessBalanced N weight
  pub no_overflow : (N : Net) (weight : ℕ → ℕ) → Small N weight → (S : State) → Lawful N S → NoOverflow N weight S
  pub promised : (net b weights : List ℕ) → Bytes net → Bytes b → Bytes weights → BalancePromise net b weights (balance_told net b weights)
  -- also where net, state or weights are at fault
  pub alike : (net b weights : List ℕ) → Bytes net → Bytes b → ToldAlike net b weights (balance_told net b weights)
