-- The demands on the runner: of every proper net of the model, and of any bytes.
-- Assumes nothing.
use Rattle.std.specs.Prelude.{List, ℕ, ◌≤◌}
use Rattle.model.specs.Net.{Net, State, Proper}
use Rattle.forms.specs.Word.{Bytes}
use Rattle.runner.specs.Call.{page_told, state_left, log_left}
use Rattle.runner.specs.Words.{ByWords}
use Rattle.runner.specs.Demands.{PageDemands}
use Rattle.runner.specs.Promised.{PagePromise, BudgetsAdd}

pub record OnBytes : Type 0 where
  -- every net that document 01 accepts is proper
  pub model : (N : Net) → Proper N → PageDemands N
  -- the owed words serve the choice, where a word has a bit for every transition
  pub by_words : (N : Net) → N.transitions ≤ 64 → (S : State) → ByWords N S
  pub promised : (net b log : List ℕ) (budget : ℕ) → Bytes net → Bytes b
      → PagePromise net b log budget (page_told net b log budget) (state_left net b log budget) (log_left net b log budget)
  pub budgets_add : (net b log₁ log₂ log : List ℕ) (a c : ℕ) → Bytes net → Bytes b → BudgetsAdd net b log₁ log₂ log a c
