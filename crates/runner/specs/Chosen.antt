-- The choice as the code tells it, and what it knows of a state before it looks.
-- Assumes nothing.
use Rattle.std.specs.Prelude.{Option, Some, None, ◌≡◌, Bool, true, false, ℕ, ◌<◌, ◌≤◌}
use Rattle.model.specs.declared.event.Event.{Event}
use Rattle.model.specs.declared.event.Event.TheVariants as event
use Rattle.model.specs.Net.{Net, State}
use Rattle.model.specs.Rules.{has_no_start_owed, has_no_end_owed, has_nothing_running}
use Rattle.model.specs.Moves.{NothingRunning}
use Rattle.model.specs.Owed.{OwesStart, OwesEnd}
use Rattle.runner.specs.declared.clear.Clear.{Clear}

abbrev pub is_tick : Event → Bool
is_tick event.Tick = true
is_tick (event.Start t) = false
is_tick (event.End t age) = false
is_tick event.Malformed = false

abbrev pub is_start : Event → Bool
is_start event.Tick = false
is_start (event.Start t) = true
is_start (event.End t age) = false
is_start event.Malformed = false

-- the tests of a tick pass
abbrev pub FreeToTick : Net → State → Type 0
FreeToTick N S = (has_no_start_owed N S ≡ true) × (has_no_end_owed N S ≡ true) × (has_nothing_running N S ≡ false)

-- r is the lowest number from `from` on, and below n, of which A holds, if there is one
pub data LowestFrom (A : ℕ → Type 0) (from n : ℕ) : Option ℕ → Type 0 where
  found : {t : ℕ} → from ≤ t → t < n → A t → ((k : ℕ) → from ≤ k → k < t → ¬ A k) → LowestFrom A from n (Some t)
  empty : ((k : ℕ) → from ≤ k → k < n → ¬ A k) → LowestFrom A from n None

abbrev pub clear_of : ℕ → Option ℕ → Clear
clear_of ends starts = record { ends = ends; starts = starts }

-- of the starts: none is owed below a number; or none at all, and something is running
abbrev pub NoStart : Net → State → Option ℕ → Type 0
NoStart N S (Some from) = (from ≤ N.transitions) × ((t : ℕ) → t < from → ¬ OwesStart N S t)
NoStart N S None = ((t : ℕ) → ¬ OwesStart N S t) × ¬ NothingRunning N S

-- no transition below `ends` owes an end, and of the starts `starts` says which are not owed
pub record IsClear (N : Net) (S : State) (c : Clear) : Type 0 where
  pub ends_known : c.ends ≤ N.transitions
  pub no_end : (t : ℕ) → t < c.ends → ¬ OwesEnd N S t
  pub no_start : NoStart N S c.starts

-- behind the chosen event
abbrev pub clear_after : Event → Clear
clear_after event.Tick = clear_of 0 None
clear_after (event.Start t) = clear_of t (Some t)
clear_after (event.End t age) = clear_of t (Some 0)
clear_after event.Malformed = clear_of 0 (Some 0)
