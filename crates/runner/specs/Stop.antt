-- The runner's stops, and their numbers in the order of telling.
-- Assumes nothing.
use Rattle.std.specs.Prelude.{ℕ}
use Rattle.model.specs.declared.event.Event.{Event}
use Rattle.model.specs.declared.event.Event.TheVariants as event
use Rattle.runner.specs.declared.stop.Stop.{Stop}
use Rattle.runner.specs.declared.stop.Stop.TheVariants as stop

abbrev pub number_of_stop : Stop → ℕ
number_of_stop stop.AtRest = 1
number_of_stop stop.BudgetSpent = 2
number_of_stop stop.LogFull = 3
number_of_stop stop.CountFull = 4
number_of_stop stop.PlaceFull = 5

-- the stop where the chosen event is refused: a start meets 14 alone, an end 17 alone. Nothing else is ever refused, so any stop would do
abbrev pub stop_for : Event → Stop
stop_for event.Tick = stop.CountFull
stop_for (event.Start t) = stop.CountFull
stop_for (event.End t age) = stop.PlaceFull
stop_for event.Malformed = stop.PlaceFull
