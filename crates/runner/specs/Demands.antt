-- What is demanded of the runner, of a net of the model.
-- Assumes nothing.
use Rattle.std.specs.Prelude.{◌≡◌, true, false, ◌↔◌, ℕ, ◌+◌, ◌<◌, ◌≤◌, length}
use Rattle.model.specs.Answer.{number_of_standing}
use Rattle.model.specs.Net.{Net, State}
use Rattle.model.specs.Moves.{NoOldEndOwed}
use Rattle.model.specs.Run.{run, accepted_run}
use Rattle.model.specs.Owed.{standing_of}
use Rattle.runner.specs.declared.stop.Stop.TheVariants as stop
use Rattle.runner.specs.Stop.{number_of_stop}
use Rattle.runner.specs.Choice.{Choice, Picks, choice}
use Rattle.runner.specs.Page.{Page, IsPage, joined, page}
use Rattle.runner.specs.Bound.{bound, NoneInstant, Soon}

-- A page of `a` events, and then one that had `more` room, did so many events and told this stop, are to be one page with this room. It
-- is what the first took and the second had; or what both took, and one event more where the second met 14 or 17, which are told behind a
-- full log
pub data RoomForBoth (a more told events room : ℕ) : Type 0 where
  same : room ≡ a + more → RoomForBoth a more told events room
  enough : told ≤ number_of_stop stop.BudgetSpent → a + events ≤ room → RoomForBoth a more told events room
  ample : number_of_stop stop.CountFull ≤ told → a + events < room → RoomForBoth a more told events room

abbrev pub RoomFor : ℕ → Page → ℕ → ℕ → Type 0
RoomFor a q more room = RoomForBoth a more (number_of_stop q.stop) (length q.events) room

pub record PageDemands (N : Net) : Type 0 where
  -- the choice that is computed is the only one that the rule permits
  pub choice_is : (S : State) (c : Choice) → (choice N S ≡ c) ↔ Picks N S c
  -- each event is the one chosen, and the stop told is the first that holds; nothing else could be written or told
  pub page_is : (S : State) (room budget : ℕ) (p : Page) → (p ≡ page N S room budget) ↔ IsPage N S room budget p
  -- A run of its events that begins with no start made is accepted, tells them and their ticks, and reaches the runner's own state: an owed end
  -- is chosen before every start, so a start finds none that is owed, and until the next tick only firings of age 0 come to be owed (request W5)
  pub accepted : (S : State) (room budget : ℕ)
      → run N false S (page N S room budget).events ≡ accepted_run false (page N S room budget).events (page N S room budget).state
  -- and so is one behind a start, where no end of age 1 or more is owed: as it is where a run of the page before told that a start has happened
  -- (`none_owed_behind` of the model's StepOrder)
  pub accepted_behind : (S : State) (room budget : ℕ) → NoOldEndOwed N S
      → run N true S (page N S room budget).events ≡ accepted_run true (page N S room budget).events (page N S room budget).state
  -- where it stopped at rest, the standing is 4
  pub at_rest : (S : State) (room budget : ℕ) → (page N S room budget).stop ≡ stop.AtRest
      → number_of_standing (standing_of N (page N S room budget).state) ≡ 4
  -- from where the first stopped by its budget, two pages are together the one with both budgets
  pub budgets_add : (S : State) (first more room a b : ℕ) → (page N S first a).stop ≡ stop.BudgetSpent
      → RoomFor a (page N (page N S first a).state more b) more room
      → page N S room (a + b) ≡ joined (page N S first a).events (page N (page N S first a).state more b)
  -- the bound: if no lfd is 0, and budget and room suffice, a tick or a stop comes within one more event than it
  pub soon : NoneInstant N → (S : State) (room budget : ℕ) → bound N S < room → bound N S < budget
      → Soon (page N S room budget) (bound N S)
