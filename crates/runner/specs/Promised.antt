-- What the runner's call promises of the very bytes that it was lent, of what it tells (r) and of what it leaves of the state's buffer b
-- (b') and of the log's (log'), in the form of the engine's promises: `PagePromise` is the last clause of its contract in src/call.rt.
-- Assumes nothing.
use Rattle.std.specs.Prelude.{◌≡◌, Bool, true, ◌↔◌, List, ◌++◌, ℕ, ◌+◌, ◌<◌, ◌≤◌, length, take, drop}
use Rattle.model.specs.Limits.{Logged}
use Rattle.model.specs.Moves.{NoOldEndOwed}
use Rattle.model.specs.Run.{ticks_in, started_after}
use Rattle.forms.specs.declared.fault.Fault.{Fault}
use Rattle.forms.specs.declared.fault.Fault.TheVariants as fault
use Rattle.forms.specs.Checked.{number_of_fault, index_of_fault}
use Rattle.forms.specs.Places.{event_at, log_length}
use Rattle.forms.specs.Stored.{net_of, stored, log_events}
use Rattle.forms.specs.Nets.{IsNet}
use Rattle.forms.specs.States.{IsState}
use Rattle.forms.specs.Logs.{IsLog}
use Rattle.engine.specs.Said.{no_place, says_run}
use Rattle.engine.specs.Calls.{run_told, run_left}
use Rattle.engine.specs.Demands.{Passes, LeavesState}
use Rattle.engine.specs.Faults.{StateUnfit}
use Rattle.engine.specs.Promised.{Promise, Fit}
use Rattle.runner.specs.declared.call.PageTold.{PageTold}
use Rattle.runner.specs.declared.stop.Stop.TheVariants as stop
use Rattle.runner.specs.Stop.{number_of_stop}
use Rattle.runner.specs.Page.{Page, IsPage}
use Rattle.runner.specs.Bound.{bound, NoneInstant, Soon}
use Rattle.runner.specs.Logged.{room_of}
use Rattle.runner.specs.Call.{examine_page, page_told, state_left, log_left}
use Rattle.runner.specs.Demands.{RoomForBoth}

-- 1 to 6 of the net, 8 and 9 of the state, and then 10: the log's buffer has no room for a head
pub data PageUnfit (net b log : List ℕ) : Fault → Type 0 where
  before : {why : Fault} → StateUnfit net b why → PageUnfit net b log why
  no_head : IsNet net → IsState (net_of net) b → length log < event_at 0 → PageUnfit net b log fault.LogFrame

-- what is told, field by field, as the statements write it; the contract's own records are those of Call
abbrev pub says_page : ℕ → ℕ → ℕ → ℕ → ℕ → PageTold
says_page number index stop events ticks = record { number = number; index = index; stop = stop; events = events; ticks = ticks }

-- so many events fit a log in a buffer of so many bytes
abbrev pub FitLog : ℕ → ℕ → Type 0
FitLog bytes events = (log_length events ≤ bytes) × Logged events

-- the log of so many events at a buffer's front
abbrev pub front : ℕ → List ℕ → List ℕ
front events log' = take (log_length events) log'

pub record PageBuilt (net b log : List ℕ) (budget : ℕ) (r : PageTold) (b' log' : List ℕ) : Type 0 where
  -- the room is for as many events as fit a log in the buffer
  pub room_is : (n : ℕ) → (n ≤ room_of (length log)) ↔ FitLog (length log) n
  -- there is one page to be written: each event is the one chosen in the state before it, and the stop is the first that holds
  pub page : Page
  pub only : (p : Page) → (p ≡ page) ↔ IsPage (net_of net) (stored net b) (room_of (length log)) budget p
  -- its stop, its events and its ticks are told, and its state is left
  pub told : r ≡ says_page 0 0 (number_of_stop page.stop) (length page.events) (ticks_in page.events)
  pub leaves : LeavesState net b b' page.state
  -- its events are a log at the front of the buffer, which passes the check of logs, and the bytes behind it are as they were
  pub is-log : IsLog (front r.events log')
  pub reads : log_events (front r.events log') ≡ page.events
  pub stays : drop (log_length r.events) log' ≡ drop (log_length r.events) log
  pub long : length log' ≡ length log
  -- Run by the engine from the state that was given, that log is accepted, tells the same events and ticks, and leaves the very same bytes: with
  -- no start made, and behind a start where that state owes no end of age 1 or more
  pub run_tells : (started : Bool) → (started ≡ true → NoOldEndOwed (net_of net) (stored net b))
      → run_told net b (front r.events log') started ≡ says_run 0 r.events r.events r.ticks no_place (started_after started page.events)
  pub run_leaves : (started : Bool) → (started ≡ true → NoOldEndOwed (net_of net) (stored net b)) → run_left net b (front r.events log') started ≡ b'
  -- if no lfd is 0, and budget and buffer suffice, a tick or a stop comes within one more event than the bound. (No buffer suffices for a
  -- bound of 24,000 or more; `PageDemands.soon` has it for any room)
  pub soon : NoneInstant (net_of net) → bound (net_of net) (stored net b) < room_of (length log) → bound (net_of net) (stored net b) < budget
      → Soon page (bound (net_of net) (stored net b))

abbrev pub PagePromise : List ℕ → List ℕ → List ℕ → ℕ → PageTold → List ℕ → List ℕ → Type 0
PagePromise net b log budget r b' log' =
    Promise (PageUnfit net b log) (Fit net b × (event_at 0 ≤ length log))
    (λ why. (r ≡ says_page (number_of_fault why) (index_of_fault why) 0 0 0) × (b' ≡ b) × (log' ≡ log))
    (PageBuilt net b log budget r b' log')

-- Two calls with budgets a and then c, the second on the state that the first left and with any log buffer, tell together what one call
-- tells that has both budgets, write its events, and leave its state
pub record InTwo (net b log₁ log₂ log : List ℕ) (a c : ℕ) : Type 0 where
  pub told : page_told net b log (a + c)
      ≡ says_page 0 0 (page_told net (state_left net b log₁ a) log₂ c).stop
      (a + (page_told net (state_left net b log₁ a) log₂ c).events)
      ((page_told net b log₁ a).ticks + (page_told net (state_left net b log₁ a) log₂ c).ticks)
  pub left : state_left net b log (a + c) ≡ state_left net (state_left net b log₁ a) log₂ c
  pub logged : log_events (front (page_told net b log (a + c)).events (log_left net b log (a + c)))
      ≡ log_events (front a (log_left net b log₁ a))
      ++ log_events (front (page_told net (state_left net b log₁ a) log₂ c).events (log_left net (state_left net b log₁ a) log₂ c))

-- they do where the first stopped by its budget, and the one call's buffer has room for both
abbrev pub BudgetsAdd : List ℕ → List ℕ → List ℕ → List ℕ → List ℕ → ℕ → ℕ → Type 0
BudgetsAdd net b log₁ log₂ log a c =
    Passes (examine_page net b log₁) → event_at 0 ≤ length log₂ → event_at 0 ≤ length log
    → (page_told net b log₁ a).stop ≡ number_of_stop stop.BudgetSpent
    → RoomForBoth a (room_of (length log₂)) (page_told net (state_left net b log₁ a) log₂ c).stop
    (page_told net (state_left net b log₁ a) log₂ c).events (room_of (length log))
    → InTwo net b log₁ log₂ log a c
