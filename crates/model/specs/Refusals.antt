-- The table of numbers for one event, document 01's and those of requests W4 and W5: which refusal is given exactly when, where a start
-- has happened before in the step, or not. Each stands behind those before it.
-- Assumes nothing.
use Rattle.std.specs.Prelude.{◌≡◌, Bool, ℕ, suc, ◌-◌, ◌<◌, ◌≤◌}
use Rattle.model.specs.declared.age.Age.{Age}
use Rattle.model.specs.declared.event.Event.{Event}
use Rattle.model.specs.declared.event.Event.TheVariants as event
use Rattle.model.specs.declared.answer.Short.{Short}
use Rattle.model.specs.declared.answer.Barrier.TheVariants as barrier
use Rattle.model.specs.declared.answer.Refusal.{Refusal}
use Rattle.model.specs.declared.answer.Refusal.TheVariants as refusal
use Rattle.model.specs.Limits.{Held}
use Rattle.model.specs.Net.{Net, State, count}
use Rattle.model.specs.Moves.{Enabled, EnoughWith, Lacks, NoStartOwed, NoEndOwed, NothingRunning, Timely, HasRoom, Covers, NoneFresh, MayEnd, NoOldEndOwed}

-- 11 and 12, told of an event done and of one taken back
pub data Unfit (N : Net) : Event → Refusal → Type 0 where
  malformed : Unfit N event.Malformed refusal.Malformed
  no_such_start : {t : ℕ} → ¬ (t < N.transitions) → Unfit N (event.Start t) refusal.NoSuchTransition
  no_such_end : {t : ℕ} {age : Age} → ¬ (t < N.transitions) → Unfit N (event.End t age) refusal.NoSuchTransition

-- neither of them is told
abbrev pub Fit : Net → Event → Type 0
Fit N event.Tick = Unit {0}
Fit N (event.Start t) = t < N.transitions
Fit N (event.End t age) = t < N.transitions
Fit N event.Malformed = ⊥

-- the event is a start of one of the net's transitions, and this place, the lowest, is short for it
abbrev pub FallsShort : Net → State → Event → Short → Type 0
FallsShort N S e short = (t : ℕ) × (e ≡ event.Start t) × (t < N.transitions) × Lacks N S t short

-- so many more tokens in that place would do for the start, and one fewer would not
abbrev pub JustShort : Net → State → Event → Short → Type 0
JustShort N S e short = (t : ℕ) × (e ≡ event.Start t)
    × EnoughWith N S t short.place short.lacks × ¬ EnoughWith N S t short.place (short.lacks - 1)

-- 11 and 12; of a start 13, 29, 14; of an end 15, 28, 16, 17; of a tick 18, 19, 20. The event is refused in S, and why
pub data Refuses (N : Net) (started : Bool) (S : State) : Event → Refusal → Type 0 where
  unfit : {e : Event} {why : Refusal} → Unfit N e why → Refuses N started S e why
  not_enabled : {e : Event} {short : Short} → FallsShort N S e short → Refuses N started S e (refusal.NotEnabled short)
  old_end_owed : {t : ℕ} → t < N.transitions → Enabled N S t 1
      → ¬ NoOldEndOwed N S → Refuses N started S (event.Start t) refusal.OldEndOwed
  count_full : {t : ℕ} → t < N.transitions → Enabled N S t 1 → NoOldEndOwed N S
      → ¬ Held (suc (count S t 0)) → Refuses N started S (event.Start t) refusal.CountFull
  outside_interval : {t : ℕ} {age : Age} → t < N.transitions
      → ¬ Timely N t age.0 → Refuses N started S (event.End t age) refusal.OutsideInterval
  old_after_start : {t : ℕ} {age : Age} → t < N.transitions → Timely N t age.0
      → ¬ MayEnd started age.0 → Refuses N started S (event.End t age) refusal.OldAfterStart
  none_of_that_age : {t : ℕ} {age : Age} → t < N.transitions → Timely N t age.0 → MayEnd started age.0
      → ¬ (1 ≤ count S t age.0) → Refuses N started S (event.End t age) refusal.NoneOfThatAge
  place_full : {t : ℕ} {age : Age} → t < N.transitions → Timely N t age.0 → MayEnd started age.0 → 1 ≤ count S t age.0
      → ¬ HasRoom N S (N.gives t) → Refuses N started S (event.End t age) refusal.PlaceFull
  start_owed : ¬ NoStartOwed N S → Refuses N started S event.Tick refusal.StartOwed
  end_owed : NoStartOwed N S → ¬ NoEndOwed N S → Refuses N started S event.Tick refusal.EndOwed
  nothing_running : NoStartOwed N S → NoEndOwed N S → NothingRunning N S → Refuses N started S event.Tick refusal.NothingRunning

-- 11 and 12; of a tick 21, 18, 20; of a start 24, 25, 29; of an end 15, 28, 26, 27. The event cannot be taken back from S', and why;
-- `started` speaks of the state before it. A start changes no count of age 1 or more, so an end of that age is owed in S' where it was before
pub data Barred (N : Net) (started : Bool) (S' : State) : Event → Refusal → Type 0 where
  unfit : {e : Event} {why : Refusal} → Unfit N e why → Barred N started S' e why
  some_fresh : ¬ NoneFresh N S' → Barred N started S' event.Tick (refusal.OnlyBack barrier.SomeFresh)
  start_owed : NoneFresh N S' → ¬ NoStartOwed N S' → Barred N started S' event.Tick refusal.StartOwed
  nothing_running : NoneFresh N S' → NoStartOwed N S' → NothingRunning N S' → Barred N started S' event.Tick refusal.NothingRunning
  none_started : {t : ℕ} → t < N.transitions
      → ¬ (1 ≤ count S' t 0) → Barred N started S' (event.Start t) (refusal.OnlyBack barrier.NoneStarted)
  place_overfull : {t : ℕ} → t < N.transitions → 1 ≤ count S' t 0
      → ¬ HasRoom N S' (N.takes t) → Barred N started S' (event.Start t) (refusal.OnlyBack barrier.PlaceOverfull)
  old_end_owed : {t : ℕ} → t < N.transitions → 1 ≤ count S' t 0 → HasRoom N S' (N.takes t)
      → ¬ NoOldEndOwed N S' → Barred N started S' (event.Start t) refusal.OldEndOwed
  outside_interval : {t : ℕ} {age : Age} → t < N.transitions
      → ¬ Timely N t age.0 → Barred N started S' (event.End t age) refusal.OutsideInterval
  old_after_start : {t : ℕ} {age : Age} → t < N.transitions → Timely N t age.0
      → ¬ MayEnd started age.0 → Barred N started S' (event.End t age) refusal.OldAfterStart
  too_few_tokens : {t : ℕ} {age : Age} → t < N.transitions → Timely N t age.0 → MayEnd started age.0
      → ¬ Covers N S' (N.gives t) → Barred N started S' (event.End t age) (refusal.OnlyBack barrier.TooFewTokens)
  count_overfull : {t : ℕ} {age : Age} → t < N.transitions → Timely N t age.0 → MayEnd started age.0 → Covers N S' (N.gives t)
      → ¬ Held (suc (count S' t age.0)) → Barred N started S' (event.End t age) (refusal.OnlyBack barrier.CountOverfull)
