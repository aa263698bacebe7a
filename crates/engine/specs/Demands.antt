-- Demands 2 and 3 on bytes: what the calls tell and leave of a net, a state and a log that got past the checks, in the words of the
-- model's relations; and that a call refused before its first event tells the fault and writes nothing. In the record of one call r is
-- what it tells, and b' what it leaves of the buffer b: the contracts in src/calls.rt promise it of the very answer and buffer. `started` is the
-- fact that the caller gives (request W5): a start has happened before the event, or before the log's first, in its step.
-- Assumes nothing.
use Rattle.std.specs.Prelude.{◌≡◌, Bool, false, ◌↔◌, List, ◌++◌, ℕ, suc, ◌+◌, ◌-◌, ◌<◌, ◌≤◌, length, take, Ok, Err}
use Rattle.model.specs.declared.net.Net.{Net as Shape}
use Rattle.model.specs.declared.answer.Short.{Short}
use Rattle.model.specs.declared.answer.Refusal.{Refusal}
use Rattle.model.specs.declared.answer.Standing.{Standing}
use Rattle.model.specs.Answer.{number_of_refusal, short_of_refusal, number_of_standing}
use Rattle.model.specs.Event.{event_of}
use Rattle.model.specs.Tab.{Tells}
use Rattle.model.specs.Net.{State, Lawful}
use Rattle.model.specs.Moves.{Degree, Moves}
use Rattle.model.specs.Refusals.{Unfit as UnfitEvent, Refuses, FallsShort, JustShort, Barred}
use Rattle.model.specs.Run.{RunTold as RunAccount, WalkTold as WalkAccount, Leads, LeadsLast, Ran, Walked, event_at, event_before_last, last_of, ticks_in}
use Rattle.model.specs.Run.{started_after, started_before, started_before_last}
use Rattle.model.specs.Owed.{OwesStart, OwesEnd, HowMany, word_bits, Lowest, Stands}
use Rattle.model.specs.Demands.{SomeLeads, NoStateBefore}
use Rattle.forms.specs.declared.fault.Fault.{Fault}
use Rattle.forms.specs.Checked.{number_of_fault, index_of_fault}
use Rattle.forms.specs.Word.{Bytes, byte}
use Rattle.forms.specs.Places.{image_length}
use Rattle.forms.specs.Stored.{net_of, stored, log_events}
use Rattle.forms.specs.Written.{written}
use Rattle.forms.specs.Logs.{check_log}
use Rattle.forms.specs.Frame.{Began}
use Rattle.owed.specs.Bits.{bit_at}
use Rattle.runs.specs.declared.told.RunTold.{RunTold}
use Rattle.runs.specs.declared.told.WalkTold.{WalkTold}
use Rattle.engine.specs.declared.answers.Verdict.{Verdict}
use Rattle.engine.specs.declared.answers.EventTold.{EventTold}
use Rattle.engine.specs.declared.answers.DegreeTold.{DegreeTold}
use Rattle.engine.specs.declared.answers.OwedTold.{OwedTold}
use Rattle.engine.specs.Examined.{Examined, examine_net, examine_state, examine_log}
use Rattle.engine.specs.Said.{says, no_place, says_event, says_run, says_walk, says_degree, set_says, says_owed, says_step}
use Rattle.engine.specs.Calls.{net_told, state_told, initial_told, initial_left, event_told, event_left, back_told, back_left}
use Rattle.engine.specs.Calls.{degree_told, owed_told, run_told, run_left, walk_told, walk_left, step_told}

-- what a call was given got past its checks
abbrev pub Passes : Examined → Type 0
Passes e = (shape : Shape) × (e ≡ Ok shape)

-- what is told of a run and of a walk, and a state, as the model's account of it
abbrev pub account_of_run : RunTold → State → RunAccount
account_of_run r S =
    record { number = r.number; index = r.index; done = r.done; ticks = r.ticks; short = r.short; started = r.started; state = S }

abbrev pub account_of_walk : WalkTold → State → WalkAccount
account_of_walk r S = record { number = r.number; index = r.index; done = r.done; ticks = r.ticks; state = S }

-- of the buffer b the call leaves b', which holds S at its front. It is b with S written over the state: S is read from it, it passes
-- the check of states as b does, and the head and all bytes behind the state are b's
pub record LeavesState (net b b' : List ℕ) (S : State) : Type 0 where
  pub whole : b' ≡ written (net_of net) S b
  pub reads : stored net b' ≡ S
  pub passes : examine_state net b' ≡ examine_state net b
  pub bytes : Bytes b'
  pub long : length b' ≡ length b
  pub head_stays : (i : ℕ) → i < 8 → byte b' i ≡ byte b i
  pub rest_stays : (i : ℕ) → image_length (net_of net) ≤ i → byte b' i ≡ byte b i

-- DEMAND 2

-- an event, given by its two bytes, done in the state that stands in b
pub record EventDone (net b : List ℕ) (first second : ℕ) (started : Bool) (r : EventTold) (b' : List ℕ) : Type 0 where
  -- it is accepted exactly when the rules permit it
  pub permitted : (r.number ≡ 0) ↔ ((S' : State) × Moves (net_of net) started (stored net b) (event_of first second) S')
  -- and the state that the rules give is left
  pub done : (S' : State) → Moves (net_of net) started (stored net b) (event_of first second) S'
      → (r ≡ says_event 0 0 no_place) × LeavesState net b b' S'
  -- each refusal is told exactly when document 01 and request W5 say, with the place that request W1 asks for
  pub refused : (why : Refusal)
      → (r ≡ says_event (number_of_refusal why) 0 (short_of_refusal why)) ↔ Refuses (net_of net) started (stored net b) (event_of first second) why
  -- so 13 tells a place and a shortage exactly where a start finds that place, the lowest, short of so many tokens
  pub short : (s : Short) → (r ≡ says_event 13 0 s) ↔ FallsShort (net_of net) (stored net b) (event_of first second) s
  -- so many more would do there, and one fewer would not
  pub just : r.number ≡ 13 → JustShort (net_of net) (stored net b) (event_of first second) r.short
  -- and any other number tells of no place
  pub plain : ¬ (r.number ≡ 13) → r.short ≡ no_place
  -- and a refused event changes no byte
  pub kept : ¬ (r.number ≡ 0) → b' ≡ b

-- a log, run from the state that stands in b
pub record LogRun (net b log : List ℕ) (started : Bool) (r : RunTold) (b' : List ℕ) : Type 0 where
  -- it is accepted exactly when each event in turn is permitted
  pub permitted : (r.number ≡ 0) ↔ ((S' : State) × Leads (net_of net) started (stored net b) (log_events log) S')
  -- and then all its events and ticks are told, and the state that they lead to is left
  pub done : (S' : State) → Leads (net_of net) started (stored net b) (log_events log) S'
      → (r ≡ says_run 0 (length (log_events log)) (length (log_events log)) (ticks_in (log_events log)) no_place (started_after started (log_events log)))
      × LeavesState net b b' S'
  -- what is told of any log, accepted or refused, is exact, and the state just before the refused event is left
  pub told : (S' : State) × Ran (net_of net) started (stored net b) (log_events log) (account_of_run r S') × LeavesState net b b' S'
  -- so it tells 13 after k events, with a place and a shortage, exactly where those are permitted and the next falls short there
  pub short : (k : ℕ) (s : Short) → (r ≡ says_run 13 k k (ticks_in (take k (log_events log))) s (started_before started (log_events log) k))
      ↔ ((S' : State) × (k < length (log_events log)) × Leads (net_of net) started (stored net b) (take k (log_events log)) S'
      × FallsShort (net_of net) S' (event_at (log_events log) k) s)
  -- in the state that is left so many more would do there, and one fewer would not
  pub just : r.number ≡ 13 → JustShort (net_of net) (stored net b') (event_at (log_events log) r.index) r.short
  -- and any other number tells of no place
  pub plain : ¬ (r.number ≡ 13) → r.short ≡ no_place

-- what a second portion of a log tells and leaves, which is run from where the first left the state, and with the fact that it told
abbrev pub next_told : (net b one other : List ℕ) → Bool → RunTold
next_told net b one other started = run_told net (run_left net b one started) other (run_told net b one started).started

abbrev pub next_left : (net b one other : List ℕ) → Bool → List ℕ
next_left net b one other started = run_left net (run_left net b one started) other (run_told net b one started).started

-- fed in two portions, the first accepted, a log tells and leaves what it does when it is fed whole
pub record InPortions (net b one other whole : List ℕ) (started : Bool) : Type 0 where
  pub number : (next_told net b one other started).number ≡ (run_told net b whole started).number
  pub index : (run_told net b one started).index + (next_told net b one other started).index ≡ (run_told net b whole started).index
  pub done : (run_told net b one started).done + (next_told net b one other started).done ≡ (run_told net b whole started).done
  pub ticks : (run_told net b one started).ticks + (next_told net b one other started).ticks ≡ (run_told net b whole started).ticks
  pub short : (next_told net b one other started).short ≡ (run_told net b whole started).short
  pub fact : (next_told net b one other started).started ≡ (run_told net b whole started).started
  pub left : next_left net b one other started ≡ run_left net b whole started

-- the degree of a transition, Definition 4; 12 where the net has no such transition
pub record DegreeGiven (net b : List ℕ) (t : ℕ) (r : DegreeTold) : Type 0 where
  pub known : t < (net_of net).transitions → (n : ℕ) → (r ≡ says_degree 0 0 n) ↔ Degree (net_of net) (stored net b) t n
  pub unknown : ¬ (t < (net_of net).transitions) → r ≡ says_degree 12 0 0

-- the owed report: the bits of each word, how many are set, the lowest; and the standing
pub record OwedGiven (net b : List ℕ) (r : OwedTold) : Type 0 where
  pub number_is : r.number ≡ 0
  pub index_is : r.index ≡ 0
  pub starts_are : (t : ℕ) → Tells (bit_at r.starts.word t) (OwesStart (net_of net) (stored net b) t)
  pub ends_are : (t : ℕ) → Tells (bit_at r.ends.word t) (OwesEnd (net_of net) (stored net b) t)
  pub start_count_is : HowMany (OwesStart (net_of net) (stored net b)) (net_of net).transitions r.starts.count
  pub end_count_is : HowMany (OwesEnd (net_of net) (stored net b)) (net_of net).transitions r.ends.count
  pub lowest_start_is : Lowest (OwesStart (net_of net) (stored net b)) (net_of net).transitions word_bits r.starts.lowest
  pub lowest_end_is : Lowest (OwesEnd (net_of net) (stored net b)) (net_of net).transitions word_bits r.ends.lowest
  pub standing_is : (s : Standing) × Stands (net_of net) (stored net b) s × (r.standing ≡ number_of_standing s)

pub record Demand2 (net b : List ℕ) : Type 0 where
  pub degrees : (t : ℕ) → DegreeGiven net b t (degree_told net b t)
  pub owed : OwedGiven net b (owed_told net b)
  pub event_by_event : (first second : ℕ) (started : Bool)
      → EventDone net b first second started (event_told net b first second started) (event_left net b first second started)
  pub log_by_log : (log : List ℕ) → Passes (examine_log net b log) → (started : Bool)
      → LogRun net b log started (run_told net b log started) (run_left net b log started)
  pub in_portions : (one other whole : List ℕ) (started : Bool)
      → Passes (examine_log net b one) → Passes (examine_log net b other) → Passes (examine_log net b whole)
      → log_events whole ≡ log_events one ++ log_events other → (run_told net b one started).number ≡ 0 → InPortions net b one other whole started

-- DEMAND 3

-- an event taken back from the state that stands in b
pub record EventBack (net b : List ℕ) (first second : ℕ) (started : Bool) (r : Verdict) (b' : List ℕ) : Type 0 where
  -- that succeeds exactly if some lawful state leads here by that event
  pub permitted : (r.number ≡ 0) ↔ SomeLeads (net_of net) started (stored net b) (event_of first second)
  -- and that state is left, so there is never a second one
  pub done : (S : State) → Lawful (net_of net) S → Moves (net_of net) started S (event_of first second) (stored net b)
      → (r ≡ says 0 0) × LeavesState net b b' S
  -- each refusal is told exactly when requests W4 and W5 say
  pub refused : (why : Refusal) → (r ≡ says (number_of_refusal why) 0) ↔ Barred (net_of net) started (stored net b) (event_of first second) why
  -- and behind 11 and 12 one is told exactly if no lawful state leads here
  pub no_state_before : ((why : Refusal) × (r ≡ says (number_of_refusal why) 0) × ¬ UnfitEvent (net_of net) (event_of first second) why)
      ↔ NoStateBefore (net_of net) started (stored net b) (event_of first second)
  -- and where it is refused no byte changes
  pub kept : ¬ (r.number ≡ 0) → b' ≡ b
  -- an accepted event taken back gives every byte back, and one taken back and done again too
  pub undone : (event_told net b first second started).number ≡ 0
      → ((back_told net (event_left net b first second started) first second started).number ≡ 0)
      × (back_left net (event_left net b first second started) first second started ≡ b)
  pub redone : r.number ≡ 0 → ((event_told net b' first second started).number ≡ 0) × (event_left net b' first second started ≡ b)

-- a refusal stops a walk of the log behind k events, in S: so r tells, and b' is what it leaves of b
abbrev pub StopsBehind : (net b log : List ℕ) (k : ℕ) → Refusal → State → WalkTold → List ℕ → Type 0
StopsBehind net b log k why S r b' =
    (r ≡ says_walk (number_of_refusal why) (length (log_events log) - suc k) k (ticks_in (last_of k (log_events log)))) × LeavesState net b b' S

-- the last n events of a log taken back from the state that stands in b
pub record LogBack (net b log : List ℕ) (n : ℕ) (started : Bool) (r : WalkTold) (b' : List ℕ) : Type 0 where
  -- that succeeds exactly if the log has so many, and they lead here from some lawful state
  pub permitted : (r.number ≡ 0)
      ↔ ((n ≤ length (log_events log))
      × ((S : State) × Lawful (net_of net) S × LeadsLast (net_of net) started n S (log_events log) (stored net b)))
  -- and that state is left
  pub done : n ≤ length (log_events log) → (S : State) → Lawful (net_of net) S
      → LeadsLast (net_of net) started n S (log_events log) (stored net b)
      → (r ≡ says_walk 0 (length (log_events log) - n) n (ticks_in (last_of n (log_events log))))
      × LeavesState net b b' S
  -- what is told of any walk, accepted or refused, is exact, and the state where it stops is left
  pub told : (S : State) × Walked (net_of net) started (stored net b) (log_events log) n (account_of_walk r S) × LeavesState net b b' S
  -- a refusal stops it behind k of them, in S, exactly if S is lawful, these k lead from S here, and S bars the event before them
  pub refused : n ≤ length (log_events log) → (k : ℕ) (why : Refusal) (S : State)
      → StopsBehind net b log k why S r b'
      ↔ ((k < n) × Lawful (net_of net) S × LeadsLast (net_of net) started k S (log_events log) (stored net b)
      × Barred (net_of net) (started_before_last started k (log_events log)) S (event_before_last k (log_events log)) why)
  -- and behind 11 and 12 one does exactly if no lawful state leads to S by that event
  pub no_state_before : n ≤ length (log_events log) → (k : ℕ) (S : State)
      → ((why : Refusal) × StopsBehind net b log k why S r b' × ¬ UnfitEvent (net_of net) (event_before_last k (log_events log)) why)
      ↔ ((k < n) × Lawful (net_of net) S × LeadsLast (net_of net) started k S (log_events log) (stored net b)
      × NoStateBefore (net_of net) (started_before_last started k (log_events log)) S (event_before_last k (log_events log)))
  -- 22: more events are asked than the log has, and no byte changes
  pub too_many : length (log_events log) < n → (r ≡ says_walk 22 0 0 0) × (b' ≡ b)

-- the last n events of an accepted log, taken back from where it led: that is accepted, and the very bytes are left that a run of the
-- earlier events leaves, which is accepted too
pub record Returns (net b log : List ℕ) (n : ℕ) (started : Bool) : Type 0 where
  pub told : walk_told net (run_left net b log started) log n started
      ≡ says_walk 0 (length (log_events log) - n) n (ticks_in (last_of n (log_events log)))
  pub left : (earlier : List ℕ) → Passes (examine_log net b earlier)
      → log_events earlier ≡ take (length (log_events log) - n) (log_events log)
      → ((run_told net b earlier started).number ≡ 0) × (walk_left net (run_left net b log started) log n started ≡ run_left net b earlier started)
  -- there is such a log
  pub some_earlier : (earlier : List ℕ) × Passes (examine_log net b earlier)
      × (log_events earlier ≡ take (length (log_events log) - n) (log_events log))
  -- the log taken back whole gives every byte back
  pub all : n ≡ length (log_events log) → walk_left net (run_left net b log started) log n started ≡ b

pub record Demand3 (net b : List ℕ) : Type 0 where
  pub event_by_event : (first second : ℕ) (started : Bool)
      → EventBack net b first second started (back_told net b first second started) (back_left net b first second started)
  pub log_by_log : (log : List ℕ) → Passes (examine_log net b log) → (n : ℕ) (started : Bool)
      → LogBack net b log n started (walk_told net b log n started) (walk_left net b log n started)
  pub returns : (log : List ℕ) → Passes (examine_log net b log) → (started : Bool) → (run_told net b log started).number ≡ 0
      → (n : ℕ) → n ≤ length (log_events log) → Returns net b log n started

-- THE INITIAL STATE of a net that got past the checks: its image is written over the front, where there is room
pub record InitialGiven (net b : List ℕ) (r : Verdict) (b' : List ℕ) : Type 0 where
  pub done : image_length (net_of net) ≤ length b
      → (r ≡ says 0 0) × Began net b b' × Passes (examine_state net b')
  pub no_room : length b < image_length (net_of net) → (r ≡ says 7 0) × (b' ≡ b)

-- THE CHECKS. Here nothing need be known of the bytes

-- what got past them: the calls that only check tell 0 of it, and the others tell 0 of nothing else
pub record ToldPasses (net b : List ℕ) : Type 0 where
  pub check-net : ((net_told net).number ≡ 0) ↔ Passes (examine_net net)
  pub check-state : ((state_told net b).number ≡ 0) ↔ Passes (examine_state net b)
  pub initial : (initial_told net b).number ≡ 0 → Passes (examine_net net)
  pub event : (first second : ℕ) (started : Bool) → (event_told net b first second started).number ≡ 0 → Passes (examine_state net b)
  pub back : (first second : ℕ) (started : Bool) → (back_told net b first second started).number ≡ 0 → Passes (examine_state net b)
  pub degree : (t : ℕ) → (degree_told net b t).number ≡ 0 → Passes (examine_state net b)
  pub owed : (owed_told net b).number ≡ 0 → Passes (examine_state net b)
  pub run : (log : List ℕ) (started : Bool) → (run_told net b log started).number ≡ 0 → Passes (examine_log net b log)
  pub walk : (log : List ℕ) (n : ℕ) (started : Bool) → (walk_told net b log n started).number ≡ 0 → Passes (examine_log net b log)

-- and what did not: a call that is refused before its first event tells the fault's number and index, and 0 in all else, and leaves
-- every byte
pub record ToldFault (net b : List ℕ) : Type 0 where
  pub check-net : (why : Fault) → examine_net net ≡ Err why → net_told net ≡ says (number_of_fault why) (index_of_fault why)
  pub check-state : (why : Fault) → examine_state net b ≡ Err why → state_told net b ≡ says (number_of_fault why) (index_of_fault why)
  pub initial : (why : Fault) → examine_net net ≡ Err why
      → (initial_told net b ≡ says (number_of_fault why) (index_of_fault why)) × (initial_left net b ≡ b)
  pub event : (why : Fault) → examine_state net b ≡ Err why → (first second : ℕ) (started : Bool)
      → (event_told net b first second started ≡ says_event (number_of_fault why) (index_of_fault why) no_place) × (event_left net b first second started ≡ b)
  pub back : (why : Fault) → examine_state net b ≡ Err why → (first second : ℕ) (started : Bool)
      → (back_told net b first second started ≡ says (number_of_fault why) (index_of_fault why)) × (back_left net b first second started ≡ b)
  pub degree : (why : Fault) → examine_state net b ≡ Err why → (t : ℕ)
      → degree_told net b t ≡ says_degree (number_of_fault why) (index_of_fault why) 0
  pub owed : (why : Fault) → examine_state net b ≡ Err why
      → owed_told net b ≡ says_owed (number_of_fault why) (index_of_fault why) (set_says 0 0 0) (set_says 0 0 0) 0
  pub run : (log : List ℕ) (why : Fault) → examine_log net b log ≡ Err why → (started : Bool)
      → (run_told net b log started ≡ says_run (number_of_fault why) (index_of_fault why) 0 0 no_place false) × (run_left net b log started ≡ b)
  pub walk : (log : List ℕ) (why : Fault) → examine_log net b log ≡ Err why → (n : ℕ) (started : Bool)
      → (walk_told net b log n started ≡ says_walk (number_of_fault why) (index_of_fault why) 0 0) × (walk_left net b log n started ≡ b)
  pub step : (log : List ℕ) (why : Fault) → check_log log ≡ Err why → (k : ℕ)
      → step_told log k ≡ says_step (number_of_fault why) 0 0 0
