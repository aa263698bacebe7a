-- The demands on the engine, as statements about a net: the sentences of demands 2 and 3, with what is told of refused events,
-- logs and walks. proofs/Demands.antt proves them of every net, whatever its size and durations.
-- Assumes nothing.
use Rattle.std.specs.Prelude.{◌≡◌, Bool, ◌↔◌, List, ℕ, ◌-◌, ◌<◌, ◌≤◌, length, take}
use Rattle.model.specs.declared.event.Event.{Event}
use Rattle.model.specs.declared.event.Event.TheVariants as event
use Rattle.model.specs.declared.answer.Short.{Short}
use Rattle.model.specs.declared.answer.Refusal.{Refusal}
use Rattle.model.specs.declared.answer.Refusal.TheVariants as refusal
use Rattle.model.specs.declared.answer.Standing.TheVariants as standing
use Rattle.model.specs.Net.{Net, State, Proper, Lawful, IsWidth, Initial, width, initial_state}
use Rattle.model.specs.Moves.{Enabled, Lacks, Degree, Moves}
use Rattle.model.specs.Refusals.{Unfit, Fit, Refuses, FallsShort, JustShort, Barred}
use Rattle.model.specs.Rules.{done, refused, apply, back, degree}
use Rattle.model.specs.Run.{RunTold, WalkTold, Leads, LeadsLast, Ran, Walked, run, walk, event_at, event_before_last, started_before_last}
use Rattle.model.specs.Run.{accepted_run, short_run, accepted_walk, stopped_walk}
use Rattle.model.specs.Owed.{Report, Reports, owed}

-- A fact `started` that is given says whether a start has happened in the step, before the event or before the log's first event (request
-- W5). The demands are read for it.

-- DEMAND 2
pub record Demand2 (N : Net) : Type 0 where
  -- Definition 3: the width of the clock matrix, and the initial state
  pub width_is : 0 < N.transitions → (d : ℕ) → (d ≡ width N) ↔ IsWidth N d
  pub initial_is : (S : State) → (S ≡ initial_state N) ↔ Initial N S
  -- Definition 4: the degree
  pub degree_is : Proper N → (S : State) → Lawful N S → (t : ℕ) → t < N.transitions → (n : ℕ) → (n ≡ degree N S t) ↔ Degree N S t n
  -- an event is accepted exactly when the rules permit it, and the state after it is the one they give
  pub event_accepted : (started : Bool) (S : State) (e : Event) (S' : State) → (apply N started S e ≡ done S') ↔ Moves N started S e S'
  -- each refusal is given exactly when document 01 and request W5 say
  pub event_refused : (started : Bool) (S : State) (e : Event) (why : Refusal)
      → (apply N started S e ≡ refused why) ↔ Refuses N started S e why
  -- a transition is not enabled exactly where some place lacks tokens
  pub not_enabled : (S : State) (t : ℕ) → (¬ Enabled N S t 1) ↔ ((short : Short) × Lacks N S t short)
  -- 13 tells a place and a shortage exactly where a start finds that place, the lowest, short of so many tokens
  pub short_told : (started : Bool) (S : State) (e : Event) (short : Short)
      → (apply N started S e ≡ refused (refusal.NotEnabled short)) ↔ FallsShort N S e short
  -- so many more tokens in that place would do, and one fewer would not
  pub short_just : (S : State) (e : Event) (short : Short) → FallsShort N S e short → JustShort N S e short
  -- a log is accepted exactly when each event in turn is
  pub log_accepted : (started : Bool) (S : State) (es : List Event)
      → ((run N started S es).number ≡ 0) ↔ ((S' : State) × Leads N started S es S')
  -- and then all its events and ticks are told, and the state that they lead to, with its fact
  pub log_leads : (started : Bool) (S : State) (es : List Event) (S' : State)
      → (run N started S es ≡ accepted_run started es S') ↔ Leads N started S es S'
  -- what is told of any log, accepted or refused, is exact, and the state left is the one just before the refused event
  pub log_told : (started : Bool) (S : State) (es : List Event) (r : RunTold) → (r ≡ run N started S es) ↔ Ran N started S es r
  -- a run ends at 13, and tells a place and a shortage, exactly where its next event falls short
  pub log_short : (started : Bool) (S : State) (es : List Event) (k : ℕ) (short : Short) (S' : State)
      → (run N started S es ≡ short_run started es k short S')
      ↔ ((k < length es) × Leads N started S (take k es) S' × FallsShort N S' (event_at es k) short)
  -- the owed report is exact
  pub owed-told : (S : State) (r : Report) → (r ≡ owed N S) ↔ Reports N S r
  -- and 'free to tick' holds exactly where a tick is accepted
  pub free_to_tick : (started : Bool) (S : State)
      → ((owed N S).standing ≡ standing.FreeToTick) ↔ ((S' : State) × (apply N started S event.Tick ≡ done S'))

-- some lawful state leads to S' by the event
abbrev pub SomeLeads : Net → Bool → State → Event → Type 0
SomeLeads N started S' e = (S : State) × Lawful N S × Moves N started S e S'

-- the net has the event, and no lawful state leads to S' by it
abbrev pub NoStateBefore : Net → Bool → State → Event → Type 0
NoStateBefore N started S' e = Fit N e × ¬ SomeLeads N started S' e

-- DEMAND 3
pub record Demand3 (N : Net) : Type 0 where
  -- a step back succeeds exactly if some lawful state leads here by that event
  pub succeeds : (started : Bool) (S' : State) → Lawful N S' → (e : Event)
      → ((S : State) × (back N started S' e ≡ done S)) ↔ SomeLeads N started S' e
  -- there is never a second such state
  pub never_a_second : (started : Bool) (S' : State) (e : Event) (a b : SomeLeads N started S' e) → a.0 ≡ b.0
  -- and the step back yields it
  pub yields : (started : Bool) (S' : State) → Lawful N S' → (e : Event) (a : SomeLeads N started S' e)
      → back N started S' e ≡ done a.0
  -- each refusal is given exactly when requests W4 and W5 say
  pub back_refused : (started : Bool) (S' : State) (e : Event) (why : Refusal)
      → (back N started S' e ≡ refused why) ↔ Barred N started S' e why
  -- and behind 11 and 12 one is given exactly if no lawful state leads here
  pub no_state_before : (started : Bool) (S' : State) → Lawful N S' → (e : Event)
      → ((why : Refusal) × (back N started S' e ≡ refused why) × ¬ Unfit N e why) ↔ NoStateBefore N started S' e
  -- so walking back the last n events of an accepted log gives the very state that the earlier events gave
  pub walked_back : (started : Bool) (S S' : State) (es : List Event) (n : ℕ) → Lawful N S
      → run N started S es ≡ accepted_run started es S' → n ≤ length es
      → (S₁ : State) × (run N started S (take (length es - n) es) ≡ accepted_run started (take (length es - n) es) S₁)
      × (walk N started S' es n ≡ accepted_walk es n S₁)
  -- a walk from any lawful state is accepted exactly if the last n events lead here from a lawful state, which it gives
  pub walk_accepted : (started : Bool) (S' : State) → Lawful N S' → (es : List Event) (n : ℕ) → n ≤ length es → (S : State)
      → (walk N started S' es n ≡ accepted_walk es n S) ↔ (Lawful N S × LeadsLast N started n S es S')
  -- a refusal stops it behind k of them, in S, exactly if S is lawful, these k lead from S here, and S bars the event before them
  pub walk_refused : (started : Bool) (S' : State) → Lawful N S' → (es : List Event) (n : ℕ) → n ≤ length es
      → (k : ℕ) (why : Refusal) (S : State)
      → (walk N started S' es n ≡ stopped_walk es k why S)
      ↔ ((k < n) × Lawful N S × LeadsLast N started k S es S' × Barred N (started_before_last started k es) S (event_before_last k es) why)
  -- and behind 11 and 12 one does exactly if no lawful state leads to S by that event
  pub walk_no_state_before : (started : Bool) (S' : State) → Lawful N S' → (es : List Event) (n : ℕ) → n ≤ length es
      → (k : ℕ) (S : State)
      → ((why : Refusal) × (walk N started S' es n ≡ stopped_walk es k why S) × ¬ Unfit N (event_before_last k es) why)
      ↔ ((k < n) × Lawful N S × LeadsLast N started k S es S'
      × NoStateBefore N (started_before_last started k es) S (event_before_last k es))
  -- and what is told of any walk is exact
  pub walk-told : (started : Bool) (S' : State) → Lawful N S' → (es : List Event) (n : ℕ) (r : WalkTold)
      → (r ≡ walk N started S' es n) ↔ Walked N started S' es n r

-- lawful states stay lawful, forward and back, and the initial state is lawful. (That a walk leaves a lawful state is in `Walked`)
pub record StaysLawful (N : Net) : Type 0 where
  pub at_first : Proper N → Lawful N (initial_state N)
  pub forward : (started : Bool) (S : State) (e : Event) (S' : State) → Lawful N S → apply N started S e ≡ done S' → Lawful N S'
  pub backward : (started : Bool) (S' : State) (e : Event) (S : State) → Lawful N S' → back N started S' e ≡ done S → Lawful N S
  pub after_run : (started : Bool) (S : State) (es : List Event) → Lawful N S → Lawful N (run N started S es).state
