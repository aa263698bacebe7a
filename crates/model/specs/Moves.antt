-- The rules of the events as relations between two states: Definitions 4 and 5 of document 004, with document 01's limits, and
-- the deadlock rule and the order of a step of Section 2.2.
-- Assumes nothing.
use Rattle.std.specs.Prelude.{◌≡◌, Bool, true, false, ℕ, suc, ◌+◌, ◌*◌, ◌<◌, ◌≤◌}
use Rattle.model.specs.declared.event.Event.{Event}
use Rattle.model.specs.declared.event.Event.TheVariants as event
use Rattle.model.specs.declared.answer.Short.{Short}
use Rattle.model.specs.Tab.{one}
use Rattle.model.specs.Limits.{Held}
use Rattle.model.specs.Net.{Net, State, Shaped, width, tokens, count}

-- Definition 4: t is enabled n times
abbrev pub Enabled : Net → State → ℕ → ℕ → Type 0
Enabled N S t n = (p : ℕ) → p < N.places → n * N.takes t p ≤ tokens S p

-- some place has too few tokens for t n times
abbrev pub TooFew : Net → State → ℕ → ℕ → Type 0
TooFew N S t n = (p : ℕ) × (p < N.places) × (tokens S p < n * N.takes t p)

-- place p would have enough for one start of t with k more tokens
abbrev pub EnoughWith : Net → State → ℕ → ℕ → ℕ → Type 0
EnoughWith N S t p k = N.takes t p ≤ tokens S p + k

-- request W1: the lowest place that has too few tokens for one start of t, and how many it lacks
pub record Lacks (N : Net) (S : State) (t : ℕ) (short : Short) : Type 0 where
  pub known : short.place < N.places
  pub some : 0 < short.lacks
  pub missing : tokens S short.place + short.lacks ≡ N.takes t short.place
  pub lowest : (p : ℕ) → p < short.place → N.takes t p ≤ tokens S p

-- Definition 4: E_t(M), the degree of t, is n
abbrev pub Degree : Net → State → ℕ → ℕ → Type 0
Degree N S t n = Enabled N S t n × TooFew N S t (suc n)

-- no transition is enabled
abbrev pub NoStartOwed : Net → State → Type 0
NoStartOwed N S = (t : ℕ) → t < N.transitions → ¬ Enabled N S t 1

-- no count stands at its transition's lfd
abbrev pub NoEndOwed : Net → State → Type 0
NoEndOwed N S = (t : ℕ) → t < N.transitions → count S t (N.lfd t) ≡ 0

-- the clock matrix is the zero matrix
abbrev pub NothingRunning : Net → State → Type 0
NothingRunning N S = (t : ℕ) → t < N.transitions → (j : ℕ) → j < width N → count S t j ≡ 0

-- age j is in [sfd(t), lfd(t)]
abbrev pub Timely : Net → ℕ → ℕ → Type 0
Timely N t j = (N.sfd t ≤ j) × (j ≤ N.lfd t)

-- no place passes the limit when `more p` tokens join it
abbrev pub HasRoom : Net → State → (ℕ → ℕ) → Type 0
HasRoom N S more = (p : ℕ) → p < N.places → Held (tokens S p + more p)

-- every place has `fewer p` tokens to give back
abbrev pub Covers : Net → State → (ℕ → ℕ) → Type 0
Covers N S fewer = (p : ℕ) → p < N.places → fewer p ≤ tokens S p

-- no firing has age 0
abbrev pub NoneFresh : Net → State → Type 0
NoneFresh N S = (t : ℕ) → t < N.transitions → count S t 0 ≡ 0

-- THE ORDER OF A STEP (W5)
-- Section 2.2: a global step "consists on two principal multisets, the first one is called Endstep and the second one is called
-- Iteratedstep". "An Endstep at state S contains all endfire events which must occur at S and an arbitrary multiset of endfire
-- events which may occur at S." "An Iteratedstep is an alternating sequence of multisets of startfire events (not necessarily
-- maximal) and multisets of endfire events with zero duration (containing all must endfire ones)."
-- Of an Iteratedstep W5 asks that its ends have age 0, and no order; that those which must occur do, the tick asks.

-- whether a start has happened in the step, after an event
abbrev pub started_by : Bool → Event → Bool
started_by started event.Tick = false
started_by started (event.Start t) = true
started_by started (event.End t age) = started
started_by started event.Malformed = started

-- a firing of age j may end: once a start has happened in the step, only one of age 0
abbrev pub MayEnd : Bool → ℕ → Type 0
MayEnd false j = Unit {0}
MayEnd true j = j ≡ 0

-- no end of age 1 or more is owed: a start may happen
abbrev pub NoOldEndOwed : Net → State → Type 0
NoOldEndOwed N S = (t : ℕ) → t < N.transitions → 1 ≤ N.lfd t → count S t (N.lfd t) ≡ 0

-- Definition 5.1, and the order of a step: no end of age 1 or more is owed
pub record Starts (N : Net) (S : State) (t : ℕ) (S' : State) : Type 0 where
  pub known : t < N.transitions
  pub enabled : Enabled N S t 1
  pub no_old_end_owed : NoOldEndOwed N S
  pub room : Held (suc (count S t 0))
  pub marked : (p : ℕ) → p < N.places → tokens S' p + N.takes t p ≡ tokens S p
  pub counted : (u k : ℕ) → u < N.transitions → k < width N → count S' u k ≡ count S u k + one t 0 u k
  pub shaped : Shaped N S'

-- Definition 5.2, and the order of a step: behind a start only a firing of age 0 ends
pub record Ends (N : Net) (started : Bool) (S : State) (t j : ℕ) (S' : State) : Type 0 where
  pub known : t < N.transitions
  pub timely : Timely N t j
  pub may_end : MayEnd started j
  pub active : 1 ≤ count S t j
  pub room : HasRoom N S (N.gives t)
  pub marked : (p : ℕ) → p < N.places → tokens S' p ≡ tokens S p + N.gives t p
  pub counted : (u k : ℕ) → u < N.transitions → k < width N → count S' u k + one t j u k ≡ count S u k
  pub shaped : Shaped N S'

-- Definition 5.3, and the deadlock rule: something is running
pub record Ticks (N : Net) (S S' : State) : Type 0 where
  pub no_start_owed : NoStartOwed N S
  pub no_end_owed : NoEndOwed N S
  pub running : ¬ NothingRunning N S
  pub marked : (p : ℕ) → p < N.places → tokens S' p ≡ tokens S p
  pub fresh : (t : ℕ) → t < N.transitions → count S' t 0 ≡ 0
  pub aged : (t j : ℕ) → t < N.transitions → suc j < width N → count S' t (suc j) ≡ count S t j
  pub shaped : Shaped N S'

-- S moves to S' by the event, where a start has happened before in the step, or not
abbrev pub Moves : Net → Bool → State → Event → State → Type 0
Moves N started S event.Tick S' = Ticks N S S'
Moves N started S (event.Start t) S' = Starts N S t S'
Moves N started S (event.End t age) S' = Ends N started S t age.0 S'
Moves N started S event.Malformed S' = ⊥
