-- Nothing leaks: what is proved of the total, of every net and all weights; `TotalKept` of nets that balance (OnBytes has that premise), and the
-- last two statements of nets within bounds.
-- Assumes nothing.
use Rattle.std.specs.Prelude.{◌≡◌, Bool, false, List, ℕ, ◌+◌, ◌/◌, ◌^◌, ◌<◌, ◌≤◌}
use Rattle.model.specs.declared.event.Event.{Event}
use Rattle.model.specs.Limits.{place_limit, transition_limit, Held}
use Rattle.model.specs.Net.{Net, State, Proper, Lawful, width, tokens}
use Rattle.model.specs.Moves.{Starts, Ends, Ticks, Moves}
use Rattle.model.specs.Run.{run, walk}
use Rattle.balance.specs.Weights.{weight_in, weight_out, BalancedAt, running, total}

-- WHETHER THE NET BALANCES OR NOT

-- only an end changes the total: by what its transition puts out, in place of what it took in
pub record Accounted (N : Net) (weight : ℕ → ℕ) : Type 0 where
  pub at_start : (S : State) (t : ℕ) (S' : State) → Starts N S t S' → total N weight S' ≡ total N weight S
  pub at_tick : (S S' : State) → Lawful N S → Ticks N S S' → total N weight S' ≡ total N weight S
  pub at_end : (started : Bool) (S : State) (t j : ℕ) (S' : State) → Ends N started S t j S'
      → total N weight S' + weight_in N weight t ≡ total N weight S + weight_out N weight t

-- OF A NET THAT BALANCES

-- S' comes of S by events and steps back in whatever order: at each turn an event is done, or one is taken back, to a lawful state that
-- leads here by it. Whether a start has happened in the step may be said otherwise at each turn
pub data Wanders (N : Net) : State → State → Type 0 where
  stay : {S : State} → Wanders N S S
  forth : {S S₁ S' : State} (started : Bool) (e : Event) → Moves N started S e S₁ → Wanders N S₁ S' → Wanders N S S'
  back : {S S₁ S' : State} (started : Bool) (e : Event) → Lawful N S₁ → Moves N started S₁ e S → Wanders N S₁ S' → Wanders N S S'

pub record TotalKept (N : Net) (weight : ℕ → ℕ) : Type 0 where
  -- after an event, and so after an event taken back
  pub after_event : (started : Bool) (S : State) (e : Event) (S' : State) → Lawful N S → Moves N started S e S'
      → total N weight S' ≡ total N weight S
  pub any_order : (S S' : State) → Lawful N S → Wanders N S S' → total N weight S' ≡ total N weight S
  -- so after a run and after a walk, accepted or refused
  pub after_run : (started : Bool) (S : State) (es : List Event) → Lawful N S → total N weight (run N started S es).state ≡ total N weight S
  pub after_walk : (started : Bool) (S : State) (es : List Event) (n : ℕ) → Lawful N S
      → total N weight (walk N started S es n).state ≡ total N weight S
  -- and no place of weight above 0 can ever hold more than the total over its weight
  pub no_place_over : (S S' : State) → Lawful N S → Wanders N S S' → (p : ℕ) → p < N.places → 0 < weight p
      → tokens S' p ≤ total N weight S / weight p

-- THE TEST ASKS FOR NO MORE THAN IS NEEDED

-- from some lawful state a firing of t ends, and the total is another
pub record Changes (N : Net) (weight : ℕ → ℕ) (t : ℕ) : Type 0 where
  pub before : State
  pub after : State
  pub lawful : Lawful N before
  pub ends : Ends N false before t (N.lfd t) after
  pub other : ¬ (total N weight after ≡ total N weight before)

-- so it is with each transition that is not balanced, of a proper net whose output weights are at most 65,535, as bytes are
abbrev pub ChangesUnlessBalanced : Net → (ℕ → ℕ) → Type 0
ChangesUnlessBalanced N weight =
    Proper N → ((t p : ℕ) → t < N.transitions → p < N.places → Held (N.gives t p))
    → (t : ℕ) → t < N.transitions → ¬ BalancedAt N weight t → Changes N weight t

-- NOTHING OVERFLOWS

-- 64 places and transitions, arcs of one byte, weights of two; and a width of one byte, for durations up to 254
pub record Small (N : Net) (weight : ℕ → ℕ) : Type 0 where
  pub few_places : N.places ≤ place_limit
  pub few_transitions : N.transitions ≤ transition_limit
  pub narrow : width N < 256
  pub inputs_bytes : (t p : ℕ) → t < N.transitions → p < N.places → N.takes t p < 256
  pub outputs_bytes : (t p : ℕ) → t < N.transitions → p < N.places → N.gives t p < 256
  pub weights_words : (p : ℕ) → p < N.places → weight p < 65536

-- all that is summed up is then below 2^60
pub record NoOverflow (N : Net) (weight : ℕ → ℕ) (S : State) : Type 0 where
  pub taken_in : (t : ℕ) → t < N.transitions → weight_in N weight t < 2 ^ 60
  pub put_out : (t : ℕ) → t < N.transitions → weight_out N weight t < 2 ^ 60
  pub counted : (t : ℕ) → t < N.transitions → running N S t < 2 ^ 60
  pub in_all : total N weight S < 2 ^ 60
