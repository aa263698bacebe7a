-- The order of a step, as Section 2.2 of document 004 has it: what the rules of single events (`MayEnd`, `NoOldEndOwed`) come to for all
-- events between two ticks.
-- Assumes nothing.
use Rattle.std.specs.Prelude.{◌≡◌, Bool, true, List, [], ◌∷◌, ◌++◌, ℕ, ◌+◌, ◌<◌, ◌≤◌}
use Rattle.model.specs.declared.event.Event.{Event}
use Rattle.model.specs.declared.event.Event.TheVariants as event
use Rattle.model.specs.Tab.{one}
use Rattle.model.specs.Net.{Net, State, count}
use Rattle.model.specs.Moves.{NoOldEndOwed}
use Rattle.model.specs.Run.{started_after, Leads}

abbrev pub IsEnd : Event → Type 0
IsEnd event.Tick = ⊥
IsEnd (event.Start t) = ⊥
IsEnd (event.End t age) = Unit {0}
IsEnd event.Malformed = ⊥

abbrev pub IsTick : Event → Type 0
IsTick event.Tick = Unit {0}
IsTick (event.Start t) = ⊥
IsTick (event.End t age) = ⊥
IsTick event.Malformed = ⊥

-- the event ends a firing of age 1 or more
abbrev pub IsOldEnd : Event → Type 0
IsOldEnd event.Tick = ⊥
IsOldEnd (event.Start t) = ⊥
IsOldEnd (event.End t age) = 1 ≤ age.0
IsOldEnd event.Malformed = ⊥

-- A holds of each event
unfoldable pub Each : (Event → Type 0) → List Event → Type 0
Each A [] = Unit {0}
Each A (e ∷ es) = A e × Each A es

-- how many of the events end a firing of t at age j
unfoldable pub endings : ℕ → ℕ → List Event → ℕ
endings t j [] = 0
endings t j (event.Tick ∷ es) = endings t j es
endings t j (event.Start u ∷ es) = endings t j es
endings t j (event.End u age ∷ es) = one u age.0 t j + endings t j es
endings t j (event.Malformed ∷ es) = endings t j es

-- every end of age 1 or more that is owed in S is among the events, and no other of its transition at its lfd
abbrev pub EndsAllOwed : Net → State → List Event → Type 0
EndsAllOwed N S es = (t : ℕ) → t < N.transitions → 1 ≤ N.lfd t → endings t (N.lfd t) es ≡ count S t (N.lfd t)

-- the earlier events lead from S to a state, and every end of age 1 or more that is owed there is among the opening's. Where the last of the
-- earlier events is a tick, or there is none, a step opens there
abbrev pub OpensWith : Net → Bool → State → List Event → List Event → Type 0
OpensWith N started S earlier opening = (S₁ : State) × Leads N started S earlier S₁ × EndsAllOwed N S₁ opening

-- What is permitted in a step before its first start, or before the tick that closes it, are ends alone: the opening, the paper's Endstep. Where the
-- start follows, or that tick, all ends of age 1 or more that were owed are among them. In what is behind a start, the Iteratedstep, only
-- firings of age 0 end, up to that tick.
pub record StepOrder (N : Net) : Type 0 where
  pub before_a_start : (started : Bool) (S S' : State) (earlier opening later : List Event) (t : ℕ) → Each IsEnd opening
      → Leads N started S (earlier ++ (opening ++ (event.Start t ∷ later))) S' → OpensWith N started S earlier opening
  pub before_a_tick : (started : Bool) (S S' : State) (earlier opening later : List Event) → Each IsEnd opening
      → Leads N started S (earlier ++ (opening ++ (event.Tick ∷ later))) S' → OpensWith N started S earlier opening
  pub behind_a_start : (started : Bool) (S S' : State) (earlier rest later : List Event) → started_after started earlier ≡ true
      → Each (λ e. ¬ IsTick e) rest → Leads N started S (earlier ++ (rest ++ later)) S' → Each (λ e. ¬ IsOldEnd e) rest
  -- so wherever a start has happened in the step none is owed, if none is owed in S where the start is given and not among the events
  pub none_owed_behind : (started : Bool) (S S' : State) (es : List Event) → (started ≡ true → NoOldEndOwed N S)
      → Leads N started S es S' → started_after started es ≡ true → NoOldEndOwed N S'
