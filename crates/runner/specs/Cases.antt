-- Worked examples of pages, over the children's row net; and a net that never ticks, one of its durations being 0.
-- Assumes nothing.
use Rattle.std.specs.Prelude.{◌≡◌, List, [], ◌∷◌, ℕ, ◌≤◌}
use Rattle.model.specs.declared.event.Event.{Event}
use Rattle.model.specs.declared.event.Event.TheVariants as event
use Rattle.model.specs.Net.{Net, State, Accepted, initial_state}
use Rattle.model.specs.Run.{ticks_in}
use Rattle.model.specs.Cases.{childrens_row, slow_middle}
use Rattle.runner.specs.declared.stop.Stop.{Stop}
use Rattle.runner.specs.declared.stop.Stop.TheVariants as stop
use Rattle.runner.specs.Page.{Page, page}
use Rattle.runner.specs.Bound.{bound, NoneInstant, Soon}

abbrev start : ℕ → Event
start t = event.Start t

abbrev end : ℕ → ℕ → Event
end t j = event.End t (record { 0 = j })

abbrev tick : Event
tick = event.Tick

-- a state of the children's row net: the marking, and how many firings of transition 0 and of transition 1 have each age
abbrev pub row : List ℕ → List ℕ → List ℕ → State
row m h₀ h₁ = record { marking = m; clock = h₀ ∷ h₁ ∷ [] }

abbrev four : ℕ → ℕ → ℕ → ℕ → List ℕ
four a b c d = a ∷ b ∷ c ∷ d ∷ []

abbrev none : List ℕ
none = four 0 0 0 0

abbrev first : State
first = initial_state childrens_row

abbrev filled : State
filled = row (0 ∷ 0 ∷ 1 ∷ []) none none

-- transition 0 enabled, with a full count at age 0
abbrev crowded : State
crowded = row (1 ∷ 0 ∷ 0 ∷ []) (four 65535 0 0 0) none

-- an end of transition 0 owed, with place 1 full
abbrev brimming : State
brimming = row (1 ∷ 65535 ∷ 0 ∷ []) (four 0 0 0 1) none

abbrev writes : List Event → Stop → State → Page
writes es s S = record { events = es; stop = s; state = S }

-- a page with so much room and so much budget
pub record RowPages : Type 0 where
  -- start 0, three ticks, end 0 at age 3, start 1, end 1, rest
  pub whole : page childrens_row first 10 10
      ≡ writes (start 0 ∷ tick ∷ tick ∷ tick ∷ end 0 3 ∷ start 1 ∷ end 1 0 ∷ []) stop.AtRest filled
  -- rest is told before a budget that is spent, and before a log that is full
  pub exactly : (page childrens_row first 7 7).stop ≡ stop.AtRest
  pub at_rest : page childrens_row filled 0 0 ≡ writes [] stop.AtRest filled
  -- the budget is told before the log
  pub no_budget : (page childrens_row first 0 0).stop ≡ stop.BudgetSpent
  pub no_room : (page childrens_row first 0 1).stop ≡ stop.LogFull
  pub one_event : page childrens_row first 1 2 ≡ writes (start 0 ∷ []) stop.LogFull (row (0 ∷ 0 ∷ 0 ∷ []) (four 1 0 0 0) none)
  -- 14 and 17
  pub count_full : page childrens_row crowded 1 1 ≡ writes [] stop.CountFull crowded
  pub place_full : page childrens_row brimming 1 1 ≡ writes [] stop.PlaceFull brimming
  -- no budget and no room are told before them
  pub not_yet : (page childrens_row crowded 1 0).stop ≡ stop.BudgetSpent
  pub nor_yet : (page childrens_row brimming 0 1).stop ≡ stop.LogFull
  -- an owed end before an owed start
  pub end_first : (page childrens_row (row (1 ∷ 0 ∷ 0 ∷ []) (four 0 0 0 1) none) 9 2).events ≡ end 0 3 ∷ start 0 ∷ []

-- of several the lowest; and the bound is reached. `slow_middle` has one place, and three transitions that take a token from it and give one
-- back, with durations of up to 2, 4 and 1 ticks
abbrev ages : ℕ → ℕ → ℕ → ℕ → ℕ → List ℕ
ages a b c d e = a ∷ b ∷ c ∷ d ∷ e ∷ []

abbrev middle : ℕ → List ℕ → List ℕ → List ℕ → State
middle tokens h₀ h₁ h₂ = record { marking = tokens ∷ []; clock = h₀ ∷ h₁ ∷ h₂ ∷ [] }

-- ends of transitions 1 and 2 are owed, two and one, and no token is there
abbrev pub two_owed : State
two_owed = middle 0 (ages 0 0 0 0 0) (ages 0 0 0 0 2) (ages 0 1 0 0 0)

pub record LowestPages : Type 0 where
  -- all three are enabled
  pub lowest_start : (page slow_middle (initial_state slow_middle) 9 1).events ≡ start 0 ∷ []
  -- the ends one by one, the lowest transition first, and then the starts
  pub lowest_end : (page slow_middle two_owed 9 7).events
      ≡ end 1 4 ∷ end 1 4 ∷ end 2 1 ∷ start 0 ∷ start 0 ∷ start 0 ∷ tick ∷ []
  -- three ends and three tokens: six events, and the seventh is the tick
  pub none_instant : NoneInstant slow_middle
  pub bound_is : bound slow_middle two_owed ≡ 6
  pub not_sooner : ¬ Soon (page slow_middle two_owed 9 7) 5

-- one place with a token, one transition that takes it and gives it back, within 0 ticks
unfoldable pub spin : Net
spin = record {
  places = 1;
  transitions = 1;
  takes = λ t p. 1;
  gives = λ t p. 1;
  sfd = λ t. 0;
  lfd = λ t. 0;
  initial_marking = λ p. 1;
}

-- document 01 accepts it, its bound is 1, and however large budget and room are it does not tick and does not stop of itself
pub record NeverTicks : Type 0 where
  pub accepted : Accepted spin
  pub bound_is : bound spin (initial_state spin) ≡ 1
  pub goes_round : (room budget : ℕ) → budget ≤ room → (page spin (initial_state spin) room budget).stop ≡ stop.BudgetSpent
  pub never : (room budget : ℕ) → ticks_in (page spin (initial_state spin) room budget).events ≡ 0
  -- so the bound does not hold of it
  pub not_soon : ¬ Soon (page spin (initial_state spin) 2 2) 1
