-- Worked examples: the cases K1 to K12 of document 01 over the children's row net as one table, and further cases as another.
-- Assumes nothing.
use Rattle.std.specs.Prelude.{◌≡◌, Bool, true, false, List, [], ◌∷◌, ◌++◌, ℕ, get_or}
use Rattle.model.specs.declared.event.Event.{Event}
use Rattle.model.specs.declared.event.Event.TheVariants as event
use Rattle.model.specs.declared.answer.Short.{Short}
use Rattle.model.specs.Answer.{number_of_standing}
use Rattle.model.specs.Tab.{how_many}
use Rattle.model.specs.Net.{Net, State, width, initial_state}
use Rattle.model.specs.Rules.{apply, back, degree}
use Rattle.model.specs.Run.{RunTold, WalkTold, EventTold, BackTold, told_event, told_back, run, walk}
use Rattle.model.specs.Owed.{word_bits, standing_of, Report, owed}

-- WHAT A CASE IS

-- a run from a state, and the standing that it leaves; a walk back over the last n events; a single event; a single event
-- taken back, each with the fact that is given; the degree of a transition; the width of the clock matrix; what is owed
pub data Case : Type 0 where
  runs : Net → Bool → State → List Event → RunTold → ℕ → Case
  walks : Net → Bool → State → List Event → ℕ → WalkTold → Case
  does : Net → Bool → State → Event → EventTold → Case
  undoes : Net → Bool → State → Event → BackTold → Case
  has_degree : Net → State → ℕ → ℕ → Case
  has_width : Net → ℕ → Case
  owes : Net → State → List ℕ → Case

-- of the starts that are owed, and then of the ends: how many of the 64 bits are set, how many are told, the lowest; and the standing
abbrev pub digest : Report → List ℕ
digest r =
    how_many word_bits r.starts ∷ r.start_count ∷ r.lowest_start
    ∷ how_many word_bits r.ends ∷ r.end_count ∷ r.lowest_end ∷ number_of_standing r.standing ∷ []

-- the case is answered so: number, index, events done, ticks, the place that is short, the fact, the whole state
abbrev pub Holds : Case → Type 0
Holds (runs N started S es r s) = (run N started S es ≡ r) × (number_of_standing (standing_of N r.state) ≡ s)
Holds (walks N started S' es n r) = walk N started S' es n ≡ r
Holds (does N started S e r) = told_event S (apply N started S e) ≡ r
Holds (undoes N started S' e r) = told_back S' (back N started S' e) ≡ r
Holds (has_degree N S t n) = degree N S t ≡ n
Holds (has_width N d) = width N ≡ d
Holds (owes N S r) = digest (owed N S) ≡ r

-- every case of a table holds
unfoldable pub AllHold : List Case → Type 0
AllHold [] = Unit {0}
AllHold (c ∷ cs) = Holds c × AllHold cs

-- NETS AND STATES

abbrev entry : List (List ℕ) → ℕ → ℕ → ℕ
entry rows t p = get_or (get_or rows t []) p 0

-- the children's row net: 0 loads the own file (1..3 ticks), 1 fills the row (0..0)
unfoldable pub childrens_row : Net
childrens_row = record {
  places = 3;
  transitions = 2;
  takes = entry ((1 ∷ 0 ∷ 0 ∷ []) ∷ (0 ∷ 1 ∷ 0 ∷ []) ∷ []);
  gives = entry ((0 ∷ 1 ∷ 0 ∷ []) ∷ (0 ∷ 0 ∷ 1 ∷ []) ∷ []);
  sfd = λ t. get_or (1 ∷ 0 ∷ []) t 0;
  lfd = λ t. get_or (3 ∷ 0 ∷ []) t 0;
  initial_marking = λ p. get_or (1 ∷ 0 ∷ 0 ∷ []) p 0;
}

-- one transition that takes 2 from place 0 and gives 3 to place 1, within 0..2 ticks
unfoldable pub heavy : Net
heavy = record {
  places = 2;
  transitions = 1;
  takes = entry ((2 ∷ 0 ∷ []) ∷ []);
  gives = entry ((0 ∷ 3 ∷ []) ∷ []);
  sfd = λ t. 0;
  lfd = λ t. 2;
  initial_marking = λ p. get_or (2 ∷ 0 ∷ []) p 0;
}

-- three transitions, of which the second lasts longest
unfoldable pub slow_middle : Net
slow_middle = record {
  places = 1;
  transitions = 3;
  takes = λ t p. 1;
  gives = λ t p. 1;
  sfd = λ t. 0;
  lfd = λ t. get_or (2 ∷ 4 ∷ 1 ∷ []) t 0;
  initial_marking = λ p. 1;
}

-- one transition that takes 2, 4 and 4 from three places, and lasts no tick
unfoldable pub threefold : Net
threefold = record {
  places = 3;
  transitions = 1;
  takes = entry ((2 ∷ 4 ∷ 4 ∷ []) ∷ []);
  gives = entry ((0 ∷ 0 ∷ 1 ∷ []) ∷ []);
  sfd = λ t. 0;
  lfd = λ t. 0;
  initial_marking = λ p. 0;
}

abbrev marks : ℕ → ℕ → ℕ → List ℕ
marks a b c = a ∷ b ∷ c ∷ []

abbrev ages : ℕ → ℕ → ℕ → ℕ → List ℕ
ages a b c d = a ∷ b ∷ c ∷ d ∷ []

abbrev none : List ℕ
none = ages 0 0 0 0

-- a state of the children's row net: the marking, and how many firings of transition 0 and of transition 1 have each age
abbrev state : List ℕ → List ℕ → List ℕ → State
state m h₀ h₁ = record { marking = m; clock = h₀ ∷ h₁ ∷ [] }

abbrev first : State
first = initial_state childrens_row

abbrev filled : State
filled = state (marks 0 0 1) none none

-- place 1 holds n, and transition 0 has one count at age 1
abbrev loaded : ℕ → State
loaded n = state (marks 0 n 0) (ages 0 1 0 0) none

-- a state of the heavy net: the marking, and how many firings have each age
abbrev laden : ℕ → ℕ → ℕ → ℕ → ℕ → State
laden a b h₀ h₁ h₂ = record { marking = a ∷ b ∷ []; clock = (h₀ ∷ h₁ ∷ h₂ ∷ []) ∷ [] }

abbrev zeros : List ℕ
zeros = 0 ∷ 0 ∷ 0 ∷ 0 ∷ 0 ∷ []

-- a state of the slow middle's net: no token, and nothing runs
abbrev idle : State
idle = record { marking = 0 ∷ []; clock = zeros ∷ zeros ∷ zeros ∷ [] }

-- a state of the threefold net: the marking, and how many firings run
abbrev trio : ℕ → ℕ → ℕ → ℕ → State
trio a b c h = record { marking = marks a b c; clock = (h ∷ []) ∷ [] }

-- EVENTS AND ANSWERS

-- no start has happened in the step; one has
abbrev opening : Bool
opening = false

abbrev begun : Bool
begun = true

abbrev tick : Event
tick = event.Tick

abbrev start : ℕ → Event
start t = event.Start t

abbrev end : ℕ → ℕ → Event
end t j = event.End t (record { 0 = j })

-- the log of document 01, K1
abbrev pub log : List Event
log = start 0 ∷ tick ∷ end 0 1 ∷ start 1 ∷ end 1 0 ∷ []

-- no place is short, written out so that another pair of numbers is noticed
abbrev no_place : Short
no_place = record { place = 0; lacks = 0 }

-- of a run; of one that 13 ended behind i events, where place p lacks n tokens; of a walk
abbrev tells : ℕ → ℕ → ℕ → ℕ → Bool → State → RunTold
tells n i d k f S = record { number = n; index = i; done = d; ticks = k; short = no_place; started = f; state = S }

abbrev stops_short : ℕ → ℕ → ℕ → ℕ → Bool → State → RunTold
stops_short p n i k f S = record { number = 13; index = i; done = i; ticks = k; short = record { place = p; lacks = n }; started = f; state = S }

abbrev walked : ℕ → ℕ → ℕ → ℕ → State → WalkTold
walked n i d k S = record { number = n; index = i; done = d; ticks = k; state = S }

-- of a single event; of one that 13 refuses, where place p lacks n tokens; of one taken back
abbrev answers : ℕ → State → EventTold
answers n S = record { number = n; index = 0; short = no_place; state = S }

abbrev falls_short : ℕ → ℕ → State → EventTold
falls_short p n S = record { number = 13; index = 0; short = record { place = p; lacks = n }; state = S }

abbrev undone : ℕ → State → BackTold
undone n S = record { number = n; index = 0; state = S }

-- THE TABLES

-- K1 to K12, in order
unfoldable pub cases : List Case
cases =
    runs childrens_row opening first log (tells 0 5 5 1 begun filled) 4
    ∷ runs childrens_row opening first (tick ∷ []) (tells 18 0 0 0 opening (state (marks 1 0 0) none none)) 1
    ∷ runs childrens_row opening first (start 0 ∷ tick ∷ tick ∷ tick ∷ []) (tells 0 4 4 3 opening (state (marks 0 0 0) (ages 0 0 0 1) none)) 2
    ∷ runs childrens_row opening first (start 0 ∷ tick ∷ tick ∷ tick ∷ tick ∷ []) (tells 19 4 4 3 opening (state (marks 0 0 0) (ages 0 0 0 1) none)) 2
    ∷ runs childrens_row opening first (start 0 ∷ end 0 0 ∷ []) (tells 15 1 1 0 begun (state (marks 0 0 0) (ages 1 0 0 0) none)) 3
    ∷ runs childrens_row opening first (start 0 ∷ tick ∷ end 0 2 ∷ []) (tells 16 2 2 1 opening (state (marks 0 0 0) (ages 0 1 0 0) none)) 3
    ∷ runs childrens_row opening first (start 0 ∷ tick ∷ end 0 1 ∷ tick ∷ []) (tells 18 3 3 1 opening (state (marks 0 1 0) none none)) 1
    ∷ runs childrens_row opening first (log ++ (tick ∷ [])) (tells 20 5 5 1 begun filled) 4
    ∷ undoes childrens_row opening filled (end 1 0) (undone 0 (state (marks 0 0 0) none (ages 1 0 0 0)))
    ∷ undoes childrens_row opening first tick (undone 18 (state (marks 1 0 0) none none))
    ∷ does childrens_row opening (loaded 65534) (end 0 1) (answers 0 (state (marks 0 65535 0) none none))
    ∷ does childrens_row opening (loaded 65535) (end 0 1) (answers 17 (loaded 65535))
    ∷ []

-- further cases
unfoldable pub further_cases : List Case
further_cases =
    -- a log with no events
    runs childrens_row opening first [] (tells 0 0 0 0 opening (state (marks 1 0 0) none none)) 1
    -- 11 and 12, done and taken back
    ∷ does childrens_row opening filled event.Malformed (answers 11 filled)
    ∷ does childrens_row opening filled (start 2) (answers 12 filled)
    ∷ undoes childrens_row opening filled event.Malformed (undone 11 filled)
    ∷ undoes childrens_row opening filled (end 2 0) (undone 12 filled)
    -- no such transition, though a start of it would find no token: 12 before 13
    ∷ does slow_middle opening idle (start 3) (answers 12 idle)
    -- a start taken back, once up to a full place; three that cannot have been: place 0 would have held 65,536; no firing has age 0; both,
    -- 24 before 25
    ∷ undoes childrens_row opening (state (marks 0 0 0) (ages 1 0 0 0) none) (start 0) (undone 0 (state (marks 1 0 0) none none))
    ∷ undoes childrens_row opening (state (marks 65534 0 0) (ages 1 0 0 0) none) (start 0) (undone 0 (state (marks 65535 0 0) none none))
    ∷ undoes childrens_row opening (state (marks 65535 0 0) (ages 1 0 0 0) none) (start 0) (undone 25 (state (marks 65535 0 0) (ages 1 0 0 0) none))
    ∷ undoes childrens_row opening (loaded 0) (start 0) (undone 24 (loaded 0))
    ∷ undoes childrens_row opening (state (marks 65535 0 0) none none) (start 0) (undone 24 (state (marks 65535 0 0) none none))
    -- a tick taken back, and some that cannot have been: a firing has age 0; the marking enables transition 0; both, 21 before 18;
    -- nothing runs. K10: transition 0 is enabled and nothing runs, 18 before 20
    ∷ undoes childrens_row opening (loaded 0) tick (undone 0 (state (marks 0 0 0) (ages 1 0 0 0) none))
    ∷ undoes childrens_row opening (state (marks 0 0 0) (ages 1 1 0 0) none) tick (undone 21 (state (marks 0 0 0) (ages 1 1 0 0) none))
    ∷ undoes childrens_row opening (state (marks 1 0 0) (ages 0 1 0 0) none) tick (undone 18 (state (marks 1 0 0) (ages 0 1 0 0) none))
    ∷ undoes childrens_row opening (state (marks 1 0 0) (ages 1 1 0 0) none) tick (undone 21 (state (marks 1 0 0) (ages 1 1 0 0) none))
    ∷ undoes childrens_row opening filled tick (undone 20 filled)
    -- a transition not enabled and with a full count: 13 before 14
    ∷ does childrens_row opening (state (marks 0 0 0) (ages 65535 0 0 0) none) (start 0) (falls_short 0 1 (state (marks 0 0 0) (ages 65535 0 0 0) none))
    -- no firing, and the age outside the interval: 15 before 16; or the place full: 16 before 17
    ∷ does childrens_row opening first (end 0 0) (answers 15 (state (marks 1 0 0) none none))
    ∷ does childrens_row opening (state (marks 0 65535 0) none none) (end 0 1) (answers 16 (state (marks 0 65535 0) none none))
    -- a start and an end owed: 18 before 19
    ∷ does childrens_row opening (state (marks 1 0 0) (ages 0 0 0 1) none) tick (answers 18 (state (marks 1 0 0) (ages 0 0 0 1) none))
    -- weights above 1: a place one short; the count filled and nearly so
    ∷ does heavy opening (laden 1 0 0 0 0) (start 0) (falls_short 0 1 (laden 1 0 0 0 0))
    ∷ does heavy opening (laden 5 0 65534 0 0) (start 0) (answers 0 (laden 3 0 65535 0 0))
    ∷ does heavy opening (laden 5 0 65535 0 0) (start 0) (answers 14 (laden 5 0 65535 0 0))
    -- an end taken back, up to a filled count; one token short; with a filled count; both, 26 before 27; ends
    -- too late and too early, 15 before 26
    ∷ undoes heavy opening (laden 0 3 0 0 0) (end 0 2) (undone 0 (laden 0 0 0 0 1))
    ∷ undoes heavy opening (laden 0 3 0 0 65534) (end 0 2) (undone 0 (laden 0 0 0 0 65535))
    ∷ undoes heavy opening (laden 0 2 0 0 0) (end 0 2) (undone 26 (laden 0 2 0 0 0))
    ∷ undoes heavy opening (laden 0 3 0 0 65535) (end 0 2) (undone 27 (laden 0 3 0 0 65535))
    ∷ undoes heavy opening (laden 0 2 0 0 65535) (end 0 2) (undone 26 (laden 0 2 0 0 65535))
    ∷ undoes heavy opening (laden 0 2 0 0 0) (end 0 3) (undone 15 (laden 0 2 0 0 0))
    ∷ undoes childrens_row opening first (end 0 0) (undone 15 (state (marks 1 0 0) none none))
    -- the lowest of two places that lack tokens, after one that has just enough; and a run that ends where all three are short
    ∷ does threefold opening (trio 2 2 1 0) (start 0) (falls_short 1 2 (trio 2 2 1 0))
    ∷ runs threefold opening (trio 4 9 9 0) (start 0 ∷ start 0 ∷ start 0 ∷ []) (stops_short 0 2 2 0 begun (trio 0 1 1 2)) 2
    -- two firings that differ only in age
    ∷ runs heavy opening (laden 3 0 0 1 0) (start 0 ∷ tick ∷ end 0 1 ∷ []) (tells 0 3 3 1 opening (laden 1 3 0 0 1)) 2
    ∷ runs heavy opening (laden 3 0 0 1 0) (start 0 ∷ tick ∷ end 0 2 ∷ []) (tells 0 3 3 1 opening (laden 1 3 0 1 0)) 3
    -- a start while an end of age 2 is owed: 29; behind that end it is accepted. An owed end of age 0 is no bar to a start
    ∷ runs heavy opening (laden 2 0 0 0 1) (start 0 ∷ tick ∷ []) (tells 29 0 0 0 opening (laden 2 0 0 0 1)) 1
    ∷ runs heavy opening (laden 2 0 0 0 1) (end 0 2 ∷ start 0 ∷ []) (tells 0 2 2 0 begun (laden 0 3 1 0 0)) 3
    ∷ does childrens_row begun (state (marks 1 0 0) none (ages 1 0 0 0)) (start 0) (answers 0 (state (marks 0 0 0) (ages 1 0 0 0) (ages 1 0 0 0)))
    -- 29 where the owed end is another transition's, and where a start was made before; both taken back
    ∷ does childrens_row opening (state (marks 0 1 0) (ages 0 0 0 1) none) (start 1) (answers 29 (state (marks 0 1 0) (ages 0 0 0 1) none))
    ∷ does heavy begun (laden 2 0 0 0 1) (start 0) (answers 29 (laden 2 0 0 0 1))
    ∷ undoes childrens_row begun (state (marks 0 0 0) (ages 0 0 0 1) (ages 1 0 0 0)) (start 1) (undone 29 (state (marks 0 0 0) (ages 0 0 0 1) (ages 1 0 0 0)))
    -- behind a start an end of age 1: 28, and one of age 0: accepted; the same where the start is given, and not in the log
    ∷ runs heavy opening (laden 3 0 0 1 0) (start 0 ∷ end 0 1 ∷ []) (tells 28 1 1 0 begun (laden 1 0 1 1 0)) 3
    ∷ runs heavy opening (laden 3 0 0 1 0) (start 0 ∷ end 0 0 ∷ []) (tells 0 2 2 0 begun (laden 1 3 0 1 0)) 3
    ∷ does heavy begun (laden 0 0 0 1 0) (end 0 1) (answers 28 (laden 0 0 0 1 0))
    ∷ does heavy begun (laden 0 0 1 0 0) (end 0 0) (answers 0 (laden 0 3 0 0 0))
    -- a tick behind the start opens a step; an end does not set the fact; a refused event leaves it
    ∷ runs heavy begun (laden 0 0 0 1 0) (tick ∷ end 0 2 ∷ []) (tells 0 2 2 1 opening (laden 0 3 0 0 0)) 4
    ∷ runs heavy opening (laden 0 0 1 1 0) (end 0 0 ∷ end 0 1 ∷ []) (tells 0 2 2 0 opening (laden 0 6 0 0 0)) 4
    ∷ runs heavy begun (laden 0 0 0 1 0) (event.Malformed ∷ []) (tells 11 0 0 0 begun (laden 0 0 0 1 0)) 3
    -- 15 before 28, and 28 before 16; 13 before 29, and 29 before 14
    ∷ does heavy begun (laden 0 0 0 1 0) (end 0 3) (answers 15 (laden 0 0 0 1 0))
    ∷ does heavy begun (laden 0 0 0 0 0) (end 0 1) (answers 28 (laden 0 0 0 0 0))
    ∷ does heavy opening (laden 1 0 0 0 1) (start 0) (falls_short 0 1 (laden 1 0 0 0 1))
    ∷ does heavy opening (laden 2 0 65535 0 1) (start 0) (answers 29 (laden 2 0 65535 0 1))
    -- taken back: an end of age 2 behind a start, 28 before 26; a start while an end of age 2 was owed, 24 and 25 before 29
    ∷ undoes heavy begun (laden 0 2 0 0 0) (end 0 2) (undone 28 (laden 0 2 0 0 0))
    ∷ undoes heavy begun (laden 0 3 0 0 0) (end 0 0) (undone 0 (laden 0 0 1 0 0))
    ∷ undoes heavy begun (laden 0 2 0 0 0) (end 0 3) (undone 15 (laden 0 2 0 0 0))
    ∷ undoes heavy opening (laden 0 0 1 0 1) (start 0) (undone 29 (laden 0 0 1 0 1))
    ∷ undoes heavy opening (laden 65535 0 1 0 1) (start 0) (undone 25 (laden 65535 0 1 0 1))
    ∷ undoes heavy opening (laden 0 0 0 0 1) (start 0) (undone 24 (laden 0 0 0 0 1))
    -- walked back: the fact before an event is set by a start that is not walked, also one of no transition of the net, cleared by a tick that is
    -- not, kept by two bytes that are no event, and else the one given
    ∷ walks heavy opening (laden 0 3 0 0 0) (start 0 ∷ end 0 1 ∷ []) 1 (walked 28 1 0 0 (laden 0 3 0 0 0))
    ∷ walks heavy opening (laden 0 3 0 0 0) (start 63 ∷ end 0 1 ∷ []) 1 (walked 28 1 0 0 (laden 0 3 0 0 0))
    ∷ walks heavy opening (laden 0 3 0 0 0) (event.Malformed ∷ end 0 1 ∷ []) 1 (walked 0 1 1 0 (laden 0 0 0 1 0))
    ∷ walks heavy begun (laden 0 3 0 0 0) (event.Malformed ∷ end 0 1 ∷ []) 1 (walked 28 1 0 0 (laden 0 3 0 0 0))
    ∷ walks heavy begun (laden 0 3 0 0 0) (tick ∷ end 0 1 ∷ []) 1 (walked 0 1 1 0 (laden 0 0 0 1 0))
    ∷ walks heavy begun (laden 0 3 0 0 0) (end 0 1 ∷ []) 1 (walked 28 0 0 0 (laden 0 3 0 0 0))
    ∷ walks heavy begun (laden 0 6 0 0 0) (end 0 0 ∷ end 0 1 ∷ []) 2 (walked 28 1 0 0 (laden 0 6 0 0 0))
    -- walks: over all of a log, over its last event (K9) and its last two, over none, over more than it has; one that is refused at once, and
    -- one that is refused on its way
    ∷ walks childrens_row opening filled log 5 (walked 0 0 5 1 (state (marks 1 0 0) none none))
    ∷ walks childrens_row opening filled log 1 (walked 0 4 1 0 (state (marks 0 0 0) none (ages 1 0 0 0)))
    ∷ walks childrens_row opening filled log 2 (walked 0 3 2 0 (state (marks 0 1 0) none none))
    ∷ walks childrens_row opening filled log 0 (walked 0 5 0 0 filled)
    ∷ walks childrens_row opening filled log 6 (walked 22 0 0 0 filled)
    ∷ walks childrens_row opening first log 5 (walked 26 4 0 0 (state (marks 1 0 0) none none))
    ∷ walks childrens_row opening (state (marks 0 0 0) (ages 0 0 1 0) none) (start 1 ∷ start 0 ∷ tick ∷ []) 3 (walked 24 1 1 1 (loaded 0))
    -- degrees, and widths
    ∷ has_degree heavy (laden 5 0 0 0 0) 0 2
    ∷ has_degree heavy (laden 1 0 0 0 0) 0 0
    ∷ has_width childrens_row 4
    ∷ has_width slow_middle 5
    -- at rest; free to tick; an end owed; two starts owed; a start and an end owed
    ∷ owes childrens_row filled (0 ∷ 0 ∷ 64 ∷ 0 ∷ 0 ∷ 64 ∷ 4 ∷ [])
    ∷ owes childrens_row (loaded 0) (0 ∷ 0 ∷ 64 ∷ 0 ∷ 0 ∷ 64 ∷ 3 ∷ [])
    ∷ owes childrens_row (state (marks 0 0 0) none (ages 1 0 0 0)) (0 ∷ 0 ∷ 64 ∷ 1 ∷ 1 ∷ 1 ∷ 2 ∷ [])
    ∷ owes childrens_row (state (marks 1 1 0) none none) (2 ∷ 2 ∷ 0 ∷ 0 ∷ 0 ∷ 64 ∷ 1 ∷ [])
    ∷ owes heavy (laden 2 0 0 0 1) (1 ∷ 1 ∷ 0 ∷ 1 ∷ 1 ∷ 0 ∷ 1 ∷ [])
    ∷ []
