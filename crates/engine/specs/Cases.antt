-- K1 to K12 of document 01 on bytes: each call on the children's row net, what it tells, and every byte that it leaves. Then document
-- 01's other examples of calls. The same cases without bytes are in the model's Cases.antt.
-- Assumes nothing.
use Rattle.std.specs.Prelude.{◌≡◌, true, false, List, [], ◌∷◌, ◌++◌, ℕ, length, set, replicate, take, drop}
use Rattle.forms.specs.Cases.{row_net, row_state, row_log}
use Rattle.runs.specs.declared.told.RunTold.{RunTold}
use Rattle.engine.specs.declared.answers.StepTold.{StepTold}
use Rattle.engine.specs.Said.{says, short_at, no_place, says_event, says_run, says_walk, says_degree, set_says, says_owed, says_step}
use Rattle.engine.specs.Calls.{net_told, state_told, initial_told, initial_left, event_told, event_left, back_told, back_left}
use Rattle.engine.specs.Calls.{degree_told, owed_told, run_told, run_left, walk_told, walk_left, step_told}

-- WHAT A CASE IS

-- Each begins with no start made.
-- the run call: the state's buffer, the log, what is told, the buffer left, and the standing of the state in that
-- the event call and the back call: the state's buffer, the event's two bytes, the number told, the buffer left
pub data Case : Type 0 where
  runs : List ℕ → List ℕ → RunTold → List ℕ → ℕ → Case
  does : List ℕ → ℕ → ℕ → ℕ → List ℕ → Case
  undoes : List ℕ → ℕ → ℕ → ℕ → List ℕ → Case

-- the call answers so, for the children's row net
abbrev pub Holds : Case → Type 0
Holds (runs state log told left standing) =
    (run_told row_net state log false ≡ told) × (run_left row_net state log false ≡ left) × ((owed_told row_net left).standing ≡ standing)
Holds (does state first second number left) =
    (event_told row_net state first second false ≡ says_event number 0 no_place) × (event_left row_net state first second false ≡ left)
Holds (undoes state first second number left) =
    (back_told row_net state first second false ≡ says number 0) × (back_left row_net state first second false ≡ left)

-- every case of a table holds
unfoldable pub AllHold : List Case → Type 0
AllHold [] = Unit {0}
AllHold (c ∷ cs) = Holds c × AllHold cs

-- BYTES

-- a state of the children's row net: its head, the markings of the three places, and the counts of either transition at ages 0 to 3.
-- Each of these numbers has two bytes
abbrev row_state_with : List ℕ → List ℕ → List ℕ → List ℕ
row_state_with marks counts₀ counts₁ = (0x01 ∷ 0x00 ∷ 0x00 ∷ 0x00 ∷ 0x1E ∷ 0x03 ∷ 0x02 ∷ 0x04 ∷ []) ++ marks ++ counts₀ ++ counts₁

abbrev marks : ℕ → ℕ → ℕ → ℕ → ℕ → ℕ → List ℕ
marks a b c d e f = a ∷ b ∷ c ∷ d ∷ e ∷ f ∷ []

abbrev counts : ℕ → ℕ → ℕ → ℕ → ℕ → ℕ → ℕ → ℕ → List ℕ
counts a b c d e f g h = a ∷ b ∷ c ∷ d ∷ e ∷ f ∷ g ∷ h ∷ []

abbrev no_marks : List ℕ
no_marks = marks 0x00 0x00 0x00 0x00 0x00 0x00

abbrev no_counts : List ℕ
no_counts = counts 0x00 0x00 0x00 0x00 0x00 0x00 0x00 0x00

-- one count at age 0, 1 or 3
abbrev at_age0 : List ℕ
at_age0 = counts 0x00 0x01 0x00 0x00 0x00 0x00 0x00 0x00

abbrev at_age1 : List ℕ
at_age1 = counts 0x00 0x00 0x00 0x01 0x00 0x00 0x00 0x00

abbrev at_age3 : List ℕ
at_age3 = counts 0x00 0x00 0x00 0x00 0x00 0x00 0x00 0x01

-- where K1 ends: marking 0, 0, 1, all counts 0
abbrev filled : List ℕ
filled = row_state_with (marks 0x00 0x00 0x00 0x00 0x00 0x01) no_counts no_counts

-- place 1 holds the number of two bytes, and transition 0 has one count at age 1
abbrev loaded : ℕ → ℕ → List ℕ
loaded high low = row_state_with (marks 0x00 0x00 high low 0x00 0x00) at_age1 no_counts

-- a log of so many bytes
abbrev log : ℕ → List ℕ → List ℕ
log long events = 0x01 ∷ 0x00 ∷ 0x00 ∷ 0x00 ∷ long ∷ events

-- what a longer buffer holds behind the state
abbrev bytes_behind : List ℕ
bytes_behind = 0xC0 ∷ 0xFF ∷ 0xEE ∷ []

-- THE TABLE

-- K1 to K12, in order
unfoldable pub cases : List Case
cases =
    runs row_state row_log (says_run 0 5 5 1 no_place true) filled 4
    ∷ runs row_state (log 0x07 (0x00 ∷ 0x00 ∷ [])) (says_run 18 0 0 0 no_place false) row_state 1
    -- the buffer is longer than the state
    ∷ runs (row_state ++ bytes_behind) (log 0x0D (0x01 ∷ 0x00 ∷ 0x00 ∷ 0x00 ∷ 0x00 ∷ 0x00 ∷ 0x00 ∷ 0x00 ∷ [])) (says_run 0 4 4 3 no_place false)
    (row_state_with no_marks at_age3 no_counts ++ bytes_behind) 2
    ∷ runs row_state (log 0x0F (0x01 ∷ 0x00 ∷ 0x00 ∷ 0x00 ∷ 0x00 ∷ 0x00 ∷ 0x00 ∷ 0x00 ∷ 0x00 ∷ 0x00 ∷ [])) (says_run 19 4 4 3 no_place false)
    (row_state_with no_marks at_age3 no_counts) 2
    ∷ runs row_state (log 0x09 (0x01 ∷ 0x00 ∷ 0x41 ∷ 0x00 ∷ [])) (says_run 15 1 1 0 no_place true) (row_state_with no_marks at_age0 no_counts) 3
    ∷ runs row_state (log 0x0B (0x01 ∷ 0x00 ∷ 0x00 ∷ 0x00 ∷ 0x41 ∷ 0x02 ∷ [])) (says_run 16 2 2 1 no_place false) (row_state_with no_marks at_age1 no_counts) 3
    ∷ runs row_state (log 0x0D (0x01 ∷ 0x00 ∷ 0x00 ∷ 0x00 ∷ 0x41 ∷ 0x01 ∷ 0x00 ∷ 0x00 ∷ [])) (says_run 18 3 3 1 no_place false)
    (row_state_with (marks 0x00 0x00 0x00 0x01 0x00 0x00) no_counts no_counts) 1
    ∷ runs row_state (log 0x11 (0x01 ∷ 0x00 ∷ 0x00 ∷ 0x00 ∷ 0x41 ∷ 0x01 ∷ 0x02 ∷ 0x00 ∷ 0x42 ∷ 0x00 ∷ 0x00 ∷ 0x00 ∷ [])) (says_run 20 5 5 1 no_place true)
    filled 4
    ∷ undoes filled 0x42 0x00 0 (row_state_with no_marks no_counts at_age0)
    ∷ undoes row_state 0x00 0x00 18 row_state
    ∷ does (loaded 0xFF 0xFE) 0x41 0x01 0 (row_state_with (marks 0x00 0x00 0xFF 0xFF 0x00 0x00) no_counts no_counts)
    ∷ does (loaded 0xFF 0xFF) 0x41 0x01 17 (loaded 0xFF 0xFF)
    ∷ []

-- there are twelve, and each is answered so
abbrev pub CasesHold : Type 0
CasesHold = (length cases ≡ 12) × AllHold cases

-- DOCUMENT 01'S OTHER EXAMPLES, and a few more of the calls that the table does not show

-- the part of the log that is told of
abbrev part_of : StepTold → List ℕ
part_of told = take told.length (drop told.start row_log)

-- transition 1, whose lfd is 0, has a count at age 1: 9, and the transition
abbrev overdue : List ℕ
overdue = row_state_with no_marks no_counts at_age1

-- place 0 holds 65,535, and transition 0 has one count at age 0
abbrev full_place0 : List ℕ
full_place0 = row_state_with (marks 0xFF 0xFF 0x00 0x00 0x00 0x00) at_age0 no_counts

-- a token in place 0, and a firing of transition 0 at age 3, its lfd; at age 1; and, the token taken, at ages 0 and 1
abbrev late_row : List ℕ
late_row = row_state_with (marks 0x00 0x01 0x00 0x00 0x00 0x00) at_age3 no_counts

abbrev early_row : List ℕ
early_row = row_state_with (marks 0x00 0x01 0x00 0x00 0x00 0x00) at_age1 no_counts

abbrev at_ages01 : List ℕ
at_ages01 = counts 0x00 0x01 0x00 0x01 0x00 0x00 0x00 0x00

-- a net whose transition 1 has lfd 64, and a log of version 2
abbrev long_net : List ℕ
long_net = set row_net 22 64

abbrev new_log : List ℕ
new_log = set row_log 0 2

-- a net whose transition 1 takes 9 tokens from place 1
abbrev dear_net : List ℕ
dear_net = set row_net 24 9

-- a net whose transition 0 takes 3 tokens from place 0 and 255 from place 2
abbrev greedy_net : List ℕ
greedy_net = set (set row_net 15 3) 17 255

-- a tick, a pair 0, 1, a tick
abbrev cut_log : List ℕ
cut_log = log 0x0B (0x00 ∷ 0x00 ∷ 0x00 ∷ 0x01 ∷ 0x00 ∷ 0x00 ∷ [])

pub record Further : Type 0 where
  -- the children's row net and its state are good
  pub good_net : net_told row_net ≡ says 0 0
  pub good_state : state_told row_net row_state ≡ says 0 0
  -- of several faults the first is told: of the net, and then of the state, and then of the log, and then 22
  pub net_first : (run_told long_net [] [] false ≡ says_run 4 1 0 0 no_place false) × (walk_told long_net [] [] 1 false ≡ says_walk 4 1 0 0)
  pub state_next : (run_told row_net overdue [] false ≡ says_run 9 1 0 0 no_place false) × (run_left row_net overdue [] false ≡ overdue)
  pub log_next : (run_told row_net row_state new_log false ≡ says_run 10 0 0 0 no_place false) × (run_left row_net row_state new_log false ≡ row_state)
  pub log_before_22 : (walk_told row_net filled new_log 6 false ≡ says_walk 10 0 0 0) × (walk_left row_net filled new_log 6 false ≡ filled)
  -- steps with no events, each at its own place; only the pair 0, 0 cuts
  pub empty_first : step_told cut_log 0 ≡ says_step 0 0 5 0
  pub uncut : step_told cut_log 1 ≡ says_step 0 0 7 2
  pub empty_last : step_told cut_log 2 ≡ says_step 0 0 11 0
  pub step_of_no_log : step_told new_log 0 ≡ says_step 10 0 0 0
  -- start 0 taken back with place 0 at 65,535 and one count at age 0: 25
  pub full_back : (back_told row_net full_place0 0x01 0x00 false ≡ says 25 0) × (back_left row_net full_place0 0x01 0x00 false ≡ full_place0)
  -- step 0 of the log is 01 00; step 1 is 41 01 02 00 42 00; step 2 is refused by 23
  pub step_0 : (step_told row_log 0 ≡ says_step 0 0 5 2) × (part_of (step_told row_log 0) ≡ 0x01 ∷ 0x00 ∷ [])
  pub step_1 : (step_told row_log 1 ≡ says_step 0 0 9 6) × (part_of (step_told row_log 1) ≡ 0x41 ∷ 0x01 ∷ 0x02 ∷ 0x00 ∷ 0x42 ∷ 0x00 ∷ [])
  pub step_2 : (step_told row_log 2 ≡ says_step 23 0 0 0) × (part_of (step_told row_log 2) ≡ [])
  -- lengths 0 and 6 as a net: 1
  pub no_net : net_told [] ≡ says 1 0
  pub short_net : net_told (0x01 ∷ 0x00 ∷ 0x00 ∷ 0x00 ∷ 0x06 ∷ 0x01 ∷ []) ≡ says 1 0
  -- a log of 5 bytes, length field 5: accepted, no events
  pub no_events : (run_told row_net row_state (log 0x05 []) false ≡ says_run 0 0 0 0 no_place false) × (run_left row_net row_state (log 0x05 []) false ≡ row_state)
  -- the initial state, over whatever the buffer held; and in a buffer one byte short
  pub initial : (initial_told row_net (replicate 30 0xAA ++ bytes_behind) ≡ says 0 0)
      × (initial_left row_net (replicate 30 0xAA ++ bytes_behind) ≡ row_state ++ bytes_behind)
  pub no_room : (initial_told row_net (replicate 29 0xAA) ≡ says 7 0) × (initial_left row_net (replicate 29 0xAA) ≡ replicate 29 0xAA)
  -- K1's log walked back whole, over its last two events, and over more than it has
  pub whole_back : (walk_told row_net filled row_log 5 false ≡ says_walk 0 0 5 1) × (walk_left row_net filled row_log 5 false ≡ row_state)
  pub two_back : (walk_told row_net filled row_log 2 false ≡ says_walk 0 3 2 0)
      × (walk_left row_net filled row_log 2 false ≡ row_state_with (marks 0x00 0x00 0x00 0x01 0x00 0x00) no_counts no_counts)
  pub six_back : (walk_told row_net filled row_log 6 false ≡ says_walk 22 0 0 0) × (walk_left row_net filled row_log 6 false ≡ filled)
  -- a walk that stops: the last event cannot have led to the initial state
  pub none_back : (walk_told row_net row_state row_log 5 false ≡ says_walk 26 4 0 0) × (walk_left row_net row_state row_log 5 false ≡ row_state)
  -- and on its way: start 1, a tick, walked back from where transition 0 has age 1. The tick is taken back, and start 1 left no firing
  pub one_back : (walk_told row_net (row_state_with no_marks at_age1 no_counts) (log 0x09 (0x02 ∷ 0x00 ∷ 0x00 ∷ 0x00 ∷ [])) 2 false ≡ says_walk 24 0 1 1)
      × (walk_left row_net (row_state_with no_marks at_age1 no_counts) (log 0x09 (0x02 ∷ 0x00 ∷ 0x00 ∷ 0x00 ∷ [])) 2 false ≡ row_state_with no_marks at_age0 no_counts)
  -- the children's row net with a second token in place 0 at tick 3, when the first load must end: 29, and behind that end it starts; behind a
  -- start the end comes too late, 28, done and taken back, and where the start is given by the caller
  pub old_end_first : (run_told row_net late_row (log 0x07 (0x01 ∷ 0x00 ∷ [])) false ≡ says_run 29 0 0 0 no_place false)
      × (run_left row_net late_row (log 0x07 (0x01 ∷ 0x00 ∷ [])) false ≡ late_row)
  pub then_the_start : run_told row_net late_row (log 0x09 (0x41 ∷ 0x03 ∷ 0x01 ∷ 0x00 ∷ [])) false ≡ says_run 0 2 2 0 no_place true
  pub old_end_late : (run_told row_net early_row (log 0x09 (0x01 ∷ 0x00 ∷ 0x41 ∷ 0x01 ∷ [])) false ≡ says_run 28 1 1 0 no_place true)
      × (run_left row_net early_row (log 0x09 (0x01 ∷ 0x00 ∷ 0x41 ∷ 0x01 ∷ [])) false ≡ row_state_with no_marks at_ages01 no_counts)
  pub late_given : event_told row_net early_row 0x41 0x01 true ≡ says_event 28 0 no_place
  pub late_back : (back_told row_net (row_state_with (marks 0x00 0x00 0x00 0x01 0x00 0x00) no_counts no_counts) 0x41 0x01 true ≡ says 28 0)
      × (back_told row_net (row_state_with (marks 0x00 0x00 0x00 0x01 0x00 0x00) no_counts no_counts) 0x41 0x01 false ≡ says 0 0)
  -- walked back: the start in front of the walked event sets the fact, a tick in front clears it, and else it is the given one
  pub set_in_front : walk_told row_net (row_state_with (marks 0x00 0x00 0x00 0x01 0x00 0x00) no_counts no_counts) (log 0x09 (0x01 ∷ 0x00 ∷ 0x41 ∷ 0x01 ∷ [])) 1 false
      ≡ says_walk 28 1 0 0
  pub cleared_in_front : walk_told row_net (row_state_with (marks 0x00 0x00 0x00 0x01 0x00 0x00) no_counts no_counts) (log 0x09 (0x00 ∷ 0x00 ∷ 0x41 ∷ 0x01 ∷ [])) 1 true
      ≡ says_walk 0 1 1 0
  pub given_in_front : walk_told row_net (row_state_with (marks 0x00 0x00 0x00 0x01 0x00 0x00) no_counts no_counts) (log 0x07 (0x41 ∷ 0x01 ∷ [])) 1 true
      ≡ says_walk 28 0 0 0
  -- neither 1, 1 nor 0, 1 in front is a start or a tick; 64, 0 is a start, of a transition that the net need not have
  pub kept_in_front : (walk_told row_net (row_state_with (marks 0x00 0x00 0x00 0x01 0x00 0x00) no_counts no_counts) (log 0x09 (0x01 ∷ 0x01 ∷ 0x41 ∷ 0x01 ∷ [])) 1 false ≡ says_walk 0 1 1 0)
      × (walk_told row_net (row_state_with (marks 0x00 0x00 0x00 0x01 0x00 0x00) no_counts no_counts) (log 0x09 (0x00 ∷ 0x01 ∷ 0x41 ∷ 0x01 ∷ [])) 1 true ≡ says_walk 28 1 0 0)
  pub unknown_in_front : walk_told row_net (row_state_with (marks 0x00 0x00 0x00 0x01 0x00 0x00) no_counts no_counts) (log 0x09 (0x40 ∷ 0x00 ∷ 0x41 ∷ 0x01 ∷ [])) 1 false ≡ says_walk 28 1 0 0
  -- a run that is refused by 10 tells no start, whatever was given
  pub no_fact : run_told row_net row_state new_log true ≡ says_run 10 0 0 0 no_place false
  -- a state with a count above its transition's lfd
  pub overdue_state : state_told row_net overdue ≡ says 9 1
  pub overdue_event : (event_told row_net overdue 0x00 0x00 false ≡ says_event 9 1 no_place) × (event_left row_net overdue 0x00 0x00 false ≡ overdue)
  -- start 1, which takes 9 tokens, finds none in place 1; and one, in a run that has done three events
  pub short_event : (event_told dear_net row_state 0x02 0x00 false ≡ says_event 13 0 (short_at 1 9)) × (event_left dear_net row_state 0x02 0x00 false ≡ row_state)
  pub short-run : (run_told dear_net row_state row_log false ≡ says_run 13 3 3 1 (short_at 1 8) false)
      × (run_left dear_net row_state row_log false ≡ row_state_with (marks 0x00 0x00 0x00 0x01 0x00 0x00) no_counts no_counts)
  -- transition 0 takes 3, 0 and 255: place 0 has 1 token, and so it is told and not place 2
  pub short_lowest : event_told greedy_net row_state 0x01 0x00 false ≡ says_event 13 0 (short_at 0 2)
  -- with 3 tokens there, place 2 is told
  pub short_last : event_told greedy_net (row_state_with (marks 0x00 0x03 0x00 0x00 0x00 0x00) no_counts no_counts) 0x01 0x00 false
      ≡ says_event 13 0 (short_at 2 255)
  -- the degrees in the initial state, of a third transition, and in no state
  pub degree_0 : degree_told row_net row_state 0 ≡ says_degree 0 0 1
  pub degree_1 : degree_told row_net row_state 1 ≡ says_degree 0 0 0
  pub degree_2 : degree_told row_net row_state 2 ≡ says_degree 12 0 0
  pub degree_none : degree_told row_net [] 2 ≡ says_degree 8 0 0
  pub degree_overdue : degree_told row_net overdue 2 ≡ says_degree 9 1 0
  -- what is owed: the start of transition 0; the end of transition 1; and in no state
  pub start_owed : owed_told row_net row_state ≡ says_owed 0 0 (set_says 1 1 0) (set_says 0 0 64) 1
  pub end_owed : owed_told row_net (row_state_with no_marks no_counts at_age0) ≡ says_owed 0 0 (set_says 0 0 64) (set_says 2 1 1) 2
  pub owed_none : owed_told row_net overdue ≡ says_owed 9 1 (set_says 0 0 0) (set_says 0 0 0) 0
