-- What menurun tells and leaves of its input: a net and then a log, run from the net's initial state (document 01, the program).
-- Assumes nothing.
use Rattle.std.specs.Prelude.{Bool, ◌&&◌, cond, false, List, ℕ, ◌+◌, ◌≤◌, eqb, leb, length, take, drop}
use Rattle.model.specs.Limits.{place_limit, transition_limit, duration_limit, event_limit}
use Rattle.forms.specs.Word.{byte, word32}
use Rattle.forms.specs.Places.{net_length, state_length, log_length}
use Rattle.model.specs.Answer.{nothing_short}
use Rattle.runs.specs.declared.told.RunTold.{RunTold}
use Rattle.engine.specs.declared.answers.Verdict.{Verdict}
use Rattle.engine.specs.Calls.{initial_told, initial_left, run_told, run_left, owed_told}
use Rattle.replay.specs.declared.input.Replayed.{Replayed}

-- WHERE THE NET ENDS

-- the longest lawful net
abbrev pub longest_net : ℕ
longest_net = net_length place_limit transition_limit

-- a program may stop reading behind so many bytes: the longest net, the longest log and a byte more (`CutOff` proves it)
abbrev pub enough : ℕ
enough = longest_net + log_length event_limit + 1

-- the longest state
abbrev pub longest_state : ℕ
longest_state = state_length place_limit transition_limit (duration_limit + 1)

-- the length field is whole, at most the longest lawful net's, and as many bytes arrived
unfoldable pub has_arrived : List ℕ → Bool
has_arrived input = leb 5 (length input) && (leb (word32 input 1) longest_net && leb (word32 input 1) (length input))

-- as many bytes as the length field says; else none, which is refused by 1
unfoldable pub net_length_in : List ℕ → ℕ
net_length_in input = cond (has_arrived input) (word32 input 1) 0

abbrev pub net_in : List ℕ → List ℕ
net_in input = take (net_length_in input) input

abbrev pub log_in : List ℕ → List ℕ
log_in input = drop (net_length_in input) input

-- WHAT IS TOLD

-- the last of the numbers that are told before the first event: the log's
abbrev pub last_early : ℕ
last_early = 10

-- 1 to 10
abbrev pub is_early : ℕ → Bool
is_early number = leb 1 number && leb number last_early

-- how the state stands, and 0 before the first event
unfoldable pub standing_after : ℕ → List ℕ → List ℕ → ℕ
standing_after number net state = cond (is_early number) 0 (owed_told net state).standing

abbrev pub with_standing : RunTold → ℕ → Replayed
with_standing told standing = record {
  number = told.number;
  index = told.index;
  done = told.done;
  ticks = told.ticks;
  standing = standing;
  short = told.short;
}

-- the log run from a state, with no start made before it
abbrev pub ran_on : List ℕ → List ℕ → List ℕ → Replayed
ran_on net state log =
    with_standing (run_told net state log false) (standing_after (run_told net state log false).number net (run_left net state log false))

-- no initial state could be made
abbrev pub not_begun : Verdict → Replayed
not_begun verdict = record { number = verdict.number; index = verdict.index; done = 0; ticks = 0; standing = 0; short = nothing_short }

-- there is an initial state, and room for it
abbrev pub is_begun : List ℕ → List ℕ → Bool
is_begun net state = eqb (initial_told net state).number 0

unfoldable pub replayed : List ℕ → List ℕ → Replayed
replayed input state =
    cond (is_begun (net_in input) state)
    (ran_on (net_in input) (initial_left (net_in input) state) (log_in input))
    (not_begun (initial_told (net_in input) state))

unfoldable pub replay_left : List ℕ → List ℕ → List ℕ
replay_left input state =
    cond (is_begun (net_in input) state)
    (run_left (net_in input) (initial_left (net_in input) state) (log_in input) false)
    (initial_left (net_in input) state)

-- WHAT IS SHOWN

-- a buffer with the head of a state, and as many bytes behind it as the head says: its markings and counts can be read
pub record Shown (b : List ℕ) : Type 0 where
  pub least : 8 ≤ length b
  pub room : state_length (byte b 5) (byte b 6) (byte b 7) ≤ length b
