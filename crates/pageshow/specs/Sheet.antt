-- What menupage prints: the line of the stop, and behind it menurun's lines.
-- Assumes nothing.
use Rattle.std.specs.Prelude.{◌≡◌, Option, codes, List, [], ◌∷◌, ◌++◌, ℕ, ◌≤◌, length, take}
use Rattle.model.specs.Limits.{event_limit}
use Rattle.forms.specs.Places.{log_length}
use Rattle.text.specs.Lines.{line_most, Line}
use Rattle.replay.specs.declared.input.Replayed.{Replayed}
use Rattle.replay.specs.Replayed.{replayed, replay_left}
use Rattle.replay.specs.Lines.{cells_shown, Reads, FirstSheet}
use Rattle.pageshow.specs.declared.sheet.Output.{Output}
use Rattle.pageshow.specs.Built.{net_alone, built, built_state, built_log}

-- THE FIRST LINE: `stop`, and its number

abbrev pub stop_name : List ℕ
stop_name = codes "stop"

abbrev pub stop_most : ℕ
stop_most = line_most 4 1

abbrev pub longest_log : ℕ
longest_log = log_length event_limit

-- the first buffer that is written: the line of the stop, and then what menurun prints where this is told and left
pub record PageSheet (before : List ℕ) (stop : ℕ) (told : Replayed) (state after : List ℕ) (end : ℕ) (next : Option ℕ) : Type 0 where
  pub headed : List ℕ
  pub behind : ℕ
  pub stop_line : Line before 0 stop_name (stop ∷ []) [] headed behind
  pub others : FirstSheet headed behind told state after end next

-- THE WHOLE: the page of the net in the input, in the buffers and in the lines

pub record Shows (input : List ℕ) (budget : ℕ) (state log before : List ℕ) (r : Output) (state' log' after : List ℕ) : Type 0 where
  pub lines : PageSheet before (built (net_alone input) state log budget).stop (built (net_alone input) state log budget).told state' after
      r.sheet.end r.sheet.next
  pub cells_are : r.sheet.cells ≡ cells_shown (built (net_alone input) state log budget).told.number state'
  pub log_is : r.log ≡ (built (net_alone input) state log budget).log
  pub state-left : state' ≡ built_state (net_alone input) state log budget
  pub log-left : log' ≡ built_log (net_alone input) state log budget

-- what is to be written lies within its buffer
abbrev pub InBuffers : Output → List ℕ → List ℕ → List ℕ → Type 0
InBuffers r state' log' after =
    (r.log ≤ length log') × (r.sheet.end ≤ length after) × Reads state' r.sheet.cells

-- where there is a page, the lines behind the first are in this buffer those that menurun prints of the net and the log that was written; and
-- the state is the one that menurun leaves, so that the next buffers have the rest of them
abbrev pub AsMenurun : List ℕ → ℕ → List ℕ → List ℕ → List ℕ → Output → List ℕ → List ℕ → List ℕ → Type 0
AsMenurun input budget state log before r state' log' after =
    (built (net_alone input) state log budget).told.number ≡ 0
    → PageSheet before (built (net_alone input) state log budget).stop
    (replayed (net_alone input ++ take r.log log') state) (replay_left (net_alone input ++ take r.log log') state)
    after r.sheet.end r.sheet.next
    × (state' ≡ replay_left (net_alone input ++ take r.log log') state)
