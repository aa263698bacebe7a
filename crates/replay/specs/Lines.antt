-- What menurun prints (document 01, the program): the numbers of each line, which lines there are, and in which order.
-- Assumes nothing.
use Rattle.std.specs.Prelude.{◌≡◌, true, false, cond, Option, Some, None, List, [], ◌∷◌, ℕ, ◌+◌, ◌-◌, ◌*◌, ◌/◌, ◌%◌, ◌<◌, ◌≤◌, nat_lt, length, codes, find}
use Rattle.std.specs.List.{range_with_len}
use Rattle.model.specs.declared.age.Age.{Age}
use Rattle.model.specs.declared.net.Net.{Net as Shape}
use Rattle.model.specs.Age.{column_of}
use Rattle.model.specs.Limits.{shape_of}
use Rattle.model.specs.Tab.{tab}
use Rattle.model.specs.Net.{Net, width, tokens, count}
use Rattle.forms.specs.Word.{byte, word}
use Rattle.forms.specs.Places.{mark_at, count_at}
use Rattle.forms.specs.Stored.{state_of}
use Rattle.text.specs.Lines.{line_most, Line}
use Rattle.replay.specs.declared.input.Replayed.{Replayed}
use Rattle.replay.specs.Replayed.{is_early, Shown}

-- where the number is not early, there is a state to show
abbrev pub LateShown : ℕ → List ℕ → Type 0
LateShown number state = is_early number ≡ false → Shown state

-- HOW LONG THE LINES ARE AT MOST, by the length of the name and how many numbers there are

abbrev pub result_most : ℕ
result_most = line_most 6 7

-- a field for each place, and the byte that says how many there are is at most 255
abbrev pub marks_most : ℕ
marks_most = line_most 5 255

abbrev pub run_most : ℕ
run_most = line_most 3 3

-- the first two lines are put into the buffer without a look at the room that is left
abbrev pub least_buffer : ℕ
least_buffer = result_most + marks_most

-- THE FIRST LINE: `result`, and number, index, events done, ticks, standing, the place that is short, the shortage

abbrev pub result_name : List ℕ
result_name = codes "result"

abbrev pub result_fields : Replayed → List ℕ
result_fields told =
    told.number ∷ told.index ∷ told.done ∷ told.ticks ∷ told.standing ∷ told.short.place ∷ told.short.lacks ∷ []

-- THE SECOND: `marks`, and the markings, place by place

abbrev pub marks_name : List ℕ
marks_name = codes "marks"

abbrev pub marks_fields : List ℕ → List ℕ
marks_fields state = tab (byte state 5) (λ p. word state (mark_at p))

-- the two stand from `at` to `end`; for 1 to 10 only the first
pub data Opens (before : List ℕ) (at : ℕ) (told : Replayed) (state after : List ℕ) (end : ℕ) : Type 0 where
  alone : is_early told.number ≡ true → Line before at result_name (result_fields told) [] after end → Opens before at told state after end
  both : {between : List ℕ} {next : ℕ} → is_early told.number ≡ false → Line before at result_name (result_fields told) [] between next
      → Line between next marks_name (marks_fields state) [] after end → Opens before at told state after end

-- THE OTHERS: `run`, and transition, age, count

abbrev pub run_name : List ℕ
run_name = codes "run"

abbrev pub shape_in : List ℕ → Shape
shape_in state = shape_of (byte state 5) (byte state 6) (byte state 7)

-- the counts are numbered as they stand, row by row: transition first, age second
abbrev pub cells_in : List ℕ → ℕ
cells_in state = byte state 6 * byte state 7

abbrev pub transition_of : List ℕ → ℕ → ℕ
transition_of state cell = cell / byte state 7

abbrev pub aged_of : List ℕ → ℕ → Age
aged_of state cell = record { 0 = cell % byte state 7 }

unfoldable pub count_of : List ℕ → ℕ → ℕ
count_of state cell =
    word state (count_at (byte state 5) (byte state 7) (transition_of state cell) (column_of (aged_of state cell)))

abbrev pub run_fields : ℕ → Age → ℕ → List ℕ
run_fields t age count = t ∷ age.0 ∷ count ∷ []

abbrev pub cell_fields : List ℕ → ℕ → List ℕ
cell_fields state cell = run_fields (transition_of state cell) (aged_of state cell) (count_of state cell)

-- of a state's bytes these are its markings, place by place, and each of its counts with transition and age
pub record ShowsState (N : Net) (b : List ℕ) : Type 0 where
  pub marks_are : marks_fields b ≡ tab N.places (tokens (state_of N b))
  pub cells_are : cells_in b ≡ N.transitions * width N
  pub fields_are : (t j : ℕ) → t < N.transitions → j < width N
      → cell_fields b (t * width N + j) ≡ t ∷ j ∷ count (state_of N b) t j ∷ []

-- how many counts are looked at: for 1 to 10 none
abbrev pub cells_shown : ℕ → List ℕ → ℕ
cells_shown number state = cond (is_early number) 0 (cells_in state)

-- the first of so many cells, from `from` on, whose count is above 0
unfoldable pub next_running : List ℕ → ℕ → ℕ → Option ℕ
next_running state cells from = find (λ cell. nat_lt 0 (count_of state cell)) (range_with_len from (cells - from))

-- the line of this cell and of each next one, one behind the other while there is room for the longest line, stand from `at` to `end`; `next` is
-- the cell whose line is to come, if any; all else is as before
pub data RunLines (state : List ℕ) (cells : ℕ) : List ℕ → ℕ → Option ℕ → List ℕ → ℕ → Option ℕ → Type 0 where
  over : {b : List ℕ} {at : ℕ} → RunLines state cells b at None b at None
  full : {b : List ℕ} {at cell : ℕ} → length b < at + run_most → RunLines state cells b at (Some cell) b at (Some cell)
  more : {b b₁ b' : List ℕ} {at at₁ end cell : ℕ} {next : Option ℕ} → at + run_most ≤ length b
      → Line b at run_name (cell_fields state cell) [] b₁ at₁ → RunLines state cells b₁ at₁ (next_running state cells (cell + 1)) b' end next
      → RunLines state cells b at (Some cell) b' end next

-- so many cells can be read: none, or those of a state that can be shown
pub data Reads (state : List ℕ) : ℕ → Type 0 where
  nothing : Reads state 0
  whole : Shown state → Reads state (cells_in state)

-- the first buffer that is written: from `at` on the opening, and behind it the lines of the counts as far as there is room
pub record FirstSheet (before : List ℕ) (at : ℕ) (told : Replayed) (state after : List ℕ) (end : ℕ) (next : Option ℕ) : Type 0 where
  pub opened : List ℕ
  pub behind : ℕ
  pub opens : Opens before at told state opened behind
  pub counts : RunLines state (cells_shown told.number state) opened behind (next_running state (cells_shown told.number state) 0) after end next

-- the buffers that are written after it: each has at its front the lines of the counts that were to come, as far as there is room; `after` is
-- the last of them, and there is none where no cell was to come
pub data Sheets (state : List ℕ) (cells : ℕ) : List ℕ → Option ℕ → List ℕ → Type 0 where
  last : {b : List ℕ} → Sheets state cells b None b
  more : {b b₁ after : List ℕ} {cell end : ℕ} {next : Option ℕ} → RunLines state cells b 0 (next_running state cells cell) b₁ end next
      → Sheets state cells b₁ next after → Sheets state cells b (Some cell) after

-- and where not all of them were written: `now` is one of them, or the first
pub data SheetsSoFar (state : List ℕ) (cells : ℕ) : List ℕ → Option ℕ → List ℕ → Type 0 where
  here : {b : List ℕ} {next : Option ℕ} → SheetsSoFar state cells b next b
  further : {b b₁ now : List ℕ} {cell end : ℕ} {next : Option ℕ} → RunLines state cells b 0 (next_running state cells cell) b₁ end next
      → SheetsSoFar state cells b₁ next now → SheetsSoFar state cells b (Some cell) now
