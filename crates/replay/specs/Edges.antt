-- What menurun tells of inputs that a reader can compare with document 01, the bounds of what is read, and lines byte by byte.
-- Assumes nothing.
use Rattle.std.specs.Prelude.{◌≡◌, Some, None, codes, List, [], ◌∷◌, ◌++◌, ℕ, take, set, replicate}
use Rattle.forms.specs.Cases.{row_net, row_state, row_log}
use Rattle.text.specs.Lines.{Line}
use Rattle.replay.specs.declared.input.Replayed.{Replayed}
use Rattle.replay.specs.Replayed.{longest_net, enough, longest_state, replayed, replay_left}
use Rattle.replay.specs.Lines.{result_name, result_fields, marks_name, marks_fields, Opens, cells_in, cells_shown, next_running, RunLines}

-- the first line that menurun prints, in its order
abbrev pub result : ℕ → ℕ → ℕ → ℕ → ℕ → ℕ → ℕ → Replayed
result number index done ticks standing place lacks = record {
  number = number;
  index = index;
  done = done;
  ticks = ticks;
  standing = standing;
  short = record { place = place; lacks = lacks };
}

-- refused before the first event
abbrev pub refused_by : ℕ → Replayed
refused_by number = result number 0 0 0 0 0 0

-- a log of so many bytes
abbrev pub log : ℕ → List ℕ → List ℕ
log long events = 0x01 ∷ 0x00 ∷ 0x00 ∷ 0x00 ∷ long ∷ events

-- a buffer of n bytes
abbrev pub zeros : ℕ → List ℕ
zeros n = replicate n 0

-- the document's state when K1's log was run: marking 0, 0, 1, all counts 0
abbrev pub is_at_rest : List ℕ
is_at_rest = (0x01 ∷ 0x00 ∷ 0x00 ∷ 0x00 ∷ 0x1E ∷ 0x03 ∷ 0x02 ∷ 0x04 ∷ 0x00 ∷ 0x00 ∷ 0x00 ∷ 0x00 ∷ 0x00 ∷ 0x01 ∷ []) ++ replicate 16 0x00

pub record Edges : Type 0 where
  pub longest : longest_net ≡ 8455
  pub read_enough : enough ≡ 56461
  pub longest-state : longest_state ≡ 8328
  -- K1
  pub whole : replayed (row_net ++ row_log) (zeros 30) ≡ result 0 5 5 1 4 0 0
  pub left : replay_left (row_net ++ row_log) (zeros 30) ≡ is_at_rest
  -- K2, a tick first: the initial state is left, and stands so
  pub tick_first : replayed (row_net ++ log 0x07 (0x00 ∷ 0x00 ∷ [])) (zeros 30) ≡ result 18 0 0 0 1 0 0
  pub tick_left : replay_left (row_net ++ log 0x07 (0x00 ∷ 0x00 ∷ [])) (zeros 30) ≡ row_state
  -- K6, start 0, tick, end 0 at age 2: 16, and transition 0 runs at age 1
  pub no_end : replayed (row_net ++ log 0x0B (0x01 ∷ 0x00 ∷ 0x00 ∷ 0x00 ∷ 0x41 ∷ 0x02 ∷ [])) (zeros 30) ≡ result 16 2 2 1 3 0 0
  pub end_left : replay_left (row_net ++ log 0x0B (0x01 ∷ 0x00 ∷ 0x00 ∷ 0x00 ∷ 0x41 ∷ 0x02 ∷ [])) (zeros 30) ≡ set (set row_state 9 0) 17 1
  -- start 1 first, which takes 9 tokens: place 1 has none
  pub short_first : replayed (set row_net 24 9 ++ log 0x07 (0x02 ∷ 0x00 ∷ [])) (zeros 30) ≡ result 13 0 0 0 1 1 9
  pub short_left : replay_left (set row_net 24 9 ++ log 0x07 (0x02 ∷ 0x00 ∷ [])) (zeros 30) ≡ row_state
  -- a malformed event
  pub malformed : replayed (row_net ++ log 0x07 (0x81 ∷ 0x00 ∷ [])) (zeros 30) ≡ result 11 0 0 0 1 0 0
  -- transition 1 has lfd 64
  pub interval : replayed (set row_net 22 64 ++ row_log) (zeros 30) ≡ result 4 1 0 0 0 0 0
  pub no_room : replayed (row_net ++ row_log) (zeros 29) ≡ refused_by 7
  pub nothing : replayed [] (zeros 30) ≡ refused_by 1
  pub four_bytes : replayed (take 4 row_net) (zeros 30) ≡ refused_by 1
  pub cut_net : replayed (take 28 row_net) (zeros 30) ≡ refused_by 1
  pub no_log : replayed row_net (zeros 30) ≡ refused_by 10
  pub cut-log : replayed (row_net ++ take 14 row_log) (zeros 30) ≡ refused_by 10
  -- a field of 8,456, over the longest
  pub over_long : replayed (set (set row_net 3 0x21) 4 0x08 ++ replicate 8427 0) (zeros 30) ≡ refused_by 1
  -- a field of 8,455, the longest: the bytes arrive, and their number is not the formula's
  pub as_long : replayed (set (set row_net 3 0x21) 4 0x07 ++ replicate 8426 0) (zeros 30) ≡ refused_by 3
  -- a net of no places, refused by 2 behind a whole frame
  pub no_places : replayed (set row_net 5 0 ++ row_log) (zeros 30) ≡ refused_by 2

-- LINES

abbrev pub result_text : List ℕ
result_text = codes "result 13 7 2 1 3 6 5\n"

abbrev pub early_text : List ℕ
early_text = codes "result 10 0 0 0 0 0 0\n"

abbrev pub marks_text : List ℕ
marks_text = codes "marks 0 0 1\n"

abbrev pub older_text : List ℕ
older_text = codes "run 0 3 2\n"

abbrev pub fresher_text : List ℕ
fresher_text = codes "run 1 0 300\n"

-- the document's initial state, with 2 firings of transition 0 of age 3, and 300 of transition 1 of age 0
abbrev pub two_running : List ℕ
two_running = set (set (set row_state 21 2) 22 1) 23 44

pub record LineEdges : Type 0 where
  -- each field of the result has its own place
  pub result_line : Line (zeros 24) 0 result_name (result_fields (result 13 7 2 1 3 6 5)) [] (result_text ++ zeros 2) 22
  pub marks_line : Line (zeros 14) 1 marks_name (marks_fields is_at_rest) [] (0 ∷ marks_text ++ zeros 1) 13
  -- for 10 only the first line, and no count is looked at; else the markings too, and every count
  pub alone : Opens (zeros 24) 0 (refused_by 10) row_state (early_text ++ zeros 2) 22
  pub both : Opens (zeros 38) 0 (result 13 7 2 1 3 6 5) is_at_rest (result_text ++ marks_text ++ zeros 4) 34
  pub no_cells : cells_shown 10 two_running ≡ 0
  pub all_cells : (cells_shown 0 two_running ≡ 8) × (cells_shown 11 two_running ≡ 8)
  -- transition first, age second; and where the room ends, the cell to come
  pub first_cell : next_running two_running 8 0 ≡ Some 3
  pub second_cell : next_running two_running 8 4 ≡ Some 4
  pub no_more_cells : next_running two_running 8 5 ≡ None
  pub two_lines : RunLines two_running (cells_in two_running) (zeros 80) 0 (Some 3) (older_text ++ fresher_text ++ zeros 58) 22 None
  pub one_line : RunLines two_running (cells_in two_running) (zeros 76) 0 (Some 3) (older_text ++ zeros 66) 10 (Some 4)
