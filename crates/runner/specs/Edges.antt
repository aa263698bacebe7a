-- The runner's call on bytes: the children's row net and its initial state, in buffers of several lengths and with several budgets.
-- Assumes nothing.
use Rattle.std.specs.Prelude.{◌≡◌, List, [], ◌∷◌, ◌++◌, ℕ, replicate, set}
use Rattle.forms.specs.Cases.{row_net, row_state}
use Rattle.runner.specs.declared.call.PageTold.{PageTold}
use Rattle.runner.specs.Logged.{room_of}
use Rattle.runner.specs.Call.{page_told, state_left, log_left}
use Rattle.runner.specs.Promised.{says_page}

-- a buffer of so many bytes, each of them 7
abbrev buffer : ℕ → List ℕ
buffer n = replicate n 0x07

-- a page from this state into a buffer of so many bytes, with this budget: what is told, and both buffers
abbrev Pages : List ℕ → ℕ → ℕ → PageTold → List ℕ → List ℕ → Type 0
Pages state bytes budget told state' log' =
    (page_told row_net state (buffer bytes) budget ≡ told)
    × (state_left row_net state (buffer bytes) budget ≡ state')
    × (log_left row_net state (buffer bytes) budget ≡ log')

-- byte 9 is the low byte of place 0, byte 13 that of place 2, bytes 14 and 15 are the count of transition 0 at age 0
abbrev filled : List ℕ
filled = set (set row_state 9 0x00) 13 0x01

abbrev begun : List ℕ
begun = set (set row_state 9 0x00) 15 0x01

-- a count at 65,535; and place 1 (bytes 10 and 11) at 65,535 with an end of transition 0 owed (byte 21, age 3)
abbrev crowded : List ℕ
crowded = set (set row_state 14 0xFF) 15 0xFF

abbrev brimming : List ℕ
brimming = set (set (set row_state 10 0xFF) 11 0xFF) 21 0x01

abbrev empty_log : List ℕ
empty_log = 0x01 ∷ 0x00 ∷ 0x00 ∷ 0x00 ∷ 0x05 ∷ []

pub record PagesOnBytes : Type 0 where
  -- start 0, three ticks, end 0 at age 3, start 1, end 1, rest; one byte stands behind the log
  pub whole : Pages row_state 20 24000 (says_page 0 0 1 7 3) filled
      (0x01 ∷ 0x00 ∷ 0x00 ∷ 0x00 ∷ 0x13 ∷ 0x01 ∷ 0x00 ∷ 0x00 ∷ 0x00 ∷ 0x00 ∷ 0x00 ∷ 0x00 ∷ 0x00 ∷ 0x41 ∷ 0x03 ∷ 0x02 ∷ 0x00 ∷ 0x42 ∷ 0x00 ∷ 0x07 ∷ [])
  pub no_budget : Pages row_state 9 0 (says_page 0 0 2 0 0) row_state (empty_log ++ buffer 4)
  pub four_bytes : Pages row_state 4 9 (says_page 10 0 0 0 0) row_state (buffer 4)
  pub five_bytes : Pages row_state 5 9 (says_page 0 0 3 0 0) row_state empty_log
  pub six_bytes : Pages row_state 6 9 (says_page 0 0 3 0 0) row_state (empty_log ++ buffer 1)
  pub seven_bytes : Pages row_state 7 9 (says_page 0 0 3 1 0) begun (0x01 ∷ 0x00 ∷ 0x00 ∷ 0x00 ∷ 0x07 ∷ 0x01 ∷ 0x00 ∷ [])
  pub count_full : Pages crowded 9 9 (says_page 0 0 4 0 0) crowded (empty_log ++ buffer 4)
  pub place_full : Pages brimming 9 9 (says_page 0 0 5 0 0) brimming (empty_log ++ buffer 4)
  -- rest is told first
  pub at_rest : Pages filled 5 0 (says_page 0 0 1 0 0) filled empty_log
  -- a faulty state is told before a short buffer
  pub no_state : Pages (set row_state 7 0x05) 4 9 (says_page 8 0 0 0 0) (set row_state 7 0x05) (buffer 4)
  -- transition 1 has a count above its lfd: the index tells it
  pub past_lfd : Pages (set row_state 25 0x01) 9 9 (says_page 9 1 0 0 0) (set row_state 25 0x01) (buffer 9)
  -- the bytes behind the state are as they were
  pub longer_state : Pages (row_state ++ buffer 3) 5 9 (says_page 0 0 3 0 0) (row_state ++ buffer 3) empty_log
  -- the longest log has 24,000 events, however long its buffer is
  pub rooms : (room_of 48004 ≡ 23999) × (room_of 48005 ≡ 24000) × (room_of 48007 ≡ 24000) × (room_of 100000 ≡ 24000)
