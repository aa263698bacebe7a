-- What menupage's arguments ask for, what it tells of the children's row net, whole, cut and with a byte more, and a line byte by byte.
-- Assumes nothing.
use Rattle.std.specs.Prelude.{◌≡◌, true, false, Some, None, codes, List, [], ◌∷◌, ◌++◌, ℕ, take, set, replicate}
use Rattle.forms.specs.Cases.{row_net, row_state}
use Rattle.text.specs.Lines.{Line}
use Rattle.replay.specs.declared.input.Replayed.{Replayed}
use Rattle.replay.specs.Edges.{result, refused_by, zeros, is_at_rest}
use Rattle.pageshow.specs.declared.arguments.Word.TheVariants as word
use Rattle.pageshow.specs.declared.build.Built.{Built}
use Rattle.pageshow.specs.Arguments.{log_word, word_says, wishes, asks}
use Rattle.pageshow.specs.Built.{enough, net_alone, built, built_state, built_log}
use Rattle.pageshow.specs.Sheet.{stop_name, longest_log}

-- WORDS

abbrev pub leading_zeros : List ℕ
leading_zeros = codes "0042"

abbrev pub most_word : List ℕ
most_word = codes "4294967295"

abbrev pub past_word : List ℕ
past_word = codes "4294967296"

pub record WordEdges : Type 0 where
  pub zeros_lead : word_says leading_zeros ≡ Some (word.Budget 42)
  pub most : word_says most_word ≡ Some (word.Budget 4294967295)
  pub past_most : word_says past_word ≡ None
  pub ten_zeros : word_says (replicate 10 48) ≡ Some (word.Budget 0)
  pub eleven_zeros : word_says (replicate 11 48) ≡ None
  pub no_bytes : word_says [] ≡ None
  -- `/` is the byte before `0`, and `:` the byte behind `9`; a blank before a digit
  pub slash : word_says (codes "/") ≡ None
  pub colon : word_says (codes "9:") ≡ None
  pub blank_first : word_says (codes " 1") ≡ None
  pub plus_first : word_says (codes "+1") ≡ None
  pub log_is : word_says log_word ≡ Some word.Log
  pub log_cut : word_says (take 4 log_word) ≡ None
  pub log_longer : word_says (codes "--log=") ≡ None
  -- none, one, two in both orders, one of them twice, three
  pub none : asks 0 most_word most_word ≡ wishes false 24000
  pub log_alone : asks 1 log_word [] ≡ wishes true 24000
  pub budget_alone : asks 1 leading_zeros log_word ≡ wishes false 42
  pub log_first : asks 2 log_word leading_zeros ≡ wishes true 42
  pub budget_first : asks 2 leading_zeros log_word ≡ wishes true 42
  pub log_twice : asks 2 log_word log_word ≡ None
  pub budget_twice : asks 2 leading_zeros leading_zeros ≡ None
  pub empty_first : asks 2 [] leading_zeros ≡ None
  pub three : asks 3 log_word leading_zeros ≡ None

-- PAGES

abbrev pub tells : ℕ → ℕ → Replayed → Built
tells stop log told = record { stop = stop; log = log; told = told }

-- the page of these bytes in buffers of 30 and 20 bytes: what is told, and both buffers
abbrev Builds : List ℕ → ℕ → Built → List ℕ → List ℕ → Type 0
Builds input budget told state' log' =
    (built (net_alone input) (zeros 30) (zeros 20) budget ≡ told)
    × (built_state (net_alone input) (zeros 30) (zeros 20) budget ≡ state')
    × (built_log (net_alone input) (zeros 30) (zeros 20) budget ≡ log')

-- refused by this number, and nothing is written
abbrev Refuses : List ℕ → ℕ → Type 0
Refuses input number = Builds input 24000 (tells 0 0 (refused_by number)) (zeros 30) (zeros 20)

abbrev pub stop_text : List ℕ
stop_text = codes "stop 2\n"

pub record PageEdges : Type 0 where
  pub read_enough : enough ≡ 8456
  pub longest-log : longest_log ≡ 48005
  -- start 0, three ticks, end 0 at age 3, start 1, end 1, rest; one byte stands behind the log
  pub whole : Builds row_net 24000 (tells 1 19 (result 0 7 7 3 4 0 0)) is_at_rest
      (0x01 ∷ 0x00 ∷ 0x00 ∷ 0x00 ∷ 0x13 ∷ 0x01 ∷ 0x00 ∷ 0x00 ∷ 0x00 ∷ 0x00 ∷ 0x00 ∷ 0x00 ∷ 0x00 ∷ 0x41 ∷ 0x03 ∷ 0x02 ∷ 0x00 ∷ 0x42 ∷ 0x00 ∷ 0x00 ∷ [])
  pub no_budget : Builds row_net 0 (tells 2 5 (result 0 0 0 0 1 0 0)) row_state ((0x01 ∷ 0x00 ∷ 0x00 ∷ 0x00 ∷ 0x05 ∷ []) ++ zeros 15)
  -- transition 0 runs at age 0: byte 15 of the state
  pub one_event : Builds row_net 1 (tells 2 7 (result 0 1 1 0 3 0 0)) (set (set row_state 9 0) 15 1)
      ((0x01 ∷ 0x00 ∷ 0x00 ∷ 0x00 ∷ 0x07 ∷ 0x01 ∷ 0x00 ∷ []) ++ zeros 13)
  pub nothing : Refuses [] 1
  pub four_bytes : Refuses (take 4 row_net) 1
  pub cut_net : Refuses (take 28 row_net) 1
  pub byte_behind : Refuses (row_net ++ (0x00 ∷ [])) 1
  -- transition 1 has lfd 64: the index tells it
  pub interval : Builds (set row_net 22 64) 24000 (tells 0 0 (result 4 1 0 0 0 0 0)) (zeros 30) (zeros 20)
  pub no_places : Refuses (set row_net 5 0) 2
  -- a field of 8,456, over the longest, and as many bytes; and one of 8,455
  pub over_long : Refuses (set (set row_net 3 0x21) 4 0x08 ++ replicate 8427 0) 1
  pub as_long : Refuses (set (set row_net 3 0x21) 4 0x07 ++ replicate 8426 0) 3
  pub stop_line : Line (zeros 9) 0 stop_name (2 ∷ []) [] (stop_text ++ zeros 2) 7
