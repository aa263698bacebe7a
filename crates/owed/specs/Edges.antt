-- What is owed, told of bytes that a reader can compare with document 01: the children's row net with its initial state, and that state
-- with a byte or two changed.
-- Assumes nothing.
use Rattle.std.specs.Prelude.{◌≡◌, true, false, List, ℕ, eqb, set}
use Rattle.model.specs.declared.answer.Standing.{Standing}
use Rattle.model.specs.declared.answer.Standing.TheVariants as standing
use Rattle.model.specs.Rules.{degree}
use Rattle.model.specs.Cases.{childrens_row}
use Rattle.forms.specs.Stored.{state_of}
use Rattle.forms.specs.Cases.{row_net, row_state}
use Rattle.owed.specs.declared.report.OwedSet.{OwedSet}
use Rattle.owed.specs.Bits.{word_of, bit_at}
use Rattle.owed.specs.Marks.{short_place}
use Rattle.owed.specs.Reported.{reported}

-- these bytes owe these starts and these ends, and stand so
abbrev pub Owes : List ℕ → OwedSet → OwedSet → Standing → Type 0
Owes b starts ends how = reported childrens_row (state_of childrens_row b) ≡ record { starts = starts; ends = ends; standing = how }

-- no token waits: byte 9 is the low byte of place 0
abbrev pub spent : List ℕ
spent = set row_state 9 0

-- a set: its word, how many, the lowest. The fields are written here once more, so that two of them exchanged in `set_of` and in the code
-- are noticed
abbrev pub set_says : ℕ → ℕ → ℕ → OwedSet
set_says word count lowest = record { word = word; count = count; lowest = lowest }

pub record OwedNumbers : Type 0 where
  pub initial : Owes row_state (set_says 1 1 0) (set_says 0 0 64) standing.StartOwed
  -- a token in place 1 enables transition 1
  pub second : Owes (set spent 11 1) (set_says 2 1 1) (set_says 0 0 64) standing.StartOwed
  -- transition 0 at age 3, transition 1 at age 0, each its lfd
  pub due : Owes (set (set spent 21 1) 23 1) (set_says 0 0 64) (set_says 3 2 0) standing.EndOwed
  pub running : Owes (set spent 15 1) (set_says 0 0 64) (set_says 0 0 64) standing.FreeToTick
  pub rest : Owes spent (set_says 0 0 64) (set_says 0 0 64) standing.AtRest
  pub once : degree childrens_row (state_of childrens_row row_state) 0 ≡ 1
  pub often : degree childrens_row (state_of childrens_row (set row_state 8 1)) 0 ≡ 257

pub record BitNumbers : Type 0 where
  pub highest : word_of 64 (eqb 63) ≡ 0x8000000000000000
  pub is_set : bit_at 0x8000000000000000 63 ≡ true
  pub is_not : bit_at 0x8000000000000000 62 ≡ false
  -- of the places 1 and 2, which lack tokens for transition 1, the lowest; and none, for transition 0
  pub lowest_place : short_place (set (set row_net 23 1) 25 1) 23 row_state 3 ≡ 1
  pub no-place : short_place row_net 15 row_state 3 ≡ 3
