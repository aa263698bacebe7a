-- A state written over the front of a buffer. The head of 8 bytes and the bytes behind the image stay.
-- Assumes nothing.
use Rattle.std.specs.Prelude.{Bool, cond, List, ℕ, leb, length, set, Ok}
use Rattle.model.specs.Net.{Net, State, width, tokens, count, initial_state}
use Rattle.forms.specs.declared.fault.Fault.TheVariants as fault
use Rattle.forms.specs.Checked.{Checked, unless}
use Rattle.forms.specs.Word.{set_word32, put_words, put_rows}
use Rattle.forms.specs.Begins.{version}
use Rattle.forms.specs.Places.{clock_at, state_length, image_length}

unfoldable pub written : Net → State → List ℕ → List ℕ
written N S b = put_rows (clock_at N.places) (width N) N.transitions (count S) (put_words 8 N.places (tokens S) b)

-- the head of a state over the first 8 bytes: version, length, P, T, D
unfoldable pub headed : ℕ → ℕ → ℕ → List ℕ → List ℕ
headed P T D b = set_word32 (set (set (set (set b 0 version) 5 P) 6 T) 7 D) 1 (state_length P T D)

-- the whole image of a state over the front of a buffer
unfoldable pub image : Net → State → List ℕ → List ℕ
image N S b = written N S (headed N.places N.transitions (width N) b)

-- there is room for the image of a state of N
abbrev pub leaves_room : Net → List ℕ → Bool
leaves_room N b = leb (image_length N) (length b)

-- 7: the buffer is shorter than the image
unfoldable pub check_room : Net → List ℕ → Checked
check_room N b = unless (leaves_room N b) fault.NoRoom (Ok tt)

-- the buffer after the initial state was asked for: its image, where there is room
unfoldable pub after_initial : Net → List ℕ → List ℕ
after_initial N b = cond (leaves_room N b) (image N (initial_state N) b) b
