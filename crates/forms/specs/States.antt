-- When the front of a buffer is a state of a net: document 01's numbers 8 and 9.
-- Assumes nothing.
use Rattle.std.specs.Prelude.{◌≡◌, Bool, ◌&&◌, List, ℕ, suc, ◌-◌, ◌<◌, ◌≤◌, leb, eqb, length, Ok}
use Rattle.model.specs.Age.{column_of}
use Rattle.model.specs.Net.{Net, width}
use Rattle.forms.specs.declared.fault.Fault.{Fault}
use Rattle.forms.specs.declared.fault.Fault.TheVariants as fault
use Rattle.forms.specs.Checked.{Checked, unless, in_turn}
use Rattle.forms.specs.Word.{byte, is_blank}
use Rattle.forms.specs.Begins.{Begins, begins_with}
use Rattle.forms.specs.Stored.{stored_count}
use Rattle.forms.specs.Places.{count_at, state_length}

-- at least 8 bytes, version 1, the length the formula's, these P, T and D, and the buffer at least as long
pub record HasHead (P T D : ℕ) (b : List ℕ) : Type 0 where
  pub least : 8 ≤ length b
  pub begins : Begins b (state_length P T D)
  pub places_are : byte b 5 ≡ P
  pub transitions_are : byte b 6 ≡ T
  pub width_is : byte b 7 ≡ D
  pub room : state_length P T D ≤ length b

-- the head is that of a state of N
abbrev pub StateHead : Net → List ℕ → Type 0
StateHead N b = HasHead N.places N.transitions (width N) b

-- every count of t at an age above its lfd is 0
abbrev pub NonePast : Net → List ℕ → ℕ → Type 0
NonePast N b t = (j : ℕ) → j < width N → N.lfd t < j → stored_count N b t j ≡ 0

-- neither 8 nor 9 is told
pub record IsState (N : Net) (b : List ℕ) : Type 0 where
  pub head : StateHead N b
  pub none_past : (t : ℕ) → t < N.transitions → NonePast N b t

-- 8, and then 9 for the lowest transition
pub data StateFaulty (N : Net) (b : List ℕ) : Fault → Type 0 where
  frame : ¬ StateHead N b → StateFaulty N b fault.StateFrame
  past_lfd : {t : ℕ} → StateHead N b → t < N.transitions → ((u : ℕ) → u < t → NonePast N b u)
      → ¬ NonePast N b t → StateFaulty N b (fault.PastLfd t)

-- THE FUNCTIONS

unfoldable pub has_head : ℕ → ℕ → ℕ → List ℕ → Bool
has_head P T D b =
    leb 8 (length b) && (begins_with b (state_length P T D)
    && (eqb (byte b 5) P && (eqb (byte b 6) T && (eqb (byte b 7) D && leb (state_length P T D) (length b)))))

unfoldable pub has_none_past : Net → List ℕ → ℕ → Bool
has_none_past N b t =
    is_blank b (count_at N.places (width N) t (column_of (record { 0 = suc (N.lfd t) }))) (width N - suc (N.lfd t))

abbrev pub check_counts : Net → List ℕ → ℕ → Checked
check_counts N b t = unless (has_none_past N b t) (fault.PastLfd t) (Ok tt)

unfoldable pub check_state : Net → List ℕ → Checked
check_state N b =
    unless (has_head N.places N.transitions (width N) b) fault.StateFrame (in_turn (check_counts N b) 0 N.transitions)
