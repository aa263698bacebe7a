-- Each number of document 01 from 1 to 10, with its index, told of bytes that a reader can compare with the document: the bytes of the
-- children's row net, its initial state and its log, with one byte or two changed.
-- Assumes nothing.
use Rattle.std.specs.Prelude.{◌≡◌, [], ◌∷◌, ◌++◌, ℕ, set, take, Err}
use Rattle.model.specs.Cases.{childrens_row}
use Rattle.forms.specs.declared.fault.Fault.{Fault}
use Rattle.forms.specs.declared.fault.Fault.TheVariants as fault
use Rattle.forms.specs.Checked.{Checked, number_of, index_of}
use Rattle.forms.specs.Stored.{state_of}
use Rattle.forms.specs.Written.{check_room}
use Rattle.forms.specs.Nets.{check_net}
use Rattle.forms.specs.States.{check_state}
use Rattle.forms.specs.Logs.{check_log}
use Rattle.forms.specs.Cases.{row_net, row_state, row_log}

-- the answer tells this number and this index
abbrev pub Answers : Checked → ℕ → ℕ → Type 0
Answers answer number index = (number_of answer ≡ number) × (index_of answer ≡ index)

abbrev pub Faulted : Fault → ℕ → ℕ → Type 0
Faulted why number index = Answers (Err why) number index

-- every fault, with document 01's number and index
pub record FaultNumbers : Type 0 where
  pub net_frame : Faulted fault.NetFrame 1 0
  pub net_size : Faulted fault.NetSize 2 0
  pub net-length : Faulted fault.NetLength 3 0
  pub no_interval : (t : ℕ) → Faulted (fault.NoInterval t) 4 t
  pub no_input : (t : ℕ) → Faulted (fault.NoInput t) 5 t
  pub no_output : (t : ℕ) → Faulted (fault.NoOutput t) 6 t
  pub no_room : Faulted fault.NoRoom 7 0
  pub state_frame : Faulted fault.StateFrame 8 0
  pub past_lfd : (t : ℕ) → Faulted (fault.PastLfd t) 9 t
  pub log_frame : Faulted fault.LogFrame 10 0

pub record NetNumbers : Type 0 where
  pub good : Answers (check_net row_net) 0 0
  pub version_0 : Answers (check_net (set row_net 0 0)) 1 0
  pub version_2 : Answers (check_net (set row_net 0 2)) 1 0
  pub length_less : Answers (check_net (set row_net 4 0x1C)) 1 0
  pub length_high : Answers (check_net (set row_net 1 1)) 1 0
  pub six_bytes : Answers (check_net (take 6 row_net)) 1 0
  pub seven_bytes : Answers (check_net (0x01 ∷ 0x00 ∷ 0x00 ∷ 0x00 ∷ 0x07 ∷ 0x00 ∷ 0x01 ∷ [])) 2 0
  pub seven_sized : Answers (check_net (0x01 ∷ 0x00 ∷ 0x00 ∷ 0x00 ∷ 0x07 ∷ 0x01 ∷ 0x01 ∷ [])) 3 0
  pub places_65 : Answers (check_net (set row_net 5 65)) 2 0
  pub transitions_0 : Answers (check_net (set row_net 6 0)) 2 0
  pub transitions_65 : Answers (check_net (set row_net 6 65)) 2 0
  pub places_2 : Answers (check_net (set row_net 5 2)) 3 0
  pub lfd_below_sfd : Answers (check_net (set row_net 14 0)) 4 0
  pub lfd_64 : Answers (check_net (set row_net 22 64)) 4 1
  pub no_input : Answers (check_net (set row_net 24 0)) 5 1
  pub no_output : Answers (check_net (set row_net 19 0)) 6 0
  pub no_output_1 : Answers (check_net (set row_net 28 0)) 6 1
  pub lowest_first : Answers (check_net (set (set row_net 19 0) 22 64)) 6 0
  pub four_before_five : Answers (check_net (set (set row_net 14 0) 15 0)) 4 0
  pub five_before_six : Answers (check_net (set (set row_net 24 0) 28 0)) 5 1

pub record StateNumbers : Type 0 where
  pub no_room : Answers (check_room childrens_row (take 29 row_state)) 7 0
  pub room : Answers (check_room childrens_row row_state) 0 0
  pub good : Answers (check_state childrens_row row_state) 0 0
  pub longer : Answers (check_state childrens_row (row_state ++ (0xFF ∷ []))) 0 0
  pub version_2 : Answers (check_state childrens_row (set row_state 0 2)) 8 0
  pub length_less : Answers (check_state childrens_row (set row_state 4 0x1D)) 8 0
  pub places : Answers (check_state childrens_row (set row_state 5 4)) 8 0
  pub transitions : Answers (check_state childrens_row (set row_state 6 1)) 8 0
  pub width : Answers (check_state childrens_row (set row_state 7 3)) 8 0
  pub seven_bytes : Answers (check_state childrens_row (take 7 row_state)) 8 0
  pub short : Answers (check_state childrens_row (take 29 row_state)) 8 0
  pub at_lfd : Answers (check_state childrens_row (set row_state 21 1)) 0 0
  pub past_lfd : Answers (check_state childrens_row (set row_state 25 1)) 9 1
  -- 65,534 at place 1, one firing of transition 0 of age 1, 258 firings of transition 1 of age 0
  pub read : state_of childrens_row (set (set (set (set (set (set row_state 9 0x00) 10 0xFF) 11 0xFE) 17 0x01) 22 0x01) 23 0x02)
      ≡ record { marking = 0 ∷ 65534 ∷ 0 ∷ []; clock = (0 ∷ 1 ∷ 0 ∷ 0 ∷ []) ∷ (258 ∷ 0 ∷ 0 ∷ 0 ∷ []) ∷ [] }

pub record LogNumbers : Type 0 where
  pub good : Answers (check_log row_log) 0 0
  pub version_0 : Answers (check_log (set row_log 0 0)) 10 0
  pub length_less : Answers (check_log (set row_log 4 0x0D)) 10 0
  pub four_bytes : Answers (check_log (take 4 row_log)) 10 0
  pub odd : Answers (check_log (set row_log 4 0x10 ++ (0x00 ∷ []))) 10 0
