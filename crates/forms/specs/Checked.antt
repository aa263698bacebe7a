-- What a check answers: document 01's number and index for every case, and checks one after the other.
-- Assumes nothing.
use Rattle.std.specs.Prelude.{Bool, cond, ℕ, zero, suc, Result, Ok, Err, ⊤}
use Rattle.forms.specs.declared.fault.Fault.{Fault}
use Rattle.forms.specs.declared.fault.Fault.TheVariants as fault

-- what a check answers: nothing is wrong, or the fault
abbrev pub Checked : Type 0
Checked = Result ⊤ Fault

abbrev pub number_of_fault : Fault → ℕ
number_of_fault fault.NetFrame = 1
number_of_fault fault.NetSize = 2
number_of_fault fault.NetLength = 3
number_of_fault (fault.NoInterval t) = 4
number_of_fault (fault.NoInput t) = 5
number_of_fault (fault.NoOutput t) = 6
number_of_fault fault.NoRoom = 7
number_of_fault fault.StateFrame = 8
number_of_fault (fault.PastLfd t) = 9
number_of_fault fault.LogFrame = 10

-- the transition for 4, 5, 6 and 9, and 0 for the others
abbrev pub index_of_fault : Fault → ℕ
index_of_fault fault.NetFrame = 0
index_of_fault fault.NetSize = 0
index_of_fault fault.NetLength = 0
index_of_fault (fault.NoInterval t) = t
index_of_fault (fault.NoInput t) = t
index_of_fault (fault.NoOutput t) = t
index_of_fault fault.NoRoom = 0
index_of_fault fault.StateFrame = 0
index_of_fault (fault.PastLfd t) = t
index_of_fault fault.LogFrame = 0

abbrev pub number_of : Checked → ℕ
number_of (Ok tt) = 0
number_of (Err why) = number_of_fault why

abbrev pub index_of : Checked → ℕ
index_of (Ok tt) = 0
index_of (Err why) = index_of_fault why

-- where the test fails the fault is told, and else what follows
abbrev pub unless : Bool → Fault → Checked → Checked
unless b why rest = cond b rest (Err why)

-- the first of the two that is bad
abbrev pub and_then : Checked → Checked → Checked
and_then (Ok tt) rest = rest
and_then (Err why) rest = Err why

-- the first of the n checks from number i on that is bad
unfoldable pub in_turn : (ℕ → Checked) → ℕ → ℕ → Checked
in_turn check i zero = Ok tt
in_turn check i (suc n) = and_then (check i) (in_turn check (suc i) n)
