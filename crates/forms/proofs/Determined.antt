-- Each public function's promise determines its answer and every byte lent to it: two answers that it permits for the same arguments
-- are equal, and so are two lists that it permits a lent buffer to hold at exit. What is cited is the promise itself, as a caller
-- learns it.
-- Assumes nothing.
use mathlib.Core.Path.{◌≡◌, sym, ap, ◌∙◌}
use mathlib.Core.HLevel.{is_prop→PathP}
use Prim.Native.Nat.{◌<◌, ◌≤◌}
use Rattle.std.proofs.Common.{Ok, Err}
use Rattle.std.proofs.Props.{props}
use Rattle.model.specs.declared.net.Net.{Net as Shape}
use Rattle.model.specs.Net.{Net}
use Rattle.model.proofs.Determined.{Determined, LeavesOne}
use Rattle.forms.specs.declared.checked.CheckedNet.{CheckedNet}
use Rattle.forms.specs.Nets.{check_net}
use Rattle.forms.specs.Stored.{net_of}
use Rattle.forms.specs.Frame.{HasShape}
use Rattle.forms.proofs.words.read16.Reads as read16
use Rattle.forms.proofs.words.read16.Kinds as read16-kinds
use Rattle.forms.proofs.words.read32.Reads as read32
use Rattle.forms.proofs.words.read32.Kinds as read32-kinds
use Rattle.forms.proofs.words.blank.Reads as blank
use Rattle.forms.proofs.words.blank.Kinds as blank-kinds
use Rattle.forms.proofs.words.write16.Reads as write16
use Rattle.forms.proofs.words.write16.Kinds as write16-kinds
use Rattle.forms.proofs.words.write32.Reads as write32
use Rattle.forms.proofs.words.write32.Kinds as write32-kinds
use Rattle.forms.proofs.words.clear.Reads as clear
use Rattle.forms.proofs.words.clear.Kinds as clear-kinds
use Rattle.forms.proofs.begins.begins.Reads as begins
use Rattle.forms.proofs.begins.begins.Kinds as begins-kinds
use Rattle.forms.proofs.places.initial_at.Reads as initial-at
use Rattle.forms.proofs.places.initial_at.Kinds as initial-at-kinds
use Rattle.forms.proofs.places.lfd_at.Reads as lfd-at
use Rattle.forms.proofs.places.lfd_at.Kinds as lfd-at-kinds
use Rattle.forms.proofs.places.inputs_at.Reads as inputs-at
use Rattle.forms.proofs.places.inputs_at.Kinds as inputs-at-kinds
use Rattle.forms.proofs.places.outputs_at.Reads as outputs-at
use Rattle.forms.proofs.places.outputs_at.Kinds as outputs-at-kinds
use Rattle.forms.proofs.places.mark_at.Reads as mark-at
use Rattle.forms.proofs.places.mark_at.Kinds as mark-at-kinds
use Rattle.forms.proofs.places.clock_at.Reads as clock-at
use Rattle.forms.proofs.places.clock_at.Kinds as clock-at-kinds
use Rattle.forms.proofs.places.cells.Reads as cells
use Rattle.forms.proofs.places.cells.Kinds as cells-kinds
use Rattle.forms.proofs.places.row_at.Reads as row_at_call
use Rattle.forms.proofs.places.row_at.Kinds as row-at-kinds
use Rattle.forms.proofs.places.count_at.Reads as count_at_lem
use Rattle.forms.proofs.places.count_at.Kinds as count-at-kinds
use Rattle.forms.proofs.places.state_length.Reads as state-length
use Rattle.forms.proofs.places.state_length.Kinds as state-length-kinds
use Rattle.forms.proofs.fault.U8FromFault.from.Reads as fault-number
use Rattle.forms.proofs.fault.U8FromFault.from.Kinds as fault-number-kinds
use Rattle.forms.proofs.fault.Fault.index.Reads as fault-index
use Rattle.forms.proofs.fault.Fault.index.Kinds as fault-index-kinds
use Rattle.forms.proofs.fault.number_of.Reads as checked-number
use Rattle.forms.proofs.fault.number_of.Kinds as checked-number-kinds
use Rattle.forms.proofs.fault.index_of.Reads as checked-index
use Rattle.forms.proofs.fault.index_of.Kinds as checked-index-kinds
use Rattle.forms.proofs.checked.CheckedNet.of.Reads as checked-net-of
use Rattle.forms.proofs.checked.CheckedNet.of.Kinds as checked-net-of-kinds
use Rattle.forms.proofs.checked.CheckedNet.sfd.Reads as checked-net-sfd
use Rattle.forms.proofs.checked.CheckedNet.sfd.Kinds as checked-net-sfd-kinds
use Rattle.forms.proofs.checked.CheckedNet.lfd.Reads as checked-net-lfd
use Rattle.forms.proofs.checked.CheckedNet.lfd.Kinds as checked-net-lfd-kinds
use Rattle.forms.proofs.net.check_net.Reads as check-net
use Rattle.forms.proofs.net.check_net.Kinds as check-net-kinds
use Rattle.forms.proofs.net.shape_of.Reads as shape_of
use Rattle.forms.proofs.net.shape_of.Kinds as shape-of-kinds
use Rattle.forms.proofs.state.check_state.Reads as check-state
use Rattle.forms.proofs.state.check_state.Kinds as check-state-kinds
use Rattle.forms.proofs.log.check_log.Reads as check-log
use Rattle.forms.proofs.log.check_log.Kinds as check-log-kinds
use Rattle.forms.proofs.initial.initial.Reads as initial
use Rattle.forms.proofs.initial.initial.Kinds as initial-kinds

-- a net has one shape
pub shape-once : (N : Net) (x y : Shape) → HasShape N x → HasShape N y → x ≡ y
shape-once N x y a b = λ i. record {
  places = (a.places_are ∙ sym b.places_are) i;
  transitions = (a.transitions_are ∙ sym b.transitions_are) i;
  width = (a.width_is ∙ sym b.width_is) i;
}

pub read16-determined : Determined 1 read16-kinds.ps read16-kinds.r read16.Learnt
read16-determined κs args x y s s' p q = p.0 ∙ sym q.0

pub read32-determined : Determined 1 read32-kinds.ps read32-kinds.r read32.Learnt
read32-determined κs args x y s s' p q = p ∙ sym q

pub blank-determined : Determined 1 blank-kinds.ps blank-kinds.r blank.Learnt
blank-determined κs args x y s s' p q = p ∙ sym q

pub write16-leaves : LeavesOne 1 write16-kinds.ps write16-kinds.r write16.Learnt (λ κs s. s.0.now)
write16-leaves κs args x y s s' p q = p ∙ sym q

pub write32-leaves : LeavesOne 1 write32-kinds.ps write32-kinds.r write32.Learnt (λ κs s. s.0.now)
write32-leaves κs args x y s s' p q = p ∙ sym q

pub clear-leaves : LeavesOne 1 clear-kinds.ps clear-kinds.r clear.Learnt (λ κs s. s.0.now)
clear-leaves κs args x y s s' p q = p ∙ sym q

pub begins-determined : Determined 1 begins-kinds.ps begins-kinds.r begins.Learnt
begins-determined κs args x y s s' p q = p ∙ sym q

pub initial-at-determined : Determined 0 initial-at-kinds.ps initial-at-kinds.r initial-at.Learnt
initial-at-determined κs args x y s s' p q = p ∙ sym q

pub lfd-at-determined : Determined 0 lfd-at-kinds.ps lfd-at-kinds.r lfd-at.Learnt
lfd-at-determined κs args x y s s' p q = p ∙ sym q

pub inputs-at-determined : Determined 0 inputs-at-kinds.ps inputs-at-kinds.r inputs-at.Learnt
inputs-at-determined κs args x y s s' p q = p ∙ sym q

pub outputs-at-determined : Determined 0 outputs-at-kinds.ps outputs-at-kinds.r outputs-at.Learnt
outputs-at-determined κs args x y s s' p q = p ∙ sym q

pub mark-at-determined : Determined 0 mark-at-kinds.ps mark-at-kinds.r mark-at.Learnt
mark-at-determined κs args x y s s' p q = p ∙ sym q

pub clock-at-determined : Determined 0 clock-at-kinds.ps clock-at-kinds.r clock-at.Learnt
clock-at-determined κs args x y s s' p q = p ∙ sym q

pub cells-determined : Determined 0 cells-kinds.ps cells-kinds.r cells.Learnt
cells-determined κs args x y s s' p q = p.0 ∙ sym q.0

pub row-at-determined : Determined 0 row-at-kinds.ps row-at-kinds.r row_at_call.Learnt
row-at-determined κs args x y s s' p q = p.0 ∙ sym q.0

pub count-at-determined : Determined 0 count-at-kinds.ps count-at-kinds.r count_at_lem.Learnt
count-at-determined κs args x y s s' p q = p ∙ sym q

pub state-length-determined : Determined 0 state-length-kinds.ps state-length-kinds.r state-length.Learnt
state-length-determined κs args x y s s' p q = p.0 ∙ sym q.0

pub fault-number-determined : Determined 0 fault-number-kinds.ps fault-number-kinds.r fault-number.Learnt
fault-number-determined κs args x y s s' p q = p ∙ sym q

pub fault-index-determined : Determined 0 fault-index-kinds.ps fault-index-kinds.r fault-index.Learnt
fault-index-determined κs args x y s s' p q = p ∙ sym q

pub checked-number-determined : Determined 0 checked-number-kinds.ps checked-number-kinds.r checked-number.Learnt
checked-number-determined κs args x y s s' p q = p ∙ sym q

pub checked-index-determined : Determined 0 checked-index-kinds.ps checked-index-kinds.r checked-index.Learnt
checked-index-determined κs args x y s s' p q = p ∙ sym q

pub check-net-determined : Determined 1 check-net-kinds.ps check-net-kinds.r check-net.Learnt
check-net-determined κs args x y s s' p q = p ∙ sym q

pub shape-of-determined : Determined 1 shape-of-kinds.ps shape-of-kinds.r shape_of.Learnt
shape-of-determined κs args x y s s' p q = shape-once _ x y p q

-- a checked net is its bytes and its shape
same-checked : (x y : CheckedNet) → x.bytes ≡ y.bytes → x.shape ≡ y.shape → x ≡ y
same-checked x y e f = λ i. record {
  bytes = e i;
  shape = f i;
  passes = is_prop→PathP (λ j. check_net (e j).now ≡ Ok tt) (λ j. hlevel props) x.passes y.passes i;
  has_shape = is_prop→PathP (λ j. HasShape (net_of (e j).now) (f j)) (λ j. hlevel props) x.has_shape y.has_shape i;
  column = is_prop→PathP (λ j. 0 < (f j).width) (λ j. hlevel props) x.column y.column i;
  small = is_prop→PathP (λ j. ((f j).places < 256) × ((f j).transitions < 256) × ((f j).width ≤ 256)) (λ j. hlevel props) x.small y.small i;
}

-- of one slice there is one, as there is one shape
pub one_checked : (x y : CheckedNet) → x.bytes ≡ y.bytes → x ≡ y
one_checked x y e = same-checked x y e (shape-once (net_of y.bytes.now) x.shape y.shape (rw e at x.has_shape) y.has_shape)

pub checked-net-of-determined : Determined 1 checked-net-of-kinds.ps checked-net-of-kinds.r checked-net-of.Learnt
checked-net-of-determined κs args (Ok net) (Ok other) s s' p q = ap Ok (one_checked net other (p.1 ∙ sym q.1))
checked-net-of-determined κs args (Ok net) (Err why) s s' p q = cc
checked-net-of-determined κs args (Err why) (Ok net) s s' p q = cc
checked-net-of-determined κs args (Err why) (Err other) s s' p q = cc

pub checked-net-sfd-determined : Determined 1 checked-net-sfd-kinds.ps checked-net-sfd-kinds.r checked-net-sfd.Learnt
checked-net-sfd-determined κs args x y s s' p q = p ∙ sym q

pub checked-net-lfd-determined : Determined 1 checked-net-lfd-kinds.ps checked-net-lfd-kinds.r checked-net-lfd.Learnt
checked-net-lfd-determined κs args x y s s' p q = p.0 ∙ sym q.0

pub check-state-determined : Determined 2 check-state-kinds.ps check-state-kinds.r check-state.Learnt
check-state-determined κs args x y s s' p q = p ∙ sym q

pub check-log-determined : Determined 1 check-log-kinds.ps check-log-kinds.r check-log.Learnt
check-log-determined κs args x y s s' p q = p ∙ sym q

pub initial-determined : Determined 2 initial-kinds.ps initial-kinds.r initial.Learnt
initial-determined κs args x y s s' p q = p.0 ∙ sym q.0

pub initial-leaves : LeavesOne 2 initial-kinds.ps initial-kinds.r initial.Learnt (λ κs s. s.1.0.now)
initial-leaves κs args x y s s' p q = p.1 ∙ sym q.1
