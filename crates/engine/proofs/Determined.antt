-- Each public function's promise determines its answer and every byte lent to it: two answers that it permits for the same arguments
-- are equal, and so are two lists that it permits a lent buffer to hold at exit. What is cited is the promise itself, as a caller
-- learns it.
-- Assumes nothing.
use Rattle.std.proofs.Common.{List, ℕ, Bor, Result, Ok, Err}
use mathlib.Core.Path.{◌≡◌, sym, ap, ◌∙◌}
use contract.Lifetimes.{Lfts}
use denote.Triple.Clauses.{AtExit}
use borrow.Fn.Kinds.{Dens, res_t, ended_of}
use Rattle.model.specs.declared.net.Net.{Net as Shape}
use Rattle.forms.specs.declared.checked.CheckedNet.{CheckedNet}
use Rattle.forms.specs.declared.fault.Fault.{Fault}
use Rattle.forms.proofs.Determined.{one_checked}
use Rattle.engine.specs.Examined.{Examined, Finds}
use Rattle.model.proofs.Determined.{Determined, LeavesOne}
use Rattle.engine.proofs.answers.VerdictFromResultUnitFault.from.Reads as verdict-of
use Rattle.engine.proofs.answers.VerdictFromResultUnitFault.from.Kinds as verdict-of-kinds
use Rattle.engine.proofs.answers.VerdictFromFault.from.Reads as verdict-unfit
use Rattle.engine.proofs.answers.VerdictFromFault.from.Kinds as verdict-unfit-kinds
use Rattle.engine.proofs.answers.VerdictFromResultUnitRefusal.from.Reads as verdict-answered
use Rattle.engine.proofs.answers.VerdictFromResultUnitRefusal.from.Kinds as verdict-answered-kinds
use Rattle.engine.proofs.answers.EventToldFromFault.from.Reads as eventtold-unfit
use Rattle.engine.proofs.answers.EventToldFromFault.from.Kinds as eventtold-unfit-kinds
use Rattle.engine.proofs.answers.EventToldFromResultUnitRefusal.from.Reads as eventtold-answered
use Rattle.engine.proofs.answers.EventToldFromResultUnitRefusal.from.Kinds as eventtold-answered-kinds
use Rattle.engine.proofs.answers.DegreeToldFromFault.from.Reads as degreetold-unfit
use Rattle.engine.proofs.answers.DegreeToldFromFault.from.Kinds as degreetold-unfit-kinds
use Rattle.engine.proofs.answers.OwedToldFromOwed.from.Reads as owedtold-of
use Rattle.engine.proofs.answers.OwedToldFromOwed.from.Kinds as owedtold-of-kinds
use Rattle.engine.proofs.answers.OwedToldFromFault.from.Reads as owedtold-unfit
use Rattle.engine.proofs.answers.OwedToldFromFault.from.Kinds as owedtold-unfit-kinds
use Rattle.engine.proofs.answers.StepTold.refused.Reads as steptold-refused
use Rattle.engine.proofs.answers.StepTold.refused.Kinds as steptold-refused-kinds
use Rattle.engine.proofs.examine.examine_state.Reads as examine-state
use Rattle.engine.proofs.examine.examine_state.Kinds as examine-state-kinds
use Rattle.engine.proofs.examine.examine_log.Reads as examine-log
use Rattle.engine.proofs.examine.examine_log.Kinds as examine-log-kinds
use Rattle.engine.proofs.calls.check_net.Reads as check-net
use Rattle.engine.proofs.calls.check_net.Kinds as check-net-kinds
use Rattle.engine.proofs.calls.check_state.Reads as check-state
use Rattle.engine.proofs.calls.check_state.Kinds as check-state-kinds
use Rattle.engine.proofs.calls.initial.Reads as initial
use Rattle.engine.proofs.calls.initial.Kinds as initial-kinds
use Rattle.engine.proofs.calls.event.Reads as event
use Rattle.engine.proofs.calls.event.Kinds as event-kinds
use Rattle.engine.proofs.calls.back.Reads as back
use Rattle.engine.proofs.calls.back.Kinds as back-kinds
use Rattle.engine.proofs.calls.degree.Reads as degree
use Rattle.engine.proofs.calls.degree.Kinds as degree-kinds
use Rattle.engine.proofs.calls.owed.Reads as owed
use Rattle.engine.proofs.calls.owed.Kinds as owed-kinds
use Rattle.engine.proofs.calls.run.Reads as run
use Rattle.engine.proofs.calls.run.Kinds as run-kinds
use Rattle.engine.proofs.calls.walk.Reads as walk
use Rattle.engine.proofs.calls.walk.Kinds as walk-kinds
use Rattle.engine.proofs.calls.step_told.Reads as step-told
use Rattle.engine.proofs.calls.step_told.Kinds as step-told-kinds
use Rattle.engine.proofs.calls.step.Reads as step
use Rattle.engine.proofs.calls.step.Kinds as step-kinds

pub verdict-of-determined : Determined 0 verdict-of-kinds.ps verdict-of-kinds.r verdict-of.Learnt
verdict-of-determined κs args x y s s' p q = p ∙ sym q

pub verdict-unfit-determined : Determined 0 verdict-unfit-kinds.ps verdict-unfit-kinds.r verdict-unfit.Learnt
verdict-unfit-determined κs args x y s s' p q = p ∙ sym q

pub verdict-answered-determined : Determined 0 verdict-answered-kinds.ps verdict-answered-kinds.r verdict-answered.Learnt
verdict-answered-determined κs args x y s s' p q = p ∙ sym q

pub eventtold-unfit-determined : Determined 0 eventtold-unfit-kinds.ps eventtold-unfit-kinds.r eventtold-unfit.Learnt
eventtold-unfit-determined κs args x y s s' p q = p ∙ sym q

pub eventtold-answered-determined : Determined 0 eventtold-answered-kinds.ps eventtold-answered-kinds.r eventtold-answered.Learnt
eventtold-answered-determined κs args x y s s' p q = p ∙ sym q

pub degreetold-unfit-determined : Determined 0 degreetold-unfit-kinds.ps degreetold-unfit-kinds.r degreetold-unfit.Learnt
degreetold-unfit-determined κs args x y s s' p q = p ∙ sym q

pub owedtold-of-determined : Determined 0 owedtold-of-kinds.ps owedtold-of-kinds.r owedtold-of.Learnt
owedtold-of-determined κs args x y s s' p q = p ∙ sym q

pub owedtold-unfit-determined : Determined 0 owedtold-unfit-kinds.ps owedtold-unfit-kinds.r owedtold-unfit.Learnt
owedtold-unfit-determined κs args x y s s' p q = p ∙ sym q

pub steptold-refused-determined : Determined 0 steptold-refused-kinds.ps steptold-refused-kinds.r steptold-refused.Learnt
steptold-refused-determined κs args x y s s' p q = p ∙ sym q

-- an examination: the net's bytes and its shape, or the fault
abbrev finding : Result CheckedNet Fault → Result (Bor (List ℕ) × Shape) Fault
finding (Ok net) = Ok (net.bytes, net.shape)
finding (Err why) = Err why

-- what is found of some bytes is one result
found-once : (bytes : Bor (List ℕ)) (found : Examined) (r r' : Result CheckedNet Fault) → Finds bytes found r → Finds bytes found r' → r ≡ r'
found-once bytes found (Ok net) (Ok net') (s, b) (s', b') = ap Ok (one_checked net net' (b ∙ sym b'))
found-once bytes found (Ok net) (Err why) (s, b) f = let e : Ok net.shape ≡ Err why = sym s ∙ f in cc
found-once bytes found (Err why) (Ok net) f (s, b) = let e : Ok net.shape ≡ Err why = sym s ∙ f in cc
found-once bytes found (Err why) (Err why') f f' = let e = sym f ∙ f' in cc

pub finds-determined : (bytes : Bor (List ℕ)) (found : Examined) (r r' : Result CheckedNet Fault) → Finds bytes found r → Finds bytes found r'
    → finding r ≡ finding r'
finds-determined bytes found r r' p q = ap finding (found-once bytes found r r' p q)

pub examine-state-determined : Determined 2 examine-state-kinds.ps examine-state-kinds.r examine-state.Learnt
examine-state-determined κs args x y s s' p q = found-once _ _ x y p q

pub examine-log-determined : Determined 3 examine-log-kinds.ps examine-log-kinds.r examine-log.Learnt
examine-log-determined κs args x y s s' p q = found-once _ _ x y p q

pub check-net-determined : Determined 1 check-net-kinds.ps check-net-kinds.r check-net.Learnt
check-net-determined κs args x y s s' p q = p.0 ∙ sym q.0

pub check-state-determined : Determined 2 check-state-kinds.ps check-state-kinds.r check-state.Learnt
check-state-determined κs args x y s s' p q = p.0 ∙ sym q.0

pub initial-determined : Determined 2 initial-kinds.ps initial-kinds.r initial.Learnt
initial-determined κs args x y s s' p q = p.0 ∙ sym q.0

pub initial-leaves : LeavesOne 2 initial-kinds.ps initial-kinds.r initial.Learnt (λ κs s. s.1.0.now)
initial-leaves κs args x y s s' p q = p.1.0 ∙ sym q.1.0

pub event-determined : Determined 2 event-kinds.ps event-kinds.r event.Learnt
event-determined κs args x y s s' p q = p.0 ∙ sym q.0

pub event-leaves : LeavesOne 2 event-kinds.ps event-kinds.r event.Learnt (λ κs s. s.1.0.now)
event-leaves κs args x y s s' p q = p.1.0 ∙ sym q.1.0

pub back-determined : Determined 2 back-kinds.ps back-kinds.r back.Learnt
back-determined κs args x y s s' p q = p.0 ∙ sym q.0

pub back-leaves : LeavesOne 2 back-kinds.ps back-kinds.r back.Learnt (λ κs s. s.1.0.now)
back-leaves κs args x y s s' p q = p.1.0 ∙ sym q.1.0

pub degree-determined : Determined 2 degree-kinds.ps degree-kinds.r degree.Learnt
degree-determined κs args x y s s' p q = p.0 ∙ sym q.0

pub owed-determined : Determined 2 owed-kinds.ps owed-kinds.r owed.Learnt
owed-determined κs args x y s s' p q = p.0 ∙ sym q.0

pub run-determined : Determined 3 run-kinds.ps run-kinds.r run.Learnt
run-determined κs args x y s s' p q = p.0 ∙ sym q.0

pub run_leaves : LeavesOne 3 run-kinds.ps run-kinds.r run.Learnt (λ κs s. s.1.0.now)
run_leaves κs args x y s s' p q = p.1.0 ∙ sym q.1.0

pub walk-determined : Determined 3 walk-kinds.ps walk-kinds.r walk.Learnt
walk-determined κs args x y s s' p q = p.0 ∙ sym q.0

pub walk-leaves : LeavesOne 3 walk-kinds.ps walk-kinds.r walk.Learnt (λ κs s. s.1.0.now)
walk-leaves κs args x y s s' p q = p.1.0 ∙ sym q.1.0

pub step-told-determined : Determined 1 step-told-kinds.ps step-told-kinds.r step-told.Learnt
step-told-determined κs args x y s s' p q = p.0 ∙ sym q.0

-- two parts that the promise of `step` permits hold the same bytes and stand at the same place
pub step-determined : (κs : Lfts 1) (args : Dens κs step-kinds.ps) (x y : (res_t step-kinds.r κs).Denot)
    (s s' : AtExit (ended_of 1 step-kinds.ps step-kinds.r) κs) → step.Learnt κs args x s → step.Learnt κs args y s'
    → (x.now ≡ y.now) × (x.ref_ptr ≡ y.ref_ptr)
step-determined κs args x y s s' p q =
    (p.0.bytes ∙ sym q.0.bytes, λ i. ((p.0.block ∙ sym q.0.block) i, (p.0.place ∙ sym q.0.place) i))
