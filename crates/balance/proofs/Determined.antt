-- Each public function's promise determines its answer. What is cited is the promise itself, as a caller learns it. Nothing is written.
-- Assumes nothing.
use mathlib.Core.Path.{sym, ◌∙◌}
use Rattle.model.proofs.Determined.{Determined}
use Rattle.balance.proofs.weigh.weigh.Reads as weigh
use Rattle.balance.proofs.weigh.weigh.Kinds as weigh-kinds
use Rattle.balance.proofs.call.BalanceToldFromResultU64Imbalance.from.Reads as told_of
use Rattle.balance.proofs.call.BalanceToldFromResultU64Imbalance.from.Kinds as told-of-kinds
use Rattle.balance.proofs.call.BalanceToldFromFault.from.Reads as told-unfit
use Rattle.balance.proofs.call.BalanceToldFromFault.from.Kinds as told-unfit-kinds
use Rattle.balance.proofs.call.balance.Reads as call
use Rattle.balance.proofs.call.balance.Kinds as call-kinds

pub weigh-determined : Determined 3 weigh-kinds.ps weigh-kinds.r weigh.Learnt
weigh-determined κs args x y s s' p q = p ∙ sym q

pub told-of-determined : Determined 0 told-of-kinds.ps told-of-kinds.r told_of.Learnt
told-of-determined κs args x y s s' p q = p ∙ sym q

pub told-unfit-determined : Determined 0 told-unfit-kinds.ps told-unfit-kinds.r told-unfit.Learnt
told-unfit-determined κs args x y s s' p q = p ∙ sym q

pub call-determined : Determined 3 call-kinds.ps call-kinds.r call.Learnt
call-determined κs args x y s s' p q = p.0 ∙ sym q.0
