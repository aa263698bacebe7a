-- `order::too_late` meets its contract: each return is a case of the rules' outcome, in every state.
use Rattle.forms.proofs.CheckedNets.{framed_net, known}
use native.Mathlib.Omega.{arith}
use Rattle.model.proofs.Alls.{passed, failed}
use Rattle.moves.proofs.Ordering.{late-unknown, late-untimely, late-old}
use Rattle.moves.proofs.order.too_late.Goals as goal

pub returns-then-net-t : goal.returns-then-net-t
returns-then-net-t c =
    late-unknown c.args.net.bytes.now c.args.net.shape (framed_net c.args.net) c.args.t c.args.age c.if-net-t.true

pub timely-requires : goal.timely-requires
timely-requires c = ((framed_net c.args.net).is_net, known c.args.net c.if-net-t.false)

pub returns-then-not-timely : goal.returns-then-not-timely
returns-then-not-timely c =
    late-untimely c.args.net.bytes.now c.args.net.shape (framed_net c.args.net) c.args.t c.args.age (omega (arith, c.if-net-t.false))
    (failed c.timely.ensures c.if-not-timely.true)

pub returns : goal.returns
returns c =
    late-old c.args.net.bytes.now c.args.net.shape (framed_net c.args.net) c.args.t c.args.age (omega (arith, c.if-net-t.false))
    (passed c.timely.ensures c.if-not-timely.false) c.requires.age_value
