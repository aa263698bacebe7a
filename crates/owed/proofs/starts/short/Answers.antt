-- `starts::short` meets its contract: the place has fewer tokens than the weight that is read.
use Rattle.forms.proofs.CheckedNets.{framed}
use Rattle.std.proofs.Common.{arith}
use Rattle.forms.proofs.Inside.{marks-inside}
use Rattle.owed.proofs.ModelTests.{short_is}
use Rattle.owed.proofs.starts.short.Goals as goal

pub read16-requires : goal.read16-requires
read16-requires c = omega (arith, marks-inside c.args.net.bytes.now c.args.net.shape c.args.state.now (framed c.args.net c.requires.is_state), c.requires.t_bound.1, c.mark_at.ensures)

pub overflow_sub-lacks : goal.overflow_sub-lacks
overflow_sub-lacks c =
    let told = short_is c.args.net.bytes.now c.args.net.shape c.args.state.now (framed c.args.net c.requires.is_state) c.args.t c.inputs.result.now c.inputs.ensures c.args.p c.requires.t_bound.1 c.requires.t_bound.2
    _ _ _ c.from-weight.ensures c.read16.ensures.0 c.mark_at.ensures in
    omega (arith, told.0)

pub returns : goal.returns
returns c =
    (short_is c.args.net.bytes.now c.args.net.shape c.args.state.now (framed c.args.net c.requires.is_state) c.args.t c.inputs.result.now c.inputs.ensures c.args.p c.requires.t_bound.1 c.requires.t_bound.2
    _ _ _ c.from-weight.ensures c.read16.ensures.0 c.mark_at.ensures).1
