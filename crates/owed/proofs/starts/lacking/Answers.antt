-- `starts::lacking` meets its contract: the weights looked at are the transition's.
use Rattle.forms.proofs.CheckedNets.{framed_net, framed}
use Rattle.std.proofs.Common.{arith}
use Rattle.forms.proofs.Inside.{marks-inside}
use Rattle.forms.proofs.States.{places-small}
use Rattle.owed.proofs.ModelTests.{found-lacking}
use Rattle.owed.proofs.starts.lacking.Goals as goal

pub short_place-requires : goal.short_place-requires
short_place-requires c =
    let a = c.args in
    omega (arith, c.inputs.ensures.0, places-small a.net.bytes.now a.net.shape (framed_net c.args.net), marks-inside a.net.bytes.now a.net.shape a.state.now (framed c.args.net c.requires.is_state))

pub returns : goal.returns
returns c = found-lacking c.args.net.bytes.now c.args.net.shape c.args.state.now (framed c.args.net c.requires.is_state) c.args.t c.inputs.result.now c.inputs.ensures _ c.short_place.ensures
