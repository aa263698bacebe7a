-- `degree::degree` meets its contract: the least over the input weights of the transition.
use Rattle.forms.proofs.CheckedNets.{framed_net, framed}
use Rattle.std.proofs.Common.{◌∙◌, arith}
use Rattle.forms.proofs.Inside.{marks-inside}
use Rattle.forms.proofs.States.{places-small}
use Rattle.owed.proofs.ModelTests.{degree_is}
use Rattle.owed.proofs.degree.degree.Goals as goal

pub least_times-requires : goal.least_times-requires
least_times-requires c =
    let a = c.args in
    omega (arith, c.inputs.ensures.0, places-small a.net.bytes.now a.net.shape (framed_net c.args.net), marks-inside a.net.bytes.now a.net.shape a.state.now (framed c.args.net c.requires.is_state))

pub returns : goal.returns
returns c = c.least_times.ensures ∙ degree_is c.args.net.bytes.now c.args.net.shape c.args.state.now (framed c.args.net c.requires.is_state) c.args.t c.inputs.result.now c.inputs.ensures
