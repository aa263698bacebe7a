-- `sets::starts_owed` meets its contract: the test is the model's for each transition that there is.
use Rattle.forms.proofs.CheckedNets.{framed_net, framed}
use Rattle.std.proofs.Common.{arith, rules, tests}
use Rattle.model.specs.Owed.{does_owe_start}
use Rattle.forms.specs.Stored.{net_of, stored}
use Rattle.forms.proofs.States.{transitions-small, transitions-same}
use Rattle.owed.proofs.ModelTests.{start-bit}
use Rattle.owed.proofs.sets.starts_owed.Goals as goal

pub word_of-requires-clause-few : goal.word_of-requires-clause-few
word_of-requires-clause-few c = omega (arith, transitions-small c.args.net.bytes.now c.args.net.shape (framed_net c.args.net))

pub returns : goal.returns
returns c =
    let a = c.args in
    rw (framed_net c.args.net).has_shape.transitions_are at (c.word_of.ensures (does_owe_start (net_of a.net.bytes.now) (stored a.net.bytes.now a.state.now)) (λ t told l h.
    let bit = start-bit a.net.bytes.now a.net.shape a.state.now (framed c.args.net c.requires) t (omega (arith, transitions-same a.net.bytes.now a.net.shape (framed_net c.args.net))) in
    search (rules, tests)))
