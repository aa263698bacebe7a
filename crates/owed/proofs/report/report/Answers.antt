-- `report::report` meets its contract: each set by its word, and the standing by both.
use Rattle.forms.proofs.CheckedNets.{framed_net}
use mathlib.Core.Path.{◌∙◌}
use native.Mathlib.Omega.{arith}
use Prim.Native.Nat.{◌≤◌}
use Rattle.model.specs.Owed.{does_owe_start, does_owe_end, owed}
use Rattle.forms.specs.Stored.{net_of, stored}
use Rattle.forms.proofs.States.{transitions-small}
use Rattle.owed.proofs.ModelTests.{set_is}
use Rattle.owed.proofs.report.report.Goals as goal

pub returns : goal.returns
unfolding owed
returns c =
    let a = c.args in
    let N = net_of a.net.bytes.now in
    let S = stored a.net.bytes.now a.state.now in
    let g = (framed_net c.args.net) in
    let few : N.transitions ≤ 64 = omega (arith, transitions-small a.net.bytes.now a.net.shape g, g.has_shape.transitions_are) in
    λ i. record {
      starts = (c.of.ensures ∙ set_is (does_owe_start N S) N.transitions c.starts_owed-starts.result few c.starts_owed-starts.ensures) i;
      ends = (c.of-2.ensures ∙ set_is (does_owe_end N S) N.transitions c.ends_owed-ends.result few c.ends_owed-ends.ensures) i;
      standing = c.standing.ensures i;
    }
