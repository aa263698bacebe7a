-- `CheckedNet::of` meets its contract: a net that passes is one, and its shape is small.
use mathlib.Core.Path.{sym, ◌∙◌}
use native.Mathlib.Omega.{arith}
use Rattle.model.proofs.Shape.{width-pos}
use Rattle.forms.specs.Stored.{net_of}
use Rattle.forms.proofs.States.{places-small, transitions-small, width_small}
use Rattle.forms.proofs.Frames.{net_frame}
use Rattle.forms.proofs.checked.CheckedNet.of.Goals as goal

pub invariant_of-result : goal.invariant_of-result
invariant_of-result c =
    let passes = sym c.check_net.ensures ∙ c.in_ok-check_net.was in
    let shape = c.shape_of.ensures in
    let f = net_frame _ _ passes shape in
    record {
      passes = passes;
      has_shape = shape;
      column = omega (arith, shape.width_is, width-pos (net_of c.args.bytes.now));
      small = omega (arith, places-small _ _ f, transitions-small _ _ f, width_small _ _ f);
    }
