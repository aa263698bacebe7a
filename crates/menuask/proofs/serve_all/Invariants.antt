-- The buffers of the slices keep their lengths.
use Rattle.std.proofs.Common.{◌≡◌, length}
use Rattle.menuask.specs.Requests.{slice_most, third_most}
use Rattle.menuask.proofs.serve_all.Given as goal

abbrev pub invariant-loop : goal.invariant-loop
invariant-loop g l = (length l.slices.net.now ≡ slice_most) × (length l.slices.state.now ≡ slice_most) × (length l.slices.third.now ≡ third_most)
