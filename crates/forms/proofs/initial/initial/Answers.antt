-- `initial::initial` meets its contract: head, marking and zeros are the image of the initial state.
use Rattle.std.proofs.Common.{arith, rules}
use Rattle.forms.specs.Places.{state_length}
use Rattle.forms.proofs.CheckedNets.{limits}
use Rattle.forms.proofs.Image.{no_room, room}
use Rattle.forms.proofs.initial.initial.Goals as goal

pub returns-then-state-state_length : goal.returns-then-state-state_length
returns-then-state-state_length c = no_room _ _ c.args.net.has_shape _ (search rules)

pub write_head-requires : goal.write_head-requires
unfolding state_length
write_head-requires c = omega (arith, limits)

pub returns : goal.returns
returns c =
    let wrote = rw (c.write_marking.ensures, c.write_head.ensures, c.clock_at.ensures, c.cells.ensures.0) at c.clear.ensures in
    room _ _ c.args.net.has_shape _ (search rules) _ wrote
