-- `state::check_state` meets its contract: behind the head the answer of all counts is given.
use Rattle.std.proofs.Common.{◌≡◌, Ok, arith, rules}
use Rattle.std.proofs.lemmas.Grind.{common_steps}
use Rattle.model.proofs.Alls.{holds}
use Rattle.forms.specs.Checked.{Checked, in_turn}
use Rattle.forms.specs.Stored.{net_of}
use Rattle.forms.specs.States.{check_counts, check_state}
use Rattle.forms.proofs.CheckedNets.{limits}
use Rattle.forms.proofs.States.{has-head-tells}
use Rattle.forms.proofs.Turns.{left_end}
use Rattle.forms.proofs.state.check_state.Goals as goal

pub check_counts-requires-clause-state_head : goal.check_counts-requires-clause-state_head
check_counts-requires-clause-state_head c = holds (has-head-tells _ _ _ _) (search (rules, limits))

pub returns : goal.returns
unfolding check_state
returns c =
    let N = net_of c.args.net.bytes.now in
    let all : ◌≡◌ {A = Checked} (Ok tt) (in_turn (check_counts N c.args.state.now) 0 N.transitions) = search (rules, limits, left_end) in
    grind (arith, common_steps, limits)
