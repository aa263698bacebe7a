-- `state::check_state` meets its contract. The loop keeps that the transitions that are left give the answer of all.
use Rattle.forms.specs.Stored.{net_of}
use Rattle.forms.specs.States.{check_counts}
use Rattle.forms.proofs.Turns.{Left}
use Rattle.forms.proofs.state.check_state.Given as goal

abbrev pub invariant-loop-t : goal.invariant-loop-t
invariant-loop-t l = Left (check_counts (net_of l.net.bytes.now) l.state) (net_of l.net.bytes.now).transitions l.t
