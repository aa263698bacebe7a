-- `state::check_counts` meets its contract: the counts above the lfd stand within the state.
use Rattle.std.proofs.Common.{rules}
use Rattle.forms.proofs.CheckedNets.{limits, framed_net, known}
use Rattle.forms.proofs.States.{counts-inside}
use Rattle.forms.proofs.state.check_counts.Goals as goal

pub blank-requires : goal.blank-requires
blank-requires c =
    let net = c.args.net in
    counts-inside _ _ (framed_net net) _ _ _ _ _ c.requires.state_head (known net c.requires.t_bound) (search (rules, limits))
    c.column.ensures c.count_at-at.ensures
