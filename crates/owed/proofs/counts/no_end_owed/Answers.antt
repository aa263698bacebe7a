-- `counts::no_end_owed` meets its contract.
use Rattle.forms.proofs.CheckedNets.{framed_net}
use Rattle.std.proofs.Common.{refl, rules, tests}
use Rattle.model.specs.Rules.{has_no_end_owed}
use Rattle.model.proofs.Ranges.{all-below}
use Rattle.owed.proofs.counts.no_end_owed.Goals as goal

pub returns : goal.returns
unfolding has_no_end_owed
returns c = all-below _ _ _ c.all.ensures.ran refl (framed_net c.args.net).has_shape.transitions_are (λ x b q k. search (rules, tests))
