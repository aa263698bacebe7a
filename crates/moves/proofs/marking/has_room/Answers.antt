-- `marking::has_room` meets its contract.
use Rattle.std.proofs.Common.{refl, rules, tests}
use native.Mathlib.Nat.{zero-add}
use Rattle.model.proofs.Ranges.{all-below}
use Rattle.moves.specs.Marking.{is_roomy}
use Rattle.moves.proofs.marking.has_room.Goals as goal

pub returns : goal.returns
unfolding is_roomy
returns c = all-below _ _ _ c.all.ensures.ran refl refl (λ x b q k. rw (zero-add x) (search (rules, tests)))
