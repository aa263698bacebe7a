-- `marks::short_place` meets its contract. The loop keeps that no place passed is short.
use Rattle.std.proofs.Common.{◌≡◌, ◌-◌, true, not, length}
use Rattle.model.specs.Tab.{all}
use Rattle.owed.specs.Marks.{is_short}
use Rattle.owed.proofs.marks.short_place.Given as goal

abbrev pub invariant-loop-p : goal.invariant-loop-p
invariant-loop-p l =
    (l.p-iterator.weights.now ≡ l.weights) × (all l.p-iterator.at (λ k. not (is_short l.weights 0 l.state k)) ≡ true)

abbrev pub decreases-loop-p : goal.decreases-loop-p
decreases-loop-p l = length l.weights - l.p-iterator.at
