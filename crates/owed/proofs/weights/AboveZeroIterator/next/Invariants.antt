-- `AboveZero::next` meets its contract. The loop keeps that the weights of the places passed are 0, and that none past the end is passed.
use Rattle.std.proofs.Common.{◌≡◌, ◌≤◌, ◌-◌, max, length}
use Rattle.owed.specs.Weights.{AreZero}
use Rattle.owed.proofs.weights.AboveZeroIterator.next.Given as goal

abbrev pub invariant-loop-self : goal.invariant-loop-self
invariant-loop-self l =
    (l.self.weights ≡ l.initial.self.weights) × (l.initial.self.at ≤ l.self.at) × AreZero l.initial.self.weights.now l.initial.self.at l.self.at
    × (l.self.at ≤ max l.initial.self.at (length l.initial.self.weights.now))

abbrev pub decreases-loop-self : goal.decreases-loop-self
decreases-loop-self l = length l.self.weights.now - l.self.at
