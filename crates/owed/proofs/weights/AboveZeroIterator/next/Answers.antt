-- `AboveZero::next` meets its contract: what it passes over is 0.
use Rattle.std.proofs.Common.{◌≤◌, length, arith}
use Rattle.model.proofs.Tab.{below-or-past}
use Rattle.owed.specs.Weights.{AreZero}
use Rattle.owed.proofs.Passing.{passed}
use Rattle.owed.proofs.weights.AboveZeroIterator.next.Goals as goal

pub loop-self-smaller : goal.loop-self-smaller
loop-self-smaller c =
    let on = passed c.loop-self.self.weights.now c.loop-self.self.at c.pass_zero-self.result c.loop-self-test.true (omega (arith, c.from-weight.ensures)) c.pass_zero-self.ensures in
    omega (arith, on.0)

pub loop-self-preserved : goal.loop-self-preserved
loop-self-preserved c =
    let on = passed c.loop-self.self.weights.now c.loop-self.self.at c.pass_zero-self.result c.loop-self-test.true (omega (arith, c.from-weight.ensures)) c.pass_zero-self.ensures in
    let zeros : AreZero c.args.self.now.weights.now c.loop-self.self.at c.pass_zero-self.result = rw c.loop-self.invariant.0 at on.1 in
    let inside : c.pass_zero-self.result ≤ length c.args.self.now.weights.now = rw c.loop-self.invariant.0 at on.2 in (
      c.loop-self.invariant.0,
      omega (arith, on.0),
      λ k u v. below-or-past k c.loop-self.self.at (c.loop-self.invariant.2 k u) (λ past. zeros k past v),
      omega arith,
    )
