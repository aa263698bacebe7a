-- `shift::shift_up` meets its contract. The loop goes down, and keeps that the bytes from place n on have gone up (`Lifted`).
use mathlib.Core.Path.{◌∙◌}
use native.Mathlib.Omega.{arith}
use borrow.Author.Rules.{rules}
use Rattle.moves.proofs.Shifting.{lifted-turn, lifted-all}
use Rattle.moves.proofs.shift.shift_up.Goals as goal

pub loop-n-preserved : goal.loop-n-preserved
loop-n-preserved c =
    let a = c.args in (
      omega arith,
      lifted-turn a.base a.cells a.s.now c.loop-n.n c.loop-n.s c.loop-n.invariant.1 (omega arith) (omega arith) (omega arith) (omega arith),
      search rules,
    )

pub returns : goal.returns
returns c =
    let a = c.args in
    c.write16.ensures
    ∙ lifted-all a.base a.cells a.s.now c.loop-n.n c.loop-n.s c.loop-n.invariant.1 (omega arith) (omega arith) (omega arith)
    (search rules)
