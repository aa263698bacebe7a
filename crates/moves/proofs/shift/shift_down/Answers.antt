-- `shift::shift_down` meets its contract. The loop goes up, and keeps that the first n bytes have come down (`Lowered`).
use mathlib.Core.Path.{◌≡◌, ap, ◌∙◌}
use Prim.Native.Nat.{ℕ, ◌+◌, ◌*◌, ◌-◌}
use native.Mathlib.Omega.{arith}
use borrow.Author.Rules.{rules}
use Rattle.forms.specs.Word.{set_word}
use Rattle.moves.proofs.Shifting.{lowered-all}
use Rattle.moves.proofs.shift.shift_down.Goals as goal

pub returns : goal.returns
returns c =
    let a = c.args in
    let e : 2 * (a.cells - 1) ≡ c.loop-n.n = omega arith in
    c.write16.ensures
    ∙ ap (λ (k : ℕ). set_word c.loop-n.s (a.base + k) 0) e
    ∙ lowered-all a.base a.s.now c.loop-n.n c.loop-n.s c.loop-n.invariant.2 a.cells (omega arith) (omega arith) (omega arith)
    (search rules)
