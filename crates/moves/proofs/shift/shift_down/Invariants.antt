-- `shift::shift_down` meets its contract. The loop goes up, and keeps that the first n bytes have come down (`Lowered`).
use mathlib.Core.Path.{◌≡◌}
use Prim.Native.Nat.{◌≤◌, ◌*◌, ◌-◌}
use lib.ListN.{length}
use Rattle.moves.proofs.Shifting.{Lowered}
use Rattle.moves.proofs.shift.shift_down.Given as goal

abbrev pub invariant-loop-n : goal.invariant-loop-n
invariant-loop-n l =
    (l.n ≤ l.all) × (l.all ≡ 2 * (l.cells - 1)) × Lowered l.base l.initial.s l.n l.s × (length l.s ≡ length l.initial.s)

abbrev pub decreases-loop-n : goal.decreases-loop-n
decreases-loop-n l = l.all - l.n
