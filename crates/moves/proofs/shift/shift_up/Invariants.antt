-- `shift::shift_up` meets its contract. The loop goes down, and keeps that the bytes from place n on have gone up (`Lifted`).
use mathlib.Core.Path.{◌≡◌}
use Prim.Native.Nat.{◌≤◌, ◌*◌, ◌-◌}
use lib.ListN.{length}
use Rattle.moves.proofs.Shifting.{Lifted}
use Rattle.moves.proofs.shift.shift_up.Given as goal

abbrev pub invariant-loop-n : goal.invariant-loop-n
invariant-loop-n l = (l.n ≤ 2 * (l.cells - 1)) × Lifted l.base l.cells l.initial.s l.n l.s × (length l.s ≡ length l.initial.s)

abbrev pub decreases-loop-n : goal.decreases-loop-n
decreases-loop-n l = l.n
