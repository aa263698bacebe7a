-- The buffers that are still to come complete those that were written. Each has later cells.
use Rattle.std.proofs.Common.{◌≡◌, ℕ, List, ◌≤◌, length}
use Rattle.replay.specs.Lines.{Sheets, SheetsSoFar}
use Rattle.replay.proofs.Runs.{to_come}
use Rattle.replay.proofs.sheet.print.Given as goal

abbrev pub invariant-loop-next : goal.invariant-loop-next
invariant-loop-next g l = record {
  end_bound : l.end ≤ length l.out;
  same_length : length l.out ≡ length l.initial.out;
  completes : (b : List ℕ) → Sheets l.state l.cells l.out l.next b → Sheets l.state l.cells l.initial.out l.initial.next b;
  so_far : (b : List ℕ) → SheetsSoFar l.state l.cells l.out l.next b → SheetsSoFar l.state l.cells l.initial.out l.initial.next b;
}

abbrev pub decreases-loop-next : goal.decreases-loop-next
decreases-loop-next g l = to_come l.cells l.next
