-- The lines that are still to come complete those that were put. Each cell is a later one.
use Rattle.std.proofs.Common.{◌≡◌, ℕ, List, Option, ◌-◌, ◌<◌, ◌≤◌, length, IfSome}
use Rattle.std.specs.Option.{option_map_or}
use Rattle.replay.specs.Lines.{RunLines}
use Rattle.replay.proofs.lines.runs.Given as goal

abbrev pub invariant-loop-next : goal.invariant-loop-next
invariant-loop-next l = record {
  end_bound : l.end ≤ length l.out;
  same_length : length l.out ≡ length l.initial.out;
  known : IfSome l.next (λ cell. cell < l.cells);
  completes : (b : List ℕ) (e : ℕ) (n : Option ℕ) → RunLines l.state l.cells l.out l.end l.next b e n
      → RunLines l.state l.cells l.initial.out l.initial.end l.initial.next b e n;
}

abbrev pub decreases-loop-next : goal.decreases-loop-next
decreases-loop-next l = option_map_or (λ cell. l.cells - cell) l.next 0
