-- What the numbers that are still to come complete, is complete.
use Rattle.std.proofs.Common.{◌≡◌, ℕ, List, ◌≤◌, ◌+◌, ◌*◌, length, drop}
use Rattle.text.specs.Lines.{field_most, Fields}
use Rattle.text.proofs.line.put_fields.Given as goal

abbrev pub invariant-loop-n : goal.invariant-loop-n
invariant-loop-n l =
    (l.end ≤ l.at + l.n-index * field_most) × (length l.out ≡ length l.initial.out)
    × ((b : List ℕ) (e : ℕ) → Fields l.out l.end (drop l.n-index l.numbers) b e → Fields l.initial.out l.initial.end l.numbers b e)
