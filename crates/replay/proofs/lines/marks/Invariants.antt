-- The markings that are still to come complete those that were put.
use Rattle.std.proofs.Common.{◌≡◌, ℕ, List, ◌+◌, ◌*◌, ◌≤◌, length, drop}
use Rattle.model.specs.Tab.{tab}
use Rattle.forms.specs.Word.{word}
use Rattle.forms.specs.Places.{mark_at}
use Rattle.text.specs.Lines.{field_most, Fields}
use Rattle.replay.proofs.lines.marks.Given as goal

abbrev pub invariant-loop-p : goal.invariant-loop-p
invariant-loop-p l = record {
  end_bound : l.end ≤ l.initial.end + field_most * l.p;
  same_length : length l.out ≡ length l.initial.out;
  completes : (b : List ℕ) (e : ℕ) → Fields l.out l.end (drop l.p (tab l.places (λ k. word l.state (mark_at k)))) b e
      → Fields l.initial.out l.initial.end (tab l.places (λ k. word l.state (mark_at k))) b e;
}
