-- `marking::change` meets its contract. The loop keeps that no place passed fails and that their markings are written, and that the others
-- stand as they stood.
use Rattle.std.proofs.Common.{◌≡◌, ◌-◌, ◌≤◌, ℕ, Bool, true, not, length}
use Rattle.model.specs.Tab.{all}
use Rattle.forms.specs.Word.{Bytes, word, put_words}
use Rattle.forms.specs.Places.{mark_at}
use Rattle.moves.specs.Marking.{Changes}
use Rattle.moves.proofs.marking.change.Given as goal

abbrev pub invariant-loop-p : goal.invariant-loop-p
invariant-loop-p g l = record {
  same : l.p-iterator.weights.now ≡ l.weights;
  inside : l.p-iterator.at ≤ length l.weights;
  long : length l.state ≡ length l.initial.state;
  small : Bytes l.initial.state;
  stand : (q : ℕ) → l.p-iterator.at ≤ q → word l.state (mark_at q) ≡ word l.initial.state (mark_at q);
  passed : (fails : ℕ → Bool) (becomes : ℕ → ℕ) → Changes (goal.F-post g l.to) l.weights l.initial.state fails becomes
      → (l.state ≡ put_words (mark_at 0) l.p-iterator.at becomes l.initial.state) × (all l.p-iterator.at (λ k. not (fails k)) ≡ true);
}

abbrev pub decreases-loop-p : goal.decreases-loop-p
decreases-loop-p g l = length l.weights - l.p-iterator.at
