-- `marking::change` meets its contract.
use Rattle.std.proofs.Common.{◌≡◌, refl, ap, ◌∙◌, arith}
use Rattle.model.proofs.Alls.{all-begin}
use Rattle.forms.specs.Word.{word, set_word}
use Rattle.forms.specs.Places.{mark_at}
use Rattle.forms.proofs.Runs.{put-begin}
use Rattle.forms.proofs.WordLaws.{length-set_word, word_after}
use Rattle.moves.proofs.Weighing.{change-end, change-stop, change-turn}
use Rattle.moves.proofs.marking.change.Goals as goal

pub loop-p-init : goal.loop-p-init
loop-p-init g c = rw c.into_iter-p-iterator.ensures.into_iter_gives record {
  same = c.of-p-items.ensures.0;
  inside = omega (arith, c.of-p-items.ensures.1);
  long = refl;
  small = λ k. omega (arith, c.type_inv.state k);
  stand = λ q u. refl;
  passed = λ fails becomes h. rw c.of-p-items.ensures.1 (put-begin (mark_at 0) becomes _, all-begin _);
}

pub returns-in_default : goal.returns-in_default
returns-in_default g c = λ fails becomes h.
    let next = rw c.loop-p.invariant.same at c.in-Some.ensures.steps.1 in
    let marking = c.read16.ensures.0 ∙ ap (word c.loop-p.state) c.mark_at-at.ensures ∙ c.loop-p.invariant.stand c.in-Some.p next.0 in
    change-stop _ _ _ c.loop-p.invariant.small fails becomes h _ _ (c.loop-p.invariant.passed fails becomes h) c.in-Some.p next.0 (omega (arith, next.1)) next.4
    c.read16.result c.in-Some.weight marking next.2 next.1 c.in_default.ensures

pub loop-p-preserved : goal.loop-p-preserved
loop-p-preserved g c =
    let next = rw c.loop-p.invariant.same at c.in-Some.ensures.steps.1 in
    let marking = c.read16.ensures.0 ∙ ap (word c.loop-p.state) c.mark_at-at.ensures ∙ c.loop-p.invariant.stand c.in-Some.p next.0 in
    let wrote : c.write16.new.s ≡ set_word c.loop-p.state (mark_at c.in-Some.p) c.in-Some-to.marking = rw c.mark_at-at.ensures at c.write16.ensures in
    record {
      same = rw c.in-Some.ensures.steps.0 c.loop-p.invariant.same;
      inside = omega (arith, next.1, next.5);
      long = rw wrote (length-set_word _ _ _) ∙ c.loop-p.invariant.long;
      small = c.loop-p.invariant.small;
      stand = λ q u.
          rw wrote (word_after c.loop-p.state (mark_at c.in-Some.p) c.in-Some-to.marking (mark_at q) (omega (arith, next.5)))
          ∙ c.loop-p.invariant.stand q (omega (arith, next.0, next.5));
      passed = λ fails becomes h.
          change-turn _ _ _ c.loop-p.invariant.small fails becomes h _ _ (c.loop-p.invariant.passed fails becomes h) c.in-Some.p next.0 (omega (arith, next.1)) next.4
          c.read16.result c.in-Some.weight marking next.2 next.1 c.in-Some-to.marking c.in-Some-to.ensures c.write16.new.s wrote _ next.5;
    }

pub returns : goal.returns
returns g c = λ fails becomes h.
    change-end _ _ _ c.loop-p.invariant.small fails becomes h _ _ (c.loop-p.invariant.passed fails becomes h) _ c.loop-p.invariant.inside (omega arith)
    (rw c.loop-p.invariant.same at c.in-None.ensures.steps.1).0 _ refl
