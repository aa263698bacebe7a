-- `marks::short_place` meets its contract.
use Rattle.std.proofs.Common.{◌∙◌, ap}
use Rattle.model.proofs.Alls.{all-begin}
use Rattle.forms.specs.Word.{word}
use Rattle.owed.proofs.Searching.{search-end, search-turn, search-stop}
use Rattle.owed.proofs.marks.short_place.Goals as goal

pub loop-p-init : goal.loop-p-init
loop-p-init c = rw c.into_iter-p-iterator.ensures.into_iter_gives (c.of-p-items.ensures.0, rw c.of-p-items.ensures.1 (all-begin _))

pub returns-then-read16-weight : goal.returns-then-read16-weight
returns-then-read16-weight c =
    let next = rw c.loop-p.invariant.0 at c.in-Some.ensures.steps.1 in
    let marking = c.read16.ensures.0 ∙ ap (word c.args.state.now) c.mark_at.ensures in
    (next.1, search-stop _ _ _ c.in-Some.p c.loop-p.invariant.1 next.4 c.in-Some.weight c.read16.result next.2 marking _ next.1 c.if-read16-weight.true)

pub loop-p-preserved : goal.loop-p-preserved
loop-p-preserved c =
    let next = rw c.loop-p.invariant.0 at c.in-Some.ensures.steps.1 in
    let marking = c.read16.ensures.0 ∙ ap (word c.args.state.now) c.mark_at.ensures in
    (rw c.in-Some.ensures.steps.0 c.loop-p.invariant.0, search-turn _ _ _ c.in-Some.p c.loop-p.invariant.1 next.4 c.in-Some.weight c.read16.result next.2 marking c.if-read16-weight.false _ next.5)

pub returns : goal.returns
returns c = search-end _ _ _ _ c.loop-p.invariant.1 (rw c.loop-p.invariant.0 at c.in-None.ensures.steps.1).0
