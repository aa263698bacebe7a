-- A line ends at the byte 10 behind it, and the last one with the file.
use Rattle.std.proofs.Common.{◌≡◌, ℕ, ◌+◌, ◌<◌, ◌≤◌, ◌∙◌, length, IfSome, Option, Some, arith, refl, sym, subst, List}
use Rattle.phrases.specs.Names.{next_bad}
use Rattle.phrases.proofs.Lined.{new_line, line_goes_on, line_ends, last_line, due_here, not_due, due_last, next_bad_within}
use Rattle.phrases.proofs.names.next_bad.Goals as goal
use Rattle.phrases.proofs.names.next_bad.Goals.{then-byte-eq10+else-is_due, else-byte-eq10}

bounds : (names : List ℕ) (after : ℕ) (r : Option ℕ) → r ≡ next_bad names after → IfSome r (λ line. (after < line) × (line ≤ length names))
bounds names after r e = subst (λ (x : Option ℕ). IfSome x (λ line. (after < line) × (line ≤ length names))) (sym e) (next_bad_within after names)

pub loop-end-init : goal.loop-end-init
unfolding next_bad
loop-end-init c = record { begun = omega arith; counted = omega arith; one_line = new_line c.args.names.now 0 0 refl; searched = refl }

due : (c : goal.Then-is_due) → Some (c.loop-end.before + 1) ≡ next_bad c.args.names.now c.args.after
due c =
    due_here c.args.after c.loop-end.before _ _ _
    (line_ends c.args.names.now c.loop-end.from c.loop-end.end c.loop-end.invariant.begun c.loop-end-test.true c.if-byte-eq10.true c.loop-end.invariant.one_line)
    (sym c.if-is_due.true ∙ c.is_due.ensures)
    ∙ c.loop-end.invariant.searched

pub returns-then-is_due-clause-value : goal.returns-then-is_due-clause-value
returns-then-is_due-clause-value c = due c

pub returns-then-is_due-clause-bounds : goal.returns-then-is_due-clause-bounds
returns-then-is_due-clause-bounds c = bounds c.args.names.now c.args.after (Some (c.loop-end.before + 1)) (due c)

pub loop-end-preserved : goal.loop-end-preserved
loop-end-preserved c =
    let names = c.args.names.now in
    let from = c.loop-end.from in
    let end = c.loop-end.end in
    let known = c.loop-end.invariant in
    elim c.if-byte-eq10.branch [
      | then-byte-eq10+else-is_due w ↦ record {
        begun = omega arith;
        counted = omega arith;
        one_line = new_line names c.if-byte-eq10.from (end + 1) w.from-is;
        searched = rw (w.from-is, w.before-is)
            (not_due c.args.after c.loop-end.before _ _ _ (line_ends names from end known.begun c.loop-end-test.true w.if-byte-eq10.true known.one_line) (sym w.if-is_due.false ∙ w.is_due.ensures) ∙ known.searched);
      }
      | else-byte-eq10 w ↦ record {
        begun = omega arith;
        counted = omega arith;
        one_line = rw w.from-is (line_goes_on names from end known.begun c.loop-end-test.true w.if-byte-eq10.false known.one_line);
        searched = rw (w.from-is, w.before-is) known.searched;
      }
    ]

last : (c : goal.After-then_some) → c.then_some.result ≡ next_bad c.args.names.now c.args.after
last c =
    let names = c.args.names.now in
    let whole : c.loop-end.end ≡ length names = omega arith in
    c.then_some.ensures
    ∙ due_last c.args.after c.loop-end.before _ _ c.is_due-2.result (last_line names c.loop-end.from c.loop-end.end whole c.loop-end.invariant.one_line) c.is_due-2.ensures
    ∙ c.loop-end.invariant.searched

pub returns-clause-value : goal.returns-clause-value
returns-clause-value c = last c

pub returns-clause-bounds : goal.returns-clause-bounds
returns-clause-bounds c = bounds c.args.names.now c.args.after c.then_some.result (last c)
