-- `calls::step_told` meets its contract: behind the log, where the step stands in what follows its fifth byte.
use Rattle.std.proofs.Common.{sym, ◌∙◌, arith}
use Rattle.logs.proofs.PairLaws.{rest}
use Rattle.engine.specs.Calls.{step_told}
use Rattle.engine.proofs.StepParts.{headed, span-lies}
use Rattle.engine.proofs.Promised.{step-promised}
use Rattle.engine.proofs.calls.step_told.Goals as goal

pub returns-in-Err : goal.returns-in-Err
unfolding step_told
returns-in-Err c =
    let both = step-promised _ c.type_inv.log _ _ (rw (sym c.check_log.ensures ∙ c.in-Err.is) (c.refused.ensures ∙ rw c.into.ensures)) in
    record { value = both.0; step_promise = both.1 }

pub slice_bounds-span_of-count : goal.slice_bounds-span_of-count
slice_bounds-span_of-count c = headed _ (sym c.in_default.ensures)

pub slice_bounds-span_of-start : goal.slice_bounds-span_of-start
slice_bounds-span_of-start c = headed _ (sym c.in_default.ensures)

pub overflow_add-result : goal.overflow_add-result
overflow_add-result c =
    let lies = span-lies _ (sym c.in_default.ensures) _ (rw rest at (sym c.in-Some.ensures)) in omega (arith, lies.0, lies.1)

pub overflow_sub-result : goal.overflow_sub-result
overflow_sub-result c = (span-lies _ (sym c.in_default.ensures) _ (rw rest at (sym c.in-Some.ensures))).0

pub returns-in-Some : goal.returns-in-Some
unfolding step_told
returns-in-Some c =
    let both = step-promised _ c.type_inv.log _ _ (rw (sym c.in_default.ensures, ← rest, sym c.in-Some.ensures)) in
    record { value = both.0; step_promise = both.1 }

pub returns-in-None : goal.returns-in-None
unfolding step_told
returns-in-None c =
    let both = step-promised _ c.type_inv.log _ _ (rw (sym c.in_default.ensures, ← rest, sym c.in-None.ensures) c.refused-in-None.ensures) in
    record { value = both.0; step_promise = both.1 }
