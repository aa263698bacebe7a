-- `calls::step` meets its contract: the part that is told lies in the log.
use mathlib.Core.Path.{◌≡◌, refl}
use Prim.Native.Nat.{◌+◌, ◌-◌, ◌≤◌}
use lib.ListN.{length}
use native.Mathlib.Omega.{arith}
use Rattle.engine.proofs.StepParts.{step-inside}
use Rattle.engine.proofs.Promised.{part-promised}
use Rattle.engine.proofs.calls.step.Goals as goal

pub slice_bounds-result-end : goal.slice_bounds-result-end
slice_bounds-result-end c =
    let inside : c.step_told-told.result.start + c.step_told-told.result.length ≤ length c.args.log.now =
    rw c.step_told-told.ensures.value (step-inside _ _) in
    inside

pub returns : goal.returns
returns c =
    let t = c.step_told-told.result in
    let size : t.start + t.length - t.start ≡ t.length = omega arith in
    let both = part-promised _ _ _ (rw (← c.step_told-told.ensures.value) (record { bytes = rw size; block = refl; place = refl })) in
    record { part_of = both.0; part_given = both.1 }
