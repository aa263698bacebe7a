-- Where the telling begins: there nothing has been fed, and all is still to be told.
-- Assumes nothing.
use mathlib.Core.Path.{refl}
use mathlib.Core.Bool.{false}
use mathlib.Core.List.{List}
use Prim.Native.Nat.{ℕ, ◌≤◌}
use native.Mathlib.Omega.{arith}
use lib.Dec.{ltb}
use Rattle.why.specs.declared.found.Found.{Found}
use Rattle.why.specs.declared.found.Wish.{Wish}
use Rattle.why.specs.declared.telling.Telling.{Telling}
use Rattle.why.specs.declared.cursor.StepPart.TheVariants as step
use Rattle.why.specs.declared.cursor.Part.{Part}
use Rattle.why.specs.declared.cursor.Part.TheVariants as part
use Rattle.why.specs.Found.{Ready}
use Rattle.why.specs.Report.{last_step}
use Rattle.replay.specs.Replayed.{is_early}
use Rattle.why.specs.Said.{from_step, beginning, Going, Reached, about}
use Rattle.why.proofs.Remaining.{by-test}

from-within : (found : Found) (wish : Wish) → from_step found wish ≤ last_step found
unfolding from_step
from-within found wish = by-test wish.all (λ e. rw e (omega arith)) (λ e. rw e (omega arith))

-- there nothing has been fed, and all is still to be told
pub begins-well : (t : Telling) (state : List ℕ) → Ready t.net.now t.log.now state t.found → Reached (about t state) state (beginning t.found t.wish)
unfolding beginning
begins-well t state is =
    by-test (is_early t.found.told.number)
    (λ e. rw e refl)
    (λ e.
    let (told, fed) = is e in
    let from = from_step t.found t.wish in
    let going : (p : Part) → Going (about t state) state (record { part = p; step = from_step t.found t.wish; item = 0; fed = 0; started = false }) =
    λ p. record { fed = fed; told_is = told; late = e } in
    by-test (ltb 0 (from_step t.found t.wish))
    (λ f. rw (e, f) (going (part.Step step.Earlier), (from-within t.found t.wish, omega arith)))
    (λ f. rw (e, f) (going (part.Step step.Open), (from-within t.found t.wish, omega arith))))
