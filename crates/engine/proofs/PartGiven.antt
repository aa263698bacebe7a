-- What `step` gives is the step.
-- Assumes nothing.
use mathlib.Core.Path.{◌≡◌, ap, ◌∙◌}
use mathlib.Core.List.{List, []}
use Prim.Native.Nat.{ℕ, ◌+◌}
use native.Mathlib.Omega.{arith}
use lib.ListN.{take, drop}
use denote.Ref.{Bor}
use Rattle.engine.specs.declared.answers.StepTold.{StepTold}
use Rattle.engine.specs.Said.{says_step}
use Rattle.engine.specs.Calls.{step_told, PartOf}
use Rattle.engine.specs.Steps.{PartGiven}
use Rattle.engine.proofs.StepParts.{steps_of}
use Rattle.engine.proofs.Checks.{told_fault}

module _ (log part : Bor (List ℕ)) (k : ℕ) (is : PartOf log part (step_told log.now k)) where
  told_part : StepTold → List ℕ
  told_part told = take told.length (drop told.start log.now)

  -- where nothing is told
  empty : (number : ℕ) → step_told log.now k ≡ says_step number 0 0 0 → (part.now ≡ []) × (part.ref_ptr.1 ≡ log.ref_ptr.1)
  unfolding told_part
  empty number e =
      let place : part.ref_ptr.1 ≡ 0 + log.ref_ptr.1 = is.place ∙ ap (λ t. t.start + log.ref_ptr.1) e in
      (is.bytes ∙ ap told_part e, omega (arith, place))

  pub part-given : PartGiven log part k
  unfolding told_part
  part-given = record {
    block_is = is.block;
    step_is = λ good h.
        let at = ((steps_of log.now good).each k).known h in
        (is.bytes ∙ ap told_part at.told ∙ at.stands_there, is.place ∙ ap (λ t. t.start + log.ref_ptr.1) at.told);
    no_step = λ good h. empty 23 (((steps_of log.now good).each k).no_more h);
    no_log = λ why bad. empty _ ((told_fault [] []).step log.now why bad k);
  }
