-- `weights::pass_zero` meets its contract: each return is a case of `pass_zero`.
use Rattle.std.proofs.Common.{arith, sym, ◌∙◌, ◌-◌, length, drop, length-take, length-drop}
use Rattle.owed.proofs.Passing.{chunk-fits, chunk-number, pass-last, pass-one, pass-eight}
use Rattle.owed.proofs.weights.pass_zero.Goals as goal
use Rattle.owed.proofs.weights.pass_zero.Goals.{in_default-via-in-Some+else-from_le_bytes-eq0, in_default-via-in_default}

pub returns-then-weights-lt8 : goal.returns-then-weights-lt8
returns-then-weights-lt8 c = pass-last c.args.weights.now 0 c.args.p _ (omega arith)

pub returns-in-Some : goal.returns-in-Some
returns-in-Some c =
    let ws = c.args.weights.now in
    let p = c.args.p in
    let chunk = c.in-Some.ensures.cases in
    pass-eight ws 0 p _ (chunk-fits ws _ p chunk c.requires)
    (sym (chunk-number ws _ p chunk c.requires c.from_le_bytes.result c.from_le_bytes.ensures) ∙ c.if-from_le_bytes-eq0.true)

pub returns-in_default : goal.returns-in_default
returns-in_default c =
    let ws = c.args.weights.now in
    let p = c.args.p in
    elim c.in_default.branch [
      | in_default-via-in-Some+else-from_le_bytes-eq0 w ↦
          pass-one ws 0 p _ (λ z. w.if-from_le_bytes-eq0.false (chunk-number ws _ p w.in-Some.ensures.cases c.requires w.from_le_bytes.result w.from_le_bytes.ensures ∙ z))
      | in_default-via-in_default w ↦
          pass-last ws 0 p _ (omega (arith, w.in_default.ensures.cases, length-take (length ws - p) (drop p ws), length-drop p ws))
    ]
