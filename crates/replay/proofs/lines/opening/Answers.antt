use Rattle.std.proofs.Common.{sym, ◌∙◌}
use Rattle.replay.specs.Lines.Opens.{both}
use Rattle.replay.proofs.lines.opening.Goals as goal

pub returns-else-is_early-clause-opens : goal.returns-else-is_early-clause-opens
returns-else-is_early-clause-opens c =
    both (sym c.is_early.ensures ∙ c.if-is_early.false) c.result-end.ensures.line c.marks.ensures.line
