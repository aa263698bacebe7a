-- What a call tells, field by field, as the statements of Demands, Steps, Promised and Cases write it. The helpers of Answers, by which the
-- contracts say what is computed, are not used there.
-- Assumes nothing.
use Rattle.std.specs.Prelude.{Bool, ℕ}
use Rattle.model.specs.declared.answer.Short.{Short}
use Rattle.owed.specs.declared.report.OwedSet.{OwedSet}
use Rattle.runs.specs.declared.told.RunTold.{RunTold}
use Rattle.runs.specs.declared.told.WalkTold.{WalkTold}
use Rattle.engine.specs.declared.answers.Verdict.{Verdict}
use Rattle.engine.specs.declared.answers.EventTold.{EventTold}
use Rattle.engine.specs.declared.answers.DegreeTold.{DegreeTold}
use Rattle.engine.specs.declared.answers.OwedTold.{OwedTold}
use Rattle.engine.specs.declared.answers.StepTold.{StepTold}

abbrev pub says : ℕ → ℕ → Verdict
says number index = record { number = number; index = index }

-- a place and its shortage; and 0, 0 for no place
abbrev pub short_at : ℕ → ℕ → Short
short_at place lacks = record { place = place; lacks = lacks }

abbrev pub no_place : Short
no_place = short_at 0 0

abbrev pub says_event : ℕ → ℕ → Short → EventTold
says_event number index short = record { number = number; index = index; short = short }

abbrev pub says_run : ℕ → ℕ → ℕ → ℕ → Short → Bool → RunTold
says_run number index done ticks short started =
    record { number = number; index = index; done = done; ticks = ticks; short = short; started = started }

abbrev pub says_walk : ℕ → ℕ → ℕ → ℕ → WalkTold
says_walk number index done ticks = record { number = number; index = index; done = done; ticks = ticks }

abbrev pub says_degree : ℕ → ℕ → ℕ → DegreeTold
says_degree number index degree = record { number = number; index = index; degree = degree }

abbrev pub set_says : ℕ → ℕ → ℕ → OwedSet
set_says word count lowest = record { word = word; count = count; lowest = lowest }

abbrev pub says_owed : ℕ → ℕ → OwedSet → OwedSet → ℕ → OwedTold
says_owed number index starts ends standing = record { number = number; index = index; starts = starts; ends = ends; standing = standing }

abbrev pub says_step : ℕ → ℕ → ℕ → ℕ → StepTold
says_step number index start length = record { number = number; index = index; start = start; length = length }
