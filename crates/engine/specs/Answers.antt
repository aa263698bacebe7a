-- What a call tells: document 01's number and index, and what belongs to it, which is 0 where the call is refused; but 13 tells a place
-- and its shortage.
-- Assumes nothing.
use Rattle.std.specs.Prelude.{cond, ℕ, ◌+◌, ◌-◌, ltb, Option, Some, None}
use Rattle.logs.specs.declared.steps.Span.{Span}
use Rattle.model.specs.declared.answer.Refusal.TheVariants as refusal
use Rattle.model.specs.Answer.{Answer, nothing_short, number_of as number_of_answer, short_of, number_of_refusal, number_of_standing}
use Rattle.model.specs.Net.{Net, State}
use Rattle.model.specs.Rules.{degree}
use Rattle.forms.specs.declared.fault.Fault.{Fault}
use Rattle.forms.specs.Checked.{Checked, number_of, index_of, number_of_fault, index_of_fault}
use Rattle.forms.specs.Places.{event_at}
use Rattle.owed.specs.declared.report.Owed.{Owed}
use Rattle.owed.specs.Reported.{set_of}
use Rattle.engine.specs.declared.answers.Verdict.{Verdict}
use Rattle.engine.specs.declared.answers.EventTold.{EventTold}
use Rattle.engine.specs.declared.answers.DegreeTold.{DegreeTold}
use Rattle.engine.specs.declared.answers.OwedTold.{OwedTold}
use Rattle.engine.specs.declared.answers.StepTold.{StepTold}

-- NUMBER AND INDEX

abbrev pub verdict : ℕ → ℕ → Verdict
verdict number index = record { number = number; index = index }

abbrev pub accepted : Verdict
accepted = verdict 0 0

abbrev pub verdict_of : Checked → Verdict
verdict_of answer = verdict (number_of answer) (index_of answer)

abbrev pub unfit : Fault → Verdict
unfit why = verdict (number_of_fault why) (index_of_fault why)

-- a single event taken back tells 0 as its index
abbrev pub answered : Answer → Verdict
answered answer = verdict (number_of_answer answer) 0

-- A SINGLE EVENT: and the place that is short

abbrev pub event_unfit : Fault → EventTold
event_unfit why = record { number = number_of_fault why; index = index_of_fault why; short = nothing_short }

abbrev pub event_answered : Answer → EventTold
event_answered answer = record { number = number_of_answer answer; index = 0; short = short_of answer }

-- THE DEGREE

abbrev pub tells_degree : ℕ → ℕ → ℕ → DegreeTold
tells_degree number index times = record { number = number; index = index; degree = times }

-- 12 for a transition that the net does not have
abbrev pub degree_of : Net → State → ℕ → DegreeTold
degree_of N S t = cond (ltb t N.transitions) (tells_degree 0 0 (degree N S t)) (tells_degree (number_of_refusal refusal.NoSuchTransition) 0 0)

abbrev pub no_degree : Fault → DegreeTold
no_degree why = tells_degree (number_of_fault why) (index_of_fault why) 0

-- THE OWED REPORT

abbrev pub owed_of : Owed → OwedTold
owed_of o = record { number = 0; index = 0; starts = o.starts; ends = o.ends; standing = number_of_standing o.standing }

abbrev pub no_report : Fault → OwedTold
no_report why = record {
  number = number_of_fault why;
  index = index_of_fault why;
  starts = set_of 0 0 0;
  ends = set_of 0 0 0;
  standing = 0;
}

-- A STEP OF A LOG

abbrev pub tells_step : ℕ → ℕ → ℕ → StepTold
tells_step number start length = record { number = number; index = 0; start = start; length = length }

-- where it stands in the log, whose events follow its fifth byte; 23 where there is no such step
abbrev pub step_of : Option Span → StepTold
step_of (Some span) = tells_step 0 (event_at 0 + span.start) (span.end - span.start)
step_of None = tells_step 23 0 0
