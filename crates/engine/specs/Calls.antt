-- What each call tells and leaves, for any bytes.
-- Assumes nothing.
use Rattle.std.specs.Prelude.{◌≡◌, Bool, List, ℕ, ◌+◌, take, drop, Ok, Err}
use Rattle.std.specs.Borrow.{Bor}
use Rattle.model.specs.Event.{event_of}
use Rattle.model.specs.Rules.{answer_of}
use Rattle.forms.specs.Checked.{Checked, number_of_fault}
use Rattle.forms.specs.Stored.{net_of, stored}
use Rattle.forms.specs.Nets.{check_net}
use Rattle.forms.specs.Logs.{check_log}
use Rattle.forms.specs.Written.{check_room, after_initial}
use Rattle.forms.specs.Places.{event_at}
use Rattle.owed.specs.Reported.{reported}
use Rattle.moves.specs.After.{applied, state_taken_back, after}
use Rattle.logs.specs.Steps.{span_of}
use Rattle.runs.specs.declared.told.RunTold.{RunTold}
use Rattle.runs.specs.declared.told.WalkTold.{WalkTold}
use Rattle.runs.specs.Runs.{ran, walked, told_of_run, told_of_walk, run_fault, walk_fault, left}
use Rattle.engine.specs.declared.answers.Verdict.{Verdict}
use Rattle.engine.specs.declared.answers.EventTold.{EventTold}
use Rattle.engine.specs.declared.answers.DegreeTold.{DegreeTold}
use Rattle.engine.specs.declared.answers.OwedTold.{OwedTold}
use Rattle.engine.specs.declared.answers.StepTold.{StepTold}
use Rattle.engine.specs.Examined.{examine_net, examine_state, examine_log, if_fit}
use Rattle.engine.specs.Answers.{accepted, verdict_of, unfit, answered, event_unfit, event_answered}
use Rattle.engine.specs.Answers.{degree_of, no_degree, owed_of, no_report, tells_step, step_of}

-- CHECKS, AND THE INITIAL STATE

unfoldable pub net_told : List ℕ → Verdict
net_told net = verdict_of (check_net net)

unfoldable pub state_told : List ℕ → List ℕ → Verdict
state_told net state = if_fit (examine_state net state) accepted unfit

unfoldable pub initial_told : List ℕ → List ℕ → Verdict
initial_told net state = if_fit (examine_net net) (verdict_of (check_room (net_of net) state)) unfit

unfoldable pub initial_left : List ℕ → List ℕ → List ℕ
initial_left net state = if_fit (examine_net net) (after_initial (net_of net) state) (λ why. state)

-- ONE EVENT, DONE AND TAKEN BACK. `started`: a start has happened before it in its step

unfoldable pub event_told : List ℕ → List ℕ → ℕ → ℕ → Bool → EventTold
event_told net state first second started =
    if_fit (examine_state net state) (event_answered (answer_of (applied net started state (event_of first second)))) event_unfit

unfoldable pub event_left : List ℕ → List ℕ → ℕ → ℕ → Bool → List ℕ
event_left net state first second started =
    if_fit (examine_state net state) (after (net_of net) (applied net started state (event_of first second)) state) (λ why. state)

unfoldable pub back_told : List ℕ → List ℕ → ℕ → ℕ → Bool → Verdict
back_told net state first second started = if_fit (examine_state net state) (answered (answer_of (state_taken_back net started state (event_of first second)))) unfit

unfoldable pub back_left : List ℕ → List ℕ → ℕ → ℕ → Bool → List ℕ
back_left net state first second started =
    if_fit (examine_state net state) (after (net_of net) (state_taken_back net started state (event_of first second)) state) (λ why. state)

-- WHAT A STATE OWES

unfoldable pub degree_told : List ℕ → List ℕ → ℕ → DegreeTold
degree_told net state t = if_fit (examine_state net state) (degree_of (net_of net) (stored net state) t) no_degree

unfoldable pub owed_told : List ℕ → List ℕ → OwedTold
owed_told net state = if_fit (examine_state net state) (owed_of (reported (net_of net) (stored net state))) no_report

-- A LOG, RUN AND WALKED BACK. `started`: a start has happened before its first event, in its step

-- the events follow the fifth byte of the log
abbrev pub events_part : List ℕ → List ℕ
events_part log = drop (event_at 0) log

unfoldable pub run_told : List ℕ → List ℕ → List ℕ → Bool → RunTold
run_told net state log started = if_fit (examine_log net state log) (told_of_run (ran net started state (events_part log))) run_fault

unfoldable pub run_left : List ℕ → List ℕ → List ℕ → Bool → List ℕ
run_left net state log started = if_fit (examine_log net state log) (left net (ran net started state (events_part log)).state state) (λ why. state)

unfoldable pub walk_told : List ℕ → List ℕ → List ℕ → ℕ → Bool → WalkTold
walk_told net state log n started = if_fit (examine_log net state log) (told_of_walk (walked net started state (events_part log) n)) walk_fault

unfoldable pub walk_left : List ℕ → List ℕ → List ℕ → ℕ → Bool → List ℕ
walk_left net state log n started = if_fit (examine_log net state log) (left net (walked net started state (events_part log) n).state state) (λ why. state)

-- A STEP OF A LOG

-- 10, and then 23
abbrev pub step_by : Checked → StepTold → StepTold
step_by (Ok tt) told = told
step_by (Err why) told = tells_step (number_of_fault why) 0 0

unfoldable pub step_told : List ℕ → ℕ → StepTold
step_told log k = step_by (check_log log) (step_of (span_of (events_part log) k))

-- part is that part of the log: its bytes, in the log's own block, and so many bytes behind its front
pub record PartOf (log part : Bor (List ℕ)) (told : StepTold) : Type 0 where
  pub bytes : part.now ≡ take told.length (drop told.start log.now)
  pub block : part.ref_ptr.0 ≡ log.ref_ptr.0
  pub place : part.ref_ptr.1 ≡ told.start + log.ref_ptr.1
