-- The demands on the engine, for bytes: what is promised of every net, buffer and log that a call can be given. Each part is stated in
-- the file that it is taken from. `Bytes` is discharged by the calls: each promises its part of this of the very slices that it was lent,
-- and that they are bytes (Promised.antt, the last clause of each contract in src/calls.rt).
-- Assumes nothing.
use Rattle.std.specs.Prelude.{◌≡◌, ◌↔◌, List, ℕ, Ok}
use Rattle.std.specs.Borrow.{Bor}
use Rattle.model.specs.Net.{Net}
use Rattle.model.specs.Order.{StepOrder}
use Rattle.forms.specs.Word.{Bytes}
use Rattle.forms.specs.Logs.{IsLog, check_log}
use Rattle.forms.specs.AsListed.{AsListed}
use Rattle.engine.specs.Examined.{examine_net, examine_state}
use Rattle.engine.specs.Calls.{initial_told, initial_left, step_told, PartOf}
use Rattle.engine.specs.Steps.{StepsOf, PartGiven}
use Rattle.engine.specs.Demands.{Passes, Demand2, Demand3, InitialGiven, ToldPasses, ToldFault}
use Rattle.engine.specs.Faults.{Examines}

pub record OnBytes : Type 0 where
  -- what the bytes say is what document 01 lists, for every size
  pub as_listed : AsListed
  -- demand 1: what is given is examined in document 01's order; nothing is accepted that is at fault; a fault is told, and nothing written
  pub examines : (net b log : List ℕ) → Examines net b log
  pub told_passes : (net b : List ℕ) → ToldPasses net b
  pub told_fault : (net b : List ℕ) → ToldFault net b
  -- demands 2 and 3, of a net and a state that got past the checks
  pub demand_2 : (net b : List ℕ) → Bytes net → Bytes b → Passes (examine_state net b) → Demand2 net b
  pub demand_3 : (net b : List ℕ) → Bytes b → Passes (examine_state net b) → Demand3 net b
  -- and so a step of an accepted log, whose events lead from the state given (`permitted` of LogRun), is ordered as Section 2.2 of document 004
  -- has it. This speaks of `Leads` alone, so no call promises it beside LogRun
  pub step_order : (N : Net) → StepOrder N
  -- the initial state, and the steps of a log
  pub initial : (net b : List ℕ) → Bytes net → Passes (examine_net net) → InitialGiven net b (initial_told net b) (initial_left net b)
  pub log_good : (log : List ℕ) → (check_log log ≡ Ok tt) ↔ IsLog log
  pub steps : (log : List ℕ) → check_log log ≡ Ok tt → StepsOf log
  -- the part that `step` gives, of which its contract says `PartOf`
  pub parts : (log part : Bor (List ℕ)) (k : ℕ) → PartOf log part (step_told log.now k) → PartGiven log part k
