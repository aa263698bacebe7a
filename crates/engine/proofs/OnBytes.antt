-- The demands hold on bytes. Each field cites the theorem that carries it.
-- Assumes nothing.
use Rattle.model.proofs.Order.{step_order}
use Rattle.forms.proofs.Logs.{log-exact}
use Rattle.forms.proofs.AsListed.{as_listed}
use Rattle.engine.specs.OnBytes.{OnBytes}
use Rattle.engine.proofs.StepParts.{steps_of}
use Rattle.engine.proofs.PartGiven.{part-given}
use Rattle.engine.proofs.Demands.{demand_2, demand_3}
use Rattle.engine.proofs.Checks.{initial-given, told_passes, told_fault}
use Rattle.engine.proofs.Faults.{examines}

pub on-bytes : OnBytes
on-bytes = record {
  as_listed = as_listed;
  examines = examines;
  told_passes = told_passes;
  told_fault = told_fault;
  demand_2 = demand_2;
  demand_3 = demand_3;
  step_order = step_order;
  initial = initial-given;
  log_good = log-exact;
  steps = steps_of;
  parts = part-given;
}
