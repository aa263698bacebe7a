-- When what is given to a call is at fault, and which fault is told: document 01's numbers 1 to 6, 8, 9 and 10, in this order, each
-- exactly when its table has it. Nothing need be known of the bytes.
-- Assumes nothing.
use Rattle.std.specs.Prelude.{◌≡◌, ◌↔◌, List, ℕ, Err}
use Rattle.forms.specs.declared.fault.Fault.{Fault}
use Rattle.forms.specs.declared.fault.Fault.TheVariants as fault
use Rattle.forms.specs.Stored.{net_of}
use Rattle.forms.specs.Nets.{IsNet, NetFaulty}
use Rattle.forms.specs.States.{IsState, StateFaulty}
use Rattle.forms.specs.Logs.{IsLog}
use Rattle.engine.specs.Examined.{examine_net, examine_state, examine_log}
use Rattle.engine.specs.Demands.{Passes}

-- 1 to 6 of the net, and then 8 and 9 of the state
pub data StateUnfit (net b : List ℕ) (why : Fault) : Type 0 where
  in_net : NetFaulty net why → StateUnfit net b why
  in_state : IsNet net → StateFaulty (net_of net) b why → StateUnfit net b why

-- and then 10 of the log
pub data LogUnfit (net b log : List ℕ) : Fault → Type 0 where
  before : {why : Fault} → StateUnfit net b why → LogUnfit net b log why
  in_log : IsNet net → IsState (net_of net) b → ¬ IsLog log → LogUnfit net b log fault.LogFrame

pub record Examines (net b log : List ℕ) : Type 0 where
  pub net_passes : Passes (examine_net net) ↔ IsNet net
  pub state_passes : Passes (examine_state net b) ↔ (IsNet net × IsState (net_of net) b)
  pub log_passes : Passes (examine_log net b log) ↔ (IsNet net × IsState (net_of net) b × IsLog log)
  pub net_faults : (why : Fault) → (examine_net net ≡ Err why) ↔ NetFaulty net why
  pub state_faults : (why : Fault) → (examine_state net b ≡ Err why) ↔ StateUnfit net b why
  pub log_faults : (why : Fault) → (examine_log net b log ≡ Err why) ↔ LogUnfit net b log why
