-- The bytes of document 01's examples, and the longest net, state and log that its limits permit.
-- Assumes nothing.
use Rattle.std.specs.Prelude.{◌≡◌, List, [], ◌∷◌, ◌++◌, ℕ, ◌*◌, length, replicate, Ok, Err}
use Rattle.model.specs.Net.{Net, initial_state}
use Rattle.model.specs.Cases.{childrens_row, log}
use Rattle.forms.specs.declared.fault.Fault.TheVariants as fault
use Rattle.forms.specs.Stored.{log_events}
use Rattle.forms.specs.Listed.{net_bytes, state_bytes, log_bytes}
use Rattle.forms.specs.Nets.{check_net}
use Rattle.forms.specs.States.{check_state}
use Rattle.forms.specs.Logs.{check_log}

-- THE CHILDREN'S ROW NET

abbrev pub row_net : List ℕ
row_net =
    0x01 ∷ 0x00 ∷ 0x00 ∷ 0x00 ∷ 0x1D ∷ 0x03 ∷ 0x02
    ∷ 0x00 ∷ 0x01 ∷ 0x00 ∷ 0x00 ∷ 0x00 ∷ 0x00
    ∷ 0x01 ∷ 0x03 ∷ 0x01 ∷ 0x00 ∷ 0x00 ∷ 0x00 ∷ 0x01 ∷ 0x00
    ∷ 0x00 ∷ 0x00 ∷ 0x00 ∷ 0x01 ∷ 0x00 ∷ 0x00 ∷ 0x00 ∷ 0x01 ∷ []

abbrev pub row_state : List ℕ
row_state = (0x01 ∷ 0x00 ∷ 0x00 ∷ 0x00 ∷ 0x1E ∷ 0x03 ∷ 0x02 ∷ 0x04 ∷ 0x00 ∷ 0x01 ∷ []) ++ replicate 20 0x00

abbrev pub row_log : List ℕ
row_log = 0x01 ∷ 0x00 ∷ 0x00 ∷ 0x00 ∷ 0x0F ∷ 0x01 ∷ 0x00 ∷ 0x00 ∷ 0x00 ∷ 0x41 ∷ 0x01 ∷ 0x02 ∷ 0x00 ∷ 0x42 ∷ 0x00 ∷ []

pub record DocumentBytes : Type 0 where
  pub net : row_net ≡ net_bytes childrens_row
  pub net_good : check_net row_net ≡ Ok tt
  pub state : row_state ≡ state_bytes childrens_row (initial_state childrens_row)
  pub log_good : check_log row_log ≡ Ok tt
  pub events : log_events row_log ≡ log
  -- lengths 0 and 6 as a net; a log of 5 bytes
  pub no_net : check_net [] ≡ Err fault.NetFrame
  pub short_net : check_net (0x01 ∷ 0x00 ∷ 0x00 ∷ 0x00 ∷ 0x06 ∷ 0x01 ∷ []) ≡ Err fault.NetFrame
  pub empty-log : check_log (0x01 ∷ 0x00 ∷ 0x00 ∷ 0x00 ∷ 0x05 ∷ []) ≡ Ok tt

-- THE LONGEST

-- 64 places and 64 transitions of 0..63 ticks; every weight is 255, and every place begins with 65,535
unfoldable pub longest : Net
longest = record {
  places = 64;
  transitions = 64;
  takes = λ t p. 255;
  gives = λ t p. 255;
  sfd = λ t. 0;
  lfd = λ t. 63;
  initial_marking = λ p. 65535;
}

-- n ticks
abbrev pub tick_log : ℕ → List ℕ
tick_log n = log_bytes (replicate (2 * n) 0)

pub record LongestAccepted : Type 0 where
  pub net-length : length (net_bytes longest) ≡ 8455
  pub net_good : check_net (net_bytes longest) ≡ Ok tt
  pub state-length : length (state_bytes longest (initial_state longest)) ≡ 8328
  pub state_good : check_state longest (state_bytes longest (initial_state longest)) ≡ Ok tt
  pub log-length : length (tick_log 24000) ≡ 48005
  pub log_good : check_log (tick_log 24000) ≡ Ok tt
  pub log_bad : check_log (tick_log 24001) ≡ Err fault.LogFrame
