-- Document 01's bytes are those of the model's net, state and events; the longest forms are accepted.
-- Assumes nothing.
use mathlib.Core.Path.{◌≡◌, refl, ◌∙◌}
use mathlib.Core.List.{List}
use Prim.Native.Nat.{ℕ, ◌*◌}
use native.Mathlib.Omega.{arith}
use lib.ListN.{replicate, length-replicate}
use Rattle.model.specs.Tab.{tab, all, largest}
use Rattle.model.specs.Net.{Accepted, width, tokens, count, build, initial_state}
use Rattle.model.specs.Cases.{childrens_row}
use Rattle.model.proofs.Lawful.{initial-lawful}
use Rattle.forms.specs.Word.{word, word32}
use Rattle.forms.specs.Places.{row_at, net_length, state_length, image_length}
use Rattle.forms.specs.Checked.{in_turn}
use Rattle.forms.specs.Stored.{net_of, events_in}
use Rattle.forms.specs.Listed.{join, net_bytes, state_bytes}
use Rattle.forms.specs.Nets.{has_net_head, has_some_weight, check_row, check_net}
use Rattle.forms.specs.Begins.{begins_with}
use Rattle.forms.specs.Logs.{is_log, check_log}
use Rattle.forms.proofs.Nets.{net-exact}
use Rattle.forms.proofs.States.{state-exact}
use Rattle.forms.proofs.Logs.{log-exact, log-faulty}
use Rattle.forms.proofs.ListedNet.{length-net_bytes, net-listed-good}
use Rattle.forms.proofs.ListedLog.{length-log_bytes, log-listed-good}
use Rattle.forms.proofs.ListedState.{length-state_bytes, state-listed-good}
use Rattle.forms.specs.Cases.{DocumentBytes, longest, tick_log, LongestAccepted}

pub document-bytes : DocumentBytes
unfolding net_bytes state_bytes join tab childrens_row row_at state_length width largest tokens count build initial_state
    check_net has_net_head check_row has_some_weight in_turn net_of all word word32 check_log is_log begins_with events_in
document-bytes = record {
  net = refl;
  net_good = refl;
  state = refl;
  log_good = refl;
  events = refl;
  no_net = refl;
  short_net = refl;
  empty-log = refl;
}

-- THE LONGEST

longest-accepted-net : Accepted longest
unfolding longest
longest-accepted-net = record {
  proper = record {
    interval = λ t h. omega arith;
    preset = λ t h. (0, omega arith, omega arith);
    postset = λ t h. (0, omega arith, omega arith);
    initial_held = λ p h. omega arith;
  };
  sized = ((omega arith, omega arith), (omega arith, omega arith));
  short = λ t h. omega arith;
}

longest-long : net_length longest.places longest.transitions ≡ 8455
unfolding longest row_at
longest-long = refl

longest-wide : image_length longest ≡ 8328
unfolding longest state_length width largest
longest-wide = refl

abbrev ticks : ℕ → List ℕ
ticks n = replicate {A = ℕ} (2 * n) 0

pub longest-accepted : LongestAccepted
longest-accepted = record {
  net-length = length-net_bytes longest ∙ longest-long;
  net_good = (net-exact (net_bytes longest)).1 (net-listed-good longest longest-accepted-net);
  state-length = length-state_bytes longest (initial_state longest) ∙ longest-wide;
  state_good =
      (state-exact longest (state_bytes longest (initial_state longest))).1
      (state-listed-good longest (initial_state longest) (initial-lawful longest longest-accepted-net.proper));
  log-length = length-log_bytes (ticks 24000) ∙ omega (arith, length-replicate {A = ℕ} 48000 0);
  log_good = (log-exact (tick_log 24000)).1 (log-listed-good (ticks 24000) 24000 (length-replicate {A = ℕ} 48000 0) (omega arith));
  log_bad = (log-faulty (tick_log 24001)).1 (λ l.
      omega (arith, l.few, length-log_bytes (ticks 24001), length-replicate {A = ℕ} 48002 0));
}
