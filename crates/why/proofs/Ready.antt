-- What is found out first, and that the telling can begin behind it.
-- Assumes nothing.
use mathlib.Core.Path.{◌≡◌, refl, sym, ap, ◌∙◌}
use mathlib.Core.Bool.{false}
use mathlib.Core.List.{List, []}
use Prim.Native.Nat.{ℕ}
use native.Mathlib.Omega.{arith}
use lib.ListN.{length}
use Rattle.std.proofs.Common.{Ok, Err}
use Rattle.model.specs.declared.net.Net.{Net as Shape}
use Rattle.model.specs.Net.{State}
use Rattle.model.specs.Run.{stay, run, started_after}
use Rattle.forms.specs.Word.{Bytes}
use Rattle.forms.specs.Stored.{net_of, stored, events_in, log_events}
use Rattle.forms.specs.Logs.{IsLog}
use Rattle.forms.specs.Frame.{Framed, Began}
use Rattle.forms.proofs.Written.{written-own}
use Rattle.runs.specs.declared.told.RunTold.{RunTold}
use Rattle.runs.specs.Runs.{told_of_run}
use Rattle.engine.specs.Examined.{Examined, examine_state, examine_log}
use Rattle.engine.specs.Calls.{events_part, initial_left, run_told}
use Rattle.engine.specs.Demands.{Passes}
use Rattle.engine.specs.Promised.{Fit}
use Rattle.engine.proofs.Fits.{log-fits}
use Rattle.engine.proofs.Faults.{examines}
use Rattle.engine.proofs.Checks.{initial-given}
use Rattle.engine.proofs.PastChecks.{run-told}
use Rattle.engine.proofs.Promised.{fit-meets}
use Rattle.replay.specs.Replayed.{is_early}
use Rattle.replay.proofs.Shown.{fault-early, not-both}
use Rattle.why.specs.Portions.{first_of, Fed}
use Rattle.why.proofs.Fed.{is-first, first-events}

-- a log that is not refused for what the call was given: net, state and log are in their forms
late-fits : (net b log : List ℕ) (x : Examined) → examine_log net b log ≡ x → is_early (run_told net b log false).number ≡ false
    → (s : Shape) × Framed net s b × IsLog log
unfolding run_told
late-fits net b log (Ok s) e late = let (f, l) = log-fits net s b log e in (s, f, l)
late-fits net b log (Err why) e late = not-both (fault-early why) (rw e at late)

-- the initial state, in whatever buffer has room for it
module _ (net x : List ℕ) (s : Shape) (b : List ℕ) (bytes : Bytes net) (f : Framed net s b) (long : length x ≡ length b) where
  begun : Began net x (initial_left net x) × Passes (examine_state net (initial_left net x))
  begun =
      let passes = (examines net x []).net_passes.1 f.net_framed.is_net in
      let (told, began, there) = (initial-given net x bytes passes).done (rw long f.is_state.head.room) in
      (began, there)

-- no events lead nowhere
module _ (net first log : List ℕ) (f : Fit net first) (l : IsLog log) where
  none-fed : Fed net first log first 0 false
  unfolding started_after
  none-fed =
      let is = is-first log l 0 (omega arith) in
      let passes = (examines net first (first_of log 0)).log_passes.1 (f.is_net, f.is_state, is) in
      let ran = (fit-meets net first f).0.log_by_log (first_of log 0) passes false in
      let none : log_events (first_of log 0) ≡ [] = first-events log 0 in
      let (told, left) = ran.done (stored net first) (rw none stay) in
      record {
        fit = f;
        is-log = l;
        accepted = omega arith;
        state_is = sym (left.whole ∙ written-own (net_of net) first f.state-bytes);
        started_is = sym (ap (λ (x : RunTold). x.started) told ∙ rw none refl);
      }

-- the log run from the initial state in one buffer, and from there in another
pub ready : (net log room x final : List ℕ) (told : RunTold) → Bytes net → Bytes final → told ≡ run_told net (initial_left net room) log false
    → length (initial_left net room) ≡ length room → length x ≡ length room → final ≡ initial_left net x → is_early told.number ≡ false
    → (told ≡ run_told net final log false) × Fed net final log final 0 false
ready net log room x final told bytes small is kept long left late =
    let b = initial_left net room in
    let (s, f, l) = late-fits net b log (examine_log net b log) refl (rw is at late) in
    let (began, _) = begun net room s b bytes f (sym kept) in
    let (again, passes) = begun net x s b bytes f (long ∙ sym kept) in
    let (shape, e) = passes in
    let (n, there) = (examines net final []).state_passes.0 (rw (← left) at passes) in
    let fit : Fit net final = record { is_net = n; is_state = there; net-bytes = bytes; state-bytes = small } in
    let framed : Framed net s final = record { net_framed = f.net_framed; is_state = there } in
    let same : stored net b ≡ stored net final = began.reads ∙ sym (ap (stored net) left ∙ again.reads) in (
      is ∙ run-told net s b f log l false ∙ ap (λ (S : State). told_of_run (run (net_of net) false S (events_in (events_part log)))) same
          ∙ sym (run-told net s final framed log l false),
      none-fed net final log fit l,
    )
