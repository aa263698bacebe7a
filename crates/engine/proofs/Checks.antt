-- What the calls tell of the checks: the initial state of a net that got past them, 0 of nothing that did not, and each fault.
-- Assumes nothing.
use Rattle.std.proofs.Common.{Ok, Err}
use mathlib.Core.Path.{◌≡◌, refl, sym, ap, ◌∙◌}
use mathlib.Core.List.{List}
use Prim.Native.Nat.{ℕ, ◌<◌, ◌≤◌}
use native.Mathlib.Omega.{arith}
use lib.ListN.{length}
use borrow.Author.Tests.{le-leb, lt-leb}
use Rattle.model.specs.declared.net.Net.{Net as Shape}
use Rattle.forms.specs.declared.fault.Fault.{Fault}
use Rattle.forms.specs.declared.fault.Fault.TheVariants as fault
use Rattle.forms.specs.Checked.{Checked, number_of, number_of_fault}
use Rattle.forms.specs.Word.{Bytes}
use Rattle.forms.specs.Places.{image_length}
use Rattle.forms.specs.Stored.{net_of}
use Rattle.forms.specs.Written.{check_room, after_initial}
use Rattle.forms.specs.Nets.{check_net}
use Rattle.forms.proofs.Frames.{frame, initial-began}
use Rattle.runs.specs.declared.told.RunTold.{RunTold}
use Rattle.runs.specs.declared.told.WalkTold.{WalkTold}
use Rattle.runs.specs.Runs.{run_fault, walk_fault}
use Rattle.engine.specs.declared.answers.Verdict.{Verdict}
use Rattle.engine.specs.declared.answers.EventTold.{EventTold}
use Rattle.engine.specs.declared.answers.DegreeTold.{DegreeTold}
use Rattle.engine.specs.declared.answers.OwedTold.{OwedTold}
use Rattle.engine.specs.Examined.{Examined, if_good, examine_net, examine_state, examine_log, if_fit}
use Rattle.engine.specs.Answers.{accepted, verdict_of, unfit, event_unfit, no_degree, no_report}
use Rattle.engine.specs.Calls.{net_told, state_told, initial_told, initial_left, event_told, event_left, back_told, back_left}
use Rattle.engine.specs.Calls.{degree_told, owed_told, run_told, run_left, walk_told, walk_left, step_told}
use Rattle.engine.specs.Demands.{Passes, InitialGiven, ToldPasses, ToldFault}
use Rattle.engine.proofs.Fits.{good-then, bad-then, net-fits}
use Rattle.engine.proofs.PastChecks.{fits-state}

-- THE INITIAL STATE

module _ (net b : List ℕ) (shape : Shape) (e : examine_net net ≡ Ok shape) where
  initial-told : initial_told net b ≡ verdict_of (check_room (net_of net) b)
  unfolding initial_told
  initial-told = rw e

  initial-left : initial_left net b ≡ after_initial (net_of net) b
  unfolding initial_left
  initial-left = rw e

  roomy : image_length (net_of net) ≤ length b → check_room (net_of net) b ≡ Ok tt
  unfolding check_room
  roomy h = rw (le-leb (image_length (net_of net)) (length b) h)

  narrow : length b < image_length (net_of net) → (check_room (net_of net) b ≡ Err fault.NoRoom) × (after_initial (net_of net) b ≡ b)
  unfolding check_room after_initial
  narrow h = rw (lt-leb (image_length (net_of net)) (length b) h) (refl, refl)

pub initial-given : (net b : List ℕ) → Bytes net → Passes (examine_net net) → InitialGiven net b (initial_told net b) (initial_left net b)
initial-given net b bytes (shape, e) =
    let n = net-fits net shape e in
    let told = initial-told net b shape e in
    let left = initial-left net b shape e in
    let b' = after_initial (net_of net) b in
    record {
      done = λ h.
          let began = initial-began net b bytes n.is_net h in (
            told ∙ ap verdict_of (roomy net b shape e h),
            rw left began,
            rw left (shape, fits-state net shape b' (frame net shape b' n began.accepted)),
          );
      no_room = λ h. let (r, same) = narrow net b shape e h in (told ∙ ap verdict_of r, left ∙ same);
    }

-- THE CHECKS

pub fault-number : {C : Type 0} (why : Fault) → number_of_fault why ≡ 0 → C
fault-number fault.NetFrame e = absurd (omega arith)
fault-number fault.NetSize e = absurd (omega arith)
fault-number fault.NetLength e = absurd (omega arith)
fault-number (fault.NoInterval t) e = absurd (omega arith)
fault-number (fault.NoInput t) e = absurd (omega arith)
fault-number (fault.NoOutput t) e = absurd (omega arith)
fault-number fault.NoRoom e = absurd (omega arith)
fault-number fault.StateFrame e = absurd (omega arith)
fault-number (fault.PastLfd t) e = absurd (omega arith)
fault-number fault.LogFrame e = absurd (omega arith)

-- where a call tells 0 its examination found no fault
zero-passes : {A : Type 0} (e : Examined) (go : A) (stop : Fault → A) (number : A → ℕ)
    → ((why : Fault) → number (stop why) ≡ number_of_fault why)
    → number (if_fit e go stop) ≡ 0 → Passes e
zero-passes (Ok shape) go stop number is z = (shape, refl)
zero-passes (Err why) go stop number is z = fault-number why (sym (is why) ∙ z)

-- the check of a net alone
net-zero : (c : Checked) (shape : Shape) → number_of c ≡ 0 → Passes (if_good c (Ok shape))
net-zero (Ok tt) shape z = (shape, refl)
net-zero (Err why) shape z = fault-number why z

pub told_passes : (net b : List ℕ) → ToldPasses net b
unfolding net_told state_told initial_told event_told back_told degree_told owed_told run_told walk_told examine_net
told_passes net b =
    let verdict : Verdict → ℕ = λ x. x.number in
    let event : EventTold → ℕ = λ x. x.number in
    let ran : RunTold → ℕ = λ x. x.number in
    let told : WalkTold → ℕ = λ x. x.number in
    record {
      check-net = (net-zero (check_net net) _, λ (s, e). ap number_of (good-then (check_net net) _ e).0);
      check-state = (
        zero-passes (examine_state net b) accepted unfit verdict (λ why. refl),
        λ p. rw p.1,
      );
      initial = zero-passes (examine_net net) _ unfit verdict (λ why. refl);
      event = λ first second started. zero-passes (examine_state net b) _ event_unfit event (λ why. refl);
      back = λ first second started. zero-passes (examine_state net b) _ unfit verdict (λ why. refl);
      degree = λ t. zero-passes (examine_state net b) _ no_degree (λ (x : DegreeTold). x.number) (λ why. refl);
      owed = zero-passes (examine_state net b) _ no_report (λ (x : OwedTold). x.number) (λ why. refl);
      run = λ log started. zero-passes (examine_log net b log) _ run_fault ran (λ why. refl);
      walk = λ log n started. zero-passes (examine_log net b log) _ walk_fault told (λ why. refl);
    }

pub told_fault : (net b : List ℕ) → ToldFault net b
unfolding net_told state_told initial_told initial_left event_told event_left back_told back_left degree_told owed_told
    run_told run_left walk_told walk_left step_told examine_net
told_fault net b = record {
  check-net = λ why e. ap verdict_of (bad-then (check_net net) _ e);
  check-state = λ why e. rw e;
  initial = λ why e. (rw e, rw e);
  event = λ why e first second started. (rw e, rw e);
  back = λ why e first second started. (rw e, rw e);
  degree = λ why e t. rw e;
  owed = λ why e. rw e;
  run = λ log why e started. (rw e, rw e);
  walk = λ log why e n started. (rw e, rw e);
  step = λ log why e k. rw e;
}
