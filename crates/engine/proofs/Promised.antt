-- Each call's promise of the bytes that it was lent, from what its contract says it tells and leaves: the demands, put to use. Each takes
-- what the call's own proof learns of its slices, that their elements are bytes.
-- Assumes nothing.
use Rattle.std.proofs.Common.{Ok, Err, Fits, w8, slice_index, arith}
use mathlib.Core.Path.{◌≡◌, refl, sym, ap, ◌∙◌}
use mathlib.Core.Bool.{Bool}
use mathlib.Core.List.{List, []}
use Prim.Native.Nat.{ℕ}
use denote.Ref.{Bor}
use Rattle.forms.specs.declared.fault.Fault.{Fault}
use Rattle.forms.specs.Checked.{Checked}
use Rattle.forms.specs.Word.{Bytes}
use Rattle.forms.specs.Nets.{check_net}
use Rattle.forms.specs.Logs.{check_log}
use Rattle.forms.proofs.Logs.{log-exact, log-faulty}
use Rattle.engine.specs.Examined.{Examined, examine_net, examine_state, examine_log}
use Rattle.engine.specs.Answers.{verdict_of}
use Rattle.engine.specs.Said.{says}
use Rattle.engine.specs.Calls.{net_told, state_told, initial_told, initial_left, event_told, event_left, back_told, back_left}
use Rattle.engine.specs.Calls.{degree_told, owed_told, run_told, run_left, walk_told, walk_left, step_told, PartOf}
use Rattle.engine.specs.Steps.{PartGiven}
use Rattle.engine.specs.Demands.{Passes, Demand2, Demand3}
use Rattle.engine.specs.Promised.{Promise, Fit, OfNet, OfState, OfLog, CheckNetPromise, CheckStatePromise, InitialPromise, EventPromise}
use Rattle.engine.specs.Promised.{BackPromise, DegreePromise, OwedPromise, RunPromise, WalkPromise, StepPromise}
use Rattle.engine.proofs.Fits.{good-then}
use Rattle.engine.proofs.StepParts.{steps_of}
use Rattle.engine.proofs.PartGiven.{part-given}
use Rattle.engine.proofs.Demands.{demand_2, demand_3}
use Rattle.engine.proofs.Checks.{initial-given, told_fault}
use Rattle.engine.proofs.Faults.{log-only, examines}

-- A CONTRACT'S CLAUSES

-- a promise P of x is added to the clause that x is told; and of x and y, to the two that x is told and y is left
abbrev pub Adds : {A : Type 0} → (A → Type 0) → A → Type 0
Adds {A} P x = (r : A) → r ≡ x → (r ≡ x) × P r

abbrev pub AddsTwo : {A : Type 0} → (A → List ℕ → Type 0) → A → List ℕ → Type 0
AddsTwo {A} P x y = (r : A) (b' : List ℕ) → (r ≡ x) × (b' ≡ y) → (r ≡ x) × ((b' ≡ y) × P r b')

pub adds : {A : Type 0} (P : A → Type 0) (x : A) → P x → Adds P x
adds P x p r t = (t, rw t p)

adds-two : {A : Type 0} (P : A → List ℕ → Type 0) (x : A) (y : List ℕ) → P x y → AddsTwo P x y
adds-two P x y p r b' (t, l) = (t, (l, rw (t, l) p))

-- WHAT IS GIVEN

-- by what the examination found
pub by_cases : {unfit : Fault → Type 0} {fit : Type 0} {refused : Fault → Type 0} {done : Type 0} (e : Examined)
    → ((why : Fault) → e ≡ Err why → unfit why × refused why) → (Passes e → fit × done) → Promise unfit fit refused done
by_cases (Ok shape) bad good = let (f, d) = good (shape, refl) in Promise.in_form f d
by_cases (Err why) bad good = let (u, r) = bad why refl in Promise.at_fault why u r

module _ {refused : Fault → Type 0} {done : Type 0} (net : List ℕ) (bytes : Bytes net) where
  of-net : ((why : Fault) → examine_net net ≡ Err why → refused why) → (Passes (examine_net net) → done) → OfNet net refused done
  of-net bad good =
      let x = examines net [] [] in
      by_cases (examine_net net) (λ why e. ((x.net_faults why).0 e, bad why e)) (λ p. ((x.net_passes.0 p, bytes), good p))

  module _ (b : List ℕ) (small : Bytes b) where
    pub of-state : ((why : Fault) → examine_state net b ≡ Err why → refused why) → (Passes (examine_state net b) → done)
        → OfState net b refused done
    of-state bad good =
        let x = examines net b [] in
        by_cases (examine_state net b) (λ why e. ((x.state_faults why).0 e, bad why e)) (λ p.
        let (n, s) = x.state_passes.0 p in
        (record { is_net = n; is_state = s; net-bytes = bytes; state-bytes = small }, good p))

    of-log : (log : List ℕ) → Bytes log → ((why : Fault) → examine_log net b log ≡ Err why → refused why)
        → (Passes (examine_log net b log) → Passes (examine_state net b) → done) → OfLog net b log refused done
    of-log log few bad good =
        let x = examines net b log in
        by_cases (examine_log net b log) (λ why e. ((x.log_faults why).0 e, bad why e)) (λ p.
        let (n, s, l) = x.log_passes.0 p in
        ((record { is_net = n; is_state = s; net-bytes = bytes; state-bytes = small }, l, few), good p (x.state_passes.1 (n, s))))

-- what a call promises to be fit meets demands 2 and 3 whole: also where they speak of several calls in a row
pub fit-meets : (net b : List ℕ) → Fit net b → Demand2 net b × Demand3 net b
fit-meets net b f =
    let p = (examines net b []).state_passes.1 (f.is_net, f.is_state) in
    (demand_2 net b f.net-bytes f.state-bytes p, demand_3 net b f.state-bytes p)

-- THE CALLS

net-accepted : (net : List ℕ) → Passes (examine_net net) → net_told net ≡ says 0 0
unfolding net_told examine_net
net-accepted net (s, e) = ap verdict_of (good-then (check_net net) _ e).0

state-accepted : (net b : List ℕ) → Passes (examine_state net b) → state_told net b ≡ says 0 0
unfolding state_told
state-accepted net b (s, e) = rw e

-- a slice holds bytes, as its type says
abbrev Lent : List ℕ → Type 0
Lent s = (i : ℕ) → Fits w8 (slice_index s i)

pub bytes_of : (s : List ℕ) → Lent s → Bytes s
bytes_of s lent i = omega (arith, lent i)

module _ (net : List ℕ) (lent : Lent net) where
  bytes : Bytes net
  bytes = bytes_of net lent

  pub check-net-promised : Adds (CheckNetPromise net) (net_told net)
  check-net-promised =
      adds (CheckNetPromise net) (net_told net) (of-net net bytes (told_fault net []).check-net (net-accepted net))

  pub initial-promised : (b : List ℕ) → AddsTwo (InitialPromise net b) (initial_told net b) (initial_left net b)
  initial-promised b =
      adds-two (InitialPromise net b) (initial_told net b) (initial_left net b)
      (of-net net bytes (told_fault net b).initial (initial-given net b bytes))

  module _ (b : List ℕ) (lent' : Lent b) where
    small : Bytes b
    small = bytes_of b lent'

    pub check-state-promised : Adds (CheckStatePromise net b) (state_told net b)
    check-state-promised =
        adds (CheckStatePromise net b) (state_told net b) (of-state net bytes b small (told_fault net b).check-state (state-accepted net b))

    pub degree-promised : (t : ℕ) → Adds (DegreePromise net b t) (degree_told net b t)
    degree-promised t =
        adds (DegreePromise net b t) (degree_told net b t)
        (of-state net bytes b small (λ why e. (told_fault net b).degree why e t) (λ p. (demand_2 net b bytes small p).degrees t))

    pub owed-promised : Adds (OwedPromise net b) (owed_told net b)
    owed-promised =
        adds (OwedPromise net b) (owed_told net b)
        (of-state net bytes b small (told_fault net b).owed (λ p. (demand_2 net b bytes small p).owed))

    module _ (first second : ℕ) (started : Bool) where
      pub event-promised : AddsTwo (EventPromise net b first second started) (event_told net b first second started) (event_left net b first second started)
      event-promised =
          adds-two (EventPromise net b first second started) (event_told net b first second started) (event_left net b first second started)
          (of-state net bytes b small (λ why e. (told_fault net b).event why e first second started)
          (λ p. (demand_2 net b bytes small p).event_by_event first second started))

      pub back-promised : AddsTwo (BackPromise net b first second started) (back_told net b first second started) (back_left net b first second started)
      back-promised =
          adds-two (BackPromise net b first second started) (back_told net b first second started) (back_left net b first second started)
          (of-state net bytes b small (λ why e. (told_fault net b).back why e first second started)
          (λ p. (demand_3 net b small p).event_by_event first second started))

    module _ (log : List ℕ) (lent'' : Lent log) (started : Bool) where
      few : Bytes log
      few = bytes_of log lent''

      pub run-promised : AddsTwo (RunPromise net b log started) (run_told net b log started) (run_left net b log started)
      run-promised =
          adds-two (RunPromise net b log started) (run_told net b log started) (run_left net b log started)
          (of-log net bytes b small log few (λ why e. (told_fault net b).run log why e started) (λ p q. (demand_2 net b bytes small q).log_by_log log p started))

      pub walk-promised : (n : ℕ) → AddsTwo (WalkPromise net b log n started) (walk_told net b log n started) (walk_left net b log n started)
      walk-promised n =
          adds-two (WalkPromise net b log n started) (walk_told net b log n started) (walk_left net b log n started)
          (of-log net bytes b small log few (λ why e. (told_fault net b).walk log why e n started) (λ p q. (demand_3 net b small q).log_by_log log p n started))

module _ (log : List ℕ) (lent : Lent log) (k : ℕ) where
  by-check : (c : Checked) → check_log log ≡ c → StepPromise log k (step_told log k)
  by-check (Ok tt) good = Promise.in_form ((log-exact log).0 good, bytes_of log lent) ((steps_of log good).each k)
  by-check (Err why) bad =
      let one = log-only log why bad in
      Promise.at_fault why (sym one, (log-faulty log).0 (bad ∙ ap Err (sym one))) ((told_fault [] []).step log why bad k)

  pub step-promised : Adds (StepPromise log k) (step_told log k)
  step-promised = adds (StepPromise log k) (step_told log k) (by-check (check_log log) refl)

pub part-promised : (log part : Bor (List ℕ)) (k : ℕ) → PartOf log part (step_told log.now k)
    → PartOf log part (step_told log.now k) × PartGiven log part k
part-promised log part k is = (is, part-given log part k is)
