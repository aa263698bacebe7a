-- The call answers the same of whatever events, steps back, runs, walks and pages leave.
-- Assumes nothing.
use Rattle.std.proofs.Common.{Ok, Err}
use mathlib.Core.Path.{◌≡◌, refl, sym, ap, subst, ◌∙◌}
use mathlib.Core.Bool.{Bool, false}
use mathlib.Core.List.{List}
use Prim.Native.Nat.{ℕ, zero, suc}
use native.Mathlib.Omega.{arith}
use Rattle.model.specs.declared.event.Event.{Event}
use Rattle.model.specs.Event.{event_of}
use Rattle.model.specs.Net.{Net, State}
use Rattle.model.proofs.Alls.{not_yet}
use Rattle.forms.specs.Word.{Bytes}
use Rattle.forms.specs.Stored.{net_of, stored, log_events}
use Rattle.forms.specs.Frame.{Framed}
use Rattle.engine.specs.Examined.{Examined, examine_state, examine_log, if_fit}
use Rattle.engine.specs.Calls.{event_told, event_left, back_told, back_left, run_left, walk_told, walk_left}
use Rattle.engine.specs.Demands.{LeavesState, account_of_walk}
use Rattle.engine.specs.Promised.{Promise}
use Rattle.engine.proofs.Fits.{state-fits, log-fits}
use Rattle.engine.proofs.OneEvent.{lawful, event-done, event-back}
use Rattle.engine.proofs.WholeLog.{log-run, log_back}
use Rattle.engine.proofs.Checks.{told_fault}
use Rattle.runner.specs.Call.{page_told, state_left, log_left}
use Rattle.runner.specs.Promised.{front, PagePromise}
use Rattle.runner.proofs.OnBytes.{on-bytes as pages}
use Rattle.balance.specs.declared.call.BalanceTold.{BalanceTold}
use Rattle.balance.specs.Weights.{Balanced, total}
use Rattle.balance.specs.Told.{weight_at, balance_of, no_balance, checked_weighing, balance_told}
use Rattle.balance.specs.Promised.{says_balance, Used}
use Rattle.balance.proofs.Kept.{moves-keep, leads-keep, walked-keep}
use Rattle.balance.proofs.Answers.{Comes, comes, is-31, is-30, is-0, is-total-told}

-- OF TWO STATES WITH ONE TOTAL, where the net balances

same_answer : (N : Net) (S S' : State) (weights : List ℕ)
    → (Balanced N (weight_at weights) → total N (weight_at weights) S' ≡ total N (weight_at weights) S)
    → balance_of (checked_weighing N weights S') ≡ balance_of (checked_weighing N weights S)
same_answer N S S' weights kept = go (comes N weights S)
  where
    there : Comes N weights S' (balance_of (checked_weighing N weights S'))
    there = comes N weights S'

    go : Comes N weights S (balance_of (checked_weighing N weights S)) → balance_of (checked_weighing N weights S') ≡ balance_of (checked_weighing N weights S)
    go (Comes.no_weights off e) = (is-31 there).1 off ∙ sym e
    go (Comes.unbalanced is t l e) = (is-30 there t).1 (is, l) ∙ sym e
    go (Comes.balanced is even e) =
        is-total-told there ((is-0 there).1 (is, even)) ∙ ap (says_balance 0 0) (kept even) ∙ sym e

-- WHAT A CALL LEAVES

-- the bytes it was given, or a state of the same total wherever the net balances
data Keeps (net b b' : List ℕ) : Type 0 where
  unchanged : b' ≡ b → Keeps net b b'
  moved : (S' : State) → LeavesState net b b' S'
      → ((w : ℕ → ℕ) → Balanced (net_of net) w → total (net_of net) w S' ≡ total (net_of net) w (stored net b)) → Keeps net b b'

-- it is bytes
kept-bytes : (net b : List ℕ) {b' : List ℕ} → Bytes b → Keeps net b b' → Bytes b'
kept-bytes net b small (Keeps.unchanged e) = rw e small
kept-bytes net b small (Keeps.moved S' left same) = left.bytes

-- and the call answers the same of it
kept-alike : (net b weights : List ℕ) {b' : List ℕ} → Keeps net b b' → balance_told net b' weights ≡ balance_told net b weights
unfolding balance_told
kept-alike net b weights (Keeps.unchanged e) = ap (λ (x : List ℕ). balance_told net x weights) e
kept-alike net b weights (Keeps.moved S' left same) =
    rw (left.passes, left.reads)
    (ap (λ (x : BalanceTold). if_fit (examine_state net b) x no_balance)
    (same_answer (net_of net) (stored net b) S' weights (same (weight_at weights))))

module _ (net b : List ℕ) (small : Bytes b) where
  abbrev N : Net
  N = net_of net

  abbrev S : State
  S = stored net b

  module _ (first second : ℕ) (started : Bool) where
    abbrev e : Event
    e = event_of first second

    event-keeps : (x : Examined) → examine_state net b ≡ x → Keeps net b (event_left net b first second started)
    event-keeps (Err why) x = Keeps.unchanged ((told_fault net b).event why x first second started).1
    event-keeps (Ok shape) x = by (event_told net b first second started).number refl
      where
        f : Framed net shape b
        f = state-fits net shape b x

        by : (n : ℕ) → (event_told net b first second started).number ≡ n → Keeps net b (event_left net b first second started)
        by zero z =
            let d = event-done net shape b f small first second started in
            let (S', m) = d.permitted.0 z in
            Keeps.moved S' (d.done S' m).1 (λ w even. moves-keep N w even started S e S' (lawful net shape b f small) m)
        by (suc n) z = Keeps.unchanged ((event-done net shape b f small first second started).kept (λ q. omega arith))

    back-keeps : (x : Examined) → examine_state net b ≡ x → Keeps net b (back_left net b first second started)
    back-keeps (Err why) x = Keeps.unchanged ((told_fault net b).back why x first second started).1
    back-keeps (Ok shape) x = by (back_told net b first second started).number refl
      where
        f : Framed net shape b
        f = state-fits net shape b x

        by : (n : ℕ) → (back_told net b first second started).number ≡ n → Keeps net b (back_left net b first second started)
        by zero z =
            let d = event-back net shape b f small first second started in
            let (S₀, s₀, m) = d.permitted.0 z in
            Keeps.moved S₀ (d.done S₀ s₀ m).1 (λ w even. sym (moves-keep N w even started S₀ e S s₀ m))
        by (suc n) z = Keeps.unchanged ((event-back net shape b f small first second started).kept (λ q. omega arith))

  module _ (log : List ℕ) where
    run-keeps : (started : Bool) (x : Examined) → examine_log net b log ≡ x → Keeps net b (run_left net b log started)
    run-keeps started (Err why) x = Keeps.unchanged ((told_fault net b).run log why x started).1
    run-keeps started (Ok shape) x =
        let (f, l) = log-fits net shape b log x in
        let (S', r, left) = (log-run net shape b f small log l started).told in
        Keeps.moved S' left (λ w even. leads-keep N w even (lawful net shape b f small) r.led)

    walk-keeps : (n : ℕ) (started : Bool) (x : Examined) → examine_log net b log ≡ x → Keeps net b (walk_left net b log n started)
    walk-keeps n started (Err why) x = Keeps.unchanged ((told_fault net b).walk log why x n started).1
    walk-keeps n started (Ok shape) x =
        let (f, l) = log-fits net shape b log x in
        let (S₀, r, left) = (log_back net shape b f small log l started n).told in
        Keeps.moved S₀ left
        (λ w even. walked-keep N w even started S (log_events log) n (account_of_walk (walk_told net b log n started) S₀) r)

  -- a page leaves what a run of its log leaves
  page-keeps : (log : List ℕ) (budget : ℕ)
      → PagePromise net b log budget (page_told net b log budget) (state_left net b log budget) (log_left net b log budget)
      → Keeps net b (state_left net b log budget)
  page-keeps log budget (Promise.at_fault why u refused) = Keeps.unchanged refused.1
  page-keeps log budget (Promise.in_form fit built) =
      let page = front (page_told net b log budget).events (log_left net b log budget) in
      subst (Keeps net b) (built.run_leaves false not_yet) (run-keeps page false (examine_log net b page) refl)

-- IN WHATEVER ORDER

module _ (net : List ℕ) (bytes : Bytes net) where
  abbrev by-event : (b : List ℕ) → Bytes b → (first second : ℕ) (started : Bool) → Keeps net b (event_left net b first second started)
  by-event b small first second started = event-keeps net b small first second started (examine_state net b) refl

  abbrev by-back : (b : List ℕ) → Bytes b → (first second : ℕ) (started : Bool) → Keeps net b (back_left net b first second started)
  by-back b small first second started = back-keeps net b small first second started (examine_state net b) refl

  abbrev by-run : (b : List ℕ) → Bytes b → (log : List ℕ) (started : Bool) → Keeps net b (run_left net b log started)
  by-run b small log started = run-keeps net b small log started (examine_log net b log) refl

  abbrev by-walk : (b : List ℕ) → Bytes b → (log : List ℕ) (n : ℕ) (started : Bool) → Keeps net b (walk_left net b log n started)
  by-walk b small log n started = walk-keeps net b small log n started (examine_log net b log) refl

  abbrev by-page : (b : List ℕ) → Bytes b → (log : List ℕ) (budget : ℕ) → Keeps net b (state_left net b log budget)
  by-page b small log budget = page-keeps net b small log budget (pages.promised net b log budget bytes small)

  pub used-alike : (weights : List ℕ) {b b' : List ℕ} → Bytes b → Used net b b' → balance_told net b' weights ≡ balance_told net b weights
  used-alike weights small Used.unused = refl
  used-alike weights {b} small (Used.event first second started rest) =
      let k = by-event b small first second started in
      used-alike weights (kept-bytes net b small k) rest ∙ kept-alike net b weights k
  used-alike weights {b} small (Used.back first second started rest) =
      let k = by-back b small first second started in
      used-alike weights (kept-bytes net b small k) rest ∙ kept-alike net b weights k
  used-alike weights {b} small (Used.run log started rest) =
      let k = by-run b small log started in
      used-alike weights (kept-bytes net b small k) rest ∙ kept-alike net b weights k
  used-alike weights {b} small (Used.walk log n started rest) =
      let k = by-walk b small log n started in
      used-alike weights (kept-bytes net b small k) rest ∙ kept-alike net b weights k
  used-alike weights {b} small (Used.page log budget rest) =
      let k = by-page b small log budget in
      used-alike weights (kept-bytes net b small k) rest ∙ kept-alike net b weights k
