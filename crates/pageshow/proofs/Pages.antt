-- What is told of a page is what menurun tells of the net and the page's log.
-- Assumes nothing.
use mathlib.Core.Path.{◌≡◌, refl, sym, ap, ◌∙◌}
use mathlib.Core.Bool.{false}
use mathlib.Core.List.{List}
use Prim.Native.Nat.{ℕ, ◌+◌, ◌*◌, ◌≤◌}
use lib.ListN.{length, take}
use borrow.Author.Tests.{eq-eqb}
use Rattle.model.specs.declared.answer.Short.{Short}
use Rattle.model.specs.Answer.{nothing_short}
use Rattle.model.proofs.Alls.{not_yet}
use Rattle.forms.specs.declared.fault.Fault.{Fault}
use Rattle.forms.specs.Checked.{number_of_fault}
use Rattle.forms.specs.Nets.{IsNet}
use Rattle.engine.specs.declared.answers.Verdict.{Verdict}
use Rattle.engine.specs.declared.answers.OwedTold.{OwedTold}
use Rattle.engine.specs.Calls.{initial_told, initial_left, owed_told}
use Rattle.engine.specs.Promised.{InitialPromise}
use Rattle.engine.specs.Promised.Promise.{at_fault, in_form}
use Rattle.runner.specs.declared.call.PageTold.{PageTold}
use Rattle.runner.specs.Call.{state_left, log_left}
use Rattle.runner.specs.Promised.{PageBuilt, PagePromise}
use Rattle.replay.specs.Replayed.{is_early, standing_after, replayed, replay_left}
use Rattle.replay.specs.Lines.{LateShown}
use Rattle.replay.proofs.Shown.{not-both, fault-early}
use Rattle.pageshow.specs.declared.build.Built.{Built}
use Rattle.pageshow.specs.Built.{built_from, built, built_state, built_log, AsRun, AsReplayed}
use Rattle.pageshow.proofs.Joined.{net-found, log-found}

fault-told : (why : Fault) → ¬ (number_of_fault why ≡ 0)
fault-told why e = not-both (fault-early why) (ap is_early e)

-- of the page from a state
module _ (net state log : List ℕ) (budget : ℕ) (p : PageTold) (state' log' : List ℕ) where
  page-built : PagePromise net state log budget p state' log' → p.number ≡ 0 → PageBuilt net state log budget p state' log'
  page-built (in_form fit done) e = done
  page-built (at_fault why unfit told) e = absurd (fault-told why (ap (λ (x : PageTold). x.number) (sym told.0) ∙ e))

  pub as_run : PagePromise net state log budget p state' log' → p.number ≡ 0 → (o : OwedTold) → o ≡ owed_told net state' → (none : Short) → none ≡ nothing_short
      → AsRun net state
      (record { stop = p.stop; log = 5 + 2 * p.events; told = record { number = 0; index = p.events; done = p.events; ticks = p.ticks; standing = o.standing; short = none } })
      state' log'
  unfolding standing_after
  as_run promise z o owes none nothing e =
      let done = page-built promise z in
      (rw (done.run_tells false not_yet, done.run_leaves false not_yet, owes, nothing) refl, sym (done.run_leaves false not_yet))

-- and from the initial state
module _ (net state : List ℕ) (v : Verdict) (begun : List ℕ) where
  is_net : InitialPromise net state v begun → v.number ≡ 0 → IsNet net
  is_net (at_fault why unfit told) z = absurd (fault-told why (ap (λ (x : Verdict). x.number) (sym told.0) ∙ z))
  is_net (in_form fit done) z = fit.0

  pub as_replayed : InitialPromise net state v begun → v ≡ initial_told net state → begun ≡ initial_left net state → v.number ≡ 0
      → (r : Built) (state' log' : List ℕ) → AsRun net begun r state' log' → AsReplayed net state r state' log'
  unfolding replayed replay_left
  as_replayed promise told left z r state' log' as-run e =
      let is = is_net promise z in
      let written = take r.log log' in
      rw (net-found net written is, log-found net written is, ← told, ← left, eq-eqb v.number 0 z) (as-run e)

  -- the page from there is the page of the net, with all that is told of it
  module _ (promise : InitialPromise net state v begun) (told : v ≡ initial_told net state) (left : begun ≡ initial_left net state) (log : List ℕ) (budget : ℕ) where
    pub net-built : v.number ≡ 0 → (r : Built) (state' log' : List ℕ)
        → r ≡ built_from net begun log budget → state' ≡ state_left net begun log budget → log' ≡ log_left net begun log budget
        → (r.log ≤ length log') × LateShown r.told.number state' → AsRun net begun r state' log'
        → (r ≡ built net state log budget) × ((state' ≡ built_state net state log budget) × ((log' ≡ built_log net state log budget)
        × (((r.log ≤ length log') × LateShown r.told.number state') × AsReplayed net state r state' log')))
    unfolding built built_state built_log
    net-built z r state' log' t s l fits as-run =
        let shown : AsReplayed net state r state' log' = as_replayed promise told left z r state' log' as-run in
        rw (← told, ← left, eq-eqb v.number 0 z) (t, (s, (l, (fits, shown))))
