-- The call's promise of the bytes that it was lent, from what its contract says it tells and leaves.
-- Assumes nothing.
use Rattle.std.proofs.Common.{Ok, Err}
use mathlib.Core.Path.{◌≡◌, refl, subst, ◌∙◌}
use mathlib.Core.List.{List, []}
use Prim.Native.Nat.{ℕ}
use Rattle.forms.specs.declared.fault.Fault.{Fault}
use Rattle.forms.specs.Word.{Bytes}
use Rattle.forms.specs.Checked.{number_of_fault, index_of_fault}
use Rattle.engine.specs.Examined.{Examined, then_check, examine_state}
use Rattle.engine.proofs.Fits.{bad-then}
use Rattle.engine.proofs.Faults.{examines}
use Rattle.engine.proofs.Promised.{by_cases}
use Rattle.runner.specs.declared.call.PageTold.{PageTold}
use Rattle.runner.specs.Call.{check_buffer, examine_page, page_told, state_left, log_left}
use Rattle.runner.specs.Promised.{says_page, PageUnfit, PagePromise}
use Rattle.runner.proofs.Given.{state-fit, page-fits, buffer-lacks}
use Rattle.runner.proofs.Built.{built}

module _ (net b log : List ℕ) where
  -- which fault it is
  faults : (why : Fault) → examine_page net b log ≡ Err why → PageUnfit net b log why
  unfolding examine_page
  faults why e = go (examine_state net b) refl e
    where
      go : (x : Examined) → examine_state net b ≡ x → then_check x (check_buffer log) ≡ Err why → PageUnfit net b log why
      go (Err w) is e = PageUnfit.before (((examines net b []).state_faults why).0 (is ∙ e))
      go (Ok s) is e =
          let (n, st) = (examines net b []).state_passes.0 (s, is) in
          let (q, short) = buffer-lacks log why (bad-then (check_buffer log) s e) in
          subst (PageUnfit net b log) q (PageUnfit.no_head n st short)

  module _ (why : Fault) (e : examine_page net b log ≡ Err why) (budget : ℕ) where
    refused : (page_told net b log budget ≡ says_page (number_of_fault why) (index_of_fault why) 0 0 0)
        × (state_left net b log budget ≡ b) × (log_left net b log budget ≡ log)
    unfolding page_told state_left log_left
    refused = (rw e, rw e, rw e)

  -- the promise is added to the clauses that x is told, and y and z are left
  pub page-promised : Bytes net → Bytes b → (budget : ℕ) (r : PageTold) (b' log' : List ℕ)
      → (r ≡ page_told net b log budget) × ((b' ≡ state_left net b log budget) × (log' ≡ log_left net b log budget))
      → (r ≡ page_told net b log budget) × ((b' ≡ state_left net b log budget) × ((log' ≡ log_left net b log budget)
      × PagePromise net b log budget r b' log'))
  page-promised small small' budget r b' log' (t, (l, m)) = (
    t,
    (
      l,
      (
        m,
        rw (t, l, m) (by_cases (examine_page net b log) (λ why e. (faults why e, refused why e budget)) (λ (s, fit).
            let (n, st) = (examines net b []).state_passes.0 (s, state-fit net s b log fit) in (
              (record { is_net = n; is_state = st; net-bytes = small; state-bytes = small' }, (page-fits net s b log fit).1),
              built net s b log fit budget small small',
            ))),
      ),
    ),
  )
