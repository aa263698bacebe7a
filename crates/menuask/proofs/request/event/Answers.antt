-- Which part is not there, and that the three numbers are then none of an event.
use Rattle.std.proofs.Common.{Err, ap, ◌∙◌}
use Rattle.std.proofs.lemmas.Result.{err_from_is_err_and}
use Rattle.menuask.specs.Requests.{NoNumber}
use Rattle.menuask.proofs.Begins.{goes-on, says-so, no-first, no-second, no-started, no-event}
use Rattle.menuask.proofs.request.event.Goals as goal

pub returns-in_err-first-clause-bad : goal.returns-in_err-first-clause-bad
returns-in_err-first-clause-bad g c =
    let p = err_from_is_err_and c.from_residual.result c.from_residual.ensures.1 in
    goes-on _ _ (NoNumber _) _ (p.1 ∙ ap Err p.2) c.in_err-first.ensures.bad (no-first _)

pub returns-in_err-second-clause-bad : goal.returns-in_err-second-clause-bad
returns-in_err-second-clause-bad g c =
    let p = err_from_is_err_and c.from_residual-in_err-second.result c.from_residual-in_err-second.ensures.1 in
    goes-on _ _ (NoNumber _) _ (p.1 ∙ ap Err p.2) c.in_err-second.ensures.bad (no-second _ _ _ c.in_ok-first.ensures.bytes)

pub returns-in_err-started-clause-bad : goal.returns-in_err-started-clause-bad
returns-in_err-started-clause-bad g c =
    let p = err_from_is_err_and c.from_residual-in_err-started.result c.from_residual-in_err-started.ensures.1 in
    goes-on _ _ (NoNumber _) _ (p.1 ∙ ap Err p.2) c.in_err-started.ensures.bad (no-started _ _ _ _ _ c.in_ok-first.ensures.bytes c.in_ok-second.ensures.bytes)

pub returns-clause-bad : goal.returns-clause-bad
returns-clause-bad g c =
    says-so _ _ _ _ c.event_of.ensures
    (λ not. no-event _ _ _ _ _ _ _ c.in_ok-first.ensures.in_range c.in_ok-second.ensures.in_range c.in_ok-started.ensures.in_range not
    c.in_ok-first.ensures.bytes c.in_ok-second.ensures.bytes c.in_ok-started.ensures.bytes)
