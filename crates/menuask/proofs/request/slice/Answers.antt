-- Where the length is not there, no slice is.
use Rattle.std.proofs.Common.{Err, ap, ◌∙◌}
use Rattle.std.proofs.lemmas.Result.{err_from_is_err_and}
use Rattle.menuask.specs.Requests.{NoNumber}
use Rattle.menuask.proofs.Begins.{goes-on, no-number-slice}
use Rattle.menuask.proofs.request.slice.Goals as goal

pub returns-in_err-n-clause-bad : goal.returns-in_err-n-clause-bad
returns-in_err-n-clause-bad g c =
    let p = err_from_is_err_and c.from_residual.result c.from_residual.ensures.1 in
    goes-on _ _ (NoNumber _) _ (p.1 ∙ ap Err p.2) c.in_err-n.ensures.bad (no-number-slice _ _)
