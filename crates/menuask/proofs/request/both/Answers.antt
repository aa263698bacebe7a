-- Where the state is not there behind the net, they are not both there.
use Rattle.std.proofs.Common.{Err, ap, ◌∙◌, ◌<◌, ◌^◌, length, take, arith, length-take}
use Rattle.std.proofs.lemmas.Result.{err_from_is_err_and}
use Rattle.menuask.specs.Requests.{NoSlice}
use Rattle.menuask.proofs.Begins.{goes-on, no-state}
use Rattle.menuask.proofs.request.both.Goals as goal

pub returns-in_err-state-clause-bad : goal.returns-in_err-state-clause-bad
returns-in_err-state-clause-bad g c =
    let p = err_from_is_err_and c.from_residual-in_err-state.result c.from_residual-in_err-state.ensures.1 in
    let small : length (take c.in_ok-net.net c.slice.new.into) < 2 ^ 32 = omega (arith, c.in_ok-net.ensures.in_range, length-take c.in_ok-net.net c.slice.new.into) in
    goes-on _ _ (NoSlice _ _) _ (p.1 ∙ ap Err p.2) c.in_err-state.ensures.bad (no-state _ _ _ _ _ small c.in_ok-net.ensures.bytes)
