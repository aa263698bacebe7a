-- `call::page` meets its contract: behind net, state and buffer, the page.
use Rattle.std.proofs.Common.{refl}
use Rattle.engine.proofs.Promised.{bytes_of}
use Rattle.runner.specs.Call.{page_told, state_left, log_left}
use Rattle.runner.proofs.Given.{page-found}
use Rattle.runner.proofs.Promised.{page-promised}
use Rattle.runner.proofs.call.page.Goals as goal

pub build-requires : goal.build-requires
build-requires c =
    let both = page-found _ c.in-Ok.net _ _ c.in-Ok.ensures in record { state = both.0.is_state; event_at_in_bounds = both.1 }

pub returns-in-Ok : goal.returns-in-Ok
unfolding page_told state_left log_left
returns-in-Ok c =
    let found = c.in-Ok.ensures in
    let did = rw found.1 at c.build.ensures in
    let all = page-promised _ _ _ (bytes_of _ c.type_inv.net) (bytes_of _ c.slice_known-1.given) _ _ _ _
    (rw (found.0, c.into.ensures) (rw did.value, (did.state_after, did.log_after))) in
    record { value = all.0; state_after = all.1.0; log_after = all.1.1.0; page_promise = all.1.1.1 }

pub returns-in-Err : goal.returns-in-Err
unfolding page_told state_left log_left
returns-in-Err c =
    let all = page-promised _ _ _ (bytes_of _ c.type_inv.net) (bytes_of _ c.slice_known-1.given) _ _ _ _
    (rw c.in-Err.ensures (c.into-in-Err.ensures, (refl, refl))) in
    record { value = all.0; state_after = all.1.0; log_after = all.1.1.0; page_promise = all.1.1.1 }
