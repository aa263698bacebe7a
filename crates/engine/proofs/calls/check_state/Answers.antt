-- `calls::check_state` meets its contract: it tells what the examination found.
use Rattle.engine.specs.Calls.{state_told}
use Rattle.engine.proofs.Promised.{check-state-promised}
use Rattle.engine.proofs.calls.check_state.Goals as goal

pub returns-in-Ok : goal.returns-in-Ok
unfolding state_told
returns-in-Ok c =
    let found = c.in-Ok.ensures in
    let both = check-state-promised _ c.type_inv.net _ c.type_inv.state _ (rw found.0) in
    record { value = both.0; check_state_promise = both.1 }

pub returns-in-Err : goal.returns-in-Err
unfolding state_told
returns-in-Err c =
    let found = c.in-Err.ensures in
    let both = check-state-promised _ c.type_inv.net _ c.type_inv.state _ (rw found c.into.ensures) in
    record { value = both.0; check_state_promise = both.1 }
