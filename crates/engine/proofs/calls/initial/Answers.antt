-- `calls::initial` meets its contract: behind the net, the initial state as forms writes it.
use Rattle.std.proofs.Common.{refl}
use Rattle.engine.specs.Examined.{examine_net}
use Rattle.engine.specs.Calls.{initial_told, initial_left}
use Rattle.engine.proofs.Promised.{initial-promised}
use Rattle.engine.proofs.calls.initial.Goals as goal

pub returns-in-Ok : goal.returns-in-Ok
unfolding initial_told initial_left examine_net
returns-in-Ok c =
    let found = c.in-Ok.ensures in
    let made = rw found.1 at c.initial.ensures in
    let both = initial-promised _ c.type_inv.net _ _ _ (rw (found.0, c.into.ensures, made.0) (refl, made.1)) in
    record { value = both.0; state_after = both.1.0; initial_promise = both.1.1 }

pub returns-in-Err : goal.returns-in-Err
unfolding initial_told initial_left examine_net
returns-in-Err c =
    let found = c.in-Err.ensures in
    let both = initial-promised _ c.type_inv.net _ _ _ (rw found (c.into-in-Err.ensures, refl)) in
    record { value = both.0; state_after = both.1.0; initial_promise = both.1.1 }
