-- `call::balance` meets its contract: behind net and state, what weighing comes to.
use Rattle.engine.proofs.Fits.{state-found}
use Rattle.engine.proofs.Promised.{bytes_of}
use Rattle.balance.specs.Told.{balance_told}
use Rattle.balance.proofs.Promised.{balance-promised}
use Rattle.balance.proofs.call.balance.Goals as goal

pub weigh-requires : goal.weigh-requires
weigh-requires c = state-found _ c.in-Ok.net _ c.in-Ok.ensures

pub returns-in-Ok : goal.returns-in-Ok
unfolding balance_told
returns-in-Ok c =
    let found = c.in-Ok.ensures in
    let t = c.type_inv in
    let both = balance-promised _ _ _ (bytes_of _ t.net) (bytes_of _ t.state) (bytes_of _ t.weights) _
    (rw (found.0, c.into.ensures, c.weigh.ensures, found.1)) in
    record { value = both.0; balance_promise = both.1 }

pub returns-in-Err : goal.returns-in-Err
unfolding balance_told
returns-in-Err c =
    let t = c.type_inv in
    let both = balance-promised _ _ _ (bytes_of _ t.net) (bytes_of _ t.state) (bytes_of _ t.weights) _ (rw c.in-Err.ensures c.into-in-Err.ensures) in
    record { value = both.0; balance_promise = both.1 }
