-- `calls::run` meets its contract: behind net, state and log, the events behind the fifth byte.
use Rattle.std.proofs.Common.{refl}
use Rattle.logs.proofs.PairLaws.{rest}
use Rattle.engine.specs.Calls.{run_told, run_left}
use Rattle.engine.proofs.Fits.{log-found}
use Rattle.engine.proofs.Promised.{run-promised}
use Rattle.engine.proofs.calls.run.Goals as goal

pub slice_bounds-run-count : goal.slice_bounds-run-count
slice_bounds-run-count c = (log-found _ c.in-Ok.net _ _ c.in-Ok.ensures).1.least

pub slice_bounds-run-start : goal.slice_bounds-run-start
slice_bounds-run-start c = (log-found _ c.in-Ok.net _ _ c.in-Ok.ensures).1.least

pub run-requires : goal.run-requires
run-requires c = (log-found _ c.in-Ok.net _ _ c.in-Ok.ensures).0

pub returns-in-Ok : goal.returns-in-Ok
unfolding run_told run_left
returns-in-Ok c =
    let found = c.in-Ok.ensures in
    let did = rw (found.1, rest) at c.run.ensures in
    let both = run-promised _ c.type_inv.net _ c.slice_known-1.given _ c.type_inv.log _ _ _ (rw found.0 (did.value, did.state_after)) in
    record { value = both.0; state_after = both.1.0; run_promise = both.1.1 }

pub returns-in-Err : goal.returns-in-Err
unfolding run_told run_left
returns-in-Err c =
    let found = c.in-Err.ensures in
    let both = run-promised _ c.type_inv.net _ c.slice_known-1.given _ c.type_inv.log _ _ _ (rw found (c.into.ensures, refl)) in
    record { value = both.0; state_after = both.1.0; run_promise = both.1.1 }
