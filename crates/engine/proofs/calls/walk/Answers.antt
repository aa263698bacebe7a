-- `calls::walk` meets its contract: behind net, state and log, the events behind the fifth byte.
use Rattle.std.proofs.Common.{refl}
use Rattle.logs.proofs.PairLaws.{rest}
use Rattle.engine.specs.Calls.{walk_told, walk_left}
use Rattle.engine.proofs.Fits.{log-found}
use Rattle.engine.proofs.Promised.{walk-promised}
use Rattle.engine.proofs.calls.walk.Goals as goal

pub slice_bounds-walk-count : goal.slice_bounds-walk-count
slice_bounds-walk-count c = (log-found _ c.in-Ok.net _ _ c.in-Ok.ensures).1.least

pub slice_bounds-walk-start : goal.slice_bounds-walk-start
slice_bounds-walk-start c = (log-found _ c.in-Ok.net _ _ c.in-Ok.ensures).1.least

pub walk-requires : goal.walk-requires
walk-requires c = (log-found _ c.in-Ok.net _ _ c.in-Ok.ensures).0

pub returns-in-Ok : goal.returns-in-Ok
unfolding walk_told walk_left
returns-in-Ok c =
    let found = c.in-Ok.ensures in
    let did = rw (found.1, rest) at c.walk.ensures in
    let both = walk-promised _ c.type_inv.net _ c.slice_known-1.given _ c.type_inv.log _ _ _ _ (rw found.0 (did.value, did.state_after)) in
    record { value = both.0; state_after = both.1.0; walk_promise = both.1.1 }

pub returns-in-Err : goal.returns-in-Err
unfolding walk_told walk_left
returns-in-Err c =
    let found = c.in-Err.ensures in
    let both = walk-promised _ c.type_inv.net _ c.slice_known-1.given _ c.type_inv.log _ _ _ _ (rw found (c.into.ensures, refl)) in
    record { value = both.0; state_after = both.1.0; walk_promise = both.1.1 }
