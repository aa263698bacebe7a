-- `calls::event` meets its contract: behind net and state, the event is done.
use Rattle.std.proofs.Common.{refl}
use Rattle.engine.specs.Calls.{event_told, event_left}
use Rattle.runs.proofs.Knowing.{known-first}
use Rattle.engine.proofs.Fits.{state-found}
use Rattle.engine.proofs.Promised.{event-promised}
use Rattle.engine.proofs.calls.event.Goals as goal

pub apply-requires : goal.apply-requires
apply-requires c = record {
  is_state = state-found _ c.in-Ok.net _ c.in-Ok.ensures;
  known = known-first _ _ c.args.started c.given.ensures;
}

pub returns-in-Ok : goal.returns-in-Ok
unfolding event_told event_left
returns-in-Ok c =
    let found = c.in-Ok.ensures in
    let did = rw (c.given.ensures, found.1) at c.apply.ensures in
    let both = event-promised _ c.type_inv.net _ c.slice_known-1.given _ _ _ _ _ (rw (found.0, c.into.ensures) (rw did.value, did.state_after)) in
    record { value = both.0; state_after = both.1.0; event_promise = both.1.1 }

pub returns-in-Err : goal.returns-in-Err
unfolding event_told event_left
returns-in-Err c =
    let found = c.in-Err.ensures in
    let both = event-promised _ c.type_inv.net _ c.slice_known-1.given _ _ _ _ _ (rw found (c.into-in-Err.ensures, refl)) in
    record { value = both.0; state_after = both.1.0; event_promise = both.1.1 }
