-- `telling::begin` meets its contract: where the telling begins all that is found is still to be told.
use Rattle.std.proofs.Common.{◌≡◌, refl, ap, Some, arith, length}
use Rattle.engine.specs.Calls.{initial_left}
use Rattle.why.specs.declared.found.Found.{Found}
use Rattle.why.specs.Said.{telling}
use Rattle.why.proofs.Ready.{ready}
use Rattle.why.proofs.Beginning.{begins-well}
use Rattle.why.proofs.telling.begin.Goals as goal
use Rattle.why.proofs.telling.begin.Goals.{in-None, in-Some}

pub returns-clause-last_after : goal.returns-clause-last_after
returns-clause-last_after c =
    elim c.match-last.branch [
      | in-None w ↦ rw w.in-None.is refl
      | in-Some w ↦ rw (w.in-Some.is, w.last-is) (ap Some w.look_back-last.ensures.last_after)
    ]

pub returns-clause-reached : goal.returns-clause-reached
returns-clause-reached c =
    let a = c.args in
    let run = c.run-told in
    let again = c.initial-2 in
    let begun : length c.initial.new.state ≡ length (initial_left a.net.now a.state.now) = ap length c.initial.ensures.state_after in
    let found : Found = record { told = run.result; events = c.events_in-events.result; last = c.match-last.last2 } in
    rw (← c.beginning.ensures) at (begins-well (telling a.net a.log found a.wish) again.new.state (λ late.
    ready a.net.now a.log.now a.state.now c.match-last.state again.new.state run.result
    (λ i. omega (arith, c.type_inv.net i)) (λ i. omega (arith, c.type_inv.state i))
    (cc) (omega arith) (omega arith) again.ensures.state_after late))
