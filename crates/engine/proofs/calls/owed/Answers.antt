-- `calls::owed` meets its contract: behind net and state, the report.
use Rattle.engine.specs.Calls.{owed_told}
use Rattle.engine.proofs.Fits.{state-found}
use Rattle.engine.proofs.Promised.{owed-promised}
use Rattle.engine.proofs.calls.owed.Goals as goal

pub report-requires : goal.report-requires
report-requires c = state-found _ c.in-Ok.net _ c.in-Ok.ensures

pub returns-in-Ok : goal.returns-in-Ok
unfolding owed_told
returns-in-Ok c =
    let found = c.in-Ok.ensures in
    let both = owed-promised _ c.type_inv.net _ c.type_inv.state _ (rw (found.0, c.into.ensures, c.report.ensures, found.1)) in
    record { value = both.0; owed_promise = both.1 }

pub returns-in-Err : goal.returns-in-Err
unfolding owed_told
returns-in-Err c =
    let found = c.in-Err.ensures in
    let both = owed-promised _ c.type_inv.net _ c.type_inv.state _ (rw found c.into-in-Err.ensures) in
    record { value = both.0; owed_promise = both.1 }
