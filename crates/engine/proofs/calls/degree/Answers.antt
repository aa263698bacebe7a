-- `calls::degree` meets its contract: behind net and state, 12, and then the degree.
use Rattle.std.proofs.Common.{arith}
use borrow.Author.Tests.{lt-ltb, le-ltb}
use Rattle.forms.specs.Stored.{net_of}
use Rattle.engine.specs.Calls.{degree_told}
use Rattle.engine.proofs.Fits.{state-found, known-as}
use Rattle.engine.proofs.Promised.{degree-promised}
use Rattle.engine.proofs.calls.degree.Goals as goal

pub returns-in-Ok : goal.returns-in-Ok
unfolding degree_told
returns-in-Ok c =
    let found = c.in-Ok.ensures in
    let none = le-ltb c.args.t (net_of c.args.net.now).transitions (omega (arith, known-as _ c.in-Ok.net _ found)) in
    let both = degree-promised _ c.type_inv.net _ c.type_inv.state _ _ (rw (found.0, none, c.into.ensures)) in
    record { value = both.0; degree_promise = both.1 }

pub degree-requires : goal.degree-requires
degree-requires c =
    record { is_state = state-found _ c.in-Ok.net _ c.in-Ok.ensures; t_bound = omega arith }

pub returns-in-Ok-2 : goal.returns-in-Ok-2
unfolding degree_told
returns-in-Ok-2 c =
    let found = c.in-Ok.ensures in
    let some = lt-ltb c.args.t (net_of c.args.net.now).transitions (omega (arith, known-as _ c.in-Ok.net _ found)) in
    let both = degree-promised _ c.type_inv.net _ c.type_inv.state _ _ (rw (found.0, some, c.degree.ensures, found.1)) in
    record { value = both.0; degree_promise = both.1 }

pub returns-in-Err : goal.returns-in-Err
unfolding degree_told
returns-in-Err c =
    let both = degree-promised _ c.type_inv.net _ c.type_inv.state _ _ (rw c.in-Err.ensures c.into-in-Err.ensures) in
    record { value = both.0; degree_promise = both.1 }
