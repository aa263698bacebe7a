-- `calls::check_net` meets its contract: it tells what the check answers.
use Rattle.engine.specs.Calls.{net_told}
use Rattle.engine.proofs.Promised.{check-net-promised}
use Rattle.engine.proofs.calls.check_net.Goals as goal

pub returns : goal.returns
unfolding net_told
returns c =
    let both = check-net-promised _ c.type_inv.net _ (rw (c.into.ensures, c.check_net.ensures)) in
    record { value = both.0; check_net_promise = both.1 }
