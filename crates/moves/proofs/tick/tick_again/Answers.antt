-- `tick::tick_again` meets its contract: what it does not ask is known.
use Rattle.model.proofs.Alls.{passed, failed}
use Rattle.moves.proofs.Ticking.{tick-end-owed, tick-done}
use Rattle.moves.proofs.tick.tick_again.Goals as goal

pub returns-then-not-no_end_owed : goal.returns-then-not-no_end_owed
returns-then-not-no_end_owed c =
    let both = tick-end-owed c.args.net.bytes.now c.args.state.now c.requires.settled.0 (failed c.no_end_owed.ensures c.if-not-no_end_owed.true) in
    record { value = both.0; state_after = both.1 }

pub returns : goal.returns
returns c =
    let both = tick-done c.args.net.bytes.now c.args.state.now c.requires.settled.0 (passed c.no_end_owed.ensures c.if-not-no_end_owed.false) c.requires.settled.1 _ c.move_on.ensures in
    record { value = both.0; state_after = both.1 }
