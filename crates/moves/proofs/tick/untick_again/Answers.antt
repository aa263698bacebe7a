-- `tick::untick_again` meets its contract: what it does not ask is known.
use Rattle.model.proofs.Alls.{passed, failed}
use Rattle.moves.proofs.Ticking.{untick-fresh, untick-done}
use Rattle.moves.proofs.tick.untick_again.Goals as goal

pub returns-then-not-none_fresh : goal.returns-then-not-none_fresh
returns-then-not-none_fresh c =
    let both = untick-fresh c.args.net.bytes.now c.args.state.now (failed c.none_fresh-none_fresh.ensures c.if-not-none_fresh.true) in
    record { value = both.0; state_after = both.1 }

pub returns : goal.returns
returns c =
    let both = untick-done c.args.net.bytes.now c.args.state.now (passed c.none_fresh-none_fresh.ensures c.if-not-none_fresh.false) c.requires.settled.0 c.requires.settled.1 _ c.move_back.ensures in
    record { value = both.0; state_after = both.1 }
