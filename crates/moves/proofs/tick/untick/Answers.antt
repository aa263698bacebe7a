-- `tick::untick` meets its contract: each return is a case of the rules' outcome.
use mathlib.Core.Path.{sym, ◌∙◌}
use Rattle.model.proofs.Alls.{passed, failed}
use Rattle.moves.proofs.Ticking.{untick-fresh, untick-start-owed, untick-rest, untick-done}
use Rattle.moves.proofs.tick.untick.Goals as goal

pub returns-then-not-none_fresh : goal.returns-then-not-none_fresh
returns-then-not-none_fresh c =
    let a = c.args in
    let both = untick-fresh a.net.bytes.now a.state.now (failed c.none_fresh.ensures c.if-not-none_fresh.true) in
    record { value = both.0; state_after = both.1 }

pub returns-then-not-no_start_owed : goal.returns-then-not-no_start_owed
returns-then-not-no_start_owed c =
    let a = c.args in
    let both = untick-start-owed a.net.bytes.now a.state.now
    (passed c.none_fresh.ensures c.if-not-none_fresh.false) (failed c.no_start_owed.ensures c.if-not-no_start_owed.true) in
    record { value = both.0; state_after = both.1 }

pub returns-then-nothing_running : goal.returns-then-nothing_running
returns-then-nothing_running c =
    let a = c.args in
    let both = untick-rest a.net.bytes.now a.state.now
    (passed c.none_fresh.ensures c.if-not-none_fresh.false) (passed c.no_start_owed.ensures c.if-not-no_start_owed.false)
    (sym c.nothing_running.ensures ∙ c.if-nothing_running.true) in
    record { value = both.0; state_after = both.1 }

pub returns : goal.returns
returns c =
    let a = c.args in
    let both = untick-done a.net.bytes.now a.state.now
    (passed c.none_fresh.ensures c.if-not-none_fresh.false) (passed c.no_start_owed.ensures c.if-not-no_start_owed.false)
    (sym c.nothing_running.ensures ∙ c.if-nothing_running.false) _ c.move_back.ensures in
    record { value = both.0; state_after = both.1 }
