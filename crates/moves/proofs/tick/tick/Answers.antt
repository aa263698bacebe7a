-- `tick::tick` meets its contract: each return is a case of the rules' outcome.
use mathlib.Core.Path.{sym, ◌∙◌}
use Rattle.model.proofs.Alls.{passed, failed}
use Rattle.moves.proofs.Ticking.{tick-start-owed, tick-end-owed, tick-rest, tick-done}
use Rattle.moves.proofs.tick.tick.Goals as goal

pub returns-then-not-no_start_owed : goal.returns-then-not-no_start_owed
returns-then-not-no_start_owed c =
    let a = c.args in
    let both = tick-start-owed a.net.bytes.now a.state.now (failed c.no_start_owed.ensures c.if-not-no_start_owed.true) in
    record { value = both.0; state_after = both.1 }

pub returns-then-not-no_end_owed : goal.returns-then-not-no_end_owed
returns-then-not-no_end_owed c =
    let a = c.args in
    let both = tick-end-owed a.net.bytes.now a.state.now
    (passed c.no_start_owed.ensures c.if-not-no_start_owed.false) (failed c.no_end_owed.ensures c.if-not-no_end_owed.true) in
    record { value = both.0; state_after = both.1 }

pub returns-then-nothing_running : goal.returns-then-nothing_running
returns-then-nothing_running c =
    let a = c.args in
    let both = tick-rest a.net.bytes.now a.state.now
    (passed c.no_start_owed.ensures c.if-not-no_start_owed.false) (passed c.no_end_owed.ensures c.if-not-no_end_owed.false)
    (sym c.nothing_running.ensures ∙ c.if-nothing_running.true) in
    record { value = both.0; state_after = both.1 }

pub returns : goal.returns
returns c =
    let a = c.args in
    let both = tick-done a.net.bytes.now a.state.now
    (passed c.no_start_owed.ensures c.if-not-no_start_owed.false) (passed c.no_end_owed.ensures c.if-not-no_end_owed.false)
    (sym c.nothing_running.ensures ∙ c.if-nothing_running.false) _ c.move_on.ensures in
    record { value = both.0; state_after = both.1 }
