-- `tick::move_back` meets its contract: the clock's block, moved by one place, is what the rules write.
use Rattle.forms.proofs.CheckedNets.{framed}
use native.Mathlib.Omega.{arith}
use Rattle.moves.proofs.Ticking.{block-fits, unaged}
use Rattle.moves.proofs.tick.move_back.Goals as goal

pub shift_down-requires : goal.shift_down-requires
shift_down-requires c =
    let a = c.args in
    let at = c.clock_at in
    block-fits a.net.bytes.now a.net.shape a.state.now (framed c.args.net c.requires.is_state) at.result c.cells.result at.ensures c.cells.ensures.0

pub returns : goal.returns
returns c =
    let a = c.args in
    let at = c.clock_at in
    let n = c.cells in
    unaged a.net.bytes.now a.net.shape a.state.now (framed c.args.net c.requires.is_state) at.result n.result at.ensures n.ensures.0
    (λ k. omega (arith, c.slice_known-1.given k)) _ c.requires.state_value c.shift_down.ensures
