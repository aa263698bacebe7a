-- `counts::nothing_running` meets its contract: the clock is one block of words.
use Rattle.forms.proofs.CheckedNets.{framed}
use mathlib.Core.Path.{◌∙◌}
use native.Mathlib.Omega.{arith}
use Rattle.forms.proofs.Inside.{clock-inside}
use Rattle.owed.proofs.ModelTests.{nothing-running-is}
use Rattle.owed.proofs.counts.nothing_running.Goals as goal

pub blank-requires : goal.blank-requires
blank-requires c =
    omega (arith, c.clock_at.ensures, c.cells.ensures.0, clock-inside c.args.net.bytes.now c.args.net.shape c.args.state.now (framed c.args.net c.requires))

pub returns : goal.returns
returns c =
    rw (c.clock_at.ensures, c.cells.ensures.0) at c.blank.ensures ∙ nothing-running-is c.args.net.bytes.now c.args.net.shape c.args.state.now (framed c.args.net c.requires)
