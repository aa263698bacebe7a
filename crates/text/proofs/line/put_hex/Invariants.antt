-- The first i bytes stand in hex.
use Rattle.std.proofs.Common.{◌≡◌}
use Rattle.text.specs.Lines.{hexed}
use Rattle.text.proofs.line.put_hex.Given as goal

abbrev pub invariant-loop-i : goal.invariant-loop-i
invariant-loop-i l = l.out ≡ hexed l.initial.out l.at l.bytes l.i
