-- Each line told is behind the last.
use Rattle.std.proofs.Common.{◌≡◌, ◌+◌, ◌-◌, length}
use Rattle.menuwhy.proofs.tell_bad_names.Given as goal

abbrev pub invariant-loop-bad : goal.invariant-loop-bad
invariant-loop-bad g l = length l.out ≡ length l.initial.out

abbrev pub decreases-loop-bad : goal.decreases-loop-bad
decreases-loop-bad g l = length l.names + 1 - l.line
