-- `tell_all` is safe and ends: with each phrase less is still to be told.
use Rattle.std.proofs.Common.{◌≤◌, length}
use Rattle.why.specs.Report.{remaining_if}
use Rattle.why.specs.Said.{about, ReachedIf}
use Rattle.menuwhy.proofs.tell_all.Given as goal

abbrev pub invariant-loop-next : goal.invariant-loop-next
invariant-loop-next g l = record { reached : ReachedIf (about l.telling l.initial.state) l.state l.next; end_in_bounds : l.end ≤ length l.out }

abbrev pub decreases-loop-next : goal.decreases-loop-next
decreases-loop-next g l = length (remaining_if (about l.telling l.initial.state) l.next)
