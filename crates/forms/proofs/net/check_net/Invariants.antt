-- `net::check_net` meets its contract. The loop keeps that the rows that are left give the answer of all.
use Rattle.forms.specs.Word.{byte}
use Rattle.forms.specs.Stored.{net_of}
use Rattle.forms.specs.Nets.{check_row}
use Rattle.forms.proofs.Turns.{Left}
use Rattle.forms.proofs.net.check_net.Given as goal

abbrev pub invariant-loop-t : goal.invariant-loop-t
invariant-loop-t l = Left (check_row (net_of l.net)) (byte l.net 6) l.t
