-- `weigh::weigh_all` meets its contract. The loop keeps that the transitions passed put out what they take in, and what the marking and their
-- firings weigh.
use Rattle.balance.specs.Told.{weight_at}
use Rattle.balance.proofs.Turns.{Weighs}
use Rattle.balance.proofs.weigh.weigh_all.Given as goal

abbrev pub invariant-loop-t : goal.invariant-loop-t
invariant-loop-t l = Weighs l.net.bytes.now l.net.shape l.state (weight_at l.weights) l.t l.total
