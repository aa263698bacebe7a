-- `tell` is safe: the buffers are as long as the telling asks.
use native.Mathlib.Omega.{arith}
use Rattle.replay.proofs.Edges.{edges}
use Rattle.menuwhy.proofs.tell.Goals as goal

pub begin-begun-requires : goal.begin-begun-requires
begin-begun-requires g c = omega (arith, edges.longest-state)
