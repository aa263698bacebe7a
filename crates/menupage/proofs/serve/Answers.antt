-- `serve` meets its contract: the buffers are as long as `answer` asks.
use native.Mathlib.Omega.{arith}
use Rattle.replay.proofs.Edges.{edges}
use Rattle.pageshow.proofs.Edges.{page-edges}
use Rattle.menupage.proofs.serve.Goals as goal

pub answer-requires : goal.answer-requires
answer-requires c = record {
  enough_in_bounds = omega (arith, page-edges.read_enough);
  longest_state_in_bounds = omega (arith, edges.longest-state);
  longest_log_in_bounds = omega arith;
  least_buffer_in_bounds = omega arith;
}
