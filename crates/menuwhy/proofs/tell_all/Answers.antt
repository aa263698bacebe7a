-- `tell_all` is safe and ends: with each phrase less is still to be told.
use Rattle.std.proofs.Common.{arith}
use Rattle.menuwhy.proofs.tell_all.Goals as goal

pub loop-next-preserved : goal.loop-next-preserved
loop-next-preserved g c =
    let tells = c.next-said.ensures.tells_on c.args.state.now (rw c.in-Some.is at c.loop-next.invariant.reached) in record {
      reached = tells.reached;
      end_in_bounds = omega (arith, c.put-end.ensures.upper_bound, c.put-end.ensures.out_len_unchanged, c.in_ok-at.ensures);
    }
