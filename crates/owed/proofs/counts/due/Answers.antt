-- `counts::due` meets its contract: the count at the lfd.
use Rattle.forms.proofs.CheckedNets.{framed, known}
use native.Mathlib.Omega.{arith}
use Rattle.forms.proofs.Inside.{lfd-young}
use Rattle.owed.proofs.counts.due.Goals as goal

pub count-requires : goal.count-requires
count-requires c =
    record { is_state = c.requires.is_state; t_bound = (c.requires.t_bound, omega (arith, lfd-young c.args.net.bytes.now c.args.net.shape c.args.state.now (framed c.args.net c.requires.is_state) c.args.t (known c.args.net c.requires.t_bound), c.lfd.ensures.0)) }
