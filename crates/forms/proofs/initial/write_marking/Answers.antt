-- `initial::write_marking` meets its contract: the net's words are copied.
use Rattle.std.proofs.Common.{arith}
use Rattle.forms.proofs.WordBytes.{put_copied}
use Rattle.forms.proofs.initial.write_marking.Goals as goal

pub returns : goal.returns
returns c =
    let a = c.args in
    rw (c.copy_from_slice.ensures.after, c.mark_at.ensures, c.mark_at-2.ensures, c.initial_at.ensures, c.initial_at-2.ensures)
    (put_copied a.state.now a.net.now 8 7 a.places c.requires.2 c.requires.1 (λ i. omega (arith, c.type_inv.net i)))
