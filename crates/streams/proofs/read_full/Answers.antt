-- What one read gives stands behind what the ones before it gave.
use Rattle.std.proofs.Common.{◌≡◌, ℕ, ◌+◌, ◌≤◌, List, ◌++◌, length, take, sym, ap, ◌∙◌, subst, arith, length-take-le}
use Rattle.std.proofs.Math.Seq.{take-append-add}
use Rattle.std.proofs.lemmas.List.{take-append-le}
use Rattle.std.specs.Io.KnownBytes.{Consumes}
use Rattle.std.proofs.KnownBytes.{Consumes-trans}
use borrow.Rule.Slice.PartMut.{put_mid, post_of}
use Rattle.streams.proofs.read_full.Goals as goal

take-put_mid_behind : (a k n : ℕ) (xs ys : List ℕ) → a ≤ length xs → n ≤ length ys → take a xs ++ take n ys ≡ take (a + n) (put_mid a k xs ys)
take-put_mid_behind a k n xs ys within fits =
    let rest = ys ++ post_of a k xs in
    ap (λ l. take a xs ++ l) (sym (take-append-le n ys (post_of a k xs) fits)) ∙ sym (take-append-add (take a xs) rest n)
    ∙ ap (λ m. take (m + n) (take a xs ++ rest)) (length-take-le a xs within)

pub loop-at-preserved : goal.loop-at-preserved
loop-at-preserved g c = record {
  in_bounds = omega (arith, c.in_ok-n.ensures.bound.0);
  bytes = subst (Consumes _ _) (take-put_mid_behind c.loop-at.at _ c.in_ok-n.n c.loop-at.buf c.read.new.buf c.loop-at.invariant.in_bounds c.in_ok-n.ensures.bound.0)
      (Consumes-trans _ _ _ _ _ c.loop-at.invariant.bytes c.in_ok-n.ensures.bytes.0);
}
