-- `choose::next_end` meets its contract: it looks from `from` on for a count at its lfd.
use Rattle.std.proofs.Common.{◌≡◌, ◌≤◌, rules}
use Rattle.std.proofs.lemmas.Iterator.{serves_from_Range, first_from_Range}
use native.Mathlib.Omega.{arith}
use Rattle.model.specs.Net.{count}
use Rattle.forms.specs.Stored.{net_of, stored}
use Rattle.forms.proofs.CheckedNets.{framed}
use Rattle.forms.proofs.States.{transitions-same}
use Rattle.runner.proofs.Clearing.{lowest_from}
use Rattle.runner.proofs.choose.next_end.Goals as goal

pub find-requires-clause-callable : goal.find-requires-clause-callable
find-requires-clause-callable c =
    let f = framed c.args.net c.requires.state in
    let same = transitions-same _ _ f.net_framed in serves_from_Range (λ x q k. search rules) (λ x low high. search rules)

pub returns : goal.returns
returns c =
    let n = c.args.net.bytes.now in
    let b = c.args.state.now in
    lowest_from c.args.from c.find.result c.args.net.has_shape.transitions_are (λ t l y. (l, y)) (λ t no o. omega (arith, no, o.1))
    (first_from_Range _ _ _ _ (λ t. 1 ≤ count (stored n b) t ((net_of n).lfd t)) (λ t. count (stored n b) t ((net_of n).lfd t) ≡ 0) c.find.ensures.ran (λ x q k. search rules) (λ x q k. search rules))
