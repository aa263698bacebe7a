-- `choose::next_start` meets its contract: it looks from `from` on for a transition that is enabled.
use Rattle.std.proofs.Common.{◌≡◌, true, false, rules}
use Rattle.std.proofs.lemmas.Iterator.{serves_from_Range, first_from_Range}
use Rattle.model.specs.Rules.{is_enabled}
use Rattle.model.proofs.Alls.{holds, lacks}
use Rattle.model.proofs.Tests.{enabled-tells}
use Rattle.forms.specs.Stored.{net_of, stored}
use Rattle.forms.proofs.CheckedNets.{framed}
use Rattle.forms.proofs.States.{transitions-same}
use Rattle.runner.proofs.Clearing.{lowest_from}
use Rattle.runner.proofs.choose.next_start.Goals as goal

pub find-requires-clause-callable : goal.find-requires-clause-callable
find-requires-clause-callable c =
    let f = framed c.args.net c.requires.state in
    let same = transitions-same _ _ f.net_framed in serves_from_Range (λ x q k. search rules) (λ x low high. search rules)

pub returns : goal.returns
returns c =
    let N = net_of c.args.net.bytes.now in
    let S = stored c.args.net.bytes.now c.args.state.now in
    lowest_from c.args.from c.find.result c.args.net.has_shape.transitions_are (λ t l y. (l, holds (enabled-tells N S t) y)) (λ t no o. lacks (enabled-tells N S t) no o.1)
    (first_from_Range _ _ _ _ (λ t. is_enabled N S t ≡ true) (λ t. is_enabled N S t ≡ false) c.find.ensures.ran (λ x q k. search rules) (λ x q k. search rules))
