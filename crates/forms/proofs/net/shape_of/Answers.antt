-- `net::shape_of` meets its contract: the chain gives the longest duration of all.
use Rattle.std.proofs.Common.{arith, rules, ◌∙◌}
use Rattle.std.specs.Ordering.{max_by_ordering, nat_cmp}
use Rattle.std.proofs.lemmas.Iterator.{YieldsList-from_range, YieldsList-from_map}
use Rattle.std.proofs.lemmas.Iterator.Consumers.{reduce_from_yields_List}
use Rattle.forms.specs.Stored.{net_of}
use Rattle.forms.proofs.Nets.{largest_of, shape-found}
use Rattle.forms.proofs.net.shape_of.Goals as goal

pub returns : goal.returns
returns c =
    let T = c.from-transitions.result in
    let lfd = (net_of c.args.net.now).lfd in
    let most =
    reduce_from_yields_List (λ x y. max_by_ordering (nat_cmp x y) x y) c.map.result c.max.result c.max.ensures.ran
    (YieldsList-from_map _ lfd (YieldsList-from_range 0 T T c.map.ensures.source (omega arith)) c.map.ensures.closure (λ x r q k. search rules)) in
    shape-found c.args.net.now _ _ _ _ c.new.ensures c.from-places.ensures c.from-transitions.ensures
    (c.unwrap_or-longest.ensures ∙ largest_of lfd T c.max.result most)
