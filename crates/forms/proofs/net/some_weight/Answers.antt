-- `net::some_weight` meets its contract: `any` finds what `has_some_weight` tells of.
use Rattle.std.proofs.Common.{rules}
use Rattle.forms.proofs.Nets.{weight_found}
use Rattle.forms.proofs.net.some_weight.Goals as goal

pub returns : goal.returns
returns c = weight_found _ _ _ (search rules)
