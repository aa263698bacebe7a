-- `degree::times` meets its contract, by the definition.
use Rattle.std.proofs.Common.{◌≡◌, ◌∙◌, ℕ, zero, suc, ◌<◌, ◌/◌, refl, arith, Option, Some, None}
use Rattle.std.specs.Option.{SomeIff, unwrap_or}
use Rattle.model.specs.Limits.{token_limit}
use Rattle.model.specs.Rules.{times as times_of}
use Rattle.owed.proofs.degree.times.Goals as goal

by_weight : (w m : ℕ) (o : Option ℕ) → SomeIff o (0 < w) (m / w) → unwrap_or o token_limit ≡ times_of w m
unfolding times_of
by_weight zero m None f = refl
by_weight (suc w) m None f = absurd (f (omega arith))
by_weight zero m (Some x) f = absurd (omega arith)
by_weight (suc w) m (Some x) f = f.1

pub returns : goal.returns
returns c = c.unwrap_or.ensures ∙ by_weight c.args.weight c.args.marking c.checked_div.result c.checked_div.ensures
