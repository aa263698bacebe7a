-- `degree::least_times` meets its contract: each turn takes the lesser of what there is and how many times the weight of a place goes in.
use Rattle.std.proofs.Common.{ℕ, min, refl, rules, tests, arith}
use Rattle.model.specs.Tab.{least}
use Rattle.model.specs.Limits.{token_limit}
use Rattle.model.specs.Rules.{times}
use Rattle.model.proofs.Ranges.{fold-below}
use Rattle.forms.specs.Word.{byte, word}
use Rattle.forms.specs.Places.{mark_at}
use Rattle.owed.proofs.degree.least_times.Goals as goal

pub returns : goal.returns
unfolding least
returns c =
    let share : ℕ → ℕ = λ p. times (byte c.args.weights.now p) (word c.args.state.now (mark_at p)) in
    fold-below (λ fewest p. min fewest (share p)) (λ n. least token_limit n share) _ (λ i l. omega arith) _ c.fold.ensures.ran refl refl
    (λ a x b q k. search (rules, tests))
