-- `weigh::marking` meets its contract: each term is a word by a word.
use Rattle.std.proofs.Common.{◌*◌, rules}
use native.Mathlib.Omega.{arith}
use Rattle.forms.specs.Word.{word}
use Rattle.forms.specs.Places.{mark_at}
use Rattle.balance.specs.Bounds.{tokens_most}
use Rattle.balance.specs.Told.{weight_at}
use Rattle.balance.specs.Weights.{weighed}
use Rattle.balance.proofs.Bounds.{word-by-word, word-small}
use Rattle.balance.proofs.Chains.{chain-sums, chain-fits}
use Rattle.balance.proofs.weigh.marking.Goals as goal

pub sum-requires-clause-fits : goal.sum-requires-clause-fits
sum-requires-clause-fits c =
    let a = c.args in
    let t = c.type_inv in
    chain-fits _ a.places tokens_most (λ p. weight_at a.weights.now p * word a.state.now (mark_at p))
    (λ p. word-by-word _ _ (word-small a.weights.now t.weights (2 * p)) (word-small a.state.now t.state (mark_at p)))
    (cc) c.map.ensures.closure (λ x r q k. search rules) _ (omega arith)

pub returns : goal.returns
unfolding weighed
returns c =
    let a = c.args in
    let t = c.type_inv in
    chain-sums _ a.places tokens_most (λ p. weight_at a.weights.now p * word a.state.now (mark_at p))
    (λ p. word-by-word _ _ (word-small a.weights.now t.weights (2 * p)) (word-small a.state.now t.state (mark_at p)))
    (cc) c.map.ensures.closure (λ x r q k. search rules) _ c.sum.ensures.ran
