-- `weigh::arcs` meets its contract: each term is a word by a byte.
use Rattle.std.proofs.Common.{◌+◌, ◌*◌, rules}
use native.Mathlib.Omega.{arith}
use Rattle.forms.specs.Word.{byte}
use Rattle.balance.specs.Bounds.{arc_most}
use Rattle.balance.specs.Told.{weight_at}
use Rattle.balance.specs.Weights.{weighed}
use Rattle.balance.proofs.Bounds.{word-by-byte, word-small, byte-small}
use Rattle.balance.proofs.Chains.{chain-sums, chain-fits}
use Rattle.balance.proofs.weigh.arcs.Goals as goal

pub sum-requires-clause-fits : goal.sum-requires-clause-fits
sum-requires-clause-fits c =
    let a = c.args in
    let t = c.type_inv in
    chain-fits _ a.places arc_most (λ p. weight_at a.weights.now p * byte a.net.now (a.from + p))
    (λ p. word-by-byte _ _ (word-small a.weights.now t.weights (2 * p)) (byte-small a.net.now t.net (a.from + p)))
    (cc) c.map.ensures.closure (λ x r q k. search rules) _ (omega arith)

pub returns : goal.returns
unfolding weighed
returns c =
    let a = c.args in
    let t = c.type_inv in
    chain-sums _ a.places arc_most (λ p. weight_at a.weights.now p * byte a.net.now (a.from + p))
    (λ p. word-by-byte _ _ (word-small a.weights.now t.weights (2 * p)) (byte-small a.net.now t.net (a.from + p)))
    (cc) c.map.ensures.closure (λ x r q k. search rules) _ c.sum.ensures.ran
