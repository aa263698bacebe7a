-- `weigh::words_sum` meets its contract: each term is a word.
use Rattle.std.proofs.Common.{◌+◌, ◌*◌, rules}
use native.Mathlib.Omega.{arith}
use Rattle.forms.specs.Word.{word}
use Rattle.balance.specs.Bounds.{word_most}
use Rattle.balance.proofs.Bounds.{word-small}
use Rattle.balance.proofs.Chains.{chain-sums, chain-fits}
use Rattle.balance.proofs.weigh.words_sum.Goals as goal

pub sum-requires-clause-fits : goal.sum-requires-clause-fits
sum-requires-clause-fits c =
    let a = c.args in
    chain-fits _ a.n word_most (λ k. word a.s.now (a.at + 2 * k)) (λ k. omega (arith, word-small a.s.now c.type_inv.s (a.at + 2 * k))) (cc) c.map.ensures.closure (λ x r q k. search rules) _ (omega arith)

pub returns : goal.returns
returns c =
    let a = c.args in
    chain-sums _ a.n word_most (λ k. word a.s.now (a.at + 2 * k)) (λ k. omega (arith, word-small a.s.now c.type_inv.s (a.at + 2 * k))) (cc) c.map.ensures.closure (λ x r q k. search rules) _ c.sum.ensures.ran
