-- `arguments::number_of` meets its contract.
use Rattle.std.proofs.Common.{◌∙◌, sym, arith}
use Rattle.std.proofs.lemmas.Bool.Decides.{nat_tests}
use Rattle.pageshow.proofs.Words.{other_length, stuck, digit_more, whole}
use Rattle.pageshow.proofs.arguments.number_of.Goals as goal

pub returns-then-not-contains : goal.returns-then-not-contains
returns-then-not-contains c = other_length c.args.word.now (λ h. let z = c.if-not-contains.ensures.cases in grind (arith, nat_tests))

pub returns-in_err-n : goal.returns-in_err-n
returns-in_err-n c =
    c.from_residual.ensures
    ∙ stuck c.args.word.now c.loop-byte.byte-index c.loop-byte.n c.loop-byte-test.true c.loop-byte.invariant.value
    (sym c.with_digit.ensures ∙ c.in_err-n.was)

pub loop-byte-preserved : goal.loop-byte-preserved
loop-byte-preserved c =
    let both = digit_more c.args.word.now c.loop-byte.byte-index c.loop-byte.n c.loop-byte-test.true c.loop-byte.invariant.value
    c.in_ok-n.n (sym c.with_digit.ensures ∙ c.in_ok-n.was) c.loop-byte.invariant.digits in record { digits = both.0; value = both.1 }

pub returns : goal.returns
returns c =
    let within = c.if-not-contains.ensures.cases in
    whole c.args.word.now (grind (arith, nat_tests)) c.loop-byte.byte-index c.loop-byte.n c.loop-byte-test.false (omega arith) c.loop-byte.invariant.digits c.loop-byte.invariant.value
