-- `sets::word_of` meets its contract: a turn of the loop adds one digit.
use Rattle.std.proofs.Common.{◌≡◌, sym, ◌∙◌, ◌<◌, arith}
use Rattle.owed.proofs.OwedWords.{word-begin, word_set, word-skip}
use Rattle.owed.proofs.sets.word_of.Goals as goal
use Rattle.owed.proofs.sets.word_of.Goals.{then-passes, else-passes}

pub loop-t-init : goal.loop-t-init
loop-t-init g c = λ f says. word-begin f

pub loop-t-preserved : goal.loop-t-preserved
loop-t-preserved g c = λ f says.
    let told = sym (says c.loop-t.t c.passes.result c.loop-t-test.true c.passes.ensures) in
    let small : c.loop-t.t < 64 = omega (arith, c.requires.few) in
    elim c.if-passes.branch [
      | then-passes w ↦ w.word-is ∙ w.with_bit-word.ensures ∙ word_set f c.loop-t.word c.loop-t.t (c.loop-t.invariant f says) small (told ∙ w.if-passes.true)
      | else-passes w ↦ w.word-is ∙ word-skip f c.loop-t.word c.loop-t.t (c.loop-t.invariant f says) (told ∙ w.if-passes.false)
    ]

pub returns : goal.returns
returns g c = λ f says. let e : c.loop-t.t ≡ c.args.n = omega arith in rw e at (c.loop-t.invariant f says)
