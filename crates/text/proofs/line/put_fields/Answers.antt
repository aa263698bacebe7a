use Rattle.std.proofs.Common.{refl, arith}
use Rattle.text.proofs.Puts.{fields-turn}
use Rattle.text.proofs.line.put_fields.Goals as goal

pub loop-n-preserved : goal.loop-n-preserved
loop-n-preserved c =
    let t = c.loop-n in
    let put = c.put_field-end in (
      omega (arith, put.ensures.upper_bound),
      omega arith,
      λ b e rest. t.invariant.2 b e (fields-turn c.args.numbers.now t.n-index t.out put.new.out b t.end put.result e _ c.loop-n-test.true refl put.ensures.spelt rest),
    )
