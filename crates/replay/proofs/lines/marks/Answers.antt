use Rattle.std.proofs.Common.{ℕ, ap, ◌∙◌, arith}
use Rattle.forms.specs.Word.{word}
use Rattle.forms.specs.Places.{mark_at}
use Rattle.text.proofs.Puts.{line_of}
use Rattle.replay.specs.Lines.{marks_name, marks_fields}
use Rattle.replay.proofs.Marks.{marks-turn, marks-end}
use Rattle.replay.proofs.lines.marks.Goals as goal

pub loop-p-preserved : goal.loop-p-preserved
loop-p-preserved c =
    let state = c.args.state.now in
    let t = c.loop-p in
    let read = c.read16-tokens in
    let put = c.put_field-end in
    record {
      end_bound = omega (arith, put.ensures.upper_bound);
      same_length = omega arith;
      completes = λ b e rest.
          t.invariant.completes b e
          (marks-turn c.from-places.result (λ k. word state (mark_at k)) t.p t.out put.new.out b t.end put.result e read.result
          c.loop-p-test.true (read.ensures.0 ∙ ap (word state) c.mark_at.ensures) put.ensures.spelt rest);
    }

pub returns-clause-line : goal.returns-clause-line
returns-clause-line c =
    let a = c.args in
    let name = c.put_bytes-end in
    let places = c.from-places in
    let t = c.loop-p in
    let fields = t.invariant.completes t.out t.end (marks-end places.result (λ (k : ℕ). word a.state.now (mark_at k)) t.p t.out t.end c.loop-p-test.false t.auto.p-end) in
    line_of a.out.now a.at marks_name (marks_fields a.state.now) name.new.out name.result t.out t.end c.put_byte.new.out c.put_byte.result
    name.ensures.value name.ensures.out_after (rw places.ensures at fields) c.put_byte.ensures.value c.put_byte.ensures.out_after
