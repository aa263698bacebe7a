-- A line ends at the byte 10 behind it, and the last one with the file.
use Rattle.std.proofs.Common.{◌≡◌, ◌+◌, ◌∙◌, [], ◌∷◌, None, length, ap, refl, sym, arith, rules}
use Rattle.phrases.specs.Names.{word_of, part, bytes_in, name_in, name_by}
use Rattle.phrases.proofs.Lined.{new_line, line_goes_on, line_ends, line_length, last_line, named_here, named_later}
use Rattle.phrases.proofs.names.name_of.Goals as goal
use Rattle.phrases.proofs.names.name_of.Goals.{then-byte-eq10+in_default, else-byte-eq10}

pub loop-end-init : goal.loop-end-init
unfolding name_by
loop-end-init c = record { begun = omega arith; one_line = new_line c.args.names.now 0 0 refl; searched = refl }

pub returns-in-Some-clause-value : goal.returns-in-Some-clause-value
returns-in-Some-clause-value c =
    let names = c.args.names.now in
    let from = c.loop-end.from in
    named_here (word_of c.args.kind) c.args.number from _ _ _ (line_ends names from c.loop-end.end c.loop-end.invariant.begun c.loop-end-test.true c.if-byte-eq10.true c.loop-end.invariant.one_line)
    _ c.in-Some.ensures.value
    ∙ c.loop-end.invariant.searched

pub loop-end-preserved : goal.loop-end-preserved
loop-end-preserved c =
    let names = c.args.names.now in
    let from = c.loop-end.from in
    let end = c.loop-end.end in
    let known = c.loop-end.invariant in
    let word = word_of c.args.kind in
    elim c.if-byte-eq10.branch [
      | then-byte-eq10+in_default w ↦
          let none : None ≡ name_in word c.args.number from (bytes_in names (part from end) ∷ []) = search rules in
          let ends = line_ends names from end known.begun c.loop-end-test.true w.if-byte-eq10.true known.one_line in
          record {
            begun = omega arith;
            one_line = new_line names c.if-byte-eq10.from (end + 1) w.from-is;
            searched = rw w.from-is (rw (line_length names from end known.begun (omega arith)) at (named_later word c.args.number from _ _ _ ends none) ∙ known.searched);
          }
      | else-byte-eq10 w ↦ record {
        begun = omega arith;
        one_line = rw w.from-is (line_goes_on names from end known.begun c.loop-end-test.true w.if-byte-eq10.false known.one_line);
        searched = rw w.from-is known.searched;
      }
    ]

pub returns-clause-value : goal.returns-clause-value
returns-clause-value c =
    let names = c.args.names.now in
    let whole : c.loop-end.end ≡ length names = omega arith in
    c.name_between-2.ensures.value
    ∙ ap (name_in (word_of c.args.kind) c.args.number c.loop-end.from) (sym (last_line names c.loop-end.from c.loop-end.end whole c.loop-end.invariant.one_line))
    ∙ c.loop-end.invariant.searched
