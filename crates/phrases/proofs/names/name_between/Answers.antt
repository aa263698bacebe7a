-- One line: the name is at its end.
use Rattle.std.proofs.Common.{◌≡◌, false, [], ◌∷◌, List, ℕ, arith, refl, rules, sym}
use Rattle.phrases.specs.Names.{word_of, part, bytes_in, thing_in, does_name, name_in}
use Rattle.phrases.proofs.Lined.{line_length, name_here, not_here, no_thing, other_number}
use Rattle.phrases.proofs.names.name_between.Goals as goal
use Rattle.phrases.proofs.names.name_between.Goals.{in_default-via-in-None-1, in_default-via-in-Some+else-thing-number}

pub returns-clause-value : goal.returns-clause-value
returns-clause-value c =
    let line : List ℕ = bytes_in c.args.names.now (part c.args.from c.args.end) in
    rw (line_length c.args.names.now c.args.from c.args.end c.requires.0 c.requires.1)
    at (name_here (word_of c.args.kind) c.args.number (line ∷ []) 0 c.args.from line (omega arith) refl _ c.in-Some.ensures.value c.if-thing-number.true)

pub returns-2-clause-value : goal.returns-2-clause-value
unfolding name_in
returns-2-clause-value c =
    let line : List ℕ = bytes_in c.args.names.now (part c.args.from c.args.end) in
    let missed : does_name (thing_in line (word_of c.args.kind)) c.args.number ≡ false =
    elim c.in_default.branch [
      | in_default-via-in-None-1 w ↦ no_thing (thing_in line (word_of c.args.kind)) c.args.number (search rules)
      | in_default-via-in-Some+else-thing-number w ↦ other_number (thing_in line (word_of c.args.kind)) _ c.args.number w.in-Some.ensures.value w.if-thing-number.false
    ] in
    sym (not_here (word_of c.args.kind) c.args.number (line ∷ []) 0 c.args.from line (omega arith) refl missed)
