-- `marking::take_back` meets its contract: no place fails.
use Rattle.std.proofs.Common.{refl, false, ◌+◌, ◌-◌, rules, arith}
use native.Mathlib.Nat.{zero-add}
use Rattle.forms.specs.Word.{byte, word}
use Rattle.forms.specs.Places.{mark_at}
use Rattle.owed.proofs.Passing.{same}
use Rattle.moves.specs.Marking.{after_taking}
use Rattle.moves.proofs.Weighing.{some-fits, changed-all}
use Rattle.moves.proofs.marking.take_back.Goals as goal

pub change-requires-clause-asked : goal.change-requires-clause-asked
change-requires-clause-asked c = λ p l m. let h = c.requires.by_index p l in search rules

pub change-requires-clause-fits : goal.change-requires-clause-fits
change-requires-clause-fits c = λ p v l m h.
    some-fits v (word c.args.state.now (mark_at p) - byte c.args.weights.now p) (search rules) (omega arith)

pub returns : goal.returns
returns c =
    changed-all _ (after_taking c.args.weights.now 0 c.args.state.now) _ _ _ (c.change.ensures (λ _. false) (after_taking c.args.weights.now 0 c.args.state.now) record {
      told = λ p r l h. rw (zero-add p) (search rules);
      stays = λ p l z. (refl, omega (arith, z, same c.args.weights.now p (0 + p) p (omega arith)));
    })
