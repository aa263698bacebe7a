-- `marking::take` meets its contract.
use Rattle.std.proofs.Common.{◌≡◌, ◌≤◌, ◌-◌, length, sym, rules, arith}
use Rattle.forms.specs.Word.{Bytes, byte, word}
use Rattle.forms.specs.Places.{mark_at}
use Rattle.owed.specs.Marks.{is_short, short_place}
use Rattle.moves.proofs.Weighing.{front-length}
use Rattle.moves.specs.Marking.{Changed, after_taking}
use Rattle.moves.proofs.Weighing.{take-told, take-stays, take-all, take-held, take-undone}
use Rattle.moves.proofs.marking.take.Goals as goal
use Rattle.moves.proofs.marking.take.Goals.{After-change-short}

pub change-short-requires-clause-fits : goal.change-short-requires-clause-fits
change-short-requires-clause-fits c = λ p v l m h.
    let e : (byte c.args.weights.now p ≤ word c.args.state.now (mark_at p)) × (v ≡ word c.args.state.now (mark_at p) - byte c.args.weights.now p) = search rules in
    omega arith

-- what the closure made of the marking
tried : (c : After-change-short)
    → Changed (is_short c.args.weights.now 0 c.args.state.now) (after_taking c.args.weights.now 0 c.args.state.now) (length c.args.weights.now) c.args.state.now c.change-short.result c.change-short.new.state
tried c =
    c.change-short.ensures (is_short c.args.weights.now 0 c.args.state.now) (after_taking c.args.weights.now 0 c.args.state.now) record {
      told = λ p r l h. take-told _ _ p r (search rules);
      stays = λ p l z. take-stays _ _ p z;
    }

pub slice_bounds-give_back-end : goal.slice_bounds-give_back-end
slice_bounds-give_back-end c =
    let first = rw c.in-Some.is at (tried (goal.at.slice_bounds-give_back-end c).After-change-short) in
    sym (front-length c.args.weights.now c.in-Some.p (omega (arith, first.0)))

pub give_back-requires-clause-by_index : goal.give_back-requires-clause-by_index
give_back-requires-clause-by_index c =
    let first = rw c.in-Some.is at (tried (goal.at.give_back-requires-clause-by_index c).After-change-short) in
    let small : Bytes c.args.state.now = search rules in
    take-held _ _ _ c.in-Some.p first c.requires.1 small

pub returns-in-Some : goal.returns-in-Some
unfolding short_place
returns-in-Some c =
    let first = rw c.in-Some.is at (tried (goal.at.returns-in-Some c).After-change-short) in
    let small : Bytes c.args.state.now = search rules in
    record { value = first.0; state_after = take-undone _ _ _ c.in-Some.p first c.requires.1 small _ c.give_back.ensures }

pub returns-in_default : goal.returns-in_default
unfolding short_place
returns-in_default c =
    let first = tried (goal.at.returns-in_default c).After-change-short in
    record { value = first.0; state_after = take-all _ _ _ (rw c.in_default.is at first) }
