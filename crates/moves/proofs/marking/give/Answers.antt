-- `marking::give` meets its contract.
use Rattle.std.proofs.Common.{not, length, sym, rules, tests, arith}
use Rattle.model.specs.Limits.{is_held}
use Rattle.forms.specs.Word.{Bytes}
use Rattle.moves.specs.Marking.{Changed, after_giving}
use Rattle.moves.proofs.Weighing.{front-length, give-told, give-stays, give-all, give-had, give-undone}
use Rattle.moves.proofs.marking.give.Goals as goal
use Rattle.moves.proofs.marking.give.Goals.{After-change-full}

-- what the closure made of the marking
tried : (c : After-change-full)
    → Changed (λ p. not (is_held (after_giving c.args.weights.now 0 c.args.state.now p))) (after_giving c.args.weights.now 0 c.args.state.now) (length c.args.weights.now) c.args.state.now c.change-full.result c.change-full.new.state
tried c =
    let small : Bytes c.args.state.now = search rules in
    c.change-full.ensures (λ p. not (is_held (after_giving c.args.weights.now 0 c.args.state.now p))) (after_giving c.args.weights.now 0 c.args.state.now) record {
      told = λ p r l h. give-told _ _ p r (search (rules, tests));
      stays = λ p l z. give-stays _ _ small p z;
    }

pub returns-in_default : goal.returns-in_default
returns-in_default c =
    let both = give-all _ _ _ (rw c.in_default.is at (tried (goal.at.returns-in_default c).After-change-full)) in
    record { value = both.0; state_after = both.1 }

pub slice_bounds-take_back-end : goal.slice_bounds-take_back-end
slice_bounds-take_back-end c =
    let first = rw c.in-Some.is at (tried (goal.at.slice_bounds-take_back-end c).After-change-full) in
    sym (front-length c.args.weights.now c.in-Some.p (omega (arith, first.0)))

pub take_back-requires-clause-by_index : goal.take_back-requires-clause-by_index
take_back-requires-clause-by_index c =
    give-had _ _ _ c.in-Some.p (rw c.in-Some.is at (tried (goal.at.take_back-requires-clause-by_index c).After-change-full)) c.requires.1

pub returns : goal.returns
returns c =
    let small : Bytes c.args.state.now = search rules in
    let both = give-undone _ _ _ c.in-Some.p (rw c.in-Some.is at (tried (goal.at.returns c).After-change-full)) c.requires.1 small _ c.take_back.ensures in
    record { value = both.0; state_after = both.1 }
