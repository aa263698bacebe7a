-- `Telling::next` meets its contract: each arm tells its part's phrase.
use Rattle.why.proofs.Remaining.{steps-from, steps-tell, verdict-on, last-tells}
use Rattle.why.specs.Said.{about}
use Rattle.why.proofs.telling.Telling.next.Goals as goal

pub step-requires-clause-steps_from : goal.step-requires-clause-steps_from
step-requires-clause-steps_from c =
    let a = c.args in
    let (first, reached) = c.requires.somewhere in
    steps-from a.self.now first a.cursor a.state.now c.in-Step.part c.in-Step.is reached

pub returns-in-Step-clause-tells_on : goal.returns-in-Step-clause-tells_on
returns-in-Step-clause-tells_on c first reached =
    let a = c.args in
    let s = c.step in
    steps-tell a.self.now first a.cursor a.state.now c.in-Step.part c.in-Step.is reached s.result s.new.state a.portion.now s.new.portion s.ensures.steps_to

pub returns-in-Verdict-clause-tells_on : goal.returns-in-Verdict-clause-tells_on
returns-in-Verdict-clause-tells_on c first reached =
    let a = c.args in
    rw c.verdict.ensures (verdict-on a.self.now first a.cursor a.state.now c.in-Verdict.part c.in-Verdict.is reached)

pub returns-in-Last-clause-tells_on : goal.returns-in-Last-clause-tells_on
returns-in-Last-clause-tells_on c first reached =
    let a = c.args in
    rw c.last.ensures (last-tells (about a.self.now first) a.state.now a.cursor c.in-Last.part c.in-Last.is)
