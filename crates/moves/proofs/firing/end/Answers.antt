-- `firing::end` meets its contract: each return is a case of the rules' outcome.
use Rattle.forms.proofs.CheckedNets.{framed_net, framed, known}
use Rattle.std.proofs.Common.{sym, ◌∙◌, rules, arith}
use Rattle.forms.specs.Word.{Bytes}
use Rattle.moves.proofs.Looked.{gave, gave-nothing}
use Rattle.moves.proofs.Fired.{weighed, cell-inside}
use Rattle.moves.proofs.Ending.{end-unknown, end-untimely, end_none, end-full, end-done, young}
use Rattle.moves.proofs.firing.end.Goals as goal

pub returns-then-net-t : goal.returns-then-net-t
returns-then-net-t c =
    let both = end-unknown c.args.net.bytes.now c.args.net.shape c.args.state.now (framed c.args.net c.requires) c.args.t c.args.age c.if-net-t.true in
    record { value = both.0; state_after = both.1 }

pub timely-requires : goal.timely-requires
timely-requires c = ((framed_net c.args.net).is_net, known c.args.net c.if-net-t.false)

pub returns-then-not-timely : goal.returns-then-not-timely
returns-then-not-timely c =
    let both = end-untimely c.args.net.bytes.now c.args.net.shape c.args.state.now (framed c.args.net c.requires) c.args.t c.args.age c.if-net-t.false (sym c.if-not-timely.ensures) in
    record { value = both.0; state_after = both.1 }

pub count-running-requires-clause-t_bound : goal.count-running-requires-clause-t_bound
count-running-requires-clause-t_bound c =
    (c.if-net-t.false, young c.args.net.bytes.now c.args.net.shape c.args.state.now (framed c.args.net c.requires) c.args.t c.args.age c.if-net-t.false (sym c.if-not-timely.ensures))

pub returns-then-running-eq0 : goal.returns-then-running-eq0
returns-then-running-eq0 c =
    let both = end_none c.args.net.bytes.now c.args.net.shape c.args.state.now (framed c.args.net c.requires) c.args.t c.args.age c.if-net-t.false (sym c.if-not-timely.ensures)
    c.count-running.result c.count-running.ensures.0 c.if-running-eq0.true in
    record { value = both.0; state_after = both.1 }

pub give-requires : goal.give-requires
give-requires c = weighed c.args.net.bytes.now c.args.net.shape c.args.state.now (framed c.args.net c.requires) c.args.t _ c.outputs.ensures.0

pub returns-then-not-give : goal.returns-then-not-give
returns-then-not-give c =
    let refused = end-full c.args.net.bytes.now c.args.net.shape c.args.state.now (framed c.args.net c.requires) c.args.t c.args.age c.if-net-t.false (sym c.if-not-timely.ensures)
    c.count-running.result c.count-running.ensures.0 c.outputs.result.now c.outputs.ensures (omega (arith, c.if-running-eq0.false)) (sym c.if-not-give.ensures.value) in
    record {
      value = refused.0;
      state_after = gave-nothing c.outputs.result.now c.args.state.now c.give.new.state c.give.ensures.state_after (sym c.if-not-give.ensures.value) ∙ refused.1;
    }

pub set_count-requires-clause-inside : goal.set_count-requires-clause-inside
set_count-requires-clause-inside c =
    cell-inside c.args.net.bytes.now c.args.net.shape c.args.state.now (framed c.args.net c.requires) c.args.t c.if-net-t.false c.args.age
    (young c.args.net.bytes.now c.args.net.shape c.args.state.now (framed c.args.net c.requires) c.args.t c.args.age c.if-net-t.false (sym c.if-not-timely.ensures)) c.give.new.state c.give.auto.state

pub returns : goal.returns
returns c =
    let small : Bytes c.args.state.now = search rules in
    let both = end-done c.args.net.bytes.now c.args.net.shape c.args.state.now (framed c.args.net c.requires) c.args.t c.args.age c.if-net-t.false (sym c.if-not-timely.ensures)
    c.count-running.result c.count-running.ensures.0 c.outputs.result.now c.outputs.ensures (omega (arith, c.if-running-eq0.false)) c.count-running.ensures.1
    (sym c.if-not-give.ensures.value) small _ _ (gave c.outputs.result.now c.args.state.now c.give.new.state c.give.ensures.state_after (sym c.if-not-give.ensures.value)) c.set_count.ensures in
    record { value = both.0; state_after = both.1 }
