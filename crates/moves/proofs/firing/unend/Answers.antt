-- `firing::unend` meets its contract: each return is a case of the rules' outcome.
use Rattle.forms.proofs.CheckedNets.{framed_net, framed, known}
use Rattle.std.proofs.Common.{sym, ◌∙◌, rules}
use Rattle.forms.specs.Word.{Bytes}
use Rattle.moves.proofs.Looked.{found-some, found-none, took, took-nothing}
use Rattle.moves.proofs.Fired.{weighed, cell-inside}
use Rattle.moves.proofs.Ending.{unend-unknown, unend-untimely, unend-short, unend-full, unend-done, young}
use Rattle.moves.proofs.firing.unend.Goals as goal

pub returns-then-net-t : goal.returns-then-net-t
returns-then-net-t c =
    let both = unend-unknown c.args.net.bytes.now c.args.net.shape c.args.state.now (framed c.args.net c.requires) c.args.t c.args.age c.if-net-t.true in
    record { value = both.0; state_after = both.1 }

pub timely-requires : goal.timely-requires
timely-requires c = ((framed_net c.args.net).is_net, known c.args.net c.if-net-t.false)

pub returns-then-not-timely : goal.returns-then-not-timely
returns-then-not-timely c =
    let both = unend-untimely c.args.net.bytes.now c.args.net.shape c.args.state.now (framed c.args.net c.requires) c.args.t c.args.age c.if-net-t.false (sym c.if-not-timely.ensures) in
    record { value = both.0; state_after = both.1 }

pub count-running-requires-clause-t_bound : goal.count-running-requires-clause-t_bound
count-running-requires-clause-t_bound c =
    (c.if-net-t.false, young c.args.net.bytes.now c.args.net.shape c.args.state.now (framed c.args.net c.requires) c.args.t c.args.age c.if-net-t.false (sym c.if-not-timely.ensures))

pub short_place-requires : goal.short_place-requires
short_place-requires c = weighed c.args.net.bytes.now c.args.net.shape c.args.state.now (framed c.args.net c.requires) c.args.t _ c.outputs-given.ensures.0

pub returns-then-is_some : goal.returns-then-is_some
returns-then-is_some c =
    let found = found-some _ _ c.short_place.result c.short_place.ensures c.if-is_some.ensures in
    let both = unend-short c.args.net.bytes.now c.args.net.shape c.args.state.now (framed c.args.net c.requires) c.args.t c.args.age c.if-net-t.false (sym c.if-not-timely.ensures)
    c.count-running.result c.count-running.ensures.0 c.outputs-given.result.now c.outputs-given.ensures found.0 found.1 in
    record { value = both.0; state_after = both.1 }

pub returns-then-not-held : goal.returns-then-not-held
returns-then-not-held c =
    let none = found-none _ _ c.short_place.result c.short_place.ensures c.if-is_some.ensures in
    let both = unend-full c.args.net.bytes.now c.args.net.shape c.args.state.now (framed c.args.net c.requires) c.args.t c.args.age c.if-net-t.false (sym c.if-not-timely.ensures)
    c.count-running.result c.count-running.ensures.0 c.outputs-given.result.now c.outputs-given.ensures none (sym c.if-not-held.ensures) in
    record { value = both.0; state_after = both.1 }

pub take-requires : goal.take-requires
take-requires c = weighed c.args.net.bytes.now c.args.net.shape c.args.state.now (framed c.args.net c.requires) c.args.t _ c.outputs-given.ensures.0

pub returns-then-is_some-2 : goal.returns-then-is_some-2
returns-then-is_some-2 c =
    let found = found-some _ _ c.take.result c.take.ensures.value c.if-is_some-2.ensures in
    let refused = unend-short c.args.net.bytes.now c.args.net.shape c.args.state.now (framed c.args.net c.requires) c.args.t c.args.age c.if-net-t.false (sym c.if-not-timely.ensures)
    c.count-running.result c.count-running.ensures.0 c.outputs-given.result.now c.outputs-given.ensures found.0 found.1 in
    record {
      value = refused.0;
      state_after = took-nothing c.outputs-given.result.now c.args.state.now c.take.new.state c.take.ensures.state_after found.0 found.1 ∙ refused.1;
    }

pub set_count-requires-clause-inside : goal.set_count-requires-clause-inside
set_count-requires-clause-inside c =
    cell-inside c.args.net.bytes.now c.args.net.shape c.args.state.now (framed c.args.net c.requires) c.args.t c.if-net-t.false c.args.age
    (young c.args.net.bytes.now c.args.net.shape c.args.state.now (framed c.args.net c.requires) c.args.t c.args.age c.if-net-t.false (sym c.if-not-timely.ensures)) c.take.new.state c.take.auto.state

pub returns : goal.returns
returns c =
    let none = found-none _ _ c.take.result c.take.ensures.value c.if-is_some-2.ensures in
    let small : Bytes c.args.state.now = search rules in
    let both = unend-done c.args.net.bytes.now c.args.net.shape c.args.state.now (framed c.args.net c.requires) c.args.t c.args.age c.if-net-t.false (sym c.if-not-timely.ensures)
    c.count-running.result c.count-running.ensures.0 c.outputs-given.result.now c.outputs-given.ensures none (sym c.if-not-held.ensures) small _ _
    (took c.outputs-given.result.now c.args.state.now c.take.new.state c.take.ensures.state_after none) c.set_count.ensures in
    record { value = both.0; state_after = both.1 }
