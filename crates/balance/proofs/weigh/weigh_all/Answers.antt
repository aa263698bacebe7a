-- `weigh::weigh_all` meets its contract. The loop keeps that the transitions passed put out what they take in, and what the marking and their
-- firings weigh.
use mathlib.Core.Path.{◌∙◌}
use native.Mathlib.Omega.{arith}
use Rattle.forms.proofs.CheckedNets.{framed}
use Rattle.forms.proofs.States.{places-small}
use Rattle.forms.proofs.Inside.{marks-inside}
use Rattle.balance.specs.Told.{weight_at}
use Rattle.balance.proofs.Bounds.{firings-bound}
use Rattle.balance.proofs.Turns.{narrow, row_inside, running-is, weighs-begin, weighs-turn, unbalanced-found, weighs-all}
use Rattle.balance.proofs.weigh.weigh_all.Goals as goal

pub marking-total-requires : goal.marking-total-requires
marking-total-requires c =
    let f = framed c.args.net c.requires.0 in (omega (arith, places-small _ _ f.net_framed), marks-inside _ _ _ f, c.requires.1)

pub loop-t-init : goal.loop-t-init
loop-t-init c = weighs-begin _ _ _ (framed c.args.net c.requires.0) (weight_at c.args.weights.now) _ c.marking-total.ensures.0 c.marking-total.ensures.1

pub returns-then-taken-given : goal.returns-then-taken-given
returns-then-taken-given c =
    unbalanced-found _ _ _ (framed c.args.net c.requires.0) (weight_at c.args.weights.now) _ _ _ _ _ _ c.loop-t.invariant c.loop-t-test.true
    c.inputs_at.ensures c.arcs-taken.ensures.0 c.outputs_at.ensures c.arcs-given.ensures.0 c.if-taken-given.true

pub words_sum-requires : goal.words_sum-requires
words_sum-requires c =
    let f = framed c.args.net c.requires.0 in
    (omega (arith, narrow _ _ _ f), row_inside _ _ _ f _ c.loop-t-test.true _ c.column.ensures _ c.count_at-row.ensures)

pub loop-t-preserved : goal.loop-t-preserved
loop-t-preserved c =
    let f = framed c.args.net c.requires.0 in
    weighs-turn _ _ _ f (weight_at c.args.weights.now) _ _ _ _ _ _ c.loop-t.invariant c.loop-t-test.true
    c.inputs_at.ensures c.arcs-taken.ensures.0 c.outputs_at.ensures c.arcs-given.ensures.0 c.if-taken-given.false
    _ (c.words_sum.ensures.0 ∙ running-is _ _ _ f _ c.loop-t-test.true _ c.column.ensures _ c.count_at-row.ensures)
    (firings-bound c.args.net.shape.width c.args.net.shape.places _ _ (narrow _ _ _ f) (places-small _ _ f.net_framed) c.words_sum.ensures.1 c.arcs-taken.ensures.1)

pub returns : goal.returns
returns c = weighs-all _ _ _ (framed c.args.net c.requires.0) (weight_at c.args.weights.now) _ _ c.loop-t.invariant c.loop-t-test.false
