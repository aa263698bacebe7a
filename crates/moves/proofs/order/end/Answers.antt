-- `order::end` meets its contract: it comes too late, or it does not matter whether a start has happened.
use Rattle.model.proofs.Alls.{passed, failed}
use Rattle.forms.specs.Stored.{net_of, stored}
use Rattle.moves.proofs.Ordering.{end-any, behind-start, end-too-late}
use Rattle.moves.proofs.order.end.Goals as goal

pub too_late-requires : goal.too_late-requires
too_late-requires c =
    record { age_value = (behind-start c.args.started c.args.age.0 (failed c.may_end.ensures c.if-not-may_end.true)).1 }

pub returns-then-not-may_end : goal.returns-then-not-may_end
returns-then-not-may_end c =
    let both = end-too-late c.args.net.bytes.now c.args.state.now c.args.started c.args.t c.args.age
    (failed c.may_end.ensures c.if-not-may_end.true) c.too_late.result c.too_late.ensures in
    record { value = both.0; state_after = both.1 }

pub returns : goal.returns
returns c =
    rw (end-any (net_of c.args.net.bytes.now) c.args.started (stored c.args.net.bytes.now c.args.state.now) c.args.t c.args.age
    (passed c.may_end.ensures c.if-not-may_end.false)) c.end.ensures
