use Rattle.pageshow.proofs.Pages.{as_replayed}
use Rattle.pageshow.proofs.build.build.Goals as goal

pub returns-clause-as_replayed : goal.returns-clause-as_replayed
returns-clause-as_replayed c =
    let a = c.args in
    let v = c.initial-begun in
    let f = c.build_from in
    as_replayed a.net.now a.state.now v.result v.new.state v.ensures.initial_promise v.ensures.value v.ensures.state_after c.if-begun-ne0.false
    f.result f.new.state f.new.log f.ensures.as_run
