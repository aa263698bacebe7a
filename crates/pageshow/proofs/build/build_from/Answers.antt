use Rattle.pageshow.proofs.Pages.{as_run}
use Rattle.pageshow.proofs.build.build_from.Goals as goal

pub returns-clause-as_run : goal.returns-clause-as_run
returns-clause-as_run c =
    let a = c.args in
    let p = c.page-page in
    as_run a.net.now a.state.now a.log.now a.budget p.result p.new.state p.new.log p.ensures.page_promise c.if-page-ne0.false
    c.owed.result c.owed.ensures.value c.nothing.result c.nothing.ensures
