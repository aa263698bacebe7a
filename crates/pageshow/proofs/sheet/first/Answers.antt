-- Written out, so that another number in the line of the stop is refused at that line.
use Rattle.pageshow.proofs.Shows.{shows, as-menurun}
use Rattle.pageshow.proofs.sheet.first.Goals as goal

pub returns-clause-shows : goal.returns-clause-shows
returns-clause-shows c =
    let a = c.args in
    let n = c.net_length-n in
    let made = c.build-built in
    let line = c.stop_line-behind in
    let shown = c.show-sheet in
    shows a.input.now a.state.now a.log.now a.out.now a.budget n.result n.ensures.value made.result made.new.state made.new.log
    line.new.out shown.new.out line.result shown.result made.ensures.value line.ensures.line shown.ensures.first_sheet
    made.ensures.state_after made.ensures.log_after shown.ensures.cells_value

pub returns-clause-as_menurun : goal.returns-clause-as_menurun
returns-clause-as_menurun c =
    let a = c.args in
    let n = c.net_length-n in
    let made = c.build-built in
    let line = c.stop_line-behind in
    let shown = c.show-sheet in
    as-menurun a.input.now a.state.now a.log.now a.out.now a.budget n.result n.ensures.value made.result made.new.state made.new.log
    line.new.out shown.new.out line.result shown.result made.ensures.value line.ensures.line shown.ensures.first_sheet
    made.ensures.as_replayed
