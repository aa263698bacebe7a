-- `report::standing` meets its contract: a word is 0 exactly where nothing of its kind is owed.
use mathlib.Core.Path.{sym, ◌∙◌}
use Rattle.forms.specs.Stored.{net_of, stored}
use Rattle.owed.proofs.ModelTests.{stands-start, stands-end, stands-rest, stands-free}
use Rattle.owed.proofs.report.standing.Goals as goal

pub returns-then-starts-ne0 : goal.returns-then-starts-ne0
returns-then-starts-ne0 c =
    let a = c.args in
    stands-start (net_of a.net.bytes.now) (stored a.net.bytes.now a.state.now) a.starts a.ends c.requires.starts_value c.requires.ends_value c.if-starts-ne0.true

pub returns-then-ends-ne0 : goal.returns-then-ends-ne0
returns-then-ends-ne0 c =
    let a = c.args in
    stands-end (net_of a.net.bytes.now) (stored a.net.bytes.now a.state.now) a.starts a.ends c.requires.starts_value c.requires.ends_value c.if-starts-ne0.false c.if-ends-ne0.true

pub returns-then-nothing_running : goal.returns-then-nothing_running
returns-then-nothing_running c =
    let a = c.args in
    stands-rest (net_of a.net.bytes.now) (stored a.net.bytes.now a.state.now) a.starts a.ends c.requires.starts_value c.requires.ends_value c.if-starts-ne0.false c.if-ends-ne0.false (sym c.nothing_running.ensures ∙ c.if-nothing_running.true)

pub returns : goal.returns
returns c =
    let a = c.args in
    stands-free (net_of a.net.bytes.now) (stored a.net.bytes.now a.state.now) a.starts a.ends c.requires.starts_value c.requires.ends_value c.if-starts-ne0.false c.if-ends-ne0.false (sym c.nothing_running.ensures ∙ c.if-nothing_running.false)
