-- `counts::count` meets its contract: the word at the place of the count.
use Rattle.forms.proofs.CheckedNets.{framed, known}
use mathlib.Core.Path.{◌∙◌}
use Rattle.forms.proofs.Inside.{count-inside, count-stands}
use Rattle.owed.proofs.counts.count.Goals as goal

pub read16-requires : goal.read16-requires
read16-requires c =
    count-inside c.args.net.bytes.now c.args.net.shape c.args.state.now (framed c.args.net c.requires.is_state) c.args.t (known c.args.net c.requires.t_bound.0) c.args.age c.column.result c.count_at.result c.requires.t_bound.1
    c.column.ensures c.count_at.ensures

pub returns : goal.returns
returns c = (
  c.read16.ensures.0
      ∙ count-stands c.args.net.bytes.now c.args.net.shape c.args.state.now (framed c.args.net c.requires.is_state) c.args.t (known c.args.net c.requires.t_bound.0) c.args.age c.column.result c.count_at.result c.requires.t_bound.1
      c.column.ensures c.count_at.ensures,
  c.read16.ensures.1,
)
