-- The layout is document 01's. Each field cites the theorem that carries it.
-- Assumes nothing.
use mathlib.Core.Path.{sym, ◌∙◌}
use Rattle.forms.specs.Stored.{state_of}
use Rattle.forms.specs.AsListed.{AsListed}
use Rattle.forms.proofs.Written.{written-own}
use Rattle.forms.proofs.ListedNet.{net-listed, net-listed-good}
use Rattle.forms.proofs.NetIsListed.{net-is-listed}
use Rattle.forms.proofs.ListedState.{state-listed-good, state-listed, written_listed}
use Rattle.forms.proofs.ListedLog.{log-listed-good, log-is-listed}

pub as_listed : AsListed
as_listed = record {
  net_good = net-listed-good;
  net_reads = net-listed;
  net_is = net-is-listed;
  state_good = state-listed-good;
  state_reads = state-listed;
  state_written = written_listed;
  state_is = λ N b small is. sym (written-own N b small) ∙ written_listed N (state_of N b) b is small;
  log_good = log-listed-good;
  log_is = log-is-listed;
}
