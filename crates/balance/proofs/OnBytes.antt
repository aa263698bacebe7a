-- Nothing leaks.
-- Assumes nothing.
use mathlib.Core.Path.{refl}
use Rattle.balance.specs.Told.{balance_told}
use Rattle.balance.specs.OnBytes.{OnBytes}
use Rattle.balance.proofs.Kept.{accounted, total_kept}
use Rattle.balance.proofs.Changes.{changes}
use Rattle.balance.proofs.Bounds.{no_overflow}
use Rattle.balance.proofs.Alike.{used-alike}
use Rattle.balance.proofs.Promised.{balance-promised}

pub on-bytes : OnBytes
on-bytes = record {
  accounted = accounted;
  total_kept = total_kept;
  changes = changes;
  no_overflow = no_overflow;
  promised = λ net b weights bytes small few. (balance-promised net b weights bytes small few (balance_told net b weights) refl).1;
  alike = λ net b weights bytes small b' used. used-alike net bytes weights small used;
}
