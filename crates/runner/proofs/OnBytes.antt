-- The demands on the runner hold.
-- Assumes nothing.
use mathlib.Core.Path.{refl}
use Rattle.runner.specs.OnBytes.{OnBytes}
use Rattle.runner.proofs.Words.{by_words}
use Rattle.runner.proofs.Demands.{page-demands}
use Rattle.runner.proofs.Promised.{page-promised}
use Rattle.runner.proofs.InTwo.{in_two}

pub on-bytes : OnBytes
on-bytes = record {
  model = page-demands;
  by_words = λ N few S. by_words N S few;
  promised = λ net b log budget small small'. (page-promised net b log small small' budget _ _ _ (refl, (refl, refl))).1.1.1;
  budgets_add = in_two;
}
