-- What is demanded of the runner holds of every proper net.
-- Assumes nothing.
use mathlib.Core.Bool.{true, false}
use Rattle.model.specs.Net.{Net, Proper}
use Rattle.model.proofs.Alls.{not_yet}
use Rattle.runner.specs.Demands.{PageDemands}
use Rattle.runner.proofs.Choice.{choice-exact}
use Rattle.runner.proofs.Pages.{page-exact, page-accepted, page-at-rest, budgets_add}
use Rattle.runner.proofs.Bound.{soon}

pub page-demands : (N : Net) → Proper N → PageDemands N
page-demands N proper = record {
  choice_is = choice-exact N;
  page_is = page-exact N proper;
  accepted = λ S room budget. page-accepted N proper S room budget false not_yet;
  accepted_behind = λ S room budget known. page-accepted N proper S room budget true (λ _. known);
  at_rest = page-at-rest N proper;
  budgets_add = budgets_add N proper;
  soon = λ long S room budget. soon N proper long room budget S;
}
