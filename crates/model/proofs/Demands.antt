-- The demands hold of every net. Each field cites the theorem that carries it.
-- Assumes nothing.
use mathlib.Core.Path.{sym, subst}
use mathlib.Core.Logic.Iff
use Rattle.model.specs.declared.answer.Standing.TheVariants as standing
use Rattle.model.specs.Net.{Net, IsWidth, width}
use Rattle.model.specs.Run.{Ran, Walked}
use Rattle.model.specs.Owed.{Reports}
use Rattle.model.specs.Demands.{Demand2, Demand3, StaysLawful}
use Rattle.model.proofs.Shape.{width_is, width-once, initial-exact}
use Rattle.model.proofs.Degree.{degree-exact}
use Rattle.model.proofs.Forward.{apply-exact}
use Rattle.model.proofs.Lawful.{initial-lawful}
use Rattle.model.proofs.Lacking.{not_enabled, just-short}
use Rattle.model.proofs.Back.{back-exact, apply-lawful, back-lawful, apply-injective}
use Rattle.model.proofs.Refusals.{apply-refuses, short_told, back-refuses, no_state_before}
use Rattle.model.proofs.Run.{leads-lawful, run-accepted, run-exact, run_ran, ran-only, run_short}
use Rattle.model.proofs.Walk.{walk-exact, walk_refused, walk_no_state_before, walk-back, walk-walked, walked-only}
use Rattle.model.proofs.Owed.{owed-reports, reports-once, owed-standing, free_to_tick}

pub demand_2 : (N : Net) → Demand2 N
demand_2 N = record {
  width_is = λ h d. ((λ e. subst (IsWidth N) (sym e) (width_is N h)), λ w. width-once N d (width N) w (width_is N h));
  initial_is = initial-exact N;
  degree_is = degree-exact N;
  event_accepted = apply-exact N;
  event_refused = apply-refuses N;
  not_enabled = not_enabled N;
  short_told = short_told N;
  short_just = just-short N;
  log_accepted = run-accepted N;
  log_leads = run-exact N;
  log_told = λ b S es r. ((λ e. subst (Ran N b S es) (sym e) (run_ran N b S es)), ran-only N b S es r);
  log_short = run_short N;
  owed-told = λ S r. ((λ e. subst (Reports N S) (sym e) (owed-reports N S)), λ h. reports-once N S h (owed-reports N S));
  free_to_tick = λ b S. Iff.trans (owed-standing N S standing.FreeToTick) (free_to_tick N S b);
}

pub demand_3 : (N : Net) → Demand3 N
demand_3 N = record {
  succeeds = λ b S' s' e. (
    (λ (S, d). let (s, m) = (back-exact N b S' s' e S).0 d in (S, s, m)),
    λ (S, s, m). (S, (back-exact N b S' s' e S).1 (s, m)),
  );
  never_a_second = λ b S' e (S₁, s₁, m₁) (S₂, s₂, m₂).
      apply-injective N b e S₁ S₂ S' s₁ s₂ ((apply-exact N b S₁ e S').1 m₁) ((apply-exact N b S₂ e S').1 m₂);
  yields = λ b S' s' e (S, s, m). (back-exact N b S' s' e S).1 (s, m);
  back_refused = back-refuses N;
  no_state_before = no_state_before N;
  walked_back = walk-back N;
  walk_accepted = walk-exact N;
  walk_refused = walk_refused N;
  walk_no_state_before = walk_no_state_before N;
  walk-told = λ b S' s' es n r. (
    (λ e. subst (Walked N b S' es n) (sym e) (walk-walked N b S' s' es n)),
    walked-only N b S' s' es n r,
  );
}

pub stays-lawful : (N : Net) → StaysLawful N
stays-lawful N = record {
  at_first = initial-lawful N;
  forward = apply-lawful N;
  backward = back-lawful N;
  after_run = λ b S es s. leads-lawful s (run_ran N b S es).led;
}
