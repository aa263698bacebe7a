-- The stops: a state has one first stop at most; and a chosen event is done or meets 14 or 17.
-- Assumes nothing.
use mathlib.Core.Path.{◌≡◌, refl, sym, ap, ◌∙◌}
use mathlib.Core.Bool.{cond, false}
use Prim.Native.Nat.{ℕ, ◌<◌, ◌≤◌}
use lib.Dec.{eqb}
use native.Mathlib.Omega.{arith}
use Rattle.model.specs.declared.age.Age.{Age}
use Rattle.model.specs.declared.event.Event.{Event}
use Rattle.model.specs.declared.event.Event.TheVariants as event
use Rattle.model.specs.declared.answer.Refusal.{Refusal}
use Rattle.model.specs.declared.answer.Refusal.TheVariants as refusal
use Rattle.model.specs.Net.{Net, State, Proper}
use Rattle.model.specs.Moves.{Moves}
use Rattle.model.specs.Refusals.{Refuses, Unfit}
use Rattle.model.specs.Rules.{refused, apply}
use Rattle.model.proofs.Tab.{below-or-past, at-or-below}
use Rattle.model.proofs.Tests.{never}
use Rattle.model.proofs.Forward.{apply-exact}
use Rattle.model.proofs.Lacking.{lacks-fails}
use Rattle.model.proofs.Refusals.{apply-refuses}
use Rattle.runner.specs.declared.stop.Stop.{Stop}
use Rattle.runner.specs.declared.stop.Stop.TheVariants as stop
use Rattle.runner.specs.Stop.{number_of_stop, stop_for}
use Rattle.runner.specs.Choice.{Chooses, AtRest}
use Rattle.runner.specs.Page.{Meets, Says, Stops}
use Rattle.runner.proofs.Choice.{chooses-once, rest-chooses}

-- THE NUMBERS

stop_of : ℕ → Stop
stop_of n =
    cond (eqb n 1) stop.AtRest
    (cond (eqb n 2) stop.BudgetSpent (cond (eqb n 3) stop.LogFull (cond (eqb n 4) stop.CountFull stop.PlaceFull)))

stop-of : (s : Stop) → stop_of (number_of_stop s) ≡ s
unfolding stop_of
stop-of stop.AtRest = refl
stop-of stop.BudgetSpent = refl
stop-of stop.LogFull = refl
stop-of stop.CountFull = refl
stop-of stop.PlaceFull = refl

-- two stops with one number are one
pub same_stop : (s r : Stop) → number_of_stop s ≡ number_of_stop r → s ≡ r
same_stop s r e = sym (stop-of s) ∙ ap stop_of e ∙ stop-of r

module _ (N : Net) (S : State) (room budget : ℕ) where
  pub stops-once : (s r : Stop) → Stops N S room budget s → Stops N S room budget r → s ≡ r
  stops-once s r a b =
      below-or-past (number_of_stop s) (number_of_stop r) (λ h. absurd (b.first s h a.holds))
      (λ h. at-or-below (number_of_stop r) (number_of_stop s) h (λ e. same_stop s r (sym e)) (λ g. absurd (a.first r g b.holds)))

  -- s is the first, where each of those before it does not hold
  firsts : (s : Stop) → (1 < number_of_stop s → ¬ AtRest N S) → (2 < number_of_stop s → ¬ (budget ≡ 0))
      → (3 < number_of_stop s → ¬ (room ≡ 0)) → (4 < number_of_stop s → ¬ Meets N S refusal.CountFull)
      → (r : Stop) → number_of_stop r < number_of_stop s → ¬ Says N S room budget r
  firsts s a b c d stop.AtRest h = a h
  firsts s a b c d stop.BudgetSpent h = b h
  firsts s a b c d stop.LogFull h = c h
  firsts s a b c d stop.CountFull h = d h
  firsts s a b c d stop.PlaceFull h = absurd (last s h)
    where
      last : (s : Stop) → ¬ (5 < number_of_stop s)
      last stop.AtRest g = omega arith
      last stop.BudgetSpent g = omega arith
      last stop.LogFull g = omega arith
      last stop.CountFull g = omega arith
      last stop.PlaceFull g = omega arith

  pub stops-rest : AtRest N S → Stops N S room budget stop.AtRest
  stops-rest a = record {
    holds = a;
    first = firsts stop.AtRest (λ h. absurd (omega arith)) (λ h. absurd (omega arith)) (λ h. absurd (omega arith)) (λ h. absurd (omega arith));
  }

  module _ (e : Event) (c : Chooses N S e) where
    pub stops-budget : budget ≡ 0 → Stops N S room budget stop.BudgetSpent
    stops-budget z = record {
      holds = z;
      first = firsts stop.BudgetSpent (λ _ a. rest-chooses N S a c) (λ h. absurd (omega arith)) (λ h. absurd (omega arith)) (λ h. absurd (omega arith));
    }

    pub stops-full : 0 < budget → room ≡ 0 → Stops N S room budget stop.LogFull
    stops-full b z = record {
      holds = z;
      first = firsts stop.LogFull (λ _ a. rest-chooses N S a c) (λ _ y. omega arith) (λ h. absurd (omega arith)) (λ h. absurd (omega arith));
    }

    -- a refusal is told of the chosen event once
    meets-once : (why told : Refusal) → Refuses N false S e why → Meets N S told → refused why ≡ refused told
    meets-once why told f (e', c', f') =
        sym ((apply-refuses N false S e why).1 f) ∙ ap (apply N false S) (chooses-once N S c c') ∙ (apply-refuses N false S e' told).1 f'

    done-not-met : (S₁ : State) (why : Refusal) → Moves N false S e S₁ → ¬ Meets N S why
    done-not-met S₁ why m (e', c', f) =
        never (sym ((apply-exact N false S e S₁).1 m) ∙ ap (apply N false S) (chooses-once N S c c') ∙ (apply-refuses N false S e' why).1 f)

    -- an event that is done does not stop the runner
    pub goes_on : (S₁ : State) → Moves N false S e S₁ → 0 < room → 0 < budget → (s : Stop) → ¬ Says N S room budget s
    goes_on S₁ m r b stop.AtRest a = rest-chooses N S a c
    goes_on S₁ m r b stop.BudgetSpent z = omega arith
    goes_on S₁ m r b stop.LogFull z = omega arith
    goes_on S₁ m r b stop.CountFull meets = done-not-met S₁ refusal.CountFull m meets
    goes_on S₁ m r b stop.PlaceFull meets = done-not-met S₁ refusal.PlaceFull m meets

-- A STOP WITH ANOTHER ROOM

module _ (N : Net) (S : State) (room room' budget : ℕ) where
  -- what it says does not hang on the room, but for a full log
  there : (s : Stop) → ¬ (number_of_stop s ≡ 3) → Says N S room budget s → Says N S room' budget s
  there stop.AtRest f h = h
  there stop.BudgetSpent f h = h
  there stop.LogFull f h = absurd (f refl)
  there stop.CountFull f h = h
  there stop.PlaceFull f h = h

  nor : (q : Stop) → ¬ (number_of_stop q ≡ 3) → ¬ Says N S room budget q → ¬ Says N S room' budget q
  nor stop.AtRest f h = h
  nor stop.BudgetSpent f h = h
  nor stop.LogFull f h = absurd (f refl)
  nor stop.CountFull f h = h
  nor stop.PlaceFull f h = h

  -- one that is told before a full log stays the first
  pub stops-early : (s : Stop) → number_of_stop s ≤ 2 → Stops N S room budget s → Stops N S room' budget s
  stops-early s f a = record {
    holds = there s (λ e. omega arith) a.holds;
    first = λ q h. nor q (λ e. omega arith) (a.first q h);
  }

  -- and one that is told behind it, where there is room
  pub stops-late : (s : Stop) → 4 ≤ number_of_stop s → 0 < room' → Stops N S room budget s → Stops N S room' budget s
  stops-late s f r a = record { holds = there s (λ e. omega arith) a.holds; first = λ q h. below q (a.first q h) }
    where
      below : (q : Stop) → ¬ Says N S room budget q → ¬ Says N S room' budget q
      below stop.AtRest h = h
      below stop.BudgetSpent h = h
      below stop.LogFull h = λ z. omega arith
      below stop.CountFull h = h
      below stop.PlaceFull h = h

-- THE CHOSEN EVENT IS DONE, OR MEETS 14 OR 17

pub data Met : Event → Refusal → Type 0 where
  count_full : {t : ℕ} → Met (event.Start t) refusal.CountFull
  place_full : {t : ℕ} {age : Age} → Met (event.End t age) refusal.PlaceFull

module _ (N : Net) (proper : Proper N) (S : State) where
  pub met : {e : Event} {why : Refusal} → Chooses N S e → Refuses N false S e why → Met e why
  met (Chooses.end (o, lower)) (Refuses.unfit (Unfit.no_such_end a)) = absurd (a o.0)
  met (Chooses.end (o, lower)) (Refuses.not_enabled (u, e, l, f)) = cc
  met (Chooses.end {t} (o, lower)) (Refuses.outside_interval l a) = absurd (a (proper.interval t l, omega arith))
  met (Chooses.end (o, lower)) (Refuses.old_after_start l i a) = absurd (a tt)
  met (Chooses.end (o, lower)) (Refuses.none_of_that_age l i _ a) = absurd (a o.1)
  met (Chooses.end (o, lower)) (Refuses.place_full l i _ c a) = Met.place_full
  met (Chooses.start none (o, lower)) (Refuses.unfit (Unfit.no_such_start a)) = absurd (a o.0)
  met (Chooses.start {t} none (o, lower)) (Refuses.not_enabled (u, e, l, f)) =
      let same : t ≡ u = cc in absurd (lacks-fails N S u f (rw (← same) o.1))
  met (Chooses.start none (o, lower)) (Refuses.old_end_owed l en a) = absurd (a (λ u b old. none u b))
  met (Chooses.start none (o, lower)) (Refuses.count_full l en _ a) = Met.count_full
  met {why = why} (Chooses.tick none none' runs) (Refuses.unfit u) = elim u [ ]
  met (Chooses.tick none none' runs) (Refuses.not_enabled (u, e, l, f)) = cc
  met (Chooses.tick none none' runs) (Refuses.start_owed a) = absurd (a none')
  met (Chooses.tick none none' runs) (Refuses.end_owed n a) = absurd (a none)
  met (Chooses.tick none none' runs) (Refuses.nothing_running n d a) = absurd (runs a)

  -- and then that is the stop
  pub stops-met : (room budget : ℕ) (e : Event) (why : Refusal) → Chooses N S e → Refuses N false S e why → 0 < room → 0 < budget
      → Stops N S room budget (stop_for e)
  stops-met room budget e why c f r b = go (met c f) c f
    where
      go : {e : Event} {why : Refusal} → Met e why → Chooses N S e → Refuses N false S e why → Stops N S room budget (stop_for e)
      go (Met.count_full {t}) c f = record {
        holds = (event.Start t, c, f);
        first = firsts N S room budget stop.CountFull (λ _ a. rest-chooses N S a c) (λ _ z. omega arith) (λ _ z. omega arith)
            (λ h. absurd (omega arith));
      }
      go (Met.place_full {t} {age}) c f = record {
        holds = (event.End t age, c, f);
        first = firsts N S room budget stop.PlaceFull (λ _ a. rest-chooses N S a c) (λ _ z. omega arith) (λ _ z. omega arith)
            (λ _ m. apart (meets-once N S room budget (event.End t age) c refusal.PlaceFull refusal.CountFull f m));
      }
        where
          apart : ¬ (refused refusal.PlaceFull ≡ refused refusal.CountFull)
          apart q = cc
