-- The numbers: `apply` and `back` tell each refusal exactly when the table has it.
-- Assumes nothing.
use mathlib.Core.Path.{◌≡◌, refl, sym, ◌∙◌}
use mathlib.Core.Bool.{Bool}
use mathlib.Core.Logic.{◌↔◌}
use native.Mathlib.Omega.{arith}
use Rattle.model.specs.declared.event.Event.{Event}
use Rattle.model.specs.declared.event.Event.TheVariants as event
use Rattle.model.specs.declared.answer.Short.{Short}
use Rattle.model.specs.declared.answer.Refusal.{Refusal}
use Rattle.model.specs.declared.answer.Refusal.TheVariants as refusal
use Rattle.model.specs.Answer.{number_of_refusal}
use Rattle.model.specs.Net.{Net, State, Lawful}
use Rattle.model.specs.Refusals.{Unfit, Fit, Refuses, FallsShort, Barred}
use Rattle.model.specs.Rules.{Outcome, done, refused, apply, back}
use Rattle.model.specs.Demands.{SomeLeads, NoStateBefore}
use Rattle.model.proofs.Tests.{never}
use Rattle.model.proofs.Back.{back-exact}
use Rattle.model.proofs.RefusalSteps.{start-told, end-told, tick-told, malformed-told, tells, unfit-number}
use Rattle.model.proofs.RefusalSteps.{unstart-told, unend-told, untick-told, unmade-told, tells-back}

-- DEMAND 2, where an event is refused: each refusal is told exactly when the table has it
pub apply-refuses : (N : Net) (begun : Bool) (S : State) (e : Event) (why : Refusal)
    → (apply N begun S e ≡ refused why) ↔ Refuses N begun S e why
apply-refuses N begun S event.Tick why = (tick-told N begun S why, tells N begun S)
apply-refuses N begun S (event.Start t) why = (start-told N begun S t why, tells N begun S)
apply-refuses N begun S (event.End t age) why = (end-told N begun S t age why, tells N begun S)
apply-refuses N begun S event.Malformed why = (malformed-told N begun S why, tells N begun S)

pub falls_short : {N : Net} {begun : Bool} {S : State} {e : Event} {s : Short} → Refuses N begun S e (refusal.NotEnabled s) → FallsShort N S e s
falls_short (Refuses.not_enabled f) = f
falls_short (Refuses.unfit u) = absurd (omega (arith, unfit-number u))

pub short_told : (N : Net) (begun : Bool) (S : State) (e : Event) (s : Short)
    → (apply N begun S e ≡ refused (refusal.NotEnabled s)) ↔ FallsShort N S e s
short_told N begun S e s = (
  (λ r. falls_short ((apply-refuses N begun S e (refusal.NotEnabled s)).0 r)),
  λ f. (apply-refuses N begun S e (refusal.NotEnabled s)).1 (Refuses.not_enabled f),
)

-- DEMAND 3, where an event is not taken back: each refusal is told exactly when the table has it
pub back-refuses : (N : Net) (begun : Bool) (S' : State) (e : Event) (why : Refusal)
    → (back N begun S' e ≡ refused why) ↔ Barred N begun S' e why
back-refuses N begun S' event.Tick why = (untick-told N begun S' why, tells-back N begun S')
back-refuses N begun S' (event.Start t) why = (unstart-told N begun S' t why, tells-back N begun S')
back-refuses N begun S' (event.End t age) why = (unend-told N begun S' t age why, tells-back N begun S')
back-refuses N begun S' event.Malformed why = (unmade-told N begun S' why, tells-back N begun S')

-- none of them is 13
pub barred-other : {N : Net} {begun : Bool} {S : State} {e : Event} {why : Refusal} → Barred N begun S e why → ¬ (number_of_refusal why ≡ 13)
barred-other (Barred.unfit u) z = omega (arith, unfit-number u)
barred-other (Barred.some_fresh _) z = omega arith
barred-other (Barred.start_owed _ _) z = omega arith
barred-other (Barred.nothing_running _ _ _) z = omega arith
barred-other (Barred.none_started _ _) z = omega arith
barred-other (Barred.place_overfull _ _ _) z = omega arith
barred-other (Barred.old_end_owed _ _ _ _) z = omega arith
barred-other (Barred.outside_interval _ _) z = omega arith
barred-other (Barred.old_after_start _ _ _) z = omega arith
barred-other (Barred.too_few_tokens _ _ _ _) z = omega arith
barred-other (Barred.count_overfull _ _ _ _ _) z = omega arith

barred-fit : {N : Net} {begun : Bool} {S : State} {e : Event} {why : Refusal} → Barred N begun S e why → ¬ Unfit N e why → Fit N e
barred-fit (Barred.unfit u) behind = absurd (behind u)
barred-fit (Barred.some_fresh _) behind = tt
barred-fit (Barred.start_owed _ _) behind = tt
barred-fit (Barred.nothing_running _ _ _) behind = tt
barred-fit (Barred.none_started l _) behind = l
barred-fit (Barred.place_overfull l _ _) behind = l
barred-fit (Barred.old_end_owed l _ _ _) behind = l
barred-fit (Barred.outside_interval l _) behind = l
barred-fit (Barred.old_after_start l _ _) behind = l
barred-fit (Barred.too_few_tokens l _ _ _) behind = l
barred-fit (Barred.count_overfull l _ _ _ _) behind = l

fit-not-unfit : {N : Net} {e : Event} {why : Refusal} → Fit N e → ¬ Unfit N e why
fit-not-unfit f Unfit.malformed = f
fit-not-unfit f (Unfit.no_such_start a) = a f
fit-not-unfit f (Unfit.no_such_end a) = a f

-- behind 11 and 12, one is told exactly if no lawful state leads here by the event
pub no_state_before : (N : Net) (begun : Bool) (S' : State) → Lawful N S' → (e : Event)
    → ((why : Refusal) × (back N begun S' e ≡ refused why) × ¬ Unfit N e why) ↔ NoStateBefore N begun S' e
no_state_before N begun S' s' e = (
  (λ (why, r, behind). (
    barred-fit ((back-refuses N begun S' e why).0 r) behind,
    λ (S, s, m). never (sym ((back-exact N begun S' s' e S).1 (s, m)) ∙ r),
  )),
  λ (f, none). orphaned f none (back N begun S' e) refl,
)
  where
    orphaned : Fit N e → ¬ SomeLeads N begun S' e → (o : Outcome) → back N begun S' e ≡ o
        → (why : Refusal) × (back N begun S' e ≡ refused why) × ¬ Unfit N e why
    orphaned f none (done S) r = let (s, m) = (back-exact N begun S' s' e S).0 r in absurd (none (S, s, m))
    orphaned f none (refused why) r = (why, r, fit-not-unfit f)
