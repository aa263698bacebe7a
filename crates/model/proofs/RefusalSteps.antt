-- The numbers, kind by kind: what `apply` and `back` tell stands in the table, and what stands there is told.
-- Assumes nothing.
use mathlib.Core.Path.{◌≡◌, refl, ap, ◌∙◌}
use mathlib.Core.Bool.{Bool}
use Prim.Native.Nat.{ℕ, suc, ◌<◌}
use native.Mathlib.Omega.{arith}
use Rattle.model.specs.declared.age.Age.{Age}
use Rattle.model.specs.declared.event.Event.{Event}
use Rattle.model.specs.declared.event.Event.TheVariants as event
use Rattle.model.specs.declared.answer.Short.{Short}
use Rattle.model.specs.declared.answer.Barrier.TheVariants as barrier
use Rattle.model.specs.declared.answer.Refusal.{Refusal}
use Rattle.model.specs.declared.answer.Refusal.TheVariants as refusal
use Rattle.model.specs.Answer.{number_of_refusal}
use Rattle.model.specs.Net.{Net, State, count}
use Rattle.model.specs.Refusals.{Unfit, Refuses, Barred}
use Rattle.model.specs.Rules.{refused, short, apply, back}
use Rattle.model.proofs.Tests.{leb_tells, ltb-tells, not-tells, held_tells, timely-tells, enabled-tells, no-start-owed-tells}
use Rattle.model.proofs.Tests.{may-end-tells, no-old-end-owed-tells, no-end-owed-tells, nothing-running-tells, has-room-tells, covers-tells, none-fresh-tells}
use Rattle.model.proofs.Tests.{stable, never, past, fails, refusal-by}
use Rattle.model.proofs.Lacking.{lacks-short, lacks-fails, lacks-once}

same-refusal : {why told : Refusal} → refused why ≡ refused told → told ≡ why
same-refusal e = cc

module _ (N : Net) (begun : Bool) (S : State) where
  pub start-told : (t : ℕ) (why : Refusal) → apply N begun S (event.Start t) ≡ refused why → Refuses N begun S (event.Start t) why
  unfolding apply
  start-told t why =
      refusal-by refusal.NoSuchTransition _ (ltb-tells t N.transitions)
      (λ a q. rw q (Refuses.unfit (Unfit.no_such_start a))) (λ l.
      refusal-by (refusal.NotEnabled (short N S t)) _ (enabled-tells N S t)
      (λ a q. rw q (Refuses.not_enabled (t, refl, l, lacks-short N S t a))) (λ en.
      refusal-by refusal.OldEndOwed _ (no-old-end-owed-tells N S) (λ a q. rw q (Refuses.old_end_owed l en a)) (λ o.
      refusal-by refusal.CountFull _ (held_tells (suc (count S t 0))) (λ a q. rw q (Refuses.count_full l en o a)) (λ _. never))))

  pub end-told : (t : ℕ) (age : Age) (why : Refusal) → apply N begun S (event.End t age) ≡ refused why → Refuses N begun S (event.End t age) why
  unfolding apply
  end-told t age why =
      refusal-by refusal.NoSuchTransition _ (ltb-tells t N.transitions)
      (λ a q. rw q (Refuses.unfit (Unfit.no_such_end a))) (λ l.
      refusal-by refusal.OutsideInterval _ (timely-tells N t age.0) (λ a q. rw q (Refuses.outside_interval l a)) (λ i.
      refusal-by refusal.OldAfterStart _ (may-end-tells begun age.0) (λ a q. rw q (Refuses.old_after_start l i a)) (λ o.
      refusal-by refusal.NoneOfThatAge _ (leb_tells 1 (count S t age.0)) (λ a q. rw q (Refuses.none_of_that_age l i o a)) (λ c.
      refusal-by refusal.PlaceFull _ (has-room-tells N S (N.gives t)) (λ a q. rw q (Refuses.place_full l i o c a)) (λ _. never)))))

  pub tick-told : (why : Refusal) → apply N begun S event.Tick ≡ refused why → Refuses N begun S event.Tick why
  unfolding apply
  tick-told why =
      refusal-by refusal.StartOwed _ (no-start-owed-tells N S) (λ a q. rw q (Refuses.start_owed a)) (λ s.
      refusal-by refusal.EndOwed _ (no-end-owed-tells N S) (λ a q. rw q (Refuses.end_owed s a)) (λ d.
      refusal-by refusal.NothingRunning _ (not-tells (nothing-running-tells N S))
      (λ a q. rw q (Refuses.nothing_running s d (stable (nothing-running-tells N S) a))) (λ _. never)))

  pub malformed-told : (why : Refusal) → apply N begun S event.Malformed ≡ refused why → Refuses N begun S event.Malformed why
  unfolding apply
  malformed-told why e = rw (same-refusal e) (Refuses.unfit Unfit.malformed)

  pub tells : {e : Event} {why : Refusal} → Refuses N begun S e why → apply N begun S e ≡ refused why
  unfolding apply
  tells (Refuses.unfit Unfit.malformed) = refl
  tells (Refuses.unfit (Unfit.no_such_start {t} a)) = fails refusal.NoSuchTransition _ (ltb-tells t N.transitions) a
  tells (Refuses.unfit (Unfit.no_such_end {t} a)) = fails refusal.NoSuchTransition _ (ltb-tells t N.transitions) a
  tells (Refuses.not_enabled (t, q, l, a)) =
      let f = lacks-fails N S t a in
      rw q
      (past refusal.NoSuchTransition (ltb-tells t N.transitions) l
      (fails (refusal.NotEnabled (short N S t)) _ (enabled-tells N S t) f
      ∙ ap (λ (s : Short). refused (refusal.NotEnabled s)) (lacks-once N S t (lacks-short N S t f) a)))
  tells (Refuses.old_end_owed {t} l en a) =
      past refusal.NoSuchTransition (ltb-tells t N.transitions) l
      (past (refusal.NotEnabled (short N S t)) (enabled-tells N S t) en (fails refusal.OldEndOwed _ (no-old-end-owed-tells N S) a))
  tells (Refuses.count_full {t} l en o a) =
      past refusal.NoSuchTransition (ltb-tells t N.transitions) l
      (past (refusal.NotEnabled (short N S t)) (enabled-tells N S t) en
      (past refusal.OldEndOwed (no-old-end-owed-tells N S) o (fails refusal.CountFull _ (held_tells (suc (count S t 0))) a)))
  tells (Refuses.outside_interval {t} {age} l a) =
      past refusal.NoSuchTransition (ltb-tells t N.transitions) l
      (fails refusal.OutsideInterval _ (timely-tells N t age.0) a)
  tells (Refuses.old_after_start {t} {age} l i a) =
      past refusal.NoSuchTransition (ltb-tells t N.transitions) l
      (past refusal.OutsideInterval (timely-tells N t age.0) i
      (fails refusal.OldAfterStart _ (may-end-tells begun age.0) a))
  tells (Refuses.none_of_that_age {t} {age} l i o a) =
      past refusal.NoSuchTransition (ltb-tells t N.transitions) l
      (past refusal.OutsideInterval (timely-tells N t age.0) i
      (past refusal.OldAfterStart (may-end-tells begun age.0) o
      (fails refusal.NoneOfThatAge _ (leb_tells 1 (count S t age.0)) a)))
  tells (Refuses.place_full {t} {age} l i o c a) =
      past refusal.NoSuchTransition (ltb-tells t N.transitions) l
      (past refusal.OutsideInterval (timely-tells N t age.0) i
      (past refusal.OldAfterStart (may-end-tells begun age.0) o
      (past refusal.NoneOfThatAge (leb_tells 1 (count S t age.0)) c
      (fails refusal.PlaceFull _ (has-room-tells N S (N.gives t)) a))))
  tells (Refuses.start_owed a) = fails refusal.StartOwed _ (no-start-owed-tells N S) a
  tells (Refuses.end_owed s a) =
      past refusal.StartOwed (no-start-owed-tells N S) s (fails refusal.EndOwed _ (no-end-owed-tells N S) a)
  tells (Refuses.nothing_running s d a) =
      past refusal.StartOwed (no-start-owed-tells N S) s
      (past refusal.EndOwed (no-end-owed-tells N S) d
      (fails refusal.NothingRunning _ (not-tells (nothing-running-tells N S)) (λ f. f a)))

-- 11 and 12 are not 13, which falls to a start alone
pub unfit-number : {N : Net} {e : Event} {why : Refusal} → Unfit N e why → number_of_refusal why < 13
unfit-number Unfit.malformed = omega arith
unfit-number (Unfit.no_such_start a) = omega arith
unfit-number (Unfit.no_such_end a) = omega arith

-- BACK

module _ (N : Net) (begun : Bool) (S' : State) where
  pub unstart-told : (t : ℕ) (why : Refusal) → back N begun S' (event.Start t) ≡ refused why → Barred N begun S' (event.Start t) why
  unfolding back
  unstart-told t why =
      refusal-by refusal.NoSuchTransition _ (ltb-tells t N.transitions)
      (λ a q. rw q (Barred.unfit (Unfit.no_such_start a))) (λ l.
      refusal-by (refusal.OnlyBack barrier.NoneStarted) _ (leb_tells 1 (count S' t 0)) (λ a q. rw q (Barred.none_started l a)) (λ c.
      refusal-by (refusal.OnlyBack barrier.PlaceOverfull) _ (has-room-tells N S' (N.takes t))
      (λ a q. rw q (Barred.place_overfull l c a)) (λ r.
      refusal-by refusal.OldEndOwed _ (no-old-end-owed-tells N S') (λ a q. rw q (Barred.old_end_owed l c r a)) (λ _. never))))

  pub unend-told : (t : ℕ) (age : Age) (why : Refusal) → back N begun S' (event.End t age) ≡ refused why → Barred N begun S' (event.End t age) why
  unfolding back
  unend-told t age why =
      refusal-by refusal.NoSuchTransition _ (ltb-tells t N.transitions)
      (λ a q. rw q (Barred.unfit (Unfit.no_such_end a))) (λ l.
      refusal-by refusal.OutsideInterval _ (timely-tells N t age.0) (λ a q. rw q (Barred.outside_interval l a)) (λ i.
      refusal-by refusal.OldAfterStart _ (may-end-tells begun age.0) (λ a q. rw q (Barred.old_after_start l i a)) (λ o.
      refusal-by (refusal.OnlyBack barrier.TooFewTokens) _ (covers-tells N S' (N.gives t)) (λ a q. rw q (Barred.too_few_tokens l i o a)) (λ c.
      refusal-by (refusal.OnlyBack barrier.CountOverfull) _ (held_tells (suc (count S' t age.0)))
      (λ a q. rw q (Barred.count_overfull l i o c a)) (λ _. never)))))

  pub untick-told : (why : Refusal) → back N begun S' event.Tick ≡ refused why → Barred N begun S' event.Tick why
  unfolding back
  untick-told why =
      refusal-by (refusal.OnlyBack barrier.SomeFresh) _ (none-fresh-tells N S') (λ a q. rw q (Barred.some_fresh a)) (λ f.
      refusal-by refusal.StartOwed _ (no-start-owed-tells N S') (λ a q. rw q (Barred.start_owed f a)) (λ s.
      refusal-by refusal.NothingRunning _ (not-tells (nothing-running-tells N S'))
      (λ a q. rw q (Barred.nothing_running f s (stable (nothing-running-tells N S') a))) (λ _. never)))

  pub unmade-told : (why : Refusal) → back N begun S' event.Malformed ≡ refused why → Barred N begun S' event.Malformed why
  unfolding back
  unmade-told why e = rw (same-refusal e) (Barred.unfit Unfit.malformed)

  pub tells-back : {e : Event} {why : Refusal} → Barred N begun S' e why → back N begun S' e ≡ refused why
  unfolding back
  tells-back (Barred.unfit Unfit.malformed) = refl
  tells-back (Barred.unfit (Unfit.no_such_start {t} a)) = fails refusal.NoSuchTransition _ (ltb-tells t N.transitions) a
  tells-back (Barred.unfit (Unfit.no_such_end {t} a)) = fails refusal.NoSuchTransition _ (ltb-tells t N.transitions) a
  tells-back (Barred.some_fresh a) = fails (refusal.OnlyBack barrier.SomeFresh) _ (none-fresh-tells N S') a
  tells-back (Barred.start_owed f a) =
      past (refusal.OnlyBack barrier.SomeFresh) (none-fresh-tells N S') f (fails refusal.StartOwed _ (no-start-owed-tells N S') a)
  tells-back (Barred.nothing_running f s a) =
      past (refusal.OnlyBack barrier.SomeFresh) (none-fresh-tells N S') f
      (past refusal.StartOwed (no-start-owed-tells N S') s
      (fails refusal.NothingRunning _ (not-tells (nothing-running-tells N S')) (λ g. g a)))
  tells-back (Barred.none_started {t} l a) =
      past refusal.NoSuchTransition (ltb-tells t N.transitions) l
      (fails (refusal.OnlyBack barrier.NoneStarted) _ (leb_tells 1 (count S' t 0)) a)
  tells-back (Barred.place_overfull {t} l c a) =
      past refusal.NoSuchTransition (ltb-tells t N.transitions) l
      (past (refusal.OnlyBack barrier.NoneStarted) (leb_tells 1 (count S' t 0)) c
      (fails (refusal.OnlyBack barrier.PlaceOverfull) _ (has-room-tells N S' (N.takes t)) a))
  tells-back (Barred.old_end_owed {t} l c r a) =
      past refusal.NoSuchTransition (ltb-tells t N.transitions) l
      (past (refusal.OnlyBack barrier.NoneStarted) (leb_tells 1 (count S' t 0)) c
      (past (refusal.OnlyBack barrier.PlaceOverfull) (has-room-tells N S' (N.takes t)) r
      (fails refusal.OldEndOwed _ (no-old-end-owed-tells N S') a)))
  tells-back (Barred.outside_interval {t} {age} l a) =
      past refusal.NoSuchTransition (ltb-tells t N.transitions) l
      (fails refusal.OutsideInterval _ (timely-tells N t age.0) a)
  tells-back (Barred.old_after_start {t} {age} l i a) =
      past refusal.NoSuchTransition (ltb-tells t N.transitions) l
      (past refusal.OutsideInterval (timely-tells N t age.0) i
      (fails refusal.OldAfterStart _ (may-end-tells begun age.0) a))
  tells-back (Barred.too_few_tokens {t} {age} l i o a) =
      past refusal.NoSuchTransition (ltb-tells t N.transitions) l
      (past refusal.OutsideInterval (timely-tells N t age.0) i
      (past refusal.OldAfterStart (may-end-tells begun age.0) o
      (fails (refusal.OnlyBack barrier.TooFewTokens) _ (covers-tells N S' (N.gives t)) a)))
  tells-back (Barred.count_overfull {t} {age} l i o c a) =
      past refusal.NoSuchTransition (ltb-tells t N.transitions) l
      (past refusal.OutsideInterval (timely-tells N t age.0) i
      (past refusal.OldAfterStart (may-end-tells begun age.0) o
      (past (refusal.OnlyBack barrier.TooFewTokens) (covers-tells N S' (N.gives t)) c
      (fails (refusal.OnlyBack barrier.CountOverfull) _ (held_tells (suc (count S' t age.0))) a))))
