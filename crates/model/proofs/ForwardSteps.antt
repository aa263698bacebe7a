-- One event done, kind by kind: what lets `apply` do it, and that the state that it builds is the one that the rules lead to.
-- Assumes nothing.
use mathlib.Core.Path.{◌≡◌, sym, subst}
use mathlib.Core.Bool.{Bool}
use mathlib.Core.Logic.{◌↔◌}
use Prim.Native.Nat.{ℕ, zero, suc, ◌<◌, ◌≤◌}
use native.Mathlib.Omega.{arith}
use Rattle.model.specs.declared.age.Age.{Age}
use Rattle.model.specs.declared.event.Event.TheVariants as event
use Rattle.model.specs.declared.answer.Refusal.TheVariants as refusal
use Rattle.model.specs.Limits.{Held}
use Rattle.model.specs.Net.{Net, State, width, count}
use Rattle.model.specs.Moves.{Enabled, NoStartOwed, NoEndOwed, NothingRunning, Timely, HasRoom, MayEnd, NoOldEndOwed, Starts, Ends, Ticks}
use Rattle.model.specs.Rules.{done, short, apply, started, ended, ticked, older}
use Rattle.model.proofs.Tab.{one-le}
use Rattle.model.proofs.Tests.{leb_tells, ltb-tells, not-tells, held_tells, timely-tells, enabled-tells, no-start-owed-tells}
use Rattle.model.proofs.Tests.{may-end-tells, no-old-end-owed-tells, no-end-owed-tells, nothing-running-tells, has-room-tells, unless-done, done-is}
use Rattle.model.proofs.Shape.{width-pos, build-shaped, tokens-build, count-build, built}

module _ (N : Net) (begun : Bool) (S S' : State) where
  -- what lets `apply` do an event, test by test
  start-passes : (t : ℕ) → (apply N begun S (event.Start t) ≡ done S')
      ↔ ((t < N.transitions) × (Enabled N S t 1 × (NoOldEndOwed N S × (Held (suc (count S t 0)) × (started N S t ≡ S')))))
  unfolding apply
  start-passes t =
      unless-done refusal.NoSuchTransition (ltb-tells t N.transitions)
      (unless-done (refusal.NotEnabled (short N S t)) (enabled-tells N S t)
      (unless-done refusal.OldEndOwed (no-old-end-owed-tells N S)
      (unless-done refusal.CountFull (held_tells (suc (count S t 0))) (done-is (started N S t) S'))))

  pub end-passes : (t : ℕ) (age : Age) → (apply N begun S (event.End t age) ≡ done S')
      ↔ ((t < N.transitions) × (Timely N t age.0 × (MayEnd begun age.0
      × ((1 ≤ count S t age.0) × (HasRoom N S (N.gives t) × (ended N S t age.0 ≡ S'))))))
  unfolding apply
  end-passes t age =
      unless-done refusal.NoSuchTransition (ltb-tells t N.transitions)
      (unless-done refusal.OutsideInterval (timely-tells N t age.0)
      (unless-done refusal.OldAfterStart (may-end-tells begun age.0)
      (unless-done refusal.NoneOfThatAge (leb_tells 1 (count S t age.0))
      (unless-done refusal.PlaceFull (has-room-tells N S (N.gives t)) (done-is (ended N S t age.0) S')))))

  pub tick-passes : (apply N begun S event.Tick ≡ done S')
      ↔ (NoStartOwed N S × (NoEndOwed N S × ((¬ NothingRunning N S) × (ticked N S ≡ S'))))
  unfolding apply
  tick-passes =
      unless-done refusal.StartOwed (no-start-owed-tells N S)
      (unless-done refusal.EndOwed (no-end-owed-tells N S)
      (unless-done refusal.NothingRunning (not-tells (nothing-running-tells N S)) (done-is (ticked N S) S')))

module _ (N : Net) (S : State) where
  -- the state that a rule builds is one that the relation leads to
  starts : (t : ℕ) → t < N.transitions → Enabled N S t 1 → NoOldEndOwed N S → Held (suc (count S t 0)) → Starts N S t (started N S t)
  unfolding started
  starts t l en o r = record {
    known = l;
    enabled = en;
    no_old_end_owed = o;
    room = r;
    marked = λ p b. rw tokens-build (omega (arith, en p b));
    counted = λ u k b c. rw count-build;
    shaped = build-shaped N _ _;
  }

  pub ends : {begun : Bool} (t j : ℕ) → t < N.transitions → Timely N t j → MayEnd begun j → 1 ≤ count S t j
      → HasRoom N S (N.gives t) → Ends N begun S t j (ended N S t j)
  unfolding ended
  ends t j l i o a r = record {
    known = l;
    timely = i;
    may_end = o;
    active = a;
    room = r;
    marked = λ p b. rw tokens-build;
    counted = λ u k b c. rw count-build (omega (arith, one-le (count S) t j u k a));
    shaped = build-shaped N _ _;
  }

  pub ticks : NoStartOwed N S → NoEndOwed N S → ¬ NothingRunning N S → Ticks N S (ticked N S)
  unfolding ticked older
  ticks s e a = record {
    no_start_owed = s;
    no_end_owed = e;
    running = a;
    marked = λ p b. tokens-build N _ _ p b;
    fresh = λ t b. count-build N _ _ t 0 b (width-pos N);
    aged = λ t j b c. count-build N _ _ t (suc j) b c;
    shaped = build-shaped N _ _;
  }

  -- and it is the only one
  starts-only : {t : ℕ} {S' : State} → Starts N S t S' → started N S t ≡ S'
  unfolding started
  starts-only {t} {S'} s =
      built N _ _ S' s.shaped (λ p b. omega (arith, s.marked p b)) (λ u k b c. sym (s.counted u k b c))

  pub ends-only : {begun : Bool} {t j : ℕ} {S' : State} → Ends N begun S t j S' → ended N S t j ≡ S'
  unfolding ended
  ends-only {t = t} {j = j} {S' = S'} s =
      built N _ _ S' s.shaped (λ p b. sym (s.marked p b)) (λ u k b c. omega (arith, s.counted u k b c))

  pub ticks-only : {S' : State} → Ticks N S S' → ticked N S ≡ S'
  unfolding ticked older
  ticks-only {S'} s = built N _ _ S' s.shaped (λ p b. sym (s.marked p b)) ages
    where
      ages : (t j : ℕ) → t < N.transitions → j < width N → older (count S) t j ≡ count S' t j
      ages t zero b c = sym (s.fresh t b)
      ages t (suc j) b c = sym (s.aged t j b c)

-- a start is done exactly as the rules permit
pub start-exact : (N : Net) (begun : Bool) (S : State) (t : ℕ) (S' : State)
    → (apply N begun S (event.Start t) ≡ done S') ↔ Starts N S t S'
start-exact N begun S t S' = (
  (λ d. let (l, (en, (o, (r, q)))) = (start-passes N begun S S' t).0 d in subst (Starts N S t) q (starts N S t l en o r)),
  λ m. (start-passes N begun S S' t).1 (m.known, (m.enabled, (m.no_old_end_owed, (m.room, starts-only N S m)))),
)
