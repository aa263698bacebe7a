-- One event taken back, kind by kind: what lets `back` take it back, and that the state that it builds is lawful, leads here and is the
-- only one.
-- Assumes nothing.
use mathlib.Core.Path.{◌≡◌, sym, ap, subst, ◌∙◌}
use mathlib.Core.Bool.{Bool}
use mathlib.Core.Logic.{◌↔◌}
use Prim.Native.Nat.{ℕ, zero, suc, ◌<◌, ◌≤◌}
use native.Mathlib.Omega.{arith}
use Rattle.model.specs.declared.age.Age.{Age}
use Rattle.model.specs.declared.event.Event.TheVariants as event
use Rattle.model.specs.declared.answer.Barrier.TheVariants as barrier
use Rattle.model.specs.declared.answer.Refusal.TheVariants as refusal
use Rattle.model.specs.Limits.{Held, token_limit}
use Rattle.model.specs.Net.{Net, State, Lawful, width, count}
use Rattle.model.specs.Moves.{NoStartOwed, NothingRunning, Timely, HasRoom, Covers, NoneFresh, MayEnd, NoOldEndOwed, Starts, Ends, Ticks}
use Rattle.model.specs.Rules.{done, back, unstarted, unended, unticked}
use Rattle.model.proofs.Tab.{below-or-past, one-here, one-off, one-le, one-room}
use Rattle.model.proofs.Tests.{leb_tells, ltb-tells, not-tells, held_tells, timely-tells, no-start-owed-tells}
use Rattle.model.proofs.Tests.{may-end-tells, no-old-end-owed-tells, nothing-running-tells, has-room-tells, covers-tells, none-fresh-tells}
use Rattle.model.proofs.Tests.{unless-done, done-is}
use Rattle.model.proofs.Shape.{lfd-fits, width-pos, build-shaped, tokens-build, count-build, count_past, built}
use Rattle.model.proofs.Lawful.{zero-past-lfd, zero-from-lfd, held-past, settles-start}

module _ (N : Net) (begun : Bool) (S' S : State) where
  -- what lets `back` take an event back, test by test
  start-passes : (t : ℕ) → (back N begun S' (event.Start t) ≡ done S)
      ↔ ((t < N.transitions) × ((1 ≤ count S' t 0)
      × (HasRoom N S' (N.takes t) × (NoOldEndOwed N S' × (unstarted N S' t ≡ S)))))
  unfolding back
  start-passes t =
      unless-done refusal.NoSuchTransition (ltb-tells t N.transitions)
      (unless-done (refusal.OnlyBack barrier.NoneStarted) (leb_tells 1 (count S' t 0))
      (unless-done (refusal.OnlyBack barrier.PlaceOverfull) (has-room-tells N S' (N.takes t))
      (unless-done refusal.OldEndOwed (no-old-end-owed-tells N S') (done-is (unstarted N S' t) S))))

  pub end-passes : (t : ℕ) (age : Age) → (back N begun S' (event.End t age) ≡ done S)
      ↔ ((t < N.transitions) × (Timely N t age.0 × (MayEnd begun age.0
      × (Covers N S' (N.gives t) × (Held (suc (count S' t age.0)) × (unended N S' t age.0 ≡ S))))))
  unfolding back
  end-passes t age =
      unless-done refusal.NoSuchTransition (ltb-tells t N.transitions)
      (unless-done refusal.OutsideInterval (timely-tells N t age.0)
      (unless-done refusal.OldAfterStart (may-end-tells begun age.0)
      (unless-done (refusal.OnlyBack barrier.TooFewTokens) (covers-tells N S' (N.gives t))
      (unless-done (refusal.OnlyBack barrier.CountOverfull) (held_tells (suc (count S' t age.0))) (done-is (unended N S' t age.0) S)))))

  tick-passes : (back N begun S' event.Tick ≡ done S)
      ↔ (NoneFresh N S' × (NoStartOwed N S' × ((¬ NothingRunning N S') × (unticked N S' ≡ S))))
  unfolding back
  tick-passes =
      unless-done (refusal.OnlyBack barrier.SomeFresh) (none-fresh-tells N S')
      (unless-done refusal.StartOwed (no-start-owed-tells N S')
      (unless-done refusal.NothingRunning (not-tells (nothing-running-tells N S')) (done-is (unticked N S') S)))

-- THE STATE THAT `back` BUILDS IS LAWFUL, AND THE EVENT LEADS FROM IT

module _ (N : Net) (S' : State) (s' : Lawful N S') where
  from-unstarted : (t : ℕ) → t < N.transitions → 1 ≤ count S' t 0 → HasRoom N S' (N.takes t) → NoOldEndOwed N S'
      → Lawful N (unstarted N S' t) × Starts N (unstarted N S' t) t S'
  unfolding unstarted
  from-unstarted t l a r o = (
    record {
      shaped = build-shaped N _ _;
      none_past_lfd = λ u k b c h. rw count-build (omega (arith, s'.none_past_lfd u k b c h));
      tokens_fit = λ p b. rw tokens-build (r p b);
      counts_fit = λ u k b c. rw count-build (omega (arith, s'.counts_fit u k b c));
    },
    record {
      known = l;
      enabled = λ p b. rw tokens-build (omega arith);
      no_old_end_owed = λ u b h. rw (count-build N _ _ u (N.lfd u) b (lfd-fits N u b)) (omega (arith, o u b h));
      room = rw (count-build N _ _ t 0 l (width-pos N)) (omega (arith, one-here t 0, s'.counts_fit t 0 l (width-pos N)));
      marked = λ p b. sym (tokens-build N _ _ p b);
      counted = λ u k b c. rw count-build (omega (arith, one-le (count S') t 0 u k a));
      shaped = s'.shaped;
    },
  )

  pub from-unended : {begun : Bool} (t j : ℕ) → t < N.transitions → Timely N t j → MayEnd begun j → Covers N S' (N.gives t)
      → Held (suc (count S' t j)) → Lawful N (unended N S' t j) × Ends N begun (unended N S' t j) t j S'
  unfolding unended
  from-unended t j l i o r a = (
    record {
      shaped = build-shaped N _ _;
      none_past_lfd = λ u k b c h.
          rw count-build (omega (arith, s'.none_past_lfd u k b c h, one-off t j u k (λ p q. omega (arith, ap N.lfd p))));
      tokens_fit = λ p b. rw tokens-build (omega (arith, s'.tokens_fit p b));
      counts_fit = λ u k b c. rw count-build (one-room (count S') token_limit t j u k a (s'.counts_fit u k b c));
    },
    record {
      known = l;
      timely = i;
      may_end = o;
      active = rw (count-build N _ _ t j l (omega (arith, lfd-fits N t l))) (omega (arith, one-here t j));
      room = λ p b. rw tokens-build (omega (arith, r p b, s'.tokens_fit p b));
      marked = λ p b. rw tokens-build (omega (arith, r p b));
      counted = λ u k b c. sym (count-build N _ _ u k b c);
      shaped = s'.shaped;
    },
  )

  from-unticked : NoneFresh N S' → NoStartOwed N S'
      → ¬ NothingRunning N S' → Lawful N (unticked N S') × Ticks N (unticked N S') S'
  unfolding unticked
  from-unticked f q a = (
    record {
      shaped = build-shaped N _ _;
      none_past_lfd = λ t j b c h. count-build N _ _ t j b c ∙ zero-past-lfd s' t (suc j) b (omega arith);
      tokens_fit = λ p b. rw tokens-build (s'.tokens_fit p b);
      counts_fit = λ t j b c. rw count-build (held-past s' t (suc j) b);
    },
    record {
      no_start_owed = λ t b en. q t b (λ p c. rw (tokens-build N _ _ p c) at (en p c));
      no_end_owed = λ t b. count-build N _ _ t (N.lfd t) b (lfd-fits N t b) ∙ zero-past-lfd s' t (suc (N.lfd t)) b (omega arith);
      running = λ rest. a (resting rest);
      marked = λ p b. sym (tokens-build N _ _ p b);
      fresh = f;
      aged = λ t j b c. sym (count-build N _ _ t j b (omega arith));
      shaped = s'.shaped;
    },
  )
    where
      resting : NothingRunning N (unticked N S') → NothingRunning N S'
      resting rest t b zero c = f t b
      resting rest t b (suc j) c = sym (count-build N _ _ t j b (omega arith)) ∙ rest t b j (omega arith)

-- AND IT IS THE ONLY ONE

module _ (N : Net) (S S' : State) (s : Lawful N S) where
  only-unstarted : (t : ℕ) → Starts N S t S' → unstarted N S' t ≡ S
  unfolding unstarted
  only-unstarted t m = built N _ _ S s.shaped m.marked (λ u k b c. omega (arith, m.counted u k b c))

  pub only-unended : {begun : Bool} (t j : ℕ) → Ends N begun S t j S' → unended N S' t j ≡ S
  unfolding unended
  only-unended t j m = built N _ _ S s.shaped (λ p b. omega (arith, m.marked p b)) m.counted

  -- the last column of S is empty, so the tick loses nothing
  aged-all : Ticks N S S' → (t j : ℕ) → t < N.transitions → j < width N → count S' t (suc j) ≡ count S t j
  aged-all m t j b c =
      below-or-past (suc j) (width N) (m.aged t j b)
      (λ d. count_past m.shaped t (suc j) b d ∙ sym (zero-from-lfd s t j b (m.no_end_owed t b) (omega (arith, lfd-fits N t b))))

  rest-before : Ticks N S S' → NothingRunning N S' → NothingRunning N S
  rest-before m rest t b j c =
      sym (aged-all m t j b c) ∙ below-or-past (suc j) (width N) (rest t b (suc j)) (count_past m.shaped t (suc j) b)

  only-unticked : Ticks N S S' → unticked N S' ≡ S
  unfolding unticked
  only-unticked m = built N _ _ S s.shaped m.marked (aged-all m)

-- a tick and a start are taken back with S exactly if S is lawful and the event leads from S to S'
pub untick-exact : (N : Net) (begun : Bool) (S' : State) → Lawful N S' → (S : State)
    → (back N begun S' event.Tick ≡ done S) ↔ (Lawful N S × Ticks N S S')
untick-exact N begun S' s' S = (
  (λ d. let (f, (q, (a, r))) = (tick-passes N begun S' S).0 d in
      subst (λ (X : State). Lawful N X × Ticks N X S') r (from-unticked N S' s' f q a)),
  λ (s, m). (tick-passes N begun S' S).1 (
    m.fresh,
    (
      (λ t b en. m.no_start_owed t b (λ p c. omega (arith, m.marked p c, en p c))),
      ((λ rest. m.running (rest-before N S S' s m rest)), only-unticked N S S' s m),
    ),
  ),
)

pub unstart-exact : (N : Net) (begun : Bool) (S' : State) → Lawful N S' → (t : ℕ) (S : State)
    → (back N begun S' (event.Start t) ≡ done S) ↔ (Lawful N S × Starts N S t S')
unstart-exact N begun S' s' t S = (
  (λ d. let (l, (a, (r, (o, q)))) = (start-passes N begun S' S t).0 d in
      subst (λ (X : State). Lawful N X × Starts N X t S') q (from-unstarted N S' s' t l a r o)),
  λ (s, m). (start-passes N begun S' S t).1 (
    m.known,
    (
      omega (arith, m.counted t 0 m.known (width-pos N), one-here t 0),
      ((λ p b. omega (arith, m.marked p b, s.tokens_fit p b)), (settles-start m, only-unstarted N S S' s t m)),
    ),
  ),
)
