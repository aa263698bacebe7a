-- What the tests of specs/ tell, and what an outcome behind tests comes to.
-- Assumes nothing.
use mathlib.Core.Path.{◌≡◌, refl, sym}
use mathlib.Core.Bool.{Bool, true, false, cond, not}
use mathlib.Core.Logic.{◌↔◌}
use Prim.Native.Nat.{ℕ, zero, suc, ◌+◌, ◌*◌, ◌<◌, ◌≤◌}
use native.Mathlib.Nat.{not-suc-le-zero}
use native.Mathlib.Omega.{arith}
use lib.Dec.{leb, ltb, eqb, leb→le, le→leb, eqb→eq, eqb_refl}
use Rattle.model.specs.declared.answer.Refusal.{Refusal}
use Rattle.model.specs.Tab.{Tells}
use Rattle.model.specs.Limits.{Sized, is_sized, IsInterval, is_interval, Logged, is_logged, Held, is_held, place_limit, transition_limit, duration_limit, event_limit, token_limit}
use Rattle.model.specs.Net.{Net, State, width, tokens, count}
use Rattle.model.specs.Moves.{Enabled, NoStartOwed, NoEndOwed, NothingRunning, Timely, HasRoom, Covers, NoneFresh, MayEnd, NoOldEndOwed}
use Rattle.model.specs.Rules.{Outcome, done, refused, unless, lacking_place, is_enabled, has_no_start_owed, has_no_end_owed, has_nothing_running, is_timely, has_room, does_cover, has_none_fresh, can_end, owes_no_old_end, has_no_old_end_owed}
use Rattle.model.specs.Owed.{Lowest}
use Rattle.model.proofs.Tab.{all-tells, both-tell, implies-tells, below_suc}
use Rattle.model.proofs.Lowest.{lowest-is, lowest-once}

pub leb_tells : (m n : ℕ) → Tells (leb m n) (m ≤ n)
leb_tells m n = record { sound = leb→le m n; complete = le→leb m n }

pub ltb-tells : (m n : ℕ) → Tells (ltb m n) (m < n)
ltb-tells m n = leb_tells (suc m) n

pub eqb_tells : (m n : ℕ) → Tells (eqb m n) (m ≡ n)
eqb_tells m n = record { sound = eqb→eq m n; complete = λ e. rw e (eqb_refl n) }

pub not-tells : {b : Bool} {A : Type 0} → Tells b A → Tells (not b) (¬ A)
not-tells {b = true} t = record { sound = λ x. absurd x; complete = λ f. f (t.sound tt) }
not-tells {b = false} t = record { sound = λ _ a. t.complete a; complete = λ _. tt }

-- a test tells what follows both ways from what it tells
pub tells_as : {b : Bool} {A B : Type 0} → (A → B) → (B → A) → Tells b A → Tells b B
tells_as f g t = record { sound = λ x. f (t.sound x); complete = λ y. t.complete (g y) }

-- THE LIMITS

pub sized-tells : (P T : ℕ) → Tells (is_sized P T) (Sized P T)
sized-tells P T =
    both-tell (both-tell (leb_tells 1 P) (leb_tells P place_limit)) (both-tell (leb_tells 1 T) (leb_tells T transition_limit))

pub interval-tells : (sfd lfd : ℕ) → Tells (is_interval sfd lfd) (IsInterval sfd lfd)
interval-tells sfd lfd = both-tell (leb_tells sfd lfd) (leb_tells lfd duration_limit)

pub logged-tells : (events : ℕ) → Tells (is_logged events) (Logged events)
logged-tells events = leb_tells events event_limit

pub held_tells : (n : ℕ) → Tells (is_held n) (Held n)
held_tells n = leb_tells n token_limit

-- THE RULES

pub timely-tells : (N : Net) (t j : ℕ) → Tells (is_timely N t j) (Timely N t j)
unfolding is_timely
timely-tells N t j = both-tell (leb_tells (N.sfd t) j) (leb_tells j (N.lfd t))

pub may-end-tells : (started : Bool) (j : ℕ) → Tells (can_end started j) (MayEnd started j)
unfolding can_end
may-end-tells true j = eqb_tells j 0
may-end-tells false j = record { sound = λ _. tt; complete = λ _. tt }

module _ (N : Net) (S : State) where
  -- the place that the test finds is the lowest that has too few tokens
  pub lacking-lowest : (t : ℕ) → Lowest (λ p. tokens S p < N.takes t p) N.places N.places (lacking_place N S t)
  unfolding lacking_place
  lacking-lowest t = lowest-is (λ p. ltb-tells (tokens S p) (N.takes t p)) N.places N.places

  pub enabled-tells : (t : ℕ) → Tells (is_enabled N S t) (Enabled N S t 1)
  unfolding is_enabled
  enabled-tells t = tells_as (none (lacking-lowest t)) found_none (eqb_tells (lacking_place N S t) N.places)
    where
      enough : (w m : ℕ) → ¬ (m < w) → 1 * w ≤ m
      enough w m h = omega arith

      none : {l : ℕ} → Lowest (λ p. tokens S p < N.takes t p) N.places N.places l → l ≡ N.places → Enabled N S t 1
      none (Lowest.found b falls below) e = absurd (omega arith)
      none (Lowest.empty fails) e = λ p b. enough (N.takes t p) (tokens S p) (fails p b)

      found_none : Enabled N S t 1 → lacking_place N S t ≡ N.places
      found_none en =
          let empty : Lowest (λ p. tokens S p < N.takes t p) N.places N.places N.places =
          Lowest.empty (λ p b falls. omega (arith, en p b)) in
          lowest-once (lacking-lowest t) empty

  pub no-start-owed-tells : Tells (has_no_start_owed N S) (NoStartOwed N S)
  unfolding has_no_start_owed
  no-start-owed-tells = all-tells N.transitions (λ t. not-tells (enabled-tells t))

  pub no-end-owed-tells : Tells (has_no_end_owed N S) (NoEndOwed N S)
  unfolding has_no_end_owed
  no-end-owed-tells = all-tells N.transitions (λ t. eqb_tells (count S t (N.lfd t)) 0)

  pub nothing-running-tells : Tells (has_nothing_running N S) (NothingRunning N S)
  unfolding has_nothing_running
  nothing-running-tells = all-tells N.transitions (λ t. all-tells (width N) (λ j. eqb_tells (count S t j) 0))

  pub has-room-tells : (more : ℕ → ℕ) → Tells (has_room N S more) (HasRoom N S more)
  unfolding has_room
  has-room-tells more = all-tells N.places (λ p. held_tells (tokens S p + more p))

  pub covers-tells : (fewer : ℕ → ℕ) → Tells (does_cover N S fewer) (Covers N S fewer)
  unfolding does_cover
  covers-tells fewer = all-tells N.places (λ p. leb_tells (fewer p) (tokens S p))

  pub none-fresh-tells : Tells (has_none_fresh N S) (NoneFresh N S)
  unfolding has_none_fresh
  none-fresh-tells = all-tells N.transitions (λ t. eqb_tells (count S t 0) 0)

  pub no-old-end-owed-tells : Tells (has_no_old_end_owed N S) (NoOldEndOwed N S)
  unfolding has_no_old_end_owed owes_no_old_end
  no-old-end-owed-tells =
      all-tells N.transitions (λ t. implies-tells (leb_tells 1 (N.lfd t)) (eqb_tells (count S t (N.lfd t)) 0))

-- WHAT A TEST TELLS IS DECIDED

-- by a test, a thing holds or not
pub decide : {b : Bool} {A C : Type 0} → Tells b A → (A → C) → (¬ A → C) → C
decide {b = true} t holds fails = holds (t.sound tt)
decide {b = false} t holds fails = fails t.complete

pub stable : {b : Bool} {A : Type 0} → Tells b A → ¬ (¬ A) → A
stable t f = decide t (λ a. a) (λ n. absurd (f n))

pub told-true : {b : Bool} {A : Type 0} → Tells b A → A → b ≡ true
told-true {b = true} t a = refl
told-true {b = false} t a = absurd (t.complete a)

pub told-false : {b : Bool} {A : Type 0} → Tells b A → ¬ A → b ≡ false
told-false {b = true} t f = absurd (f (t.sound tt))
told-false {b = false} t f = refl

-- two tests of one thing are equal
pub tells-once : {a b : Bool} {A : Type 0} → Tells a A → Tells b A → a ≡ b
tells-once {a = true} s t = sym (told-true t (s.sound tt))
tells-once {a = false} s t = sym (told-false t s.complete)

-- what does not hold of all numbers below n fails at one of them
pub some-fails : (n : ℕ) {f : ℕ → Bool} {A : ℕ → Type 0} → ((i : ℕ) → Tells (f i) (A i))
    → ¬ ((i : ℕ) → i < n → A i) → (i : ℕ) × (i < n) × (¬ A i)
some-fails zero each never-all = absurd (never-all (λ i h. absurd (not-suc-le-zero h)))
some-fails (suc n) {f} {A} each never-all =
    decide (each n)
    (λ a. let (i, l, fails) = some-fails n each (λ rest. never-all (below_suc A n a rest)) in (i, omega arith, fails))
    (λ fails. (n, omega arith, fails))

-- AN OUTCOME

pub done-is : (S S' : State) → (done S ≡ done S') ↔ (S ≡ S')
done-is S S' = ((λ e. cc), λ e. cc)

pub never : {C : Type 0} {S : State} {why : Refusal} → done S ≡ refused why → C
never e = let z : ◌≡◌ {A = ℕ} 0 1 = cc in absurd (omega arith)

-- WHAT STANDS BEHIND A TEST

module _ {b : Bool} {A X : Type 0} (t : Tells b A) where
  pub cond-past : (bad : X) {rest r : X} → A → rest ≡ r → cond b rest bad ≡ r
  cond-past bad a e = rw (told-true t a) e

  pub cond-fails : (bad rest : X) → ¬ A → cond b rest bad ≡ bad
  cond-fails bad rest f = rw (told-false t f)

  -- by what the test tells
  pub cond-by : {C : Type 0} (bad rest : X) {r : X} → (¬ A → bad ≡ r → C) → (A → rest ≡ r → C) → cond b rest bad ≡ r → C
  cond-by bad rest here behind e = decide t (λ a. behind a (rw (told-true t a) at e)) (λ f. here f (rw (told-false t f) at e))

-- AN OUTCOME BEHIND A TEST

-- it is done where the test passes and the outcome is done
pub unless-done : {b : Bool} {o : Outcome} {S : State} {A B : Type 0} (why : Refusal) → Tells b A → (o ≡ done S) ↔ B
    → (unless b why o ≡ done S) ↔ (A × B)
unless-done {b} {o} why t r = (
  cond-by t (refused why) o (λ _ e. never (sym e)) (λ a e. (a, r.0 e)),
  λ (a, c). cond-past t (refused why) a (r.1 c),
)

pub past : {b : Bool} {A : Type 0} {o r : Outcome} (why : Refusal) → Tells b A → A → o ≡ r → unless b why o ≡ r
past why t = cond-past t (refused why)

pub fails : {b : Bool} {A : Type 0} (why : Refusal) (o : Outcome) → Tells b A → ¬ A → unless b why o ≡ refused why
fails why o t = cond-fails t (refused why) o

-- it is refused by the test, or behind it
pub refusal-by : {b : Bool} {A C : Type 0} (why : Refusal) (o : Outcome) {told : Refusal} → Tells b A
    → (¬ A → told ≡ why → C) → (A → o ≡ refused told → C) → unless b why o ≡ refused told → C
refusal-by why o {told} t here = cond-by t (refused why) o (λ f e. here f (cc))
