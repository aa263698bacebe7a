-- The bound. Each end at its lfd lowers the owed ends by one and leaves the tokens after them as they were; each start takes a token at
-- least, and owes no end where no lfd is 0. So a tick or a stop comes before the bound is used up.
-- Assumes nothing.
use mathlib.Core.Path.{◌≡◌, refl, ap, ◌∙◌}
use mathlib.Core.Bool.{false}
use Prim.Native.Nat.{ℕ, zero, suc, ◌+◌, ◌*◌, ◌<◌}
use native.Mathlib.Nat.{add-mul, one-mul}
use native.Mathlib.Omega.{arith}
use Rattle.std.proofs.Common.{Some, None}
use Rattle.model.specs.declared.event.Event.{Event}
use Rattle.model.specs.declared.event.Event.TheVariants as event
use Rattle.model.specs.declared.answer.Refusal.{Refusal}
use Rattle.model.specs.Tab.{sum}
use Rattle.model.specs.Net.{Net, State, Proper}
use Rattle.model.specs.Moves.{Starts, Ends, Moves}
use Rattle.model.specs.Rules.{Outcome, done, refused, apply}
use Rattle.model.specs.Run.{by}
use Rattle.model.proofs.Tab.{one-here, one-off}
use Rattle.model.proofs.Sums.{sum_same, sum-add, sum-at, le-sum}
use Rattle.model.proofs.Shape.{lfd-fits}
use Rattle.model.proofs.Forward.{apply-exact}
use Rattle.model.proofs.Refusals.{apply-refuses}
use Rattle.runner.specs.declared.stop.Stop.{Stop}
use Rattle.runner.specs.declared.stop.Stop.TheVariants as stop
use Rattle.runner.specs.Stop.{number_of_stop, stop_for}
use Rattle.runner.specs.Choice.{Chooses, Choice, Picks, choice}
use Rattle.runner.specs.Page.{Page, halted, behind, chosen, page}
use Rattle.runner.specs.Bound.{due, owed_ends, tokens_after, all_tokens_after, bound, NoneInstant, Soon}
use Rattle.runner.proofs.Choice.{choice-picks}
use Rattle.runner.proofs.Stops.{Met, met}

-- A START

module _ {N : Net} {S S₁ : State} (t : ℕ) (long : NoneInstant N) (m : Starts N S t S₁) where
  -- no end is owed by it
  start-due : (u : ℕ) → u < N.transitions → due N S u ≡ due N S₁ u
  start-due u b =
      omega (arith, m.counted u (N.lfd u) b (lfd-fits N u b), one-off t 0 u (N.lfd u) (λ _ e. omega (arith, long u b)))

  start_owed : owed_ends N S ≡ owed_ends N S₁
  unfolding owed_ends
  start_owed = sum_same N.transitions (due N S) (due N S₁) start-due

  start-tokens : all_tokens_after N S ≡ all_tokens_after N S₁ + sum N.places (N.takes t)
  unfolding all_tokens_after
  start-tokens = sum-add N.places (tokens_after N S) (tokens_after N S₁) (N.takes t) at
    where
      at : (p : ℕ) → p < N.places → tokens_after N S p ≡ tokens_after N S₁ p + N.takes t p
      at p b =
          let same : sum N.transitions (λ u. due N S u * N.gives u p) ≡ sum N.transitions (λ u. due N S₁ u * N.gives u p) =
          sum_same N.transitions _ _ (λ u l. ap (λ n. n * N.gives u p) (start-due u l)) in
          omega (arith, m.marked p b)

  pub start-lowers : Proper N → bound N S₁ < bound N S
  start-lowers proper =
      let (p, b, pos) = proper.preset t m.known in
      omega (arith, start_owed, start-tokens, le-sum N.places (N.takes t) p b)

-- AN END AT ITS LFD

module _ {N : Net} {S S₁ : State} (t : ℕ) (m : Ends N false S t (N.lfd t) S₁) where
  end-due : due N S t ≡ due N S₁ t + 1
  end-due = omega (arith, m.counted t (N.lfd t) m.known (lfd-fits N t m.known), one-here t (N.lfd t))

  end-others : (u : ℕ) → u < N.transitions → ¬ (t ≡ u) → due N S u ≡ due N S₁ u
  end-others u b off =
      omega (arith, m.counted u (N.lfd u) b (lfd-fits N u b), one-off t (N.lfd t) u (N.lfd u) (λ e _. off e))

  end_owed : owed_ends N S ≡ owed_ends N S₁ + 1
  unfolding owed_ends
  end_owed = sum-at N.transitions (due N S) (due N S₁) t 1 m.known end-due end-others

  end-tokens : all_tokens_after N S ≡ all_tokens_after N S₁
  unfolding all_tokens_after
  end-tokens = sum_same N.places (tokens_after N S) (tokens_after N S₁) at
    where
      more : (p : ℕ) → due N S t * N.gives t p ≡ due N S₁ t * N.gives t p + N.gives t p
      more p =
          ap (λ n. n * N.gives t p) end-due ∙ add-mul (due N S₁ t) 1 (N.gives t p)
          ∙ ap (λ n. due N S₁ t * N.gives t p + n) (one-mul (N.gives t p))

      at : (p : ℕ) → p < N.places → tokens_after N S p ≡ tokens_after N S₁ p
      at p b =
          let given : sum N.transitions (λ u. due N S u * N.gives u p)
          ≡ sum N.transitions (λ u. due N S₁ u * N.gives u p) + N.gives t p =
          sum-at N.transitions _ _ t (N.gives t p) m.known (more p)
          (λ u l off. ap (λ n. n * N.gives u p) (end-others u l off)) in
          omega (arith, m.marked p b)

  pub end-lowers : bound N S₁ < bound N S
  end-lowers = omega (arith, end_owed, end-tokens)

-- A CHOSEN EVENT THAT IS NO TICK LOWERS THE BOUND

pub data Lowers (N : Net) (S S₁ : State) : Event → Type 0 where
  ticked : Lowers N S S₁ event.Tick
  lowered : {e : Event} → bound N S₁ < bound N S → Lowers N S S₁ e

pub lowers : {N : Net} {S : State} (S₁ : State) {e : Event} → Proper N → NoneInstant N → Chooses N S e → Moves N false S e S₁ → Lowers N S S₁ e
lowers S₁ proper long (Chooses.end {t} o) m = Lowers.lowered (end-lowers t m)
lowers S₁ proper long (Chooses.start {t} none o) m = Lowers.lowered (start-lowers t long m proper)
lowers S₁ proper long (Chooses.tick none none' runs) m = Lowers.ticked

-- A TICK OR A STOP COMES

later : (e : Event) (p : Page) {n n' : ℕ} → n < n' → Soon p n → Soon (behind e p) n'
later e p h (Soon.ticks k l b q) = Soon.ticks (suc k) (omega arith) (omega arith) q
later e p h (Soon.stops l b f) = Soon.stops (omega arith) b f

-- two stops with two numbers are two
apart : {s r : Stop} → ¬ (number_of_stop s ≡ number_of_stop r) → ¬ (s ≡ r)
apart f e = f (ap number_of_stop e)

halts : (s : Stop) (S : State) (n : ℕ) → ¬ (number_of_stop s ≡ 2) → ¬ (number_of_stop s ≡ 3) → Soon (halted s S) n
halts s S n b f = Soon.stops (omega arith) (apart b) (apart f)

module _ (N : Net) (proper : Proper N) (long : NoneInstant N) where
  -- THE BOUND: from any state, where budget and room are above it
  pub soon : (room budget : ℕ) (S : State) → bound N S < room → bound N S < budget
      → Soon (page N S room budget) (bound N S)
  unfolding page
  soon room zero S r b = absurd (omega arith)
  soon zero (suc budget) S r b = absurd (omega arith)
  soon (suc room) (suc budget) S r b =
      go (λ S₁ h. soon room budget S₁ (omega arith) (omega arith)) (choice N S) (choice-picks N S)
    where
      More : Type 0
      More = (S₁ : State) → bound N S₁ < bound N S → Soon (page N S₁ room budget) (bound N S₁)

      after : (e : Event) (S₁ : State) → More → Lowers N S S₁ e → Soon (behind e (page N S₁ room budget)) (bound N S)
      after e S₁ more Lowers.ticked = Soon.ticks 0 (omega arith) (omega arith) refl
      after e S₁ more (Lowers.lowered h) = later e (page N S₁ room budget) h (more S₁ h)

      refuses : {e : Event} {why : Refusal} → Met e why → Soon (halted (stop_for e) S) (bound N S)
      refuses Met.count_full = halts stop.CountFull S (bound N S) (λ e. omega arith) (λ e. omega arith)
      refuses Met.place_full = halts stop.PlaceFull S (bound N S) (λ e. omega arith) (λ e. omega arith)

      onward : (e : Event) → More → Chooses N S e → (o : Outcome) → apply N false S e ≡ o
          → Soon (by o (λ S₁. behind e (page N S₁ room budget)) (λ why. halted (stop_for e) S)) (bound N S)
      onward e more c (done S₁) d =
          after e S₁ more (lowers S₁ proper long c ((apply-exact N false S e S₁).0 d))
      onward e more c (refused why) d = refuses (met N proper S c ((apply-refuses N false S e why).0 d))

      go : More → (c : Choice) → Picks N S c
          → Soon
          (chosen c (halted stop.AtRest S)
          (λ e. by (apply N false S e) (λ S₁. behind e (page N S₁ room budget)) (λ why. halted (stop_for e) S))) (bound N S)
      go more None a = halts stop.AtRest S (bound N S) (λ e. omega arith) (λ e. omega arith)
      go more (Some e) c = onward e more c (apply N false S e) refl
