-- The rules lead from lawful states to lawful states, and the initial state is lawful.
-- Assumes nothing.
use mathlib.Core.Path.{◌≡◌, ◌∙◌}
use mathlib.Core.Bool.{Bool}
use Prim.Native.Nat.{ℕ, zero, suc, ◌<◌, ◌≤◌}
use native.Mathlib.Omega.{arith}
use Rattle.model.specs.declared.event.Event.{Event}
use Rattle.model.specs.declared.event.Event.TheVariants as event
use Rattle.model.specs.Limits.{Held, token_limit}
use Rattle.model.specs.Net.{Net, Proper, State, Lawful, width, count, initial_state}
use Rattle.model.specs.Moves.{NoOldEndOwed, Starts, Ends, Ticks, Moves}
use Rattle.model.proofs.Tab.{at-or-below, below-or-past, one-off, one-room}
use Rattle.model.proofs.Shape.{lfd-fits, build-shaped, tokens-build, count-build, count_past}

-- above the lfd every count is 0, in the matrix and past its columns
pub zero-past-lfd : {N : Net} {S : State} → Lawful N S → (t j : ℕ) → t < N.transitions → N.lfd t < j → count S t j ≡ 0
zero-past-lfd {N} s t j l h = below-or-past j (width N) (λ c. s.none_past_lfd t j l c h) (count_past s.shaped t j l)

-- every count is within the limit, past the matrix's columns too
pub held-past : {N : Net} {S : State} → Lawful N S → (t j : ℕ) → t < N.transitions → Held (count S t j)
held-past {N} s t j l =
    below-or-past j (width N) (s.counts_fit t j l) (λ c. omega (arith, count_past s.shaped t j l c))

-- where no count stands at the lfd, every count from the lfd on is 0
pub zero-from-lfd : {N : Net} {S : State} → Lawful N S → (t j : ℕ) → t < N.transitions → count S t (N.lfd t) ≡ 0
    → N.lfd t ≤ j → count S t j ≡ 0
zero-from-lfd {N} {S} s t j l e h = at-or-below (N.lfd t) j h (λ q. rw q at e) (zero-past-lfd s t j l)

starts-lawful : {N : Net} {S S' : State} {t : ℕ} → Lawful N S → Starts N S t S' → Lawful N S'
starts-lawful {N} {S} {S'} {t} s m = record {
  shaped = m.shaped;
  none_past_lfd = λ u k b c h.
      omega (arith, m.counted u k b c, s.none_past_lfd u k b c h, one-off t 0 u k (λ _ e. omega arith));
  tokens_fit = λ p b. omega (arith, m.marked p b, s.tokens_fit p b);
  counts_fit = λ u k b c.
      omega (arith, m.counted u k b c, one-room (count S) token_limit t 0 u k m.room (s.counts_fit u k b c));
}

ends-lawful : {N : Net} {begun : Bool} {S S' : State} {t j : ℕ} → Lawful N S → Ends N begun S t j S' → Lawful N S'
ends-lawful s m = record {
  shaped = m.shaped;
  none_past_lfd = λ u k b c h. omega (arith, m.counted u k b c, s.none_past_lfd u k b c h);
  tokens_fit = λ p b. omega (arith, m.marked p b, m.room p b);
  counts_fit = λ u k b c. omega (arith, m.counted u k b c, s.counts_fit u k b c);
}

ticks-lawful : {N : Net} {S S' : State} → Lawful N S → Ticks N S S' → Lawful N S'
ticks-lawful {N} {S} {S'} s m = record {
  shaped = m.shaped;
  none_past_lfd = still;
  tokens_fit = λ p b. omega (arith, m.marked p b, s.tokens_fit p b);
  counts_fit = few;
}
  where
    still : (t j : ℕ) → t < N.transitions → j < width N → N.lfd t < j → count S' t j ≡ 0
    still t zero b c h = m.fresh t b
    still t (suc j) b c h = m.aged t j b c ∙ zero-from-lfd s t j b (m.no_end_owed t b) (omega arith)

    few : (t j : ℕ) → t < N.transitions → j < width N → Held (count S' t j)
    few t zero b c = omega (arith, m.fresh t b)
    few t (suc j) b c = omega (arith, m.aged t j b c, s.counts_fit t j b (omega arith))

-- an event leads from a lawful state to a lawful state
pub moves-lawful : {N : Net} (begun : Bool) {S S' : State} (e : Event) → Lawful N S → Moves N begun S e S' → Lawful N S'
moves-lawful begun event.Tick = ticks-lawful
moves-lawful begun (event.Start t) = starts-lawful
moves-lawful begun (event.End t age) = ends-lawful
moves-lawful begun event.Malformed = λ s m. absurd m

-- THE ORDER OF A STEP: behind a start no end of age 1 or more is owed, up to the next tick

-- a start changes no count of age 1 or more
pub settles-start : {N : Net} {S S' : State} {t : ℕ} → Starts N S t S' → NoOldEndOwed N S'
settles-start {N} {t = t} m u b h =
    omega (arith, m.counted u (N.lfd u) b (lfd-fits N u b), m.no_old_end_owed u b h, one-off t 0 u (N.lfd u) (λ _ e. omega arith))

-- and an end adds to none
pub settles_end : {N : Net} {begun : Bool} {S S' : State} {t j : ℕ} → NoOldEndOwed N S → Ends N begun S t j S' → NoOldEndOwed N S'
settles_end {N} o m u b h = omega (arith, m.counted u (N.lfd u) b (lfd-fits N u b), o u b h)

-- a net's initial state is lawful
pub initial-lawful : (N : Net) → Proper N → Lawful N (initial_state N)
unfolding initial_state
initial-lawful N proper = record {
  shaped = build-shaped N _ _;
  none_past_lfd = λ t j b c h. count-build N _ _ t j b c;
  tokens_fit = λ p b. rw tokens-build (proper.initial_held p b);
  counts_fit = λ t j b c. rw count-build (omega arith);
}
