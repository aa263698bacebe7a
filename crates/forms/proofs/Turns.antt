-- Checks one after the other: a check behind a test; a loop that keeps that the checks that are left give the answer of the whole;
-- and what the answer of all says.
-- Assumes nothing.
use Rattle.std.proofs.Common.{Ok, Err}
use mathlib.Core.Path.{◌≡◌, refl, sym, ◌∙◌}
use mathlib.Core.Logic.{◌↔◌}
use mathlib.Core.Bool.{Bool}
use Prim.Native.Nat.{ℕ, zero, suc, ◌+◌, ◌-◌, ◌<◌, ◌≤◌}
use native.Mathlib.Omega.{arith}
use Rattle.model.specs.Tab.{Tells}
use Rattle.model.proofs.Tab.{below-or-past, at-or-below}
use Rattle.model.proofs.Tests.{cond-past, cond-fails, cond-by}
use Rattle.forms.specs.declared.fault.Fault.{Fault}
use Rattle.forms.specs.Checked.{Checked, unless, and_then, in_turn}

pub never : {C : Type 0} {why : Fault} → ◌≡◌ {A = Checked} (Ok tt) (Err why) → C
never e = cc

pub same-fault : {why told : Fault} → ◌≡◌ {A = Checked} (Err why) (Err told) → told ≡ why
same-fault e = cc

-- A CHECK BEHIND A TEST

-- it is good where the test passes and the rest is good
pub unless-good : {b : Bool} {rest : Checked} {A B : Type 0} (why : Fault) → Tells b A → (rest ≡ Ok tt) ↔ B
    → (unless b why rest ≡ Ok tt) ↔ (A × B)
unless-good {b} {rest} why t r = (
  cond-by t (Err why) rest (λ _ e. never (sym e)) (λ a e. (a, r.0 e)),
  λ (a, c). cond-past t (Err why) a (r.1 c),
)

pub past : {b : Bool} {A : Type 0} {rest r : Checked} (why : Fault) → Tells b A → A → rest ≡ r → unless b why rest ≡ r
past why t = cond-past t (Err why)

pub fails : {b : Bool} {A : Type 0} (why : Fault) (rest : Checked) → Tells b A → ¬ A → unless b why rest ≡ Err why
fails why rest t = cond-fails t (Err why) rest

-- a fault is told by the test, or behind it
pub fault-by : {b : Bool} {A C : Type 0} (why : Fault) (rest : Checked) {told : Fault} → Tells b A
    → (¬ A → told ≡ why → C) → (A → rest ≡ Err told → C) → unless b why rest ≡ Err told → C
fault-by why rest {told} t here = cond-by t (Err why) rest (λ f e. here f (same-fault e))

-- THE LOOP

module _ (check : ℕ → Checked) (n : ℕ) where
  -- the loop's invariant
  abbrev pub Left : ℕ → Type 0
  Left i = in_turn check i (n - i) ≡ in_turn check 0 n

  pub left-begin : Left 0
  left-begin = let e : n - 0 ≡ n = omega arith in rw e

  pub left-turn : (i : ℕ) → Left i → i < n → check i ≡ Ok tt → Left (i + 1)
  unfolding in_turn
  left-turn i inv l good =
      let m : n - i ≡ suc (n - (i + 1)) = omega arith in
      let s : suc i ≡ i + 1 = omega arith in
      rw (m, good, s) at inv

  pub left-stop : (i : ℕ) → Left i → i < n → {why : Fault} → check i ≡ Err why → Err why ≡ in_turn check 0 n
  unfolding in_turn
  left-stop i inv l bad = let m : n - i ≡ suc (n - (i + 1)) = omega arith in rw (m, bad) at inv

  pub left_end : (i : ℕ) → Left i → n ≤ i → Ok tt ≡ in_turn check 0 n
  unfolding in_turn
  left_end i inv l = let m : n - i ≡ 0 = omega arith in rw m at inv

-- WHAT THE ANSWER SAYS

-- the checks from i on are good, or number t is the first that is bad
data Turned (check : ℕ → Checked) (i n : ℕ) : Checked → Type 0 where
  all_good : ((t : ℕ) → i ≤ t → t < i + n → check t ≡ Ok tt) → Turned check i n (Ok tt)
  first_bad : {why : Fault} (t : ℕ) → i ≤ t → t < i + n → ((u : ℕ) → i ≤ u → u < t → check u ≡ Ok tt)
      → check t ≡ Err why → Turned check i n (Err why)

turned : (check : ℕ → Checked) (n i : ℕ) → Turned check i n (in_turn check i n)
unfolding in_turn
turned check zero i = Turned.all_good (λ t l h. absurd (omega arith))
turned check (suc n) i = go (check i) refl (in_turn check (suc i) n) (turned check n (suc i))
  where
    -- what holds at i and from i + 1 on holds from i on
    from-i : (A : ℕ → Type 0) → A i → (t : ℕ) → i ≤ t → (suc i ≤ t → A t) → A t
    from-i A a t l above = at-or-below i t l (λ e. rw (← e) a) above

    go : (first : Checked) → check i ≡ first → (rest : Checked) → Turned check (suc i) n rest → Turned check i (suc n) (and_then first rest)
    go (Err why) e rest r = Turned.first_bad i (omega arith) (omega arith) (λ u l h. absurd (omega arith)) e
    go (Ok tt) e rest (Turned.all_good g) =
        Turned.all_good (λ t l h. from-i (λ k. check k ≡ Ok tt) e t l (λ m. g t m (omega arith)))
    go (Ok tt) e rest (Turned.first_bad t l h g b) =
        Turned.first_bad t (omega arith) (omega arith) (λ u m k. from-i (λ x. check x ≡ Ok tt) e u m (λ o. g u o k)) b

module _ (check : ℕ → Checked) (n : ℕ) where
  FirstBad : Fault → Type 0
  FirstBad why = (t : ℕ) × (t < n) × ((u : ℕ) → u < t → check u ≡ Ok tt) × (check t ≡ Err why)

  good-at : {r : Checked} → Turned check 0 n r → r ≡ Ok tt → (t : ℕ) → t < n → check t ≡ Ok tt
  good-at (Turned.all_good g) e t h = g t (omega arith) (omega arith)
  good-at (Turned.first_bad u l k g b) e t h = never (sym e)

  bad-at : {r : Checked} → Turned check 0 n r → (why : Fault) → r ≡ Err why → FirstBad why
  unfolding FirstBad
  bad-at (Turned.all_good g) why e = never e
  bad-at (Turned.first_bad t l k g b) why e = (t, omega arith, (λ u h. g u (omega arith) h), b ∙ e)

  -- all are good
  pub turn-good : (in_turn check 0 n ≡ Ok tt) ↔ ((t : ℕ) → t < n → check t ≡ Ok tt)
  turn-good = (good-at (turned check n 0), λ g. go (in_turn check 0 n) (turned check n 0) g)
    where
      go : (r : Checked) → Turned check 0 n r → ((t : ℕ) → t < n → check t ≡ Ok tt) → r ≡ Ok tt
      go (Ok tt) _ g = refl
      go (Err why) (Turned.first_bad t l k _ b) g = never (sym (g t (omega arith)) ∙ b)

  -- number t is the first that is bad
  pub turn-bad : (why : Fault) → (in_turn check 0 n ≡ Err why)
      ↔ ((t : ℕ) × (t < n) × ((u : ℕ) → u < t → check u ≡ Ok tt) × (check t ≡ Err why))
  unfolding FirstBad
  turn-bad why = (bad-at (turned check n 0) why, go (in_turn check 0 n) (turned check n 0))
    where
      go : (r : Checked) → Turned check 0 n r
          → (t : ℕ) × (t < n) × ((u : ℕ) → u < t → check u ≡ Ok tt) × (check t ≡ Err why) → r ≡ Err why
      go (Ok tt) (Turned.all_good g) (t, l, _, b) = never (sym (g t (omega arith) (omega arith)) ∙ b)
      go (Err told) (Turned.first_bad u p q g' b') (t, l, g, b) =
          below-or-past t u (λ h. never (sym (g' t (omega arith) h) ∙ b))
          (λ h. at-or-below u t h (λ e. sym b' ∙ rw e b) (λ k. never (sym (g u k) ∙ b')))

-- a loop over the checks, one after the other
pub ruleset turns = (left-begin, left-turn, left-stop, left_end)
