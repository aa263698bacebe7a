-- The degree that is computed is the degree of Definition 4, which is the largest number of times that a transition is enabled.
-- Assumes nothing.
use mathlib.Core.Path.{◌≡◌, sym, subst}
use mathlib.Core.Logic.{◌↔◌}
use Prim.Native.Nat.{ℕ, zero, suc, ◌*◌, ◌<◌, ◌≤◌, min}
use native.Mathlib.Nat.{le-div_iff_mul-le, le-mul_of_pos_right, mul-le-mul_right, not-suc-le-zero}
use native.Mathlib.Omega.{arith}
use Rattle.model.specs.Tab.{least}
use Rattle.model.specs.Limits.{token_limit}
use Rattle.model.specs.Net.{Net, Proper, State, Lawful, tokens}
use Rattle.model.specs.Moves.{Enabled, TooFew, Degree}
use Rattle.model.specs.Rules.{times, degree}
use Rattle.model.proofs.Tab.{below_suc}
use Rattle.model.proofs.Tests.{leb_tells, some-fails}

least-le : (top n : ℕ) (f : ℕ → ℕ) → (least top n f ≤ top) × ((i : ℕ) → i < n → least top n f ≤ f i)
unfolding least
least-le top zero f = (omega arith, λ i h. absurd (not-suc-le-zero h))
least-le top (suc n) f =
    let (a, b) = least-le top n f in
    (omega arith, below_suc (λ i. min (f n) (least top n f) ≤ f i) n (omega arith) (λ i h. omega (arith, b i h)))

le-least : (top n : ℕ) (f : ℕ → ℕ) (k : ℕ) → k ≤ top → ((i : ℕ) → i < n → k ≤ f i) → k ≤ least top n f
unfolding least
le-least top zero f k h each = h
le-least top (suc n) f k h each =
    omega (arith, each n (omega arith), le-least top n f k h (λ i b. each i (omega arith)))

times-is : (n w m : ℕ) → n ≤ token_limit → (n ≤ times w m) ↔ (n * w ≤ m)
unfolding times
times-is n zero m h = ((λ _. omega arith), λ _. h)
times-is n (suc w) m h = le-div_iff_mul-le (omega arith)

module _ (N : Net) (S : State) (t : ℕ) where
  -- t is not enabled n times exactly where some place lacks tokens for it
  pub lacks : (n : ℕ) → (¬ Enabled N S t n) ↔ TooFew N S t n
  lacks n = (
    (λ fails. let (p, b, short) = some-fails N.places (λ p. leb_tells (n * N.takes t p) (tokens S p)) fails in
        (p, b, below (n * N.takes t p) (tokens S p) short)),
    λ (p, b, short) en. omega (arith, en p b),
  )
    where
      below : (a b : ℕ) → ¬ (a ≤ b) → b < a
      below a b fails = omega arith

  -- up to the limit, t is enabled n times exactly where n is at most the degree
  pub degree-tells : (n : ℕ) → n ≤ token_limit → (n ≤ degree N S t) ↔ Enabled N S t n
  unfolding degree
  degree-tells n h =
      let shares : ℕ → ℕ = λ p. times (N.takes t p) (tokens S p) in (
        (λ l p b. (times-is n (N.takes t p) (tokens S p) h).0 (omega (arith, (least-le token_limit N.places shares).1 p b))),
        λ en. le-least token_limit N.places shares n h (λ p b. (times-is n (N.takes t p) (tokens S p) h).1 (en p b)),
      )

  degree-le : degree N S t ≤ token_limit
  unfolding degree
  degree-le = (least-le token_limit N.places (λ p. times (N.takes t p) (tokens S p))).0

  -- Definition 4
  pub degree_is : Proper N → Lawful N S → t < N.transitions → Degree N S t (degree N S t)
  degree_is proper s l =
      let (p, b, w) = proper.preset t l in (
        (degree-tells (degree N S t) degree-le).0 (omega arith),
        (lacks (suc (degree N S t))).0 (λ en.
            let few : suc (degree N S t) ≤ token_limit =
            omega (arith, le-mul_of_pos_right (suc (degree N S t)) w, en p b, s.tokens_fit p b) in
            omega (arith, (degree-tells (suc (degree N S t)) few).1 en)),
      )

  -- document 01: the degree is the largest n for which t is enabled n times
  pub degree-largest : (n : ℕ) → Degree N S t n → (m : ℕ) → Enabled N S t m → m ≤ n
  degree-largest n (_, (p, b, short)) m en = at_most (λ h. omega (arith, mul-le-mul_right (N.takes t p) h, en p b))
    where
      at_most : ¬ (suc n ≤ m) → m ≤ n
      at_most fails = omega arith

  -- so there is one degree
  pub degree-once : (m n : ℕ) → Degree N S t m → Degree N S t n → m ≡ n
  degree-once m n a b = omega (arith, degree-largest m a n b.0, degree-largest n b m a.0)

-- the degree that is computed is Definition 4's, and no other number is
pub degree-exact : (N : Net) → Proper N → (S : State) → Lawful N S → (t : ℕ) → t < N.transitions → (n : ℕ)
    → (n ≡ degree N S t) ↔ Degree N S t n
degree-exact N proper S s t l n = (
  (λ e. subst (Degree N S t) (sym e) (degree_is N S t proper s l)),
  λ d. degree-once N S t n (degree N S t) d (degree_is N S t proper s l),
)
