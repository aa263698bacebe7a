-- What a test tells; and lists, tests, bounds and sums made of a function on 0 .. n - 1. Their laws are in proofs/Tab.antt, those of sums in
-- proofs/Sums.antt.
-- Assumes nothing.
use Rattle.std.specs.Prelude.{Bool, true, ◌&&◌, cond, List, [], ◌∷◌, ℕ, zero, suc, ◌+◌, max, min, T, eqb}

-- the test b decides A: it passes exactly where A holds
pub record Tells (b : Bool) (A : Type 0) : Type 0 where
  pub sound : T b → A
  pub complete : A → T b

-- where a passes, b does
abbrev pub implies : Bool → Bool → Bool
implies a b = cond a b true

-- the list f 0, f 1, .., f (n - 1)
unfoldable pub tab : {A : Type 0} → ℕ → (ℕ → A) → List A
tab zero f = []
tab (suc n) f = f zero ∷ tab n (λ k. f (suc k))

-- the test f passes at each number below n
unfoldable pub all : ℕ → (ℕ → Bool) → Bool
all zero f = true
all (suc n) f = f n && all n f

-- the largest of f 0, .., f (n - 1), and 0 where n is 0
unfoldable pub largest : ℕ → (ℕ → ℕ) → ℕ
largest zero f = zero
largest (suc n) f = max (f n) (largest n f)

-- the least of top, f 0, .., f (n - 1)
unfoldable pub least : ℕ → ℕ → (ℕ → ℕ) → ℕ
least top zero f = top
least top (suc n) f = min (f n) (least top n f)

-- at how many numbers below n the test f passes
unfoldable pub how_many : ℕ → (ℕ → Bool) → ℕ
how_many zero f = 0
how_many (suc n) f = cond (f n) (suc (how_many n f)) (how_many n f)

-- the lowest number below n at which the test f passes, and `none` where it passes at none
unfoldable pub lowest : ℕ → ℕ → (ℕ → Bool) → ℕ
lowest none zero f = none
lowest none (suc n) f = lowest (cond (f n) n none) n f

-- f 0 + .. + f (n - 1)
unfoldable pub sum : ℕ → (ℕ → ℕ) → ℕ
sum zero f = 0
sum (suc n) f = f n + sum n f

abbrev pub one_if : Bool → ℕ
one_if b = cond b 1 0

-- the matrix with a single 1, at transition t and age j
unfoldable pub one : ℕ → ℕ → ℕ → ℕ → ℕ
one t j u k = one_if (eqb t u && eqb j k)
