-- The laws of sums: equal terms, terms added, one term that differs, the first term, a shift by one, bounds.
-- Assumes nothing.
use mathlib.Core.Path.{◌≡◌, refl, ap, ◌∙◌}
use Prim.Native.Nat.{ℕ, zero, suc, ◌+◌, ◌*◌, ◌<◌, ◌≤◌}
use native.Mathlib.Nat.{not-suc-le-zero, suc-mul, add-mul, one-mul}
use native.Mathlib.Omega.{arith}
use Rattle.model.specs.Tab.{sum, one}
use Rattle.model.proofs.Tab.{at-or-below, one-here, one-off}

pub sum_same : (n : ℕ) (f g : ℕ → ℕ) → ((i : ℕ) → i < n → f i ≡ g i) → sum n f ≡ sum n g
unfolding sum
sum_same zero f g e = refl
sum_same (suc n) f g e =
    let last : f n ≡ g n = e n (omega arith) in
    let rest : sum n f ≡ sum n g = sum_same n f g (λ i l. e i (omega arith)) in
    omega arith

-- the sum of sums
pub sum-add : (n : ℕ) (f g h : ℕ → ℕ) → ((i : ℕ) → i < n → f i ≡ g i + h i) → sum n f ≡ sum n g + sum n h
unfolding sum
sum-add zero f g h e = refl
sum-add (suc n) f g h e =
    let last : f n ≡ g n + h n = e n (omega arith) in
    let rest : sum n f ≡ sum n g + sum n h = sum-add n f g h (λ i l. e i (omega arith)) in
    omega arith

-- two sums that differ at t alone
pub sum-at : (n : ℕ) (f g : ℕ → ℕ) (t d : ℕ) → t < n → f t ≡ g t + d → ((i : ℕ) → i < n → ¬ (t ≡ i) → f i ≡ g i)
    → sum n f ≡ sum n g + d
unfolding sum
sum-at zero f g t d l e same = absurd (not-suc-le-zero l)
sum-at (suc n) f g t d l e same =
    at-or-below t n (omega arith)
    (λ q.
    let last : f n ≡ g n + d = rw q at e in
    let rest : sum n f ≡ sum n g = sum_same n f g (λ i b. same i (omega arith) (λ r. omega arith)) in
    omega arith)
    (λ b.
    let last : f n ≡ g n = same n (omega arith) (λ r. omega arith) in
    let rest : sum n f ≡ sum n g + d = sum-at n f g t d b e (λ i c. same i (omega arith)) in
    omega arith)

-- a sum by its first term
pub sum_first : (n : ℕ) (f : ℕ → ℕ) → sum (suc n) f ≡ f 0 + sum n (λ i. f (suc i))
unfolding sum
sum_first zero f = refl
sum_first (suc n) f = omega (arith, sum_first n f)

-- terms that moved on by one, and of which none was lost
pub sum-older : (n : ℕ) (f g : ℕ → ℕ) → g 0 ≡ 0 → ((i : ℕ) → suc i < n → g (suc i) ≡ f i) → ((i : ℕ) → suc i ≡ n → f i ≡ 0)
    → sum n g ≡ sum n f
unfolding sum
sum-older zero f g fresh aged last = refl
sum-older (suc n) f g fresh aged last =
    sum_first n g ∙ omega (arith, fresh, last n refl, sum_same n (λ i. g (suc i)) f (λ i l. aged i (omega arith)))

pub le-sum : (n : ℕ) (f : ℕ → ℕ) (i : ℕ) → i < n → f i ≤ sum n f
unfolding sum
le-sum zero f i l = absurd (not-suc-le-zero l)
le-sum (suc n) f i l =
    at-or-below i n (omega arith) (λ q. rw q (omega arith)) (λ b. let rest = le-sum n f i b in omega arith)

pub sum-le : (n : ℕ) (f : ℕ → ℕ) (top : ℕ) → ((i : ℕ) → i < n → f i ≤ top) → sum n f ≤ n * top
unfolding sum
sum-le zero f top h = omega arith
sum-le (suc n) f top h = rw (suc-mul n top) (omega (arith, h n (omega arith), sum-le n f top (λ i l. h i (omega arith))))

-- rows of width d, row u weighed by c u, and one more at (t, j)
pub rows_more : (T d : ℕ) (h h' : ℕ → ℕ → ℕ) (c : ℕ → ℕ) (t j : ℕ) → t < T → j < d
    → ((u k : ℕ) → u < T → k < d → h' u k ≡ h u k + one t j u k) → sum T (λ u. sum d (h' u) * c u) ≡ sum T (λ u. sum d (h u) * c u) + c t
rows_more T d h h' c t j known young more =
    sum-at T (λ u. sum d (h' u) * c u) (λ u. sum d (h u) * c u) t (c t) known own others
  where
    own : sum d (h' t) * c t ≡ sum d (h t) * c t + c t
    own =
        let row : sum d (h' t) ≡ sum d (h t) + 1 = sum-at d (h' t) (h t) j 1 young
        (more t j known young ∙ ap (λ (x : ℕ). h t j + x) (one-here t j))
        (λ k l f. more t k known l ∙ rw (one-off t j t k (λ _ e. f e)) (omega arith)) in
        rw (row, add-mul, one-mul)

    others : (u : ℕ) → u < T → ¬ (t ≡ u) → sum d (h' u) * c u ≡ sum d (h u) * c u
    others u l f = ap (λ (x : ℕ). x * c u)
        (sum_same d (h' u) (h u) (λ k m. more u k l m ∙ rw (one-off t j u k (λ e _. f e)) (omega arith)))
