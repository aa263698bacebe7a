-- Weights of places: what a transition takes in and puts out under them, when a net balances, and the total of a state (request W6).
-- `weight p` is the weight of one token at place p.
-- Assumes nothing.
use Rattle.std.specs.Prelude.{◌≡◌, Bool, not, ℕ, ◌+◌, ◌*◌, ◌<◌, eqb}
use Rattle.model.specs.Tab.{sum, lowest}
use Rattle.model.specs.Net.{Net, State, width, tokens, count}

-- what tokens weigh, `many p` of them at each place p below `places`
unfoldable pub weighed : ℕ → (ℕ → ℕ) → (ℕ → ℕ) → ℕ
weighed places weight many = sum places (λ p. weight p * many p)

-- THE TRANSITIONS

-- what one firing of t takes in, and what it puts out
abbrev pub weight_in : Net → (ℕ → ℕ) → ℕ → ℕ
weight_in N weight t = weighed N.places weight (N.takes t)

abbrev pub weight_out : Net → (ℕ → ℕ) → ℕ → ℕ
weight_out N weight t = weighed N.places weight (N.gives t)

-- t puts out the weight it takes in
abbrev pub BalancedAt : Net → (ℕ → ℕ) → ℕ → Type 0
BalancedAt N weight t = weight_in N weight t ≡ weight_out N weight t

-- each transition does
abbrev pub Balanced : Net → (ℕ → ℕ) → Type 0
Balanced N weight = (t : ℕ) → t < N.transitions → BalancedAt N weight t

-- t does not, and each transition below it does
pub record LowestUnbalanced (N : Net) (weight : ℕ → ℕ) (t : ℕ) : Type 0 where
  pub known : t < N.transitions
  pub unbalanced : ¬ BalancedAt N weight t
  pub lower_balanced : (u : ℕ) → u < t → BalancedAt N weight u

abbrev pub is_unbalanced : Net → (ℕ → ℕ) → ℕ → Bool
is_unbalanced N weight t = not (eqb (weight_in N weight t) (weight_out N weight t))

-- that transition, or T where there is none
unfoldable pub first_unbalanced : Net → (ℕ → ℕ) → ℕ
first_unbalanced N weight = lowest N.transitions N.transitions (is_unbalanced N weight)

-- THE TOTAL OF A STATE

-- how many firings of t run, whatever their age
unfoldable pub running : Net → State → ℕ → ℕ
running N S t = sum (width N) (count S t)

-- for each of them, the weight that t takes in
unfoldable pub firings_weight : Net → (ℕ → ℕ) → State → ℕ → ℕ
firings_weight N weight S t = running N S t * weight_in N weight t

-- the weighted marking, and for each running firing the weight that its transition takes in
unfoldable pub total : Net → (ℕ → ℕ) → State → ℕ
total N weight S = weighed N.places weight (tokens S) + sum N.transitions (firings_weight N weight S)
