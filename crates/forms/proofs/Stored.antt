-- What a state read from bytes holds: each marking and each count is a word of them.
-- Assumes nothing.
use mathlib.Core.Path.{◌≡◌, ap, ◌∙◌}
use mathlib.Core.List.{List}
use Prim.Native.Nat.{ℕ, ◌+◌, ◌*◌, ◌<◌}
use native.Mathlib.Omega.{arith}
use Rattle.model.specs.Age.{column_of}
use Rattle.model.specs.Net.{Net, Shaped, width, tokens, count}
use Rattle.model.proofs.Shape.{build-shaped, tokens-build, count-build}
use Rattle.forms.specs.Word.{word}
use Rattle.forms.specs.Places.{mark_at, clock_at, count_at}
use Rattle.forms.specs.Stored.{state_of}

-- where the count of t at age j stands
pub count-place : (P D t j : ℕ) → count_at P D t (column_of (record { 0 = j })) ≡ clock_at P + 2 * (t * D + j)
unfolding count_at
count-place P D t j = omega arith

module _ (N : Net) (b : List ℕ) where
  pub state-shaped : Shaped N (state_of N b)
  unfolding state_of
  state-shaped = build-shaped N _ _

  pub tokens-are : (p : ℕ) → p < N.places → tokens (state_of N b) p ≡ word b (mark_at p)
  unfolding state_of
  tokens-are p l = tokens-build N _ _ p l

  pub count_is : (t j : ℕ) → t < N.transitions → j < width N
      → count (state_of N b) t j ≡ word b (count_at N.places (width N) t (column_of (record { 0 = j })))
  unfolding state_of
  count_is t j l k = count-build N _ _ t j l k

  -- the same, as a place of the clock's block of words
  pub count_at_lem : (t j : ℕ) → t < N.transitions → j < width N → count (state_of N b) t j ≡ word b (clock_at N.places + 2 * (t * width N + j))
  count_at_lem t j l k = count_is t j l k ∙ ap (word b) (count-place N.places (width N) t j)
