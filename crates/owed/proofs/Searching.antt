-- The search for the lowest place that is short, which looks at the weights above 0 alone: a place whose weight is 0 is not short.
-- Assumes nothing.
use mathlib.Core.Path.{◌≡◌, sym}
use mathlib.Core.Bool.{Bool, true, not}
use mathlib.Core.List.{List}
use Prim.Native.Nat.{ℕ, ◌+◌, ◌<◌, ◌≤◌}
use native.Mathlib.Omega.{arith}
use borrow.Author.Tests.{lt-ltb, le-ltb}
use Rattle.model.specs.Tab.{all}
use Rattle.model.proofs.Alls.{all-turn}
use Rattle.forms.specs.Word.{byte, word}
use Rattle.forms.specs.Places.{mark_at}
use Rattle.owed.specs.Marks.{is_short, short_place}
use Rattle.owed.specs.Weights.{AreZero}
use Rattle.owed.proofs.ModelTests.{lowest-found, lowest_end}
use Rattle.owed.proofs.Passing.{all-on, same}

-- no place before `at` is short, and the weights from there up to p are 0
module _ (ws b : List ℕ) (at p : ℕ) (none : all at (λ k. not (is_short ws 0 b k)) ≡ true) (zeros : AreZero ws at p) where
  abbrev has : ℕ → Bool
  has = (λ k. not (is_short ws 0 b k))

  weight : (k : ℕ) → byte ws (0 + k) ≡ byte ws k
  weight k = same ws k (0 + k) k (omega arith)

  none-before : all p has ≡ true
  none-before = all-on has at p none (λ q u l. rw (le-ltb (word b (mark_at q)) (byte ws (0 + q)) (omega (arith, weight q, zeros q u l))))

  pub search-end : short_place ws 0 b p ≡ p
  unfolding short_place
  search-end = sym (lowest_end (is_short ws 0 b) p p (omega arith) (omega arith) none-before)

  module _ (w m : ℕ) (weighs : w ≡ byte ws p) (holds : m ≡ word b (mark_at p)) where
    pub search-turn : w ≤ m → (behind : ℕ) → behind ≡ p + 1 → all behind (λ k. not (is_short ws 0 b k)) ≡ true
    search-turn enough behind e =
        rw (sym e) at (all-turn has p (rw (le-ltb (word b (mark_at p)) (byte ws (0 + p)) (omega (arith, weight p)))) none-before)

    pub search-stop : (n : ℕ) → p < n → m < w → p ≡ short_place ws 0 b n
    unfolding short_place
    search-stop n l lacks =
        lowest-found (is_short ws 0 b) n p l (lt-ltb (word b (mark_at p)) (byte ws (0 + p)) (omega (arith, weight p))) none-before
