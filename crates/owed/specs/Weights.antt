-- The weights of a transition, which stand in the net from `from` on, and of which most are 0.
-- Assumes nothing.
use Rattle.std.specs.Prelude.{◌≡◌, ◌&&◌, cond, List, length, ℕ, max, ◌+◌, ◌*◌, ◌<◌, ◌≤◌, eqb, leb, Option, MatchOption}
use Rattle.forms.specs.Word.{byte}

-- two, four and eight bytes as a number, the first the lowest
unfoldable pub two_at : List ℕ → ℕ → ℕ
two_at b i = byte b i + 256 * byte b (i + 1)

unfoldable pub four_at : List ℕ → ℕ → ℕ
four_at b i = two_at b i + 65536 * two_at b (i + 2)

unfoldable pub eight_at : List ℕ → ℕ → ℕ
eight_at b i = four_at b i + 4294967296 * four_at b (i + 4)

-- of n places, the one to look at behind place p, whose weight is 0: eight places on where their weights are all 0, and else the next
unfoldable pub pass_zero : List ℕ → ℕ → ℕ → ℕ → ℕ
pass_zero net from p n = cond (leb (p + 8) n && eqb (eight_at net (from + p)) 0) (p + 8) (p + 1)

-- these are the weights w of n places
abbrev pub AreWeights : ℕ → (ℕ → ℕ) → List ℕ → Type 0
AreWeights n w weights = (length weights ≡ n) × ((p : ℕ) → p < n → byte weights p ≡ w p)

-- the weights of the places from p up to q are 0
abbrev pub AreZero : List ℕ → ℕ → ℕ → Type 0
AreZero weights p q = (k : ℕ) → p ≤ k → k < q → byte weights k ≡ 0

-- the first place from `at` on whose weight is above 0, with its weight, and the place behind it; or none where all weights from there on are 0, and
-- then the end of the weights, or `at` where that is past it
abbrev pub NextAbove : List ℕ → ℕ → Option (ℕ × ℕ) → ℕ → Type 0
NextAbove weights at found behind =
    MatchOption found (AreZero weights at (length weights) × (behind ≡ max at (length weights))) (λ x.
    (at ≤ x.0) × (x.0 < length weights) × (x.1 ≡ byte weights x.0) × (0 < x.1) × AreZero weights at x.0 × (behind ≡ x.0 + 1))
