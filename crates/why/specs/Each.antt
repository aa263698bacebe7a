-- Those of some numbers at which a test passes, one by one.
-- Assumes nothing.
use Rattle.std.specs.Prelude.{Bool, cond, List, ◌∷◌, ℕ, zero, suc, Option}
use Rattle.std.specs.List.{find, range_with_len}
use Rattle.why.specs.declared.phrase.Phrase.{Phrase}

-- the lowest of the n numbers from i on at which the test passes
unfoldable pub next_from : (ℕ → Bool) → ℕ → ℕ → Option ℕ
next_from p n i = find p (range_with_len i n)

-- a phrase for each of them, ascending, and then the rest
unfoldable pub each_from : (ℕ → Bool) → (ℕ → Phrase) → ℕ → ℕ → List Phrase → List Phrase
each_from p f zero i rest = rest
each_from p f (suc n) i rest = cond (p i) (f i ∷ each_from p f n (suc i) rest) (each_from p f n (suc i) rest)
