-- A block of words moved by one place: the word that comes to place k of the block that starts at `base`.
-- Assumes nothing.
use Rattle.std.specs.Prelude.{cond, List, ℕ, zero, suc, ◌+◌, ◌*◌, ltb}
use Rattle.forms.specs.Word.{word}

-- from the place before, and 0 to the first
unfoldable pub later : List ℕ → ℕ → ℕ → ℕ
later s base zero = 0
later s base (suc k) = word s (base + 2 * k)

-- from the place behind, and 0 to the last of n
unfoldable pub sooner : List ℕ → ℕ → ℕ → ℕ → ℕ
sooner s base n k = cond (ltb (suc k) n) (word s (base + 2 * suc k)) 0
