-- A word whose bit t tells a test of number t.
-- Assumes nothing.
use Rattle.std.specs.Prelude.{Bool, ℕ, zero, suc, ◌+◌, ◌*◌, ◌/◌, ◌%◌, ◌^◌, eqb}
use Rattle.model.specs.Tab.{one_if}

-- the sum of 2 ^ t over the t below n at which the test f passes
unfoldable pub word_of : ℕ → (ℕ → Bool) → ℕ
word_of zero f = 0
word_of (suc n) f = one_if (f n) * 2 ^ n + word_of n f

-- bit t of w is set
abbrev pub bit_at : ℕ → ℕ → Bool
bit_at w t = eqb (w / 2 ^ t % 2) 1
