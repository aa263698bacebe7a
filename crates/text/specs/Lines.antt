-- What stands in a buffer when a part of a line was put there.
-- Assumes nothing.
use Rattle.std.specs.Prelude.{◌≡◌, cond, List, [], ◌∷◌, ℕ, zero, suc, ◌+◌, ◌*◌, ◌/◌, ◌%◌, eqb, length, get_or, set, map}
use Rattle.std.specs.Borrow.{Bor}
use Rattle.std.proofs.Math.Seq.{paste}
use Rattle.io.specs.Digits.{hex_digit_ascii, last_digits, IsDigitCount}

-- a number of 64 bits has at most so many digits in decimal
abbrev pub digits_most : ℕ
digits_most = 20

-- a field is a blank and a number
abbrev pub field_most : ℕ
field_most = 1 + digits_most

-- the byte between two fields
abbrev pub space : ℕ
space = 32

-- the byte at the end of a line
abbrev pub line_end : ℕ
line_end = 10

-- what stands for a buffer with no bytes
abbrev pub dash : ℕ
dash = 45

-- a buffer of n bytes has at most so many as a field
abbrev pub buffer_most : ℕ → ℕ
buffer_most n = 2 + 2 * n

-- what several lent buffers hold
abbrev pub contents : List (Bor (List ℕ)) → List (List ℕ)
contents buffers = map (λ b. b.now) buffers

-- and so many take at most so many
abbrev pub buffers_most : List (List ℕ) → ℕ
buffers_most [] = 0
buffers_most (bytes ∷ rest) = buffer_most (length bytes) + buffers_most rest

-- and a line, its end included, with a name of so many bytes and so many numbers, and no buffer
abbrev pub line_most : ℕ → ℕ → ℕ
line_most named numbers = named + numbers * field_most + 1

-- n stands in decimal from `at` to `end`, with as few digits as hold it and at least one; all else is as before
pub record Spelt (before : List ℕ) (at n : ℕ) (after : List ℕ) (end : ℕ) : Type 0 where
  pub places : ℕ
  pub fewest : IsDigitCount 10 1 n places
  pub ends : end ≡ at + places
  pub stands : after ≡ paste before at (last_digits 10 places n) places

-- the numbers stand in decimal from `at` to `end`, a blank before each; all else is as before
pub data Fields : List ℕ → ℕ → List ℕ → List ℕ → ℕ → Type 0 where
  none : {b : List ℕ} {at : ℕ} → Fields b at [] b at
  more : {b b₁ b' : List ℕ} {at n at₁ end : ℕ} {ns : List ℕ}
      → Spelt (set b at space) (at + 1) n b₁ at₁ → Fields b₁ at₁ ns b' end → Fields b at (n ∷ ns) b' end

-- the first n bytes stand in hex from `at` on, the higher digit first; all else is as before
unfoldable pub hexed : List ℕ → ℕ → List ℕ → ℕ → List ℕ
hexed before at bytes zero = before
hexed before at bytes (suc n) =
    set
    (set (hexed before at bytes n) (at + 2 * n) (hex_digit_ascii (get_or bytes n 0 / 16)))
    (at + 2 * n + 1)
    (hex_digit_ascii (get_or bytes n 0 % 16))

-- a buffer as a field: a blank, and its bytes in hex, or `-` where it has none
unfoldable pub buffered : List ℕ → ℕ → List ℕ → List ℕ
buffered before at bytes =
    cond (eqb (length bytes) 0)
    (set (set before at space) (at + 1) dash)
    (hexed (set before at space) (at + 1) bytes (length bytes))

-- the place behind it
unfoldable pub behind_buffer : ℕ → List ℕ → ℕ
behind_buffer at bytes = cond (eqb (length bytes) 0) (at + 2) (at + 1 + 2 * length bytes)

-- several, one behind the other; and the place behind them
abbrev pub all_buffered : List ℕ → ℕ → List (List ℕ) → List ℕ
all_buffered before at [] = before
all_buffered before at (bytes ∷ rest) = all_buffered (buffered before at bytes) (behind_buffer at bytes) rest

abbrev pub behind_buffers : ℕ → List (List ℕ) → ℕ
behind_buffers at [] = at
behind_buffers at (bytes ∷ rest) = behind_buffers (behind_buffer at bytes) rest

-- a name, the numbers, the buffers and a line end stand from `at` to `end`; all else is as before
pub record Line (before : List ℕ) (at : ℕ) (name ns : List ℕ) (buffers : List (List ℕ)) (after : List ℕ) (end : ℕ) : Type 0 where
  pub numbered : List ℕ
  pub last : ℕ
  pub fields : Fields (paste before at name (length name)) (at + length name) ns numbered last
  pub ended : after ≡ set (all_buffered numbered last buffers) (behind_buffers last buffers) line_end
  pub ends : end ≡ behind_buffers last buffers + 1
