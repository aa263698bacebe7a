-- Big-endian words of two and four bytes in a list of bytes, and runs of words put into it.
-- Assumes nothing.
use Rattle.std.specs.Prelude.{Bool, List, ℕ, zero, suc, ◌+◌, ◌*◌, ◌/◌, ◌%◌, ◌<◌, eqb, get_or, set}
use Rattle.model.specs.Tab.{all}

abbrev pub byte : List ℕ → ℕ → ℕ
byte b i = get_or b i 0

-- each element is a byte
abbrev pub Bytes : List ℕ → Type 0
Bytes b = (i : ℕ) → byte b i < 256

-- the word of two bytes that starts at i
unfoldable pub word : List ℕ → ℕ → ℕ
word b i = 256 * byte b i + byte b (i + 1)

-- the word of four bytes that starts at i
unfoldable pub word32 : List ℕ → ℕ → ℕ
word32 b i = 65536 * word b i + word b (i + 2)

-- the n words of two bytes from i on are all 0
unfoldable pub is_blank : List ℕ → ℕ → ℕ → Bool
is_blank b i n = all n (λ k. eqb (word b (i + 2 * k)) 0)

-- b with v as the word of two bytes that starts at i
unfoldable pub set_word : List ℕ → ℕ → ℕ → List ℕ
set_word b i v = set (set b i (v / 256)) (i + 1) (v % 256)

-- b with v as the word of four bytes that starts at i
unfoldable pub set_word32 : List ℕ → ℕ → ℕ → List ℕ
set_word32 b i v = set_word (set_word b i (v / 65536)) (i + 2) (v % 65536)

-- b with n words from `base` on replaced: the one at place k by f k
unfoldable pub put_words : ℕ → ℕ → (ℕ → ℕ) → List ℕ → List ℕ
put_words base zero f b = b
put_words base (suc n) f b = set_word (put_words base n f b) (base + 2 * n) (f n)

-- b with n rows of d words from `base` on replaced: the word at place j of row t by g t j
unfoldable pub put_rows : ℕ → ℕ → ℕ → (ℕ → ℕ → ℕ) → List ℕ → List ℕ
put_rows base d zero g b = b
put_rows base d (suc n) g b = put_words (base + 2 * (n * d)) d (g n) (put_rows base d n g b)
