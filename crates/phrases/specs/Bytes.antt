-- Bytes compared with bytes.
-- Assumes nothing.
use Rattle.std.specs.Prelude.{Bool, List, ℕ, nat_eq, slice_index}
use Rattle.std.specs.List as list
use Rattle.std.specs.Str.{bytes_eq}

-- the byte at a place, and 0 past the end
abbrev pub byte : List ℕ → ℕ → ℕ
byte s i = slice_index s i

-- the text begins with the word
abbrev pub starts_with : List ℕ → List ℕ → Bool
starts_with text word = list.starts_with nat_eq text word

-- the text is the word
abbrev pub is_same : List ℕ → List ℕ → Bool
is_same text word = bytes_eq text word
