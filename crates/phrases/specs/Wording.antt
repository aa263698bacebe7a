-- What stands in a buffer when words were put there.
-- Assumes nothing.
use Rattle.std.specs.Prelude.{◌≡◌, ◌&&◌, cond, List, [], ◌∷◌, ℕ, ◌+◌, ◌-◌, eqb, leb, length, set, slice_index}
use Rattle.std.proofs.Math.Seq.{paste}
use Rattle.text.specs.Lines.{digits_most, space, Spelt}
use Rattle.phrases.specs.declared.names.Kind.{Kind}
use Rattle.phrases.specs.declared.names.Kind.TheVariants as kind
use Rattle.phrases.specs.Names.{name_most, bytes_of, name_of}

-- a number, a blank and a name have at most so many bytes
abbrev pub piece_most : ℕ
piece_most = digits_most + 1 + name_most

-- what a byte of the words stands for: itself, or a number with a name behind it, which may have no bytes
pub data Meaning : Type 0 where
  itself : Meaning
  number : ℕ → List ℕ → Meaning

-- the number that A, B, C or D stands for
abbrev pub chosen : ℕ → List ℕ → ℕ
chosen b ns = slice_index ns (b - 65)

-- the first number, with the name of that place or transition
abbrev pub thing : List ℕ → List ℕ → Kind → Meaning
thing ns names k = Meaning.number (slice_index ns 0) (bytes_of names (name_of names k (slice_index ns 0)))

-- P, T, A to D, and any other byte
unfoldable pub meaning : List ℕ → List ℕ → ℕ → Meaning
meaning ns names b =
    cond (eqb b 80) (thing ns names kind.Place)
    (cond (eqb b 84) (thing ns names kind.Transition)
    (cond (leb 65 b && leb b 68) (Meaning.number (chosen b ns) []) Meaning.itself))

-- a blank and the name from `at` on, or nothing where the name has no bytes; and the place behind
unfoldable pub called : List ℕ → ℕ → List ℕ → List ℕ
called before at name =
    cond (eqb (length name) 0) before (paste (set before at space) (at + 1) name (length name))

unfoldable pub behind_name : ℕ → List ℕ → ℕ
behind_name at name = cond (eqb (length name) 0) at (at + 1 + length name)

-- the number stands in decimal from `at` on, and the name behind it, up to `end`; all else is as before
pub record Numbered (before : List ℕ) (at n : ℕ) (name after : List ℕ) (end : ℕ) : Type 0 where
  pub spelt : List ℕ
  pub last : ℕ
  pub number : Spelt before at n spelt last
  pub stands : after ≡ called spelt last name
  pub ends : end ≡ behind_name last name

-- what the byte b stands for stands from `at` to `end`; all else is as before
abbrev pub Meant : List ℕ → ℕ → ℕ → Meaning → List ℕ → ℕ → Type 0
Meant before at b Meaning.itself after end = (after ≡ set before at b) × (end ≡ at + 1)
Meant before at b (Meaning.number n name) after end = Numbered before at n name after end

-- what b stands for among these words, with these numbers
pub record Piece (ns names before : List ℕ) (at b : ℕ) (after : List ℕ) (end : ℕ) : Type 0 where
  pub meant : Meant before at b (meaning ns names b) after end

-- the words stand from `at` to `end`, one piece behind the other; all else is as before
pub data Worded : List ℕ → List ℕ → List ℕ → ℕ → List ℕ → List ℕ → ℕ → Type 0 where
  none : {ns names b : List ℕ} {at : ℕ} → Worded ns names b at [] b at
  more : {ns names b b₁ b' : List ℕ} {at w at₁ end : ℕ} {ws : List ℕ}
      → Piece ns names b at w b₁ at₁ → Worded ns names b₁ at₁ ws b' end → Worded ns names b at (w ∷ ws) b' end
