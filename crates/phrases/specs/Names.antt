-- The file of names, as a list of bytes: its lines, what each says, the bad ones, and the name of a place or a transition.
-- Assumes nothing.
use Rattle.std.specs.Prelude.{Bool, false, ◌&&◌, not, cond, List, [], ◌∷◌, ℕ, ◌+◌, ◌*◌, ◌-◌, ◌<◌, ◌≤◌, eqb, leb, length, take, drop, Option, Some, None, is_none}
use Rattle.std.specs.List.{list_all, slice_split}
use Rattle.phrases.specs.declared.names.Kind.{Kind}
use Rattle.phrases.specs.declared.names.Kind.TheVariants as kind
use Rattle.phrases.specs.declared.names.Named.{Named}
use Rattle.phrases.specs.declared.names.Thing.{Thing}
use Rattle.phrases.specs.Bytes.{byte, starts_with}

-- LINES

-- from one place of the file to another
abbrev pub part : ℕ → ℕ → Named
part from to = record { from = from; to = to }

-- the bytes of a part
abbrev pub bytes_in : List ℕ → Named → List ℕ
bytes_in names p = take (p.to - p.from) (drop p.from names)

-- of a part that may be none: no bytes
abbrev pub bytes_of : List ℕ → Option Named → List ℕ
bytes_of names None = []
bytes_of names (Some p) = bytes_in names p

-- the lines, each without the byte 10 that ends it; behind the last of these bytes stands one more, which has no bytes if the file ends there
abbrev pub lines_of : List ℕ → List (List ℕ)
lines_of names = slice_split (λ b. eqb b 10) names

-- ONE LINE

-- `place ` and `transition `, in ASCII
abbrev pub place_word : List ℕ
place_word = 112 ∷ 108 ∷ 97 ∷ 99 ∷ 101 ∷ 32 ∷ []

abbrev pub transition_word : List ℕ
transition_word = 116 ∷ 114 ∷ 97 ∷ 110 ∷ 115 ∷ 105 ∷ 116 ∷ 105 ∷ 111 ∷ 110 ∷ 32 ∷ []

-- a number is at most this
abbrev pub number_most : ℕ
number_most = 63

-- a name has at most so many bytes
abbrev pub name_most : ℕ
name_most = 40

-- `0` to `9`
abbrev pub is_digit : ℕ → Bool
is_digit b = leb 48 b && leb b 57

-- a byte of a name
abbrev pub is_visible : ℕ → Bool
is_visible b = leb 33 b && not (eqb b 127)

-- each byte is visible
abbrev pub are_all_visible : List ℕ → Bool
are_all_visible name = list_all is_visible name

-- a name: 1 to 40 bytes, each of them visible
abbrev pub is_name : List ℕ → Bool
is_name name = leb 1 (length name) && (leb (length name) name_most && are_all_visible name)

-- what a line says: that the thing of this number has this name
pub record Said : Type 0 where
  pub number : ℕ
  pub name : List ℕ

-- what the code's own record of it holds
abbrev pub shown : Thing → Said
shown t = record { number = t.number; name = t.name.now }

-- a number of at most 63, and a name
unfoldable pub named : ℕ → List ℕ → Option Said
named number name = cond (leb number number_most && is_name name) (Some (record { number = number; name = name })) None

-- behind the word: one digit, a blank and a name, or two digits, a blank and a name
unfoldable pub thing_of : List ℕ → Option Said
thing_of rest =
    cond (is_digit (byte rest 0) && eqb (byte rest 1) 32) (named (byte rest 0 - 48) (drop 2 rest))
    (cond (is_digit (byte rest 0) && (is_digit (byte rest 1) && eqb (byte rest 2) 32))
    (named ((byte rest 0 - 48) * 10 + (byte rest 1 - 48)) (drop 3 rest))
    None)

-- what a line says of a thing of the kind that this word tells
unfoldable pub thing_in : List ℕ → List ℕ → Option Said
thing_in line word = cond (starts_with line word) (thing_of (drop (length word) line)) None

-- neither empty nor the name of a place or a transition
unfoldable pub is_bad : List ℕ → Bool
is_bad line = not (eqb (length line) 0) && (is_none (thing_in line place_word) && is_none (thing_in line transition_word))

-- THE FILE

-- a bad line, before which k others stand, with a number above `after`
unfoldable pub is_due : ℕ → ℕ → List ℕ → Bool
is_due after k line = leb after k && is_bad line

-- the number of the first such line of these, before which k others stand
unfoldable pub next_bad_in : ℕ → ℕ → List (List ℕ) → Option ℕ
next_bad_in after k [] = None
next_bad_in after k (l ∷ ls) = cond (is_due after k l) (Some (k + 1)) (next_bad_in after (k + 1) ls)

-- of all lines
unfoldable pub next_bad : List ℕ → ℕ → Option ℕ
next_bad names after = next_bad_in after 0 (lines_of names)

-- the line names the thing of this number
abbrev pub does_name : Option Said → ℕ → Bool
does_name None number = false
does_name (Some t) number = eqb t.number number

-- how many bytes its name has
abbrev pub name_length : Option Said → ℕ
name_length None = 0
name_length (Some t) = length t.name

-- the name in the first of these lines, of which the first begins at `from`, that names this thing; it stands at its line's end
unfoldable pub name_in : List ℕ → ℕ → ℕ → List (List ℕ) → Option Named
name_in word number from [] = None
name_in word number from (l ∷ ls) =
    cond (does_name (thing_in l word) number)
    (Some (part (from + length l - name_length (thing_in l word)) (from + length l)))
    (name_in word number (from + length l + 1) ls)

-- in all lines
unfoldable pub name_by : List ℕ → List ℕ → ℕ → Option Named
name_by names word number = name_in word number 0 (lines_of names)

-- of a place or a transition
abbrev pub word_of : Kind → List ℕ
word_of kind.Place = place_word
word_of kind.Transition = transition_word

abbrev pub name_of : List ℕ → Kind → ℕ → Option Named
name_of names k number = name_by names (word_of k) number

-- a name has 1 to 40 bytes, and no more than what it stands in
abbrev pub FitsIn : List ℕ → List ℕ → Type 0
FitsIn name line = (0 < length name) × (length name ≤ name_most) × (length name ≤ length line)

-- a part of a file of so many bytes that has 1 to 40 bytes
abbrev pub IsPart : Named → ℕ → Type 0
IsPart p n = (p.from < p.to) × (p.to ≤ n) × (p.to ≤ p.from + name_most)
