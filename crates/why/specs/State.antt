-- The words of a state: its markings, and behind them its counts, row by row; and the phrases that say what a word holds.
-- Assumes nothing.
use Rattle.std.specs.Prelude.{Bool, not, cond, List, Option, ℕ, ◌+◌, ◌-◌, ◌*◌, ◌/◌, ◌%◌, max, eqb, ltb, length}
use Rattle.std.specs.Option.{option_map}
use Rattle.forms.specs.Word.{byte, word, word32}
use Rattle.owed.specs.Bits.{bit_at}
use Rattle.why.specs.declared.phrase.Word.{Word}
use Rattle.why.specs.declared.phrase.Phrase.{Phrase}
use Rattle.why.specs.declared.phrase.Word.TheVariants as words
use Rattle.why.specs.Phrase.{phrase}
use Rattle.why.specs.declared.state.Content.{Content}
use Rattle.why.specs.declared.state.Content.TheVariants as content
use Rattle.why.specs.declared.state.Difference.{Difference}
use Rattle.why.specs.Each.{next_from}

-- what the length field of a stored form says, and 0 where it is not whole
unfoldable pub length_field : List ℕ → ℕ
length_field s = cond (ltb (length s) 5) 0 (word32 s 1)

-- how many words a state has, by its own head: P markings, and T rows of D counts
abbrev pub word_count : List ℕ → ℕ
word_count s = byte s 5 + byte s 6 * byte s 7

-- what word i holds
unfoldable pub held : List ℕ → ℕ → ℕ
held s i = word s (8 + 2 * i)

abbrev pub is_held : List ℕ → ℕ → Bool
is_held s i = ltb 0 (held s i)

-- word i is the marking of place i, or else the count of a transition at an age
abbrev pub is_mark : List ℕ → ℕ → Bool
is_mark s i = ltb i (byte s 5)

-- (a state has at least one age)
unfoldable pub content_at : List ℕ → ℕ → Content
content_at s i = cond (is_mark s i) (content.Marking i) (content.Count ((i - byte s 5) / max 1 (byte s 7)) ((i - byte s 5) % max 1 (byte s 7)))

-- the phrase that says what word i holds
abbrev pub holds_phrase : ℕ → Content → Phrase
holds_phrase n (content.Marking p) = phrase words.Mark p n 0 0
holds_phrase n (content.Count t age) = phrase words.Run t age n 0

unfoldable pub held_phrase : List ℕ → ℕ → Phrase
held_phrase s i = holds_phrase (held s i) (content_at s i)

-- WHERE TWO STATES DIFFER

-- the first word in which they do
unfoldable pub first_other : List ℕ → List ℕ → Option ℕ
first_other a b = next_from (λ i. not (eqb (held a i) (held b i))) (word_count a) 0

-- and what it holds in each
unfoldable pub difference_of : List ℕ → List ℕ → Option Difference
difference_of a b = option_map (λ i. record { at = i; here = held a i; there = held b i }) (first_other a b)

-- said with words for a marking, or with words for a count
abbrev pub tells_apart : Word → Word → ℕ → ℕ → Content → Phrase
tells_apart at_place at_age here there (content.Marking p) = phrase at_place p here there 0
tells_apart at_place at_age here there (content.Count t age) = phrase at_age t age here there

unfoldable pub differs_phrase : Word → Word → List ℕ → Difference → Phrase
differs_phrase marks runs s d = tells_apart marks runs d.here d.there (content_at s d.at)

-- where one state differs from another, if it does
abbrev pub other_phrase : Word → Word → List ℕ → List ℕ → Option Phrase
other_phrase marks runs a b = option_map (differs_phrase marks runs a) (difference_of a b)

-- WHAT IS OWED: the starts, by the bits of one word, and behind them the ends, by those of another

abbrev pub owed_most : ℕ
owed_most = 128

unfoldable pub does_owe : ℕ → ℕ → ℕ → Bool
does_owe starts ends i = cond (ltb i 64) (bit_at starts i) (bit_at ends (i - 64))

unfoldable pub owed_phrase : ℕ → Phrase
owed_phrase i = cond (ltb i 64) (phrase words.StartOwed i 0 0 0) (phrase words.EndOwed (i - 64) 0 0 0)
