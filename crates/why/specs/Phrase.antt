-- A phrase: its words, and the numbers that stand in them.
-- Assumes nothing.
use Rattle.std.specs.Prelude.{ℕ, ◌-◌, List, [], ◌∷◌, ◌++◌, length, replicate}
use Rattle.why.specs.declared.phrase.Word.{Word}
use Rattle.why.specs.declared.phrase.Phrase.{Phrase}

-- no words have more numbers in them
abbrev pub numbers_most : ℕ
numbers_most = 4

-- these numbers, and 0 for each that is not given
abbrev pub phrase_of : Word → List ℕ → Phrase
phrase_of word numbers = record { word = word; numbers = numbers ++ replicate (numbers_most - length numbers) 0 }

abbrev pub phrase : Word → ℕ → ℕ → ℕ → ℕ → Phrase
phrase word first second third fourth = phrase_of word (first ∷ second ∷ third ∷ fourth ∷ [])
