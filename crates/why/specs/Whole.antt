-- What the telling comes to: the last state that it shows is the one that the whole log leaves, and the words of a state are its markings and counts.
-- Assumes nothing.
use Rattle.std.specs.Prelude.{◌≡◌, false, List, ℕ, ◌+◌, ◌*◌, ◌<◌}
use Rattle.model.specs.Net.{Net, width, tokens, count}
use Rattle.forms.specs.Stored.{state_of}
use Rattle.forms.specs.States.{IsState}
use Rattle.engine.specs.Calls.{run_left}
use Rattle.why.specs.declared.phrase.Word.TheVariants as words
use Rattle.why.specs.Phrase.{phrase}
use Rattle.why.specs.declared.cursor.Cursor.{Cursor}
use Rattle.why.specs.State.{word_count, held_phrase}
use Rattle.why.specs.Said.{Going}
use Rattle.why.specs.Report.{Given, reached, last_step}

-- the state behind the last step is what a run of the whole log leaves: for a refused log, the state just before the refused event
abbrev pub ShowsLeft : Given → Type 0
ShowsLeft g = reached g (last_step g.found) ≡ run_left g.net g.first g.log false

-- each word of a state of N, as it is told: the marking of a place, or the count of a transition at an age
pub record TellsWords (N : Net) (s : List ℕ) : Type 0 where
  pub how-many : word_count s ≡ N.places + N.transitions * width N
  pub marks_are : (p : ℕ) → p < N.places → held_phrase s p ≡ phrase words.Mark p (tokens (state_of N s) p) 0 0
  pub counts_are : (t j : ℕ) → t < N.transitions → j < width N
      → held_phrase s (N.places + (t * width N + j)) ≡ phrase words.Run t j (count (state_of N s) t j) 0

pub record Whole : Type 0 where
  pub shows_left : (g : Given) (state : List ℕ) (c : Cursor) → Going g state c → ShowsLeft g
  pub tells_words : (N : Net) (s : List ℕ) → IsState N s → TellsWords N s
