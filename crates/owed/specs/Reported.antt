-- The owed report as the code tells it: each set of transitions as a word, and what the model's report has.
-- Assumes nothing.
use Rattle.std.specs.Prelude.{ℕ}
use Rattle.model.specs.Net.{Net, State}
use Rattle.model.specs.Owed.{owed}
use Rattle.owed.specs.declared.report.OwedSet.{OwedSet}
use Rattle.owed.specs.declared.report.Owed.{Owed}
use Rattle.owed.specs.Bits.{word_of}

abbrev pub set_of : ℕ → ℕ → ℕ → OwedSet
set_of word count lowest = record { word = word; count = count; lowest = lowest }

abbrev pub reported : Net → State → Owed
reported N S = record {
  starts = set_of (word_of N.transitions (owed N S).starts) (owed N S).start_count (owed N S).lowest_start;
  ends = set_of (word_of N.transitions (owed N S).ends) (owed N S).end_count (owed N S).lowest_end;
  standing = (owed N S).standing;
}
