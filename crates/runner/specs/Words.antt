-- The choice by the words of the engine's report. The ends' word decides first, and then the starts': one that is not 0 has as its trailing
-- zeros, which the report tells as the lowest, the transition chosen.
-- Assumes nothing.
use Rattle.std.specs.Prelude.{Some, None, ◌≡◌, cond, ℕ}
use Rattle.std.specs.Int.Count.{count_trailing_zeros}
use Rattle.model.specs.declared.event.Event.TheVariants as event
use Rattle.model.specs.Net.{Net, State}
use Rattle.model.specs.Rules.{has_nothing_running}
use Rattle.model.specs.Owed.{does_owe_start, does_owe_end}
use Rattle.owed.specs.Bits.{word_of}
use Rattle.runner.specs.Choice.{end_at_lfd, choice}

abbrev pub starts_word : Net → State → ℕ
starts_word N S = word_of N.transitions (does_owe_start N S)

abbrev pub ends_word : Net → State → ℕ
ends_word N S = word_of N.transitions (does_owe_end N S)

pub record ByWords (N : Net) (S : State) : Type 0 where
  pub end : ¬ (ends_word N S ≡ 0) → choice N S ≡ Some (end_at_lfd N (count_trailing_zeros 64 (ends_word N S)))
  pub start : ends_word N S ≡ 0 → ¬ (starts_word N S ≡ 0) → choice N S ≡ Some (event.Start (count_trailing_zeros 64 (starts_word N S)))
  pub neither : ends_word N S ≡ 0 → starts_word N S ≡ 0 → choice N S ≡ cond (has_nothing_running N S) None (Some event.Tick)
