-- What is owed, told of bytes: computed.
-- Assumes nothing.
use mathlib.Core.Path.{refl}
use Rattle.model.specs.Tab.{tab, all, largest, least, how_many, lowest}
use Rattle.model.specs.Net.{width, tokens, count, build}
use Rattle.model.specs.Cases.{childrens_row}
use Rattle.model.specs.Rules.{lacking_place, is_enabled, has_no_start_owed, has_no_end_owed, has_nothing_running, times, degree}
use Rattle.model.specs.Owed.{does_owe_start, does_owe_end, standing_of, owed}
use Rattle.forms.specs.Word.{word}
use Rattle.forms.specs.Places.{count_at}
use Rattle.forms.specs.Stored.{state_of}
use Rattle.owed.specs.Bits.{word_of}
use Rattle.owed.specs.Marks.{short_place}
use Rattle.owed.specs.Edges.{OwedNumbers, BitNumbers}

pub owed-numbers : OwedNumbers
unfolding
    tab all largest least how_many lowest width tokens count build childrens_row lacking_place is_enabled has_no_start_owed has_no_end_owed has_nothing_running times degree
    does_owe_start does_owe_end standing_of owed word count_at state_of word_of
owed-numbers = record { initial = refl; second = refl; due = refl; running = refl; rest = refl; once = refl; often = refl }

pub bit-numbers : BitNumbers
unfolding word_of short_place lowest word
bit-numbers = record { highest = refl; is_set = refl; is_not = refl; lowest_place = refl; no-place = refl }
