-- The numbers for the answer to an event, done or taken back, with the place that 13 tells of, and for the standing: document 01's,
-- 24 to 27 of request W4, 28 and 29 of W5.
-- Assumes nothing.
use Rattle.std.specs.Prelude.{ℕ, Result, Ok, Err, ⊤}
use Rattle.model.specs.declared.answer.Short.{Short}
use Rattle.model.specs.declared.answer.Barrier.{Barrier}
use Rattle.model.specs.declared.answer.Barrier.TheVariants as barrier
use Rattle.model.specs.declared.answer.Refusal.{Refusal}
use Rattle.model.specs.declared.answer.Refusal.TheVariants as refusal
use Rattle.model.specs.declared.answer.Standing.{Standing}
use Rattle.model.specs.declared.answer.Standing.TheVariants as standing

-- the answer to one event, done or taken back
abbrev pub Answer : Type 0
Answer = Result ⊤ Refusal

-- no place is short
abbrev pub nothing_short : Short
nothing_short = record { place = 0; lacks = 0 }

-- what is told of an answer: its number, and the place that is short
pub record Telling : Type 0 where
  pub number : ℕ
  pub short : Short

-- a number that tells of no place
abbrev pub plain : ℕ → Telling
plain number = record { number = number; short = nothing_short }

abbrev pub number_of_barrier : Barrier → ℕ
number_of_barrier barrier.SomeFresh = 21
number_of_barrier barrier.NoneStarted = 24
number_of_barrier barrier.PlaceOverfull = 25
number_of_barrier barrier.TooFewTokens = 26
number_of_barrier barrier.CountOverfull = 27

-- 13 alone tells of a place
abbrev pub telling_of_refusal : Refusal → Telling
telling_of_refusal refusal.Malformed = plain 11
telling_of_refusal refusal.NoSuchTransition = plain 12
telling_of_refusal (refusal.NotEnabled short) = record { number = 13; short = short }
telling_of_refusal refusal.OldEndOwed = plain 29
telling_of_refusal refusal.CountFull = plain 14
telling_of_refusal refusal.OutsideInterval = plain 15
telling_of_refusal refusal.OldAfterStart = plain 28
telling_of_refusal refusal.NoneOfThatAge = plain 16
telling_of_refusal refusal.PlaceFull = plain 17
telling_of_refusal refusal.StartOwed = plain 18
telling_of_refusal refusal.EndOwed = plain 19
telling_of_refusal refusal.NothingRunning = plain 20
telling_of_refusal (refusal.OnlyBack barrier) = plain (number_of_barrier barrier)

abbrev pub telling_of : Answer → Telling
telling_of (Ok _) = plain 0
telling_of (Err why) = telling_of_refusal why

abbrev pub number_of_refusal : Refusal → ℕ
number_of_refusal why = (telling_of_refusal why).number

abbrev pub short_of_refusal : Refusal → Short
short_of_refusal why = (telling_of_refusal why).short

abbrev pub number_of : Answer → ℕ
number_of answer = (telling_of answer).number

abbrev pub short_of : Answer → Short
short_of answer = (telling_of answer).short

abbrev pub number_of_standing : Standing → ℕ
number_of_standing standing.StartOwed = 1
number_of_standing standing.EndOwed = 2
number_of_standing standing.FreeToTick = 3
number_of_standing standing.AtRest = 4
