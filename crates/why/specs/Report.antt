-- What menuwhy tells, phrase by phrase: the steps, how the log ended, how the last state stands to it. `xOn` is all that is told from x on.
-- Assumes nothing.
use Rattle.std.specs.Prelude.{Bool, true, false, ◌&&◌, ◌||◌, cond, List, [], ◌∷◌, ℕ, zero, suc, ◌+◌, ◌-◌, ◌/◌, min, eqb, ltb, length, Option, Some, None}
use Rattle.std.specs.Option.{is_none, option_map_or}
use Rattle.model.specs.declared.event.Event.{Event}
use Rattle.model.specs.declared.event.Event.TheVariants as event
use Rattle.model.specs.Event.{event_of}
use Rattle.forms.specs.Word.{byte}
use Rattle.forms.specs.Places.{event_at, row_at, net_length}
use Rattle.runs.specs.declared.told.WalkTold.{WalkTold}
use Rattle.engine.specs.declared.answers.Verdict.{Verdict}
use Rattle.engine.specs.Calls.{step_told, owed_told}
use Rattle.why.specs.declared.phrase.Word.{Word}
use Rattle.why.specs.declared.phrase.Phrase.{Phrase}
use Rattle.why.specs.declared.phrase.Word.TheVariants as words
use Rattle.why.specs.Phrase.{phrase}
use Rattle.why.specs.declared.found.LastFit.{LastFit}
use Rattle.why.specs.declared.found.LastFound.{LastFound}
use Rattle.why.specs.declared.found.LastFound.TheVariants as back
use Rattle.why.specs.declared.found.Found.{Found}
use Rattle.why.specs.declared.found.Wish.{Wish}
use Rattle.why.specs.declared.cursor.StepPart.{StepPart}
use Rattle.why.specs.declared.cursor.StepPart.TheVariants as step
use Rattle.why.specs.declared.cursor.VerdictPart.{VerdictPart}
use Rattle.why.specs.declared.cursor.VerdictPart.TheVariants as verdict
use Rattle.why.specs.declared.cursor.LastPart.{LastPart}
use Rattle.why.specs.declared.cursor.LastPart.TheVariants as last
use Rattle.why.specs.declared.cursor.FaultPart.{FaultPart}
use Rattle.why.specs.declared.cursor.FaultPart.TheVariants as fault
use Rattle.why.specs.declared.cursor.Part.{Part}
use Rattle.why.specs.declared.cursor.Part.TheVariants as part
use Rattle.why.specs.declared.cursor.Cursor.{Cursor}
use Rattle.why.specs.Each.{each_from}
use Rattle.why.specs.State.{length_field, word_count, is_held, held_phrase, owed_most, does_owe, owed_phrase}
use Rattle.why.specs.Portions.{behind}

-- what is told of: the net, the log, the net's initial state, what was found, and what was asked
pub record Given : Type 0 where
  pub net : List ℕ
  pub log : List ℕ
  pub first : List ℕ
  pub found : Found
  pub wish : Wish

-- words with no number in them
abbrev pub plain : Word → Phrase
plain word = phrase word 0 0 0 0

-- AN EVENT

abbrev pub say_event : Event → ℕ → ℕ → Phrase
say_event event.Tick first second = plain words.Tick
say_event (event.Start t) first second = phrase words.Start t 0 0 0
say_event (event.End t age) first second = phrase words.End t age.0 0 0
say_event event.Malformed first second = phrase words.NoEvent first second 0 0

unfoldable pub event_phrase : List ℕ → ℕ → Phrase
event_phrase log i =
    say_event (event_of (byte log (event_at i)) (byte log (event_at i + 1))) (byte log (event_at i)) (byte log (event_at i + 1))

-- THE STEPS. The engine's own step says where each begins and ends in the log

-- the first event of step k, and the one behind its last
abbrev pub first_event : List ℕ → ℕ → ℕ
first_event log k = ((step_told log k).start - event_at 0) / 2

abbrev pub end_event : List ℕ → ℕ → ℕ
end_event log k = first_event log k + (step_told log k).length / 2

-- the last step that is shown is the one that the log ended in; all before it were done
abbrev pub last_step : Found → ℕ
last_step found = found.told.ticks

-- and the events of step k that were done end here
unfoldable pub done_event : List ℕ → Found → ℕ → ℕ
done_event log found k = cond (ltb k (last_step found)) (min (end_event log k) found.told.done) found.told.done

-- step 0, or a later one behind its tick, with the number of its first event
unfoldable pub opening_phrase : ℕ → ℕ → Phrase
opening_phrase k first = cond (eqb k 0) (plain words.First) (phrase words.Step k first 0 0)

-- what the state behind a step holds is shown where it was asked for, and behind the last
abbrev pub is_shown : Wish → Found → ℕ → Bool
is_shown wish found k = wish.states || eqb k (last_step found)

abbrev pub stands_phrase : List ℕ → List ℕ → Phrase
stands_phrase net state = plain (words.Stands (owed_told net state).standing)

module _ (g : Given) where
  abbrev pub reached : ℕ → List ℕ
  reached k = behind g.net g.first g.log (done_event g.log g.found k)

  -- what the state behind step k holds, from word i on
  abbrev pub state_on : ℕ → ℕ → List Phrase → List Phrase
  state_on k i rest =
      each_from (is_held (reached k)) (held_phrase (reached k)) (word_count (reached k) - i) i (plain words.Others ∷ rest)

  -- the events of step k from event i on, and how the state behind them stands
  abbrev pub events_on : ℕ → ℕ → List Phrase → List Phrase
  events_on k i rest =
      each_from (λ _. true) (event_phrase g.log) (done_event g.log g.found k - i) i
      (stands_phrase g.net (reached k) ∷ cond (is_shown g.wish g.found k) (state_on k 0 rest) rest)

  -- n steps from step k on
  unfoldable pub steps_on : ℕ → ℕ → List Phrase → List Phrase
  steps_on zero k rest = rest
  steps_on (suc n) k rest = opening_phrase k (first_event g.log k) ∷ events_on k (first_event g.log k) (steps_on n (suc k) rest)

-- THE LAST LINE: the log was accepted, and the last state, where there is one, is the one that it leads to

-- the last state, where there is one, is the one that the log leads to
abbrev pub is_led_to : LastFound → Bool
is_led_to back.NotGiven = true
is_led_to (back.NotFit check expected) = false
is_led_to (back.Fit fit) = is_none fit.other

abbrev pub is_good : Found → Bool
is_good found = eqb found.told.number 0 && is_led_to found.last

abbrev pub end_on : Found → List Phrase
end_on found = plain (cond (is_good found) words.AcceptedEnd words.RefusedEnd) ∷ []

-- WHAT WAS EXPECTED

-- of a net or a log, by number
abbrev pub places_of : List ℕ → ℕ
places_of net = byte net 5

abbrev pub row_of : List ℕ → ℕ → ℕ
row_of net t = row_at (places_of net) (min t 255)

unfoldable pub expected_of : List ℕ → List ℕ → ℕ → ℕ → Phrase
expected_of net log number t =
    cond (eqb number 10) (phrase (words.Expected number) (length log) (length_field log) (byte log 0) 0)
    (cond (eqb number 1) (phrase (words.Expected number) (length net) (length_field net) (byte net 0) 0)
    (cond (eqb number 2) (phrase (words.Expected number) (places_of net) (byte net 6) 0 0)
    (cond (eqb number 3) (phrase (words.Expected number) (net_length (places_of net) (byte net 6)) (places_of net) (byte net 6) (length net))
    (phrase (words.Expected number) t (byte net (row_of net t)) (byte net (row_of net t + 1)) 0))))

-- A NET OR A LOG THAT IS REFUSED

abbrev pub fault_opening : Found → Phrase
fault_opening found = plain (cond (eqb found.told.number 10) words.LogRefused words.NetRefused)

-- a number's meaning, for a transition
abbrev pub meaning : ℕ → ℕ → Phrase
meaning number t = phrase (words.Why number) t 0 0 0

-- no lawful state leads to the last state by this event and those behind it; for 28, not with the start that stands before it in its step
abbrev pub no_way_phrase : WalkTold → Phrase
no_way_phrase walk = phrase (cond (eqb walk.number 28) words.NoWayStarted words.NoWay) walk.index 0 0 0

module _ (g : Given) where
  abbrev pub fault_on : FaultPart → List Phrase
  fault_on fault.Expected = expected_of g.net g.log g.found.told.number g.found.told.index ∷ end_on g.found
  fault_on fault.Why = meaning g.found.told.number g.found.told.index ∷ expected_of g.net g.log g.found.told.number g.found.told.index ∷ end_on g.found
  fault_on fault.Opening =
      fault_opening g.found ∷ meaning g.found.told.number g.found.told.index
      ∷ expected_of g.net g.log g.found.told.number g.found.told.index ∷ end_on g.found

  -- THE LAST STATE

  -- of one that is no state of the net
  abbrev pub not_fit_on : Verdict → Phrase → LastPart → List Phrase
  not_fit_on check expected last.Opening = plain words.LastRefused ∷ meaning check.number check.index ∷ expected ∷ end_on g.found
  not_fit_on check expected last.Check = meaning check.number check.index ∷ expected ∷ end_on g.found
  not_fit_on check expected last.Expected = expected ∷ end_on g.found
  not_fit_on check expected _ = end_on g.found

  -- of one that is: where the whole walk back ended, beside the initial state
  abbrev pub front_on : LastFit → List Phrase
  front_on fit = option_map_or (λ front. front ∷ end_on g.found) fit.front (end_on g.found)

  abbrev pub no_way_on : LastFit → List Phrase
  no_way_on fit = no_way_phrase fit.walk ∷ end_on g.found

  abbrev pub walk_why_on : LastFit → List Phrase
  walk_why_on fit = plain (words.BackWhy fit.walk.number) ∷ no_way_on fit

  abbrev pub walk_event_on : LastFit → List Phrase
  walk_event_on fit = event_phrase g.log fit.walk.index ∷ walk_why_on fit

  -- the walk back reaches the log's front, or stops
  abbrev pub walk_on : LastFit → List Phrase
  walk_on fit =
      cond (eqb fit.walk.number 0)
      (plain words.WalkEnds ∷ front_on fit)
      (phrase words.WalkStops fit.walk.index 0 0 0 ∷ walk_event_on fit)

  abbrev pub other_on : LastFit → List Phrase
  other_on fit = option_map_or (λ other. other ∷ walk_on fit) fit.other (walk_on fit)

  -- the log leads to it, or to another; or the log was refused, just behind it or elsewhere
  abbrev pub fit_opening_on : LastFit → List Phrase
  fit_opening_on fit =
      cond (eqb g.found.told.number 0)
      (cond (is_none fit.other) (plain words.LastSame ∷ end_on g.found) (plain words.LastOther ∷ other_on fit))
      (cond (is_none fit.other) (plain words.LastBefore ∷ walk_on fit) (walk_on fit))

  abbrev pub fit_on : LastFit → LastPart → List Phrase
  fit_on fit last.Opening = fit_opening_on fit
  fit_on fit last.Other = other_on fit
  fit_on fit last.Walk = walk_on fit
  fit_on fit last.Event = walk_event_on fit
  fit_on fit last.Why = walk_why_on fit
  fit_on fit last.NoWay = no_way_on fit
  fit_on fit last.Front = front_on fit
  fit_on fit _ = end_on g.found

  -- by what was found of it (each of the two has parts of its own; at a part of the other the last line alone is left)
  abbrev pub last_found_on : LastFound → LastPart → List Phrase
  last_found_on back.NotGiven p = end_on g.found
  last_found_on (back.NotFit check expected) p = not_fit_on check expected p
  last_found_on (back.Fit fit) p = fit_on fit p

  abbrev pub last_on : LastPart → List Phrase
  last_on p = last_found_on g.found.last p

  -- HOW THE LOG ENDED

  -- how many events stand behind the refused one
  abbrev pub behind_on : List Phrase
  behind_on = phrase words.Behind (g.found.events - g.found.told.index - 1) 0 0 0 ∷ last_on last.Opening

  -- what the state behind the last event that was done owes, from bit i of the two words on
  abbrev pub owed_on : ℕ → List Phrase
  owed_on i =
      each_from
      (does_owe (owed_told g.net (reached g (last_step g.found))).starts.word (owed_told g.net (reached g (last_step g.found))).ends.word)
      owed_phrase (owed_most - i) i
      (plain words.OwedEnd ∷ cond (eqb g.found.told.number 0) (last_on last.Opening) behind_on)

  -- for 13 the place that is short
  abbrev pub lacks_on : List Phrase
  lacks_on = phrase words.Lacks g.found.told.short.place g.found.told.short.lacks 0 0 ∷ owed_on 0

  abbrev pub why_on : List Phrase
  why_on = meaning g.found.told.number 0 ∷ cond (eqb g.found.told.number 13) lacks_on (owed_on 0)

  abbrev pub event_on : List Phrase
  event_on = event_phrase g.log g.found.told.index ∷ why_on

  abbrev pub verdict_on : VerdictPart → ℕ → List Phrase
  verdict_on verdict.Outcome i =
      cond (eqb g.found.told.number 0)
      (phrase words.Accepted g.found.events g.found.told.ticks 0 0 ∷ owed_on 0)
      (phrase words.Refused g.found.told.index g.found.told.ticks 0 0 ∷ event_on)
  verdict_on verdict.Event i = event_on
  verdict_on verdict.Why i = why_on
  verdict_on verdict.Lacks i = lacks_on
  verdict_on verdict.Owed i = owed_on i
  verdict_on verdict.Behind i = behind_on

  -- ALL OF IT

  abbrev pub step_on : StepPart → ℕ → ℕ → List Phrase
  step_on step.Earlier k i = phrase words.Earlier k 0 0 0 ∷ steps_on g (suc (last_step g.found) - k) k (verdict_on verdict.Outcome 0)
  step_on step.Open k i = steps_on g (suc (last_step g.found) - k) k (verdict_on verdict.Outcome 0)
  step_on step.Events k i = events_on g k i (steps_on g (last_step g.found - k) (suc k) (verdict_on verdict.Outcome 0))
  step_on step.State k i = state_on g k i (steps_on g (last_step g.found - k) (suc k) (verdict_on verdict.Outcome 0))

  -- what is still to be told, from a place of the telling on
  abbrev pub remaining_at : Part → ℕ → ℕ → List Phrase
  remaining_at (part.Step p) k i = step_on p k i
  remaining_at (part.Verdict p) k i = verdict_on p i
  remaining_at (part.Last p) k i = last_on p
  remaining_at (part.Fault p) k i = fault_on p
  remaining_at part.End k i = end_on g.found

  abbrev pub remaining : Cursor → List Phrase
  remaining c = remaining_at c.part c.step c.item

  -- and from where it goes on, if it does
  abbrev pub remaining_if : Option Cursor → List Phrase
  remaining_if None = []
  remaining_if (Some c) = remaining c
