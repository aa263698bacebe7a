-- What one call tells and where it goes on, by the bytes that it is lent (`xSaid`); and the statement of the crate: whatever is still to be told
-- begins with that phrase (`Tells`), from wherever the telling stands (`Reached`).
-- Assumes nothing.
use Rattle.std.specs.Prelude.{◌≡◌, Bool, false, cond, List, ◌∷◌, ℕ, ◌+◌, ◌-◌, ◌≤◌, eqb, ltb, Option, Some, None}
use Rattle.std.specs.Option.{is_none, option_map_or}
use Rattle.std.specs.Borrow.{Bor}
use Rattle.runs.specs.declared.told.WalkTold.{WalkTold}
use Rattle.engine.specs.declared.answers.Verdict.{Verdict}
use Rattle.engine.specs.Calls.{owed_told, run_told}
use Rattle.why.specs.declared.phrase.Phrase.{Phrase}
use Rattle.why.specs.declared.phrase.Word.TheVariants as words
use Rattle.why.specs.Phrase.{phrase}
use Rattle.replay.specs.Replayed.{is_early}
use Rattle.why.specs.declared.found.LastFit.{LastFit}
use Rattle.why.specs.declared.found.LastFound.{LastFound}
use Rattle.why.specs.declared.found.LastFound.TheVariants as back
use Rattle.why.specs.declared.found.Found.{Found}
use Rattle.why.specs.declared.found.Wish.{Wish}
use Rattle.why.specs.declared.cursor.StepPart.{StepPart}
use Rattle.why.specs.declared.cursor.StepPart.TheVariants as step
use Rattle.why.specs.declared.cursor.VerdictPart.{VerdictPart}
use Rattle.why.specs.declared.cursor.VerdictPart.TheVariants as verdict
use Rattle.why.specs.declared.cursor.LastPart.{LastPart}
use Rattle.why.specs.declared.cursor.LastPart.TheVariants as last
use Rattle.why.specs.declared.cursor.FaultPart.{FaultPart}
use Rattle.why.specs.declared.cursor.FaultPart.TheVariants as fault
use Rattle.why.specs.declared.cursor.Part.{Part}
use Rattle.why.specs.declared.cursor.Part.TheVariants as part
use Rattle.why.specs.declared.cursor.Cursor.{Cursor}
use Rattle.why.specs.declared.cursor.Said.{Said}
use Rattle.why.specs.declared.telling.Telling.{Telling}
use Rattle.why.specs.declared.telling.Begun.{Begun}
use Rattle.why.specs.Each.{next_from}
use Rattle.why.specs.State.{word_count, is_held, held_phrase, owed_most, does_owe, owed_phrase}
use Rattle.why.specs.Portions.{Ran, Fed, FeedsTo, Feeds}
use Rattle.why.specs.Report.{Given, plain, event_phrase, last_step, done_event, opening_phrase, is_shown, stands_phrase, is_good, expected_of}
use Rattle.why.specs.Report.{fault_opening, meaning, no_way_phrase, remaining, remaining_if, first_event}

-- a phrase, behind which the telling goes on
abbrev pub said : Phrase → Cursor → Said
said p c = record { phrase = p; cursor = Some c }

-- WHERE TO GO ON: another part, the next item of this one, or a step

abbrev pub go_to : Cursor → Part → Cursor
go_to c p = record { part = p; step = c.step; item = 0; fed = c.fed; started = c.started }

abbrev pub at_item : Cursor → ℕ → Cursor
at_item c i = record { part = c.part; step = c.step; item = i; fed = c.fed; started = c.started }

abbrev pub opens : Cursor → ℕ → Cursor
opens c k = record { part = part.Step step.Open; step = k; item = 0; fed = c.fed; started = c.started }

-- behind a step: the next one, or how the log ended
unfoldable pub behind_step : Found → Cursor → Cursor
behind_step found c = cond (ltb c.step (last_step found)) (opens c (c.step + 1)) (go_to c (part.Verdict verdict.Outcome))

-- A STEP

abbrev pub earlier_said : Cursor → Said
earlier_said c = said (phrase words.Earlier c.step 0 0 0) (opens c c.step)

-- its opening, once its events are fed
abbrev pub open_said : List ℕ → Found → Cursor → Bool → Said
open_said log found c started =
    said (opening_phrase c.step (first_event log c.step))
    (record { part = part.Step step.Events; step = c.step; item = first_event log c.step; fed = done_event log found c.step; started = started })

-- whether a start has happened in the step in which the telling goes on
abbrev pub started_in : Said → Bool
started_in r = option_map_or (λ c. c.started) r.cursor false

unfoldable pub events_said : List ℕ → List ℕ → List ℕ → Found → Wish → Cursor → Said
events_said net log state found wish c =
    cond (ltb c.item c.fed)
    (said (event_phrase log c.item) (at_item c (c.item + 1)))
    (cond (is_shown wish found c.step)
    (said (stands_phrase net state) (go_to c (part.Step step.State)))
    (said (stands_phrase net state) (behind_step found c)))

abbrev pub next_held : List ℕ → ℕ → Option ℕ
next_held state from = next_from (is_held state) (word_count state - from) from

unfoldable pub state_said : List ℕ → Found → Cursor → Said
state_said state found c =
    option_map_or (λ i. said (held_phrase state i) (at_item c (i + 1))) (next_held state c.item)
    (said (plain words.Others) (behind_step found c))

-- HOW THE LOG ENDED

abbrev pub next_owed : List ℕ → List ℕ → ℕ → Option ℕ
next_owed net state from = next_from (does_owe (owed_told net state).starts.word (owed_told net state).ends.word) (owed_most - from) from

unfoldable pub owed_said : List ℕ → List ℕ → Found → Cursor → Said
owed_said net state found c =
    option_map_or (λ i. said (owed_phrase i) (at_item c (i + 1))) (next_owed net state c.item)
    (cond (eqb found.told.number 0)
    (said (plain words.OwedEnd) (go_to c (part.Last last.Opening)))
    (said (plain words.OwedEnd) (go_to c (part.Verdict verdict.Behind))))

unfoldable pub outcome_said : Found → Cursor → Said
outcome_said found c =
    cond (eqb found.told.number 0)
    (said (phrase words.Accepted found.events found.told.ticks 0 0) (go_to c (part.Verdict verdict.Owed)))
    (said (phrase words.Refused found.told.index found.told.ticks 0 0) (go_to c (part.Verdict verdict.Event)))

unfoldable pub why_said : Found → Cursor → Said
why_said found c =
    cond (eqb found.told.number 13)
    (said (meaning found.told.number 0) (go_to c (part.Verdict verdict.Lacks)))
    (said (meaning found.told.number 0) (go_to c (part.Verdict verdict.Owed)))

abbrev pub lacks_said : Found → Cursor → Said
lacks_said found c =
    said (phrase words.Lacks found.told.short.place found.told.short.lacks 0 0) (go_to c (part.Verdict verdict.Owed))

abbrev pub behind_said : Found → Cursor → Said
behind_said found c =
    said (phrase words.Behind (found.events - found.told.index - 1) 0 0 0) (go_to c (part.Last last.Opening))

abbrev pub verdict_said : List ℕ → List ℕ → List ℕ → Found → Cursor → VerdictPart → Said
verdict_said net log state found c verdict.Outcome = outcome_said found c
verdict_said net log state found c verdict.Event = said (event_phrase log found.told.index) (go_to c (part.Verdict verdict.Why))
verdict_said net log state found c verdict.Why = why_said found c
verdict_said net log state found c verdict.Lacks = lacks_said found c
verdict_said net log state found c verdict.Owed = owed_said net state found c
verdict_said net log state found c verdict.Behind = behind_said found c

-- THE LAST LINE

abbrev pub end_said : Found → Said
end_said found = record { phrase = plain (cond (is_good found) words.AcceptedEnd words.RefusedEnd); cursor = None }

-- THE LAST STATE

unfoldable pub walk_said : WalkTold → Cursor → Said
walk_said walk c =
    cond (eqb walk.number 0)
    (said (plain words.WalkEnds) (go_to c (part.Last last.Front)))
    (said (phrase words.WalkStops walk.index 0 0 0) (go_to c (part.Last last.Event)))

-- no state of the net
abbrev pub not_fit_said : Found → Verdict → Phrase → Cursor → LastPart → Said
not_fit_said found check expected c last.Opening = said (plain words.LastRefused) (go_to c (part.Last last.Check))
not_fit_said found check expected c last.Check = said (meaning check.number check.index) (go_to c (part.Last last.Expected))
not_fit_said found check expected c last.Expected = said expected (go_to c part.End)
not_fit_said found check expected c _ = end_said found

-- a state of the net: the log leads to it, or to another, or was refused
unfoldable pub fit_opening_said : Found → LastFit → Cursor → Said
fit_opening_said found fit c =
    cond (eqb found.told.number 0)
    (cond (is_none fit.other) (said (plain words.LastSame) (go_to c part.End)) (said (plain words.LastOther) (go_to c (part.Last last.Other))))
    (cond (is_none fit.other) (said (plain words.LastBefore) (go_to c (part.Last last.Walk))) (walk_said fit.walk c))

abbrev pub fit_said : List ℕ → Found → LastFit → Cursor → LastPart → Said
fit_said log found fit c last.Opening = fit_opening_said found fit c
fit_said log found fit c last.Other = option_map_or (λ other. said other (go_to c (part.Last last.Walk))) fit.other (walk_said fit.walk c)
fit_said log found fit c last.Walk = walk_said fit.walk c
fit_said log found fit c last.Event = said (event_phrase log fit.walk.index) (go_to c (part.Last last.Why))
fit_said log found fit c last.Why = said (plain (words.BackWhy fit.walk.number)) (go_to c (part.Last last.NoWay))
fit_said log found fit c last.NoWay = said (no_way_phrase fit.walk) (go_to c part.End)
fit_said log found fit c last.Front = option_map_or (λ front. said front (go_to c part.End)) fit.front (end_said found)
fit_said log found fit c _ = end_said found

abbrev pub last_found_said : List ℕ → Found → LastFound → Cursor → LastPart → Said
last_found_said log found back.NotGiven c p = end_said found
last_found_said log found (back.NotFit check expected) c p = not_fit_said found check expected c p
last_found_said log found (back.Fit fit) c p = fit_said log found fit c p

abbrev pub last_said : List ℕ → Found → Cursor → LastPart → Said
last_said log found c p = last_found_said log found found.last c p

-- A NET OR A LOG THAT IS REFUSED

abbrev pub fault_said : List ℕ → List ℕ → Found → Cursor → FaultPart → Said
fault_said net log found c fault.Opening = said (fault_opening found) (go_to c (part.Fault fault.Why))
fault_said net log found c fault.Why = said (meaning found.told.number found.told.index) (go_to c (part.Fault fault.Expected))
fault_said net log found c fault.Expected = said (expected_of net log found.told.number found.told.index) (go_to c part.End)

-- WHERE THE TELLING BEGINS

-- so many steps are shown where not all are asked for
abbrev pub few : ℕ
few = 3

unfoldable pub from_step : Found → Wish → ℕ
from_step found wish = cond wish.all 0 (last_step found + 1 - few)

unfoldable pub beginning : Found → Wish → Cursor
beginning found wish = record {
  part =
      cond (is_early found.told.number) (part.Fault fault.Opening)
      (cond (ltb 0 (from_step found wish)) (part.Step step.Earlier) (part.Step step.Open));
  step = from_step found wish;
  item = 0;
  fed = 0;
  started = false;
}

abbrev pub telling : Bor (List ℕ) → Bor (List ℕ) → Found → Wish → Telling
telling net log found wish = record { net = net; log = log; found = found; wish = wish }

abbrev pub begun : Telling → Begun
begun t = record { telling = t; cursor = beginning t.found t.wish }

-- WHERE THE TELLING STANDS

-- so many events have been fed, from the state that the telling is about; and what was found is what a run of the whole log tells
pub record Going (g : Given) (state : List ℕ) (c : Cursor) : Type 0 where
  pub fed : Fed g.net g.first g.log state c.fed c.started
  pub told_is : g.found.told ≡ run_told g.net g.first g.log false
  pub late : is_early g.found.told.number ≡ false

-- in a step that is shown: before it is fed, and then
abbrev pub AtStep : Given → Cursor → StepPart → Type 0
AtStep g c step.Earlier = (c.step ≤ last_step g.found) × (c.fed ≤ done_event g.log g.found c.step)
AtStep g c step.Open = (c.step ≤ last_step g.found) × (c.fed ≤ done_event g.log g.found c.step)
AtStep g c step.Events = (c.step ≤ last_step g.found) × (c.fed ≡ done_event g.log g.found c.step)
AtStep g c step.State = (c.step ≤ last_step g.found) × (c.fed ≡ done_event g.log g.found c.step)

-- nothing is asked of a place
abbrev pub NothingAsked : Type 0
NothingAsked = ◌≡◌ {A = ℕ} 0 0

-- the state is that behind the events of the step, or behind all that were done, wherever it is looked at
abbrev pub ReachedAt : Given → List ℕ → Cursor → Part → Type 0
ReachedAt g state c (part.Step p) = Going g state c × AtStep g c p
ReachedAt g state c (part.Verdict p) = Going g state c × (c.fed ≡ g.found.told.done)
ReachedAt g state c (part.Last p) = NothingAsked
ReachedAt g state c (part.Fault p) = NothingAsked
ReachedAt g state c part.End = NothingAsked

abbrev pub Reached : Given → List ℕ → Cursor → Type 0
Reached g state c = ReachedAt g state c c.part

abbrev pub ReachedIf : Given → List ℕ → Option Cursor → Type 0
ReachedIf g state None = NothingAsked
ReachedIf g state (Some c) = Reached g state c

-- what a step needs, and what it comes to: only its opening feeds
abbrev pub StepsFrom : Telling → List ℕ → Cursor → StepPart → Type 0
StepsFrom t state c step.Earlier = NothingAsked
StepsFrom t state c step.Open = FeedsTo t.net.now t.log.now state c.fed (done_event t.log.now t.found c.step) c.started
StepsFrom t state c step.Events = NothingAsked
StepsFrom t state c step.State = NothingAsked

-- neither the state nor the portion is written
abbrev pub Kept : List ℕ → List ℕ → List ℕ → List ℕ → Type 0
Kept state portion state' portion' = (state' ≡ state) × (portion' ≡ portion)

abbrev pub StepsTo : Telling → List ℕ → List ℕ → Cursor → StepPart → Said → List ℕ → List ℕ → Type 0
StepsTo t state portion c step.Earlier r state' portion' = (r ≡ earlier_said c) × Kept state portion state' portion'
StepsTo t state portion c step.Open r state' portion' =
    (r ≡ open_said t.log.now t.found c (started_in r))
    × Ran t.net.now t.log.now state c.fed (done_event t.log.now t.found c.step) c.started portion state' portion' (started_in r)
    × Feeds t.net.now t.log.now state c.fed (done_event t.log.now t.found c.step) c.started state' (started_in r)
StepsTo t state portion c step.Events r state' portion' =
    (r ≡ events_said t.net.now t.log.now state t.found t.wish c) × Kept state portion state' portion'
StepsTo t state portion c step.State r state' portion' = (r ≡ state_said state t.found c) × Kept state portion state' portion'

-- one call, by its part
abbrev pub GoesOn : Telling → List ℕ → List ℕ → Cursor → Part → Said → List ℕ → List ℕ → Type 0
GoesOn t state portion c (part.Step p) r state' portion' = StepsTo t state portion c p r state' portion'
GoesOn t state portion c (part.Verdict p) r state' portion' =
    (r ≡ verdict_said t.net.now t.log.now state t.found c p) × Kept state portion state' portion'
GoesOn t state portion c (part.Last p) r state' portion' = (r ≡ last_said t.log.now t.found c p) × Kept state portion state' portion'
GoesOn t state portion c (part.Fault p) r state' portion' = (r ≡ fault_said t.net.now t.log.now t.found c p) × Kept state portion state' portion'
GoesOn t state portion c part.End r state' portion' = (r ≡ end_said t.found) × Kept state portion state' portion'

-- what a telling is about, where this is the net's initial state
abbrev pub about : Telling → List ℕ → Given
about t first = record { net = t.net.now; log = t.log.now; first = first; found = t.found; wish = t.wish }

-- one phrase more is told, and the rest is still to be told
pub record Tells (g : Given) (c : Cursor) (r : Said) (state' : List ℕ) : Type 0 where
  pub one_more : remaining g c ≡ r.phrase ∷ remaining_if g r.cursor
  pub reached : ReachedIf g state' r.cursor

-- whatever initial state the telling is about
abbrev pub TellsOn : Telling → Cursor → List ℕ → Said → List ℕ → Type 0
TellsOn t c state r state' = (first : List ℕ) → Reached (about t first) state c → Tells (about t first) c r state'

abbrev pub Somewhere : Telling → Cursor → List ℕ → Type 0
Somewhere t c state = (first : List ℕ) × Reached (about t first) state c
