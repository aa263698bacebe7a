-- No telling comes to a part of the last state that does not belong to what was found of it: it begins at none, and no call goes on at one.
-- Assumes nothing.
use mathlib.Core.Path.{◌≡◌, refl, subst}
use mathlib.Core.Bool.{Bool, true, false, cond}
use mathlib.Core.List.{List}
use Prim.Native.Nat.{ℕ}
use lib.Dec.{eqb, ltb}
use Rattle.std.proofs.Common.{◌&&◌, Option, Some, None}
use Rattle.std.specs.Option.{is_none, option_map_or}
use Rattle.engine.specs.declared.answers.Verdict.{Verdict}
use Rattle.why.specs.declared.phrase.Phrase.{Phrase}
use Rattle.why.specs.declared.found.LastFit.{LastFit}
use Rattle.why.specs.declared.found.LastFound.{LastFound}
use Rattle.why.specs.declared.found.LastFound.TheVariants as back
use Rattle.why.specs.declared.found.Found.{Found}
use Rattle.why.specs.declared.found.Wish.{Wish}
use Rattle.why.specs.declared.telling.Telling.{Telling}
use Rattle.why.specs.declared.cursor.StepPart.{StepPart}
use Rattle.why.specs.declared.cursor.StepPart.TheVariants as step
use Rattle.why.specs.declared.cursor.VerdictPart.{VerdictPart}
use Rattle.why.specs.declared.cursor.VerdictPart.TheVariants as verdict
use Rattle.why.specs.declared.cursor.LastPart.{LastPart}
use Rattle.why.specs.declared.cursor.LastPart.TheVariants as last
use Rattle.why.specs.declared.cursor.FaultPart.{FaultPart}
use Rattle.why.specs.declared.cursor.FaultPart.TheVariants as fault
use Rattle.why.specs.declared.cursor.Part.{Part}
use Rattle.why.specs.declared.cursor.Part.TheVariants as part
use Rattle.why.specs.declared.cursor.Cursor.{Cursor}
use Rattle.why.specs.declared.cursor.Said.{Said}
use Rattle.replay.specs.Replayed.{is_early}
use Rattle.why.specs.Report.{last_step, is_shown}
use Rattle.why.specs.Said.{behind_step, events_said, next_held, state_said, next_owed, owed_said, outcome_said, why_said, verdict_said}
use Rattle.why.specs.Said.{walk_said, not_fit_said, fit_opening_said, fit_said, last_found_said, fault_said, from_step, beginning, NothingAsked, StepsTo, GoesOn}
use Rattle.why.proofs.Remaining.{by-test}

-- WHAT BELONGS TO WHAT WAS FOUND

-- the walk back is told: the log was refused, or leads to another state
abbrev pub IsWalked : Found → LastFit → Type 0
IsWalked found fit = (eqb found.told.number 0 && is_none fit.other) ≡ false

-- of a last state that is a state of the net
abbrev pub BelongsToFit : Found → LastFit → LastPart → Type 0
BelongsToFit found fit last.Opening = NothingAsked
BelongsToFit found fit last.Check = ⊥
BelongsToFit found fit last.Expected = ⊥
BelongsToFit found fit last.Other = is_none fit.other ≡ false
BelongsToFit found fit last.Walk = IsWalked found fit
BelongsToFit found fit last.Event = IsWalked found fit
BelongsToFit found fit last.Why = IsWalked found fit
BelongsToFit found fit last.NoWay = IsWalked found fit
BelongsToFit found fit last.Front = is_none fit.front ≡ false

-- of one that is none
abbrev pub BelongsToNone : LastPart → Type 0
BelongsToNone last.Opening = NothingAsked
BelongsToNone last.Check = NothingAsked
BelongsToNone last.Expected = NothingAsked
BelongsToNone _ = ⊥

-- where none is given there is the opening alone, which is the last line
abbrev pub BelongsToNothing : LastPart → Type 0
BelongsToNothing last.Opening = NothingAsked
BelongsToNothing _ = ⊥

abbrev pub BelongsTo : Found → LastFound → LastPart → Type 0
BelongsTo found back.NotGiven p = BelongsToNothing p
BelongsTo found (back.NotFit check expected) p = BelongsToNone p
BelongsTo found (back.Fit fit) p = BelongsToFit found fit p

abbrev pub BelongsAt : Found → LastFound → Part → Type 0
BelongsAt found l (part.Step p) = NothingAsked
BelongsAt found l (part.Verdict p) = NothingAsked
BelongsAt found l (part.Last p) = BelongsTo found l p
BelongsAt found l (part.Fault p) = NothingAsked
BelongsAt found l part.End = NothingAsked

abbrev pub BelongsIf : Found → LastFound → Option Cursor → Type 0
BelongsIf found l None = NothingAsked
BelongsIf found l (Some c) = BelongsAt found l c.part

-- a walk that is told, and comes to the log's front, ends in another state than the initial one (`Elsewhere` proves it of what is found)
abbrev pub EndsElsewhere : Found → LastFound → Type 0
EndsElsewhere found back.NotGiven = NothingAsked
EndsElsewhere found (back.NotFit check expected) = NothingAsked
EndsElsewhere found (back.Fit fit) = IsWalked found fit → eqb fit.walk.number 0 ≡ true → is_none fit.front ≡ false

-- WHERE IT BEGINS

module _ (found : Found) (l : LastFound) where
  part-either : (b : Bool) (p q : Part) → BelongsAt found l p → BelongsAt found l q → BelongsAt found l (cond b p q)
  part-either true p q yes-so no-so = yes-so
  part-either false p q yes-so no-so = no-so

  pub begins-there : (wish : Wish) → BelongsAt found l (beginning found wish).part
  unfolding beginning
  begins-there wish =
      part-either (is_early found.told.number) (part.Fault fault.Opening) _ refl
      (part-either (ltb 0 (from_step found wish)) (part.Step step.Earlier) (part.Step step.Open) refl refl)

  -- AND GOES ON

  -- a call goes on at a part that belongs, or was the last
  record Goes (r : Said) : Type 0 where
    on : BelongsIf found l r.cursor

  either : (b : Bool) {r s : Said} → (b ≡ true → Goes r) → (b ≡ false → Goes s) → Goes (cond b r s)
  either true yes-so no-so = yes-so refl
  either false yes-so no-so = no-so refl

  either-found : {X : Type 0} (o : Option X) {s : X → Said} {r : Said} → ((x : X) → Goes (s x)) → Goes r → Goes (option_map_or s o r)
  either-found None some none = none
  either-found (Some x) some none = some x

  by : (r s : Said) → r ≡ s → Goes s → Goes r
  by r s e g = rw e g

  behind-it : (c : Cursor) → BelongsAt found l (behind_step found c).part
  unfolding behind_step
  behind-it c = by-test (ltb c.step (last_step found)) (λ e. rw e refl) (λ e. rw e refl)

opens_it : (found : Found) (l : LastFound) → BelongsTo found l last.Opening
opens_it found back.NotGiven = refl
opens_it found (back.NotFit check expected) = refl
opens_it found (back.Fit fit) = refl

-- from a part of the last state
module _ (found : Found) (fit : LastFit) (elsewhere : EndsElsewhere found (back.Fit fit)) (log : List ℕ) (c : Cursor) where
  abbrev GoesOnFit : Said → Type 0
  GoesOnFit r = Goes found (back.Fit fit) r

  walk-goes : IsWalked found fit → GoesOnFit (walk_said fit.walk c)
  unfolding walk_said
  walk-goes walked = either found (back.Fit fit) (eqb fit.walk.number 0) (λ e. record { on = elsewhere walked e }) (λ e. record { on = walked })

  other-walked : is_none fit.other ≡ false → IsWalked found fit
  other-walked e = by-test (eqb found.told.number 0) (λ f. rw (e, f) refl) (λ f. rw (e, f) refl)

  fit-goes : (p : LastPart) → BelongsToFit found fit p → GoesOnFit (fit_said log found fit c p)
  unfolding fit_opening_said
  fit-goes last.Opening h =
      either found (back.Fit fit) (eqb found.told.number 0)
      (λ e. either found (back.Fit fit) (is_none fit.other) (λ f. record { on = refl }) (λ f. record { on = f }))
      (λ e. either found (back.Fit fit) (is_none fit.other) (λ f. record { on = rw e refl }) (λ f. walk-goes (rw e refl)))
  fit-goes last.Check h = record { on = refl }
  fit-goes last.Expected h = record { on = refl }
  fit-goes last.Other h = either-found found (back.Fit fit) fit.other (λ other. record { on = other-walked h }) (walk-goes (other-walked h))
  fit-goes last.Walk h = walk-goes h
  fit-goes last.Event h = record { on = h }
  fit-goes last.Why h = record { on = h }
  fit-goes last.NoWay h = record { on = refl }
  fit-goes last.Front h = either-found found (back.Fit fit) fit.front (λ front. record { on = refl }) (record { on = refl })

not-fit-goes : (found : Found) (check : Verdict) (expected : Phrase) (c : Cursor) (p : LastPart)
    → Goes found (back.NotFit check expected) (not_fit_said found check expected c p)
not-fit-goes found check expected c last.Opening = record { on = refl }
not-fit-goes found check expected c last.Check = record { on = refl }
not-fit-goes found check expected c last.Expected = record { on = refl }
not-fit-goes found check expected c last.Other = record { on = refl }
not-fit-goes found check expected c last.Walk = record { on = refl }
not-fit-goes found check expected c last.Event = record { on = refl }
not-fit-goes found check expected c last.Why = record { on = refl }
not-fit-goes found check expected c last.NoWay = record { on = refl }
not-fit-goes found check expected c last.Front = record { on = refl }

last-goes : (found : Found) (l : LastFound) → EndsElsewhere found l → (log : List ℕ) (c : Cursor) (p : LastPart) → BelongsTo found l p
    → Goes found l (last_found_said log found l c p)
last-goes found back.NotGiven elsewhere log c p h = record { on = refl }
last-goes found (back.NotFit check expected) elsewhere log c p h = not-fit-goes found check expected c p
last-goes found (back.Fit fit) elsewhere log c p h = fit-goes found fit elsewhere log c p h

-- from any part
module _ (t : Telling) (state portion : List ℕ) (c : Cursor) (r : Said) (state' portion' : List ℕ) where
  abbrev l : LastFound
  l = t.found.last

  module _ (h : BelongsAt t.found l c.part) where
    steps-go : (p : StepPart) → StepsTo t state portion c p r state' portion' → Goes t.found l r
    unfolding events_said state_said
    steps-go step.Earlier (e, _) = by t.found l r _ e (record { on = refl })
    steps-go step.Open (e, _, _) = by t.found l r _ e (record { on = refl })
    steps-go step.Events (e, _) =
        by t.found l r _ e
        (either t.found l (ltb c.item c.fed) (λ f. record { on = h })
        (λ f. either t.found l (is_shown t.wish t.found c.step) (λ i. record { on = refl }) (λ i. record { on = behind-it t.found l c })))
    steps-go step.State (e, _) =
        by t.found l r _ e (either-found t.found l (next_held state c.item) (λ i. record { on = h }) (record { on = behind-it t.found l c }))

    verdict-goes : (p : VerdictPart) → Goes t.found l (verdict_said t.net.now t.log.now state t.found c p)
    unfolding outcome_said why_said owed_said
    verdict-goes verdict.Outcome = either t.found l (eqb t.found.told.number 0) (λ e. record { on = refl }) (λ e. record { on = refl })
    verdict-goes verdict.Event = record { on = refl }
    verdict-goes verdict.Why = either t.found l (eqb t.found.told.number 13) (λ e. record { on = refl }) (λ e. record { on = refl })
    verdict-goes verdict.Lacks = record { on = refl }
    verdict-goes verdict.Owed =
        either-found t.found l (next_owed t.net.now state c.item) (λ i. record { on = h })
        (either t.found l (eqb t.found.told.number 0) (λ e. record { on = opens_it t.found l }) (λ e. record { on = refl }))
    verdict-goes verdict.Behind = record { on = opens_it t.found l }

    fault-goes : (p : FaultPart) → Goes t.found l (fault_said t.net.now t.log.now t.found c p)
    fault-goes fault.Opening = record { on = refl }
    fault-goes fault.Why = record { on = refl }
    fault-goes fault.Expected = record { on = refl }

    part-goes : EndsElsewhere t.found l → (p : Part) → c.part ≡ p → GoesOn t state portion c p r state' portion' → Goes t.found l r
    part-goes elsewhere (part.Step p) at on = steps-go p on
    part-goes elsewhere (part.Verdict p) at (e, _) = by t.found l r _ e (verdict-goes p)
    part-goes elsewhere (part.Last p) at (e, _) =
        by t.found l r _ e (last-goes t.found l elsewhere t.log.now c p (subst (BelongsAt t.found l) at h))
    part-goes elsewhere (part.Fault p) at (e, _) = by t.found l r _ e (fault-goes p)
    part-goes elsewhere part.End at (e, _) = by t.found l r _ e (record { on = refl })

  pub goes-there : EndsElsewhere t.found l → BelongsAt t.found l c.part → GoesOn t state portion c c.part r state' portion' → BelongsIf t.found l r.cursor
  goes-there elsewhere h on = (part-goes h elsewhere c.part refl on).on
