-- Each part tells one phrase of what is still to be told, and goes on with the rest.
-- Assumes nothing.
use mathlib.Core.Path.{◌≡◌, refl, sym, ap, subst, ◌∙◌}
use mathlib.Core.Bool.{Bool, true, false, cond}
use mathlib.Core.List.{List, ◌∷◌}
use Prim.Native.Nat.{ℕ, suc, ◌+◌, ◌-◌, ◌<◌, ◌≤◌}
use native.Mathlib.Omega.{arith}
use lib.Dec.{eqb, ltb}
use borrow.Author.Tests.{ltb-true, ltb-false}
use Rattle.std.proofs.Common.{Option, Some, None}
use Rattle.std.specs.Option.{is_none, option_map_or}
use Rattle.engine.specs.declared.answers.Verdict.{Verdict}
use Rattle.engine.specs.Calls.{owed_told, run_told}
use Rattle.why.specs.declared.phrase.Phrase.{Phrase}
use Rattle.why.specs.declared.phrase.Word.TheVariants as words
use Rattle.runs.specs.declared.told.RunTold.{RunTold}
use Rattle.why.specs.declared.found.LastFit.{LastFit}
use Rattle.why.specs.declared.found.LastFound.{LastFound}
use Rattle.why.specs.declared.found.LastFound.TheVariants as back
use Rattle.why.specs.declared.telling.Telling.{Telling}
use Rattle.why.specs.declared.cursor.StepPart.{StepPart}
use Rattle.why.specs.declared.cursor.StepPart.TheVariants as step
use Rattle.why.specs.declared.cursor.VerdictPart.{VerdictPart}
use Rattle.why.specs.declared.cursor.VerdictPart.TheVariants as verdict
use Rattle.why.specs.declared.cursor.LastPart.{LastPart}
use Rattle.why.specs.declared.cursor.LastPart.TheVariants as last
use Rattle.why.specs.declared.cursor.FaultPart.{FaultPart}
use Rattle.why.specs.declared.cursor.FaultPart.TheVariants as fault
use Rattle.why.specs.declared.cursor.Part.{Part}
use Rattle.why.specs.declared.cursor.Part.TheVariants as part
use Rattle.why.specs.declared.cursor.Cursor.{Cursor}
use Rattle.why.specs.declared.cursor.Said.{Said}
use Rattle.why.specs.Each.{each_from}
use Rattle.why.specs.State.{word_count, is_held, held_phrase, owed_most, does_owe, owed_phrase}
use Rattle.why.specs.Portions.{behind, Fed}
use Rattle.why.specs.Report.{Given, plain, event_phrase, last_step, done_event, is_shown, stands_phrase, reached, state_on, steps_on}
use Rattle.why.specs.Report.{verdict_on, end_on, walk_on, not_fit_on, fit_opening_on, fit_on, last_found_on, last_on, behind_on, remaining_at, remaining, remaining_if}
use Rattle.why.specs.Said.{go_to, behind_step, open_said, started_in, events_said, next_held, state_said, next_owed, owed_said, outcome_said, why_said, verdict_said}
use Rattle.why.specs.Said.{end_said, walk_said, not_fit_said, fit_opening_said, fit_said, last_found_said, last_said, fault_said}
use Rattle.why.specs.Said.{Going, ReachedAt, Reached, ReachedIf, StepsFrom, StepsTo, about, Tells}
use Rattle.why.proofs.Nexts.{each_turn, each_over, each_all, each_none}
use Rattle.why.proofs.Order.{done-most, done-later, done-last}

-- a test passes, or it fails
pub by-test : {A : Type 0} (b : Bool) → (b ≡ true → A) → (b ≡ false → A) → A
by-test true yes-so no-so = yes-so refl
by-test false yes-so no-so = no-so refl

-- something is found, or nothing
by-found : {A : Type 0} {X : Type 0} (o : Option X) → (o ≡ None → A) → ((x : X) → o ≡ Some x → A) → A
by-found None none some = none refl
by-found (Some x) none some = some x refl

module _ (g : Given) (state : List ℕ) (c : Cursor) (going : Going g state c) where
  abbrev k : ℕ
  k = c.step

  abbrev T : ℕ
  T = last_step g.found

  -- what comes behind step k
  abbrev rest : List Phrase
  rest = steps_on g (last_step g.found - c.step) (suc c.step) (verdict_on g verdict.Outcome 0)

  -- the state is the one behind the step
  state_is : c.fed ≡ done_event g.log g.found c.step → state ≡ reached g c.step
  state_is e = going.fed.state_is ∙ ap (behind g.net g.first g.log) e

  fed-most : done_event g.log g.found c.step ≤ (run_told g.net g.first g.log false).done
  fed-most =
      let most = done-most g.net g.first g.log going.fed.fit going.fed.is-log g.found going.told_is c.step in
      omega (arith, most, ap (λ (x : RunTold). x.done) going.told_is)

  -- BEHIND A STEP

  module _ (within : c.step ≤ last_step g.found) (all : c.fed ≡ done_event g.log g.found c.step) where
    behind-rest : remaining g (behind_step g.found c) ≡ rest
    unfolding behind_step steps_on
    behind-rest =
        by-test (ltb c.step (last_step g.found))
        (λ e.
        let some = ltb-true c.step (last_step g.found) e in
        let left : suc (last_step g.found) - (c.step + 1) ≡ last_step g.found - c.step = omega arith in
        let next : c.step + 1 ≡ suc c.step = omega arith in
        rw (e, left, next) refl)
        (λ e.
        let over = ltb-false c.step (last_step g.found) e in
        let none : last_step g.found - c.step ≡ 0 = omega arith in
        rw (e, none) refl)

    -- and the telling stands there rightly
    behind-reached : Reached g state (behind_step g.found c)
    unfolding behind_step
    behind-reached =
        by-test (ltb c.step (last_step g.found))
        (λ e.
        let some = ltb-true c.step (last_step g.found) e in
        let next : c.step + 1 ≡ suc c.step = omega arith in
        let later = done-later g.net g.first g.log going.fed.fit going.fed.is-log g.found going.told_is c.step some in
        rw e (record { fed = going.fed; told_is = going.told_is; late = going.late }, (omega arith, rw next (omega (arith, later, all)))))
        (λ e.
        let over = ltb-false c.step (last_step g.found) e in
        let last = done-last g.net g.first g.log going.fed.fit going.fed.is-log g.found going.told_is c.step over in
        rw e (record { fed = going.fed; told_is = going.told_is; late = going.late }, all ∙ last))

    -- THE EVENTS OF A STEP, AND THE STATE BEHIND IT

    -- what is known of the place stays known of every cursor that has the same events fed
    stays : (d : Cursor) → d.fed ≡ c.fed → d.started ≡ c.started → Going g state d
    stays d e f = record { fed = rw (e, f) going.fed; told_is = going.told_is; late = going.late }

    events-tell : c.part ≡ part.Step step.Events → Tells g c (events_said g.net g.log state g.found g.wish c) state
    unfolding events_said
    events-tell at =
        let to = done_event g.log g.found c.step in
        let here = ap (λ (p : Part). remaining_at g p c.step c.item) at in
        let stands = stands_phrase g.net state in
        by-test (ltb c.item c.fed)
        (λ e.
        let some : c.item < done_event g.log g.found c.step = rw all at (ltb-true c.item c.fed e) in
        rw e (record {
          one_more = here ∙ each_all (event_phrase g.log) to c.item _ some ∙ rw at refl;
          reached = rw at (stays _ refl refl, (within, all));
        }))
        (λ e.
        let over : done_event g.log g.found c.step ≤ c.item = rw all at (ltb-false c.item c.fed e) in
        let said-is : remaining g c ≡ stands_phrase g.net state ∷ cond (is_shown g.wish g.found c.step) (state_on g c.step 0 rest) rest =
        here ∙ each_none (λ _. true) (event_phrase g.log) to _ c.item over
        ∙ ap (λ (s : List ℕ). stands_phrase g.net s ∷ cond (is_shown g.wish g.found c.step) (state_on g c.step 0 rest) rest) (sym (state_is all)) in
        let picked : Bool → List Phrase = λ b. stands_phrase g.net state ∷ cond b (state_on g c.step 0 rest) rest in
        by-test (is_shown g.wish g.found c.step)
        (λ s. rw (e, s) (record { one_more = said-is ∙ ap picked s; reached = (stays (go_to c (part.Step step.State)) refl refl, (within, all)) }))
        (λ s. rw (e, s) (record { one_more = said-is ∙ ap picked s ∙ ap (λ (l : List Phrase). stands ∷ l) (sym behind-rest); reached = behind-reached })))

    state-tells : c.part ≡ part.Step step.State → Tells g c (state_said state g.found c) state
    unfolding state_said
    state-tells at =
        let top = word_count state in
        let shows : (i : ℕ) → remaining_at g c.part c.step i ≡ each_from (is_held state) (held_phrase state) (word_count state - i) i (plain words.Others ∷ rest) =
        λ i. ap (λ (p : Part). remaining_at g p c.step i) at
        ∙ ap (λ (s : List ℕ). each_from (is_held s) (held_phrase s) (word_count s - i) i (plain words.Others ∷ rest)) (sym (state_is all)) in
        by-found (next_held state c.item)
        (λ e.
        rw e (record {
          one_more = shows c.item ∙ each_over (is_held state) (held_phrase state) top _ c.item e
              ∙ ap (λ (l : List Phrase). plain words.Others ∷ l) (sym behind-rest);
          reached = behind-reached;
        }))
        (λ j e.
        rw e (record {
          one_more = shows c.item ∙ each_turn (is_held state) (held_phrase state) top _ c.item j e
              ∙ ap (λ (l : List Phrase). held_phrase state j ∷ l) (sym (shows (j + 1)));
          reached = rw at (stays _ refl refl, (within, all));
        }))

  -- A STEP THAT IS OPENED

  module _ (within : c.step ≤ last_step g.found) (started : Bool) (state' : List ℕ)
      (fed : Fed g.net g.first g.log state' (done_event g.log g.found c.step) started) where
    opens-on : c.part ≡ part.Step step.Open → Tells g c (open_said g.log g.found c started) state'
    unfolding steps_on
    opens-on at =
        let one : suc (last_step g.found) - c.step ≡ suc (last_step g.found - c.step) = omega arith in
        record {
          one_more = ap (λ (p : Part). remaining_at g p c.step c.item) at ∙ rw one refl;
          reached = (record { fed = fed; told_is = going.told_is; late = going.late }, (within, refl));
        }

  -- HOW THE LOG ENDED

  module _ (all : c.fed ≡ g.found.told.done) where
    end_is : state ≡ reached g (last_step g.found)
    end_is =
        let last = done-last g.net g.first g.log going.fed.fit going.fed.is-log g.found going.told_is (last_step g.found) (omega arith) in
        going.fed.state_is ∙ ap (behind g.net g.first g.log) (all ∙ sym last)

    on : (d : Cursor) → d.fed ≡ c.fed → d.started ≡ c.started → Going g state d
    on d e f = record { fed = rw (e, f) going.fed; told_is = going.told_is; late = going.late }

    at-verdict : (p : VerdictPart) → c.part ≡ part.Verdict p → remaining g c ≡ verdict_on g p c.item
    at-verdict p at = ap (λ (q : Part). remaining_at g q c.step c.item) at

    owed-tells : c.part ≡ part.Verdict verdict.Owed → Tells g c (owed_said g.net state g.found c) state
    unfolding owed_said
    owed-tells at =
        let owes = does_owe (owed_told g.net state).starts.word (owed_told g.net state).ends.word in
        let behind-it = plain words.OwedEnd ∷ cond (eqb g.found.told.number 0) (last_on g last.Opening) (behind_on g) in
        let shows : (i : ℕ) → remaining_at g c.part c.step i
        ≡ each_from (does_owe (owed_told g.net state).starts.word (owed_told g.net state).ends.word) owed_phrase (owed_most - i) i
        (plain words.OwedEnd ∷ cond (eqb g.found.told.number 0) (last_on g last.Opening) (behind_on g)) =
        λ i. ap (λ (p : Part). remaining_at g p c.step i) at
        ∙ ap (λ (s : List ℕ). each_from (does_owe (owed_told g.net s).starts.word (owed_told g.net s).ends.word) owed_phrase (owed_most - i) i
        (plain words.OwedEnd ∷ cond (eqb g.found.told.number 0) (last_on g last.Opening) (behind_on g))) (sym end_is) in
        let picked : Bool → List Phrase = λ b. plain words.OwedEnd ∷ cond b (last_on g last.Opening) (behind_on g) in
        by-found (next_owed g.net state c.item)
        (λ e.
        let over = shows c.item ∙ each_over owes owed_phrase owed_most behind-it c.item e in
        by-test (eqb g.found.told.number 0)
        (λ a. rw (e, a) (record { one_more = over ∙ ap picked a; reached = refl }))
        (λ a. rw (e, a) (record { one_more = over ∙ ap picked a; reached = (on _ refl refl, all) })))
        (λ j e.
        rw e (record {
          one_more = shows c.item ∙ each_turn owes owed_phrase owed_most behind-it c.item j e
              ∙ ap (λ (l : List Phrase). owed_phrase j ∷ l) (sym (shows (j + 1)));
          reached = rw at (on _ refl refl, all);
        }))

    verdict-tells : (p : VerdictPart) → c.part ≡ part.Verdict p → Tells g c (verdict_said g.net g.log state g.found c p) state
    unfolding outcome_said why_said
    verdict-tells verdict.Outcome at =
        by-test (eqb g.found.told.number 0)
        (λ e. rw e (record { one_more = at-verdict verdict.Outcome at ∙ rw e refl; reached = (on _ refl refl, all) }))
        (λ e. rw e (record { one_more = at-verdict verdict.Outcome at ∙ rw e refl; reached = (on _ refl refl, all) }))
    verdict-tells verdict.Event at = record { one_more = at-verdict verdict.Event at; reached = (on _ refl refl, all) }
    verdict-tells verdict.Why at =
        by-test (eqb g.found.told.number 13)
        (λ e. rw e (record { one_more = at-verdict verdict.Why at ∙ rw e refl; reached = (on _ refl refl, all) }))
        (λ e. rw e (record { one_more = at-verdict verdict.Why at ∙ rw e refl; reached = (on _ refl refl, all) }))
    verdict-tells verdict.Lacks at = record { one_more = at-verdict verdict.Lacks at; reached = (on _ refl refl, all) }
    verdict-tells verdict.Owed at = owed-tells at
    verdict-tells verdict.Behind at = record { one_more = at-verdict verdict.Behind at; reached = refl }

-- THE LAST STATE, A FAULT, THE LAST LINE

module _ (g : Given) (state : List ℕ) (c : Cursor) where
  at_part : (p : Part) → c.part ≡ p → remaining g c ≡ remaining_at g p c.step c.item
  at_part p at = ap (λ (q : Part). remaining_at g q c.step c.item) at

  pub end-tells : c.part ≡ part.End → Tells g c (end_said g.found) state
  end-tells at = record { one_more = at_part part.End at; reached = refl }

  -- a list of phrases that one call begins and leaves the rest of
  record Begins (l : List Phrase) (r : Said) : Type 0 where
    one_more : l ≡ r.phrase ∷ remaining_if g r.cursor
    reached : ReachedIf g state r.cursor

  begins : (r : Said) → ReachedIf g state r.cursor → Begins (r.phrase ∷ remaining_if g r.cursor) r
  begins r h = record { one_more = refl; reached = h }

  either : (b : Bool) {l m : List Phrase} {r s : Said} → Begins l r → Begins m s → Begins (cond b l m) (cond b r s)
  either true yes-so no-so = yes-so
  either false yes-so no-so = no-so

  either-found : {X : Type 0} (o : Option X) {m : X → List Phrase} {l : List Phrase} {s : X → Said} {r : Said}
      → ((x : X) → Begins (m x) (s x)) → Begins l r → Begins (option_map_or m o l) (option_map_or s o r)
  either-found None some none = none
  either-found (Some x) some none = some x

  end_begins : Begins (end_on g.found) (end_said g.found)
  end_begins = begins (end_said g.found) refl

  module _ (check : Verdict) (expected : Phrase) (is : g.found.last ≡ back.NotFit check expected) where
    not-fit-begins : (p : LastPart) → Begins (not_fit_on g check expected p) (not_fit_said g.found check expected c p)
    not-fit-begins last.Opening = record { one_more = rw is refl; reached = refl }
    not-fit-begins last.Check = record { one_more = rw is refl; reached = refl }
    not-fit-begins last.Expected = record { one_more = refl; reached = refl }
    not-fit-begins last.Other = end_begins
    not-fit-begins last.Walk = end_begins
    not-fit-begins last.Event = end_begins
    not-fit-begins last.Why = end_begins
    not-fit-begins last.NoWay = end_begins
    not-fit-begins last.Front = end_begins

  module _ (fit : LastFit) (is : g.found.last ≡ back.Fit fit) where
    walk_begins : Begins (walk_on g fit) (walk_said fit.walk c)
    unfolding walk_said
    walk_begins = either (eqb fit.walk.number 0) (record { one_more = rw is refl; reached = refl }) (record { one_more = rw is refl; reached = refl })

    opening-begins : Begins (fit_opening_on g fit) (fit_opening_said g.found fit c)
    unfolding fit_opening_said
    opening-begins =
        either (eqb g.found.told.number 0)
        (either (is_none fit.other) (begins _ refl) (record { one_more = rw is refl; reached = refl }))
        (either (is_none fit.other) (record { one_more = rw is refl; reached = refl }) walk_begins)

    fit-begins : (p : LastPart) → Begins (fit_on g fit p) (fit_said g.log g.found fit c p)
    fit-begins last.Opening = opening-begins
    fit-begins last.Check = end_begins
    fit-begins last.Expected = end_begins
    fit-begins last.Other = either-found fit.other (λ other. record { one_more = rw is refl; reached = refl }) walk_begins
    fit-begins last.Walk = walk_begins
    fit-begins last.Event = record { one_more = rw is refl; reached = refl }
    fit-begins last.Why = record { one_more = rw is refl; reached = refl }
    fit-begins last.NoWay = record { one_more = refl; reached = refl }
    fit-begins last.Front = either-found fit.front (λ front. record { one_more = refl; reached = refl }) end_begins

  last-begins : (l : LastFound) → g.found.last ≡ l → (p : LastPart) → Begins (last_found_on g l p) (last_found_said g.log g.found l c p)
  last-begins back.NotGiven is p = end_begins
  last-begins (back.NotFit check expected) is p = not-fit-begins check expected is p
  last-begins (back.Fit fit) is p = fit-begins fit is p

  pub last-tells : (p : LastPart) → c.part ≡ part.Last p → Tells g c (last_said g.log g.found c p) state
  last-tells p at =
      let b = last-begins g.found.last refl p in
      record { one_more = at_part (part.Last p) at ∙ b.one_more; reached = b.reached }

  pub fault-tells : (p : FaultPart) → c.part ≡ part.Fault p → Tells g c (fault_said g.net g.log g.found c p) state
  fault-tells fault.Opening at = record { one_more = at_part (part.Fault fault.Opening) at; reached = refl }
  fault-tells fault.Why at = record { one_more = at_part (part.Fault fault.Why) at; reached = refl }
  fault-tells fault.Expected at = record { one_more = at_part (part.Fault fault.Expected) at; reached = refl }

-- A CALL

module _ (t : Telling) (first : List ℕ) (c : Cursor) (state : List ℕ) where
  abbrev it : Given
  it = about t first

  -- a step can go on from where the telling stands
  pub steps-from : (p : StepPart) → c.part ≡ part.Step p → Reached (about t first) state c → StepsFrom t state c p
  steps-from step.Earlier at r = refl
  steps-from step.Open at r =
      let (going, (within, before)) = subst (ReachedAt it state c) at r in
      (first, going.fed, before, fed-most it state c going)
  steps-from step.Events at r = refl
  steps-from step.State at r = refl

  pub steps-tell : (p : StepPart) → c.part ≡ part.Step p → Reached (about t first) state c → (r : Said) (state' portion portion' : List ℕ)
      → StepsTo t state portion c p r state' portion' → Tells (about t first) c r state'
  steps-tell step.Earlier at reached r state' portion portion' (e, (same, _)) =
      let (going, (within, before)) = subst (ReachedAt it state c) at reached in
      rw (e, same) (record {
        one_more = at_part it state c (part.Step step.Earlier) at;
        reached = (record { fed = going.fed; told_is = going.told_is; late = going.late }, (within, before));
      })
  steps-tell step.Open at reached r state' portion portion' (e, ran, feeds) =
      let (going, (within, before)) = subst (ReachedAt it state c) at reached in
      rw e (opens-on it state c going within (started_in r) state' (feeds first going.fed (fed-most it state c going)) at)
  steps-tell step.Events at reached r state' portion portion' (e, (same, _)) =
      let (going, (within, all)) = subst (ReachedAt it state c) at reached in
      rw (e, same) (events-tell it state c going within all at)
  steps-tell step.State at reached r state' portion portion' (e, (same, _)) =
      let (going, (within, all)) = subst (ReachedAt it state c) at reached in
      rw (e, same) (state-tells it state c going within all at)

  pub verdict-on : (p : VerdictPart) → c.part ≡ part.Verdict p → Reached (about t first) state c
      → Tells (about t first) c (verdict_said t.net.now t.log.now state t.found c p) state
  verdict-on p at reached =
      let (going, all) = subst (ReachedAt it state c) at reached in
      verdict-tells it state c going all p at
