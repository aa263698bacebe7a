-- The numbers that each call tells through the C interface, in the order of include/menu.h: those of the engine's answer, field by field.
-- Assumes nothing.
use Rattle.std.specs.Prelude.{◌≡◌, Bool, not, List, [], ◌∷◌, ℕ, eqb}
use Rattle.model.specs.Tab.{one_if}
use Rattle.runs.specs.declared.told.RunTold.{RunTold}
use Rattle.runs.specs.declared.told.WalkTold.{WalkTold}
use Rattle.engine.specs.declared.answers.Verdict.{Verdict}
use Rattle.engine.specs.declared.answers.EventTold.{EventTold}
use Rattle.engine.specs.declared.answers.DegreeTold.{DegreeTold}
use Rattle.engine.specs.declared.answers.OwedTold.{OwedTold}
use Rattle.engine.specs.declared.answers.StepTold.{StepTold}
use Rattle.runner.specs.declared.call.PageTold.{PageTold}
use Rattle.balance.specs.declared.call.BalanceTold.{BalanceTold}

-- a start has happened in the step, as a caller says it: 0 is no, and any other number yes
abbrev pub said_started : ℕ → Bool
said_started n = not (eqb n 0)

-- these are the numbers of an answer of which P holds
abbrev pub OfAnswer : {A : Type 0} → (A → List ℕ) → List ℕ → (A → Type 0) → Type 0
OfAnswer {A} fields answer P = (r : A) × (answer ≡ fields r) × P r

abbrev pub verdict_fields : Verdict → List ℕ
verdict_fields told = told.number ∷ told.index ∷ []

abbrev pub event_fields : EventTold → List ℕ
event_fields told = told.number ∷ told.index ∷ told.short.place ∷ told.short.lacks ∷ []

abbrev pub degree_fields : DegreeTold → List ℕ
degree_fields told = told.number ∷ told.index ∷ told.degree ∷ []

-- the starts owed are the enabled transitions, and the ends owed those that are due
abbrev pub owed_fields : OwedTold → List ℕ
owed_fields told =
    told.number
    ∷ told.index
    ∷ told.starts.word
    ∷ told.ends.word
    ∷ told.starts.count
    ∷ told.ends.count
    ∷ told.starts.lowest
    ∷ told.ends.lowest
    ∷ told.standing
    ∷ []

abbrev pub run_fields : RunTold → List ℕ
run_fields told =
    told.number
    ∷ told.index
    ∷ told.done
    ∷ told.ticks
    ∷ told.short.place
    ∷ told.short.lacks
    ∷ one_if told.started
    ∷ []

-- of a walk back
abbrev pub walk_fields : WalkTold → List ℕ
walk_fields told = told.number ∷ told.index ∷ told.done ∷ told.ticks ∷ []

abbrev pub step_fields : StepTold → List ℕ
step_fields told = told.number ∷ told.index ∷ told.start ∷ told.length ∷ []

abbrev pub page_fields : PageTold → List ℕ
page_fields told = told.number ∷ told.index ∷ told.stop ∷ told.events ∷ told.ticks ∷ []

abbrev pub balance_fields : BalanceTold → List ℕ
balance_fields told = told.number ∷ told.index ∷ told.total ∷ []
