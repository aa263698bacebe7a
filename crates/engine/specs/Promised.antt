-- What each call promises of the very bytes that it was lent, of what it tells (r) and of what it leaves of the buffer b (b'): the last
-- clause of its contract in src/calls.rt. Either what was given is at fault; then that fault is told and nothing is written. Or it is what
-- document 01 asks; then the demands are met. That what was lent are bytes is promised with it, as the call learns it from the language:
-- so no premise is left open, and what the demands say of several calls in a row holds too (`Fit`).
-- Assumes nothing.
use Rattle.std.specs.Prelude.{◌≡◌, Bool, false, List, ℕ}
use Rattle.forms.specs.declared.fault.Fault.{Fault}
use Rattle.forms.specs.declared.fault.Fault.TheVariants as fault
use Rattle.forms.specs.Checked.{number_of_fault, index_of_fault}
use Rattle.forms.specs.Word.{Bytes}
use Rattle.forms.specs.Stored.{net_of}
use Rattle.forms.specs.Nets.{IsNet, NetFaulty}
use Rattle.forms.specs.States.{IsState}
use Rattle.forms.specs.Logs.{IsLog}
use Rattle.runs.specs.declared.told.RunTold.{RunTold}
use Rattle.runs.specs.declared.told.WalkTold.{WalkTold}
use Rattle.engine.specs.declared.answers.Verdict.{Verdict}
use Rattle.engine.specs.declared.answers.EventTold.{EventTold}
use Rattle.engine.specs.declared.answers.DegreeTold.{DegreeTold}
use Rattle.engine.specs.declared.answers.OwedTold.{OwedTold}
use Rattle.engine.specs.declared.answers.StepTold.{StepTold}
use Rattle.engine.specs.Said.{says, no_place, says_event, says_run, says_walk, says_degree, set_says, says_owed, says_step}
use Rattle.engine.specs.Steps.{StepGiven}
use Rattle.engine.specs.Demands.{EventDone, LogRun, DegreeGiven, OwedGiven, EventBack, LogBack, InitialGiven}
use Rattle.engine.specs.Faults.{StateUnfit, LogUnfit}

-- what was given is at fault, and refused by that; or it is fit, and the call is done
pub data Promise (unfit : Fault → Type 0) (fit : Type 0) (refused : Fault → Type 0) (done : Type 0) : Type 0 where
  at_fault : (why : Fault) → unfit why → refused why → Promise unfit fit refused done
  in_form : fit → done → Promise unfit fit refused done

-- a net and a state are what document 01 asks, and bytes
pub record Fit (net b : List ℕ) : Type 0 where
  pub is_net : IsNet net
  pub is_state : IsState (net_of net) b
  pub net-bytes : Bytes net
  pub state-bytes : Bytes b

-- given a net; a net and a state; a net, a state and a log; a log
abbrev pub OfNet : List ℕ → (Fault → Type 0) → Type 0 → Type 0
OfNet net = Promise (NetFaulty net) (IsNet net × Bytes net)

abbrev pub OfState : List ℕ → List ℕ → (Fault → Type 0) → Type 0 → Type 0
OfState net b = Promise (StateUnfit net b) (Fit net b)

abbrev pub OfLog : List ℕ → List ℕ → List ℕ → (Fault → Type 0) → Type 0 → Type 0
OfLog net b log = Promise (LogUnfit net b log) (Fit net b × IsLog log × Bytes log)

abbrev pub OfLogAlone : List ℕ → (Fault → Type 0) → Type 0 → Type 0
OfLogAlone log = Promise (λ why. (why ≡ fault.LogFrame) × ¬ IsLog log) (IsLog log × Bytes log)

-- the fault's number and index are told
abbrev pub TellsFault : Verdict → Fault → Type 0
TellsFault r why = r ≡ says (number_of_fault why) (index_of_fault why)

abbrev pub TellsEventFault : EventTold → Fault → Type 0
TellsEventFault r why = r ≡ says_event (number_of_fault why) (index_of_fault why) no_place

abbrev pub TellsRunFault : RunTold → Fault → Type 0
TellsRunFault r why = r ≡ says_run (number_of_fault why) (index_of_fault why) 0 0 no_place false

abbrev pub TellsWalkFault : WalkTold → Fault → Type 0
TellsWalkFault r why = r ≡ says_walk (number_of_fault why) (index_of_fault why) 0 0

-- THE CALLS

abbrev pub CheckNetPromise : List ℕ → Verdict → Type 0
CheckNetPromise net r = OfNet net (TellsFault r) (r ≡ says 0 0)

abbrev pub CheckStatePromise : List ℕ → List ℕ → Verdict → Type 0
CheckStatePromise net b r = OfState net b (TellsFault r) (r ≡ says 0 0)

abbrev pub InitialPromise : List ℕ → List ℕ → Verdict → List ℕ → Type 0
InitialPromise net b r b' = OfNet net (λ why. TellsFault r why × (b' ≡ b)) (InitialGiven net b r b')

abbrev pub EventPromise : List ℕ → List ℕ → ℕ → ℕ → Bool → EventTold → List ℕ → Type 0
EventPromise net b first second started r b' =
    OfState net b (λ why. TellsEventFault r why × (b' ≡ b)) (EventDone net b first second started r b')

abbrev pub BackPromise : List ℕ → List ℕ → ℕ → ℕ → Bool → Verdict → List ℕ → Type 0
BackPromise net b first second started r b' =
    OfState net b (λ why. TellsFault r why × (b' ≡ b)) (EventBack net b first second started r b')

abbrev pub DegreePromise : List ℕ → List ℕ → ℕ → DegreeTold → Type 0
DegreePromise net b t r = OfState net b (λ why. r ≡ says_degree (number_of_fault why) (index_of_fault why) 0) (DegreeGiven net b t r)

abbrev pub OwedPromise : List ℕ → List ℕ → OwedTold → Type 0
OwedPromise net b r =
    OfState net b (λ why. r ≡ says_owed (number_of_fault why) (index_of_fault why) (set_says 0 0 0) (set_says 0 0 0) 0) (OwedGiven net b r)

abbrev pub RunPromise : List ℕ → List ℕ → List ℕ → Bool → RunTold → List ℕ → Type 0
RunPromise net b log started r b' = OfLog net b log (λ why. TellsRunFault r why × (b' ≡ b)) (LogRun net b log started r b')

abbrev pub WalkPromise : List ℕ → List ℕ → List ℕ → ℕ → Bool → WalkTold → List ℕ → Type 0
WalkPromise net b log n started r b' = OfLog net b log (λ why. TellsWalkFault r why × (b' ≡ b)) (LogBack net b log n started r b')

abbrev pub StepPromise : List ℕ → ℕ → StepTold → Type 0
StepPromise log k r = OfLogAlone log (λ why. r ≡ says_step (number_of_fault why) 0 0 0) (StepGiven log k r)
