-- Where a number is told that is not early, the buffer has a state that can be shown.
-- Assumes nothing.
use mathlib.Core.Path.{◌≡◌, refl, sym, ap, ◌∙◌}
use mathlib.Core.Bool.{Bool, false, true, cond}
use mathlib.Core.List.{List}
use Prim.Native.Nat.{ℕ}
use native.Mathlib.Omega.{arith}
use lib.Dec.{eqb}
use Rattle.model.specs.Net.{Net, State}
use Rattle.forms.specs.declared.fault.Fault.{Fault}
use Rattle.forms.specs.declared.fault.Fault.TheVariants as fault
use Rattle.std.specs.Prelude.{Ok, Err}
use Rattle.forms.specs.Checked.{Checked, number_of, number_of_fault}
use Rattle.forms.specs.Stored.{net_of}
use Rattle.forms.specs.States.{StateHead}
use Rattle.forms.specs.Written.{written, check_room}
use Rattle.forms.proofs.Written.{length-written, written-head}
use Rattle.engine.specs.Examined.{Examined, examine_net, examine_log}
use Rattle.engine.specs.Calls.{initial_told, initial_left, run_told, run_left}
use Rattle.engine.proofs.Fits.{log-fits}
use Rattle.replay.specs.declared.input.Replayed.{Replayed}
use Rattle.replay.specs.Replayed.{net_in, log_in, is_early, is_begun, replayed, replay_left, Shown}
use Rattle.replay.specs.Lines.{ShowsState, cells_shown, LateShown, Reads}
use Rattle.replay.proofs.States.{shows-state}

-- 1 to 10 are early
pub fault-early : (why : Fault) → is_early (number_of_fault why) ≡ true
fault-early fault.NetFrame = refl
fault-early fault.NetSize = refl
fault-early fault.NetLength = refl
fault-early (fault.NoInterval t) = refl
fault-early (fault.NoInput t) = refl
fault-early (fault.NoOutput t) = refl
fault-early fault.NoRoom = refl
fault-early fault.StateFrame = refl
fault-early (fault.PastLfd t) = refl
fault-early fault.LogFrame = refl

checked-early : (check : Checked) → eqb (number_of check) 0 ≡ false → is_early (number_of check) ≡ true
checked-early (Ok tt) e = sym e
checked-early (Err why) e = fault-early why

-- a test does not both pass and fail
pub not-both : {b : Bool} {A : Type 0} → b ≡ true → b ≡ false → A
not-both e f = let z : ◌≡◌ {A = ℕ} 1 0 = ap (λ (x : Bool). cond x 1 0) (sym e ∙ f) in absurd (omega arith)

-- a state written over one that can be shown
written-shown : (N : Net) (S : State) (b : List ℕ) → StateHead N b → Shown (written N S b)
written-shown N S b h =
    let kept = written-head N S b in
    record {
      least = rw (length-written N S b) h.least;
      room = rw (
        kept 5 (omega arith) ∙ h.places_are,
        kept 6 (omega arith) ∙ h.transitions_are,
        kept 7 (omega arith) ∙ h.width_is,
        length-written N S b,
      ) h.room;
    }

module _ (net state : List ℕ) where
  initial-early : (x : Examined) → examine_net net ≡ x → is_begun net state ≡ false → is_early (initial_told net state).number ≡ true
  unfolding initial_told
  initial-early (Ok s) e stopped = rw e (checked-early (check_room (net_of net) state) (rw e at stopped))
  initial-early (Err why) e stopped = rw e (fault-early why)

-- what holds of every state written behind the head of one of the net holds where the number told is not early
module _ (A : List ℕ → List ℕ → Type 0) (of-written : (net : List ℕ) (S : State) (b : List ℕ) → StateHead (net_of net) b → A net (written (net_of net) S b)) where
  ran-late : (net state log : List ℕ) (x : Examined) → examine_log net state log ≡ x → is_early (run_told net state log false).number ≡ false → A net (run_left net state log false)
  unfolding run_told run_left
  ran-late net state log (Ok s) e late = rw e (of-written net _ state (log-fits net s state log e).0.is_state.head)
  ran-late net state log (Err why) e late = not-both (fault-early why) (rw e at late)

  module _ (input state : List ℕ) where
    by-begun : (x : Bool) → is_begun (net_in input) state ≡ x → is_early (replayed input state).number ≡ false → A (net_in input) (replay_left input state)
    unfolding replayed replay_left
    by-begun true e late = rw e (ran-late (net_in input) (initial_left (net_in input) state) (log_in input) _ refl (rw e at late))
    by-begun false e late = not-both (initial-early (net_in input) state _ refl e) (rw e at late)

    late-holds : is_early (replayed input state).number ≡ false → A (net_in input) (replay_left input state)
    late-holds late = by-begun _ refl late

pub ran-shown : (net state log : List ℕ) → is_early (run_told net state log false).number ≡ false → Shown (run_left net state log false)
ran-shown net state log = ran-late (λ net b. Shown b) (λ net S b h. written-shown (net_of net) S b h) net state log _ refl

pub shown : (input state : List ℕ) → is_early (replayed input state).number ≡ false → Shown (replay_left input state)
shown = late-holds (λ net b. Shown b) (λ net S b h. written-shown (net_of net) S b h)

-- and what is shown is the state that the run left
pub late-shows : (input state : List ℕ) → is_early (replayed input state).number ≡ false → ShowsState (net_of (net_in input)) (replay_left input state)
late-shows =
    late-holds (λ net b. ShowsState (net_of net) b)
    (λ net S b h.
    let kept = written-head (net_of net) S b in
    shows-state (net_of net) (written (net_of net) S b)
    (kept 5 (omega arith) ∙ h.places_are) (kept 6 (omega arith) ∙ h.transitions_are) (kept 7 (omega arith) ∙ h.width_is))

-- what a program knows behind a replay
pub late_shown : (input state : List ℕ) (r : Replayed) (left : List ℕ) → r ≡ replayed input state → left ≡ replay_left input state
    → LateShown r.number left
late_shown input state r left told leaves late =
    rw leaves (shown input state (ap (λ (x : Replayed). is_early x.number) (sym told) ∙ late))

-- the cells that are looked at can be read
pub late_reads : (number : ℕ) (state : List ℕ) → LateShown number state → Reads state (cells_shown number state)
late_reads number state is = by-test (is_early number) refl
  where
    by-test : (x : Bool) → is_early number ≡ x → Reads state (cells_shown number state)
    by-test true e = rw e Reads.nothing
    by-test false e = rw e (Reads.whole (is e))
