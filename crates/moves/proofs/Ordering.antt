-- The order of a step on bytes: what does not ask for it, and an end that comes too late for it.
-- Assumes nothing.
use mathlib.Core.Path.{◌≡◌, refl}
use mathlib.Core.Bool.{Bool, true, false}
use mathlib.Core.List.{List}
use Prim.Native.Nat.{ℕ, ◌<◌, ◌≤◌}
use native.Mathlib.Omega.{arith}
use borrow.Author.Tests.{lt-ltb, le-ltb}
use Rattle.model.specs.declared.age.Age.{Age}
use Rattle.model.specs.declared.event.Event.TheVariants as event
use Rattle.model.specs.declared.net.Net.{Net as Shape}
use Rattle.model.specs.declared.answer.Refusal.{Refusal}
use Rattle.model.specs.declared.answer.Refusal.TheVariants as refusal
use Rattle.std.proofs.Common.{Err}
use Rattle.model.specs.Net.{Net, State}
use Rattle.model.specs.Rules.{refused, is_timely, can_end, apply, back}
use Rattle.forms.specs.Word.{byte}
use Rattle.forms.specs.Stored.{net_of, stored}
use Rattle.forms.specs.Frame.{FramedNet}
use Rattle.forms.proofs.States.{transitions-same}
use Rattle.moves.specs.After.{Answers}

-- in the opening of a step every end may be
opening-end : (j : ℕ) → can_end false j ≡ true
unfolding can_end
opening-end j = refl

module _ (N : Net) (started : Bool) (S : State) where
  -- A tick and a start ask nothing of whether a start has happened before in the step
  pub tick-any : apply N started S event.Tick ≡ apply N false S event.Tick
  unfolding apply
  tick-any = refl

  pub untick-any : back N started S event.Tick ≡ back N false S event.Tick
  unfolding back
  untick-any = refl

  pub start-any : (t : ℕ) → apply N started S (event.Start t) ≡ apply N false S (event.Start t)
  unfolding apply
  start-any t = refl

  pub unstart-any : (t : ℕ) → back N started S (event.Start t) ≡ back N false S (event.Start t)
  unfolding back
  unstart-any t = refl

  -- and an end that may be asks no more
  module _ (t : ℕ) (age : Age) (may : can_end started age.0 ≡ true) where
    pub end-any : apply N started S (event.End t age) ≡ apply N false S (event.End t age)
    unfolding apply
    end-any = rw (may, opening-end age.0)

    pub unend-any : back N started S (event.End t age) ≡ back N false S (event.End t age)
    unfolding back
    unend-any = rw (may, opening-end age.0)

-- one that may not be comes behind a start
pub behind-start : (started : Bool) (j : ℕ) → can_end started j ≡ false → (started ≡ true) × (can_end true j ≡ false)
unfolding can_end
behind-start true j e = (refl, e)
behind-start false j e = let z : ◌≡◌ {A = ℕ} 0 1 = cc in absurd (omega arith)

-- WHY AN END IS TOO LATE, whatever the state

abbrev pub TooLate : Net → ℕ → Age → Refusal → Type 0
TooLate N t age why = (S : State) → (apply N true S (event.End t age) ≡ refused why) × (back N true S (event.End t age) ≡ refused why)

module _ (net : List ℕ) (shape : Shape) (f : FramedNet net shape) (t : ℕ) (age : Age) where
  pub known-late : t < shape.transitions → t < byte net 6
  known-late l = omega (arith, transitions-same net shape f)

  pub late-unknown : shape.transitions ≤ t → TooLate (net_of net) t age refusal.NoSuchTransition
  unfolding apply back
  late-unknown l S =
      let unknown = le-ltb t (net_of net).transitions (omega (arith, f.has_shape.transitions_are)) in (rw unknown, rw unknown)

  module _ (l : t < shape.transitions) where
    pub late-untimely : is_timely (net_of net) t age.0 ≡ false → TooLate (net_of net) t age refusal.OutsideInterval
    unfolding apply back
    late-untimely late S =
        let known = lt-ltb t (net_of net).transitions (omega (arith, f.has_shape.transitions_are)) in (rw (known, late), rw (known, late))

    pub late-old : is_timely (net_of net) t age.0 ≡ true → can_end true age.0 ≡ false → TooLate (net_of net) t age refusal.OldAfterStart
    unfolding apply back
    late-old yes-timely old S =
        let known = lt-ltb t (net_of net).transitions (omega (arith, f.has_shape.transitions_are)) in
        (rw (known, yes-timely, old), rw (known, yes-timely, old))

-- what it comes to where the code returns it, of an end done and of one taken back
module _ (net b : List ℕ) (started : Bool) (t : ℕ) (age : Age) (late : can_end started age.0 ≡ false) (why : Refusal) (is : TooLate (net_of net) t age why) where
  pub end-too-late : Answers net b (apply (net_of net) started (stored net b) (event.End t age)) (Err why) b
  end-too-late = rw ((behind-start started age.0 late).0, (is (stored net b)).0) (refl, refl)

  pub unend-too-late : Answers net b (back (net_of net) started (stored net b) (event.End t age)) (Err why) b
  unend-too-late = rw ((behind-start started age.0 late).0, (is (stored net b)).1) (refl, refl)
