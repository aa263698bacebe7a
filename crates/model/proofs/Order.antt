-- THE ORDER OF A STEP: the rules of single events make of a step what Section 2.2 of document 004 says.
-- Assumes nothing.
use mathlib.Core.Path.{◌≡◌}
use mathlib.Core.Bool.{Bool, true}
use mathlib.Core.List.{List, [], ◌∷◌, ◌++◌}
use Prim.Native.Nat.{ℕ, ◌+◌, ◌<◌}
use native.Mathlib.Omega.{arith}
use Rattle.model.specs.declared.event.Event.{Event}
use Rattle.model.specs.declared.event.Event.TheVariants as event
use Rattle.model.specs.Net.{Net, State, count}
use Rattle.model.specs.Moves.{started_by, NoOldEndOwed, Moves}
use Rattle.model.specs.Run.{started_after, Leads, stay, move}
use Rattle.model.specs.Order.{IsEnd, IsTick, IsOldEnd, Each, endings, EndsAllOwed, OpensWith, StepOrder}
use Rattle.model.proofs.Shape.{lfd-fits}
use Rattle.model.proofs.Alls.{not_yet}
use Rattle.model.proofs.Lawful.{settles-start, settles_end}
use Rattle.model.proofs.Run.{leads-split}

-- each end of an opening takes one from the count of its transition and age
opening-ends : {N : Net} {b : Bool} {S S₁ : State} {es : List Event} → Each IsEnd es → Leads N b S es S₁ → (t : ℕ) → t < N.transitions
    → endings t (N.lfd t) es + count S₁ t (N.lfd t) ≡ count S t (N.lfd t)
unfolding Each endings
opening-ends e stay t l = omega arith
opening-ends {N} e (move {e = event.End u age} m k) t l =
    omega (arith, m.counted t (N.lfd t) l (lfd-fits N t l), opening-ends e.1 k t l)
opening-ends e (move {e = event.Tick} m k) t l = absurd e.0
opening-ends e (move {e = event.Start u} m k) t l = absurd e.0
opening-ends e (move {e = event.Malformed} m k) t l = absurd e.0

-- behind a start only firings of age 0 end, up to a tick
young : {N : Net} {S S' : State} (es fs : List Event) → Each (λ e. ¬ IsTick e) es → Leads N true S (es ++ fs) S'
    → Each (λ e. ¬ IsOldEnd e) es
unfolding Each
young [] fs e l = tt
young (event.Tick ∷ es) fs e l = absurd (e.0 tt)
young (event.Start u ∷ es) fs e (move m l) = ((λ z. z), young es fs e.1 l)
young (event.End u age ∷ es) fs e (move m l) = ((λ z. omega (arith, m.may_end)), young es fs e.1 l)
young (event.Malformed ∷ es) fs e (move m l) = absurd m

-- where a start or a tick follows, no end of age 1 or more is owed any more
start-settled : {N : Net} {b : Bool} {S S' : State} {t : ℕ} {es : List Event} → Leads N b S (event.Start t ∷ es) S' → NoOldEndOwed N S
start-settled (move m l) = m.no_old_end_owed

tick-settled : {N : Net} {b : Bool} {S S' : State} {es : List Event} → Leads N b S (event.Tick ∷ es) S' → NoOldEndOwed N S
tick-settled (move m l) t known old = omega (arith, m.no_end_owed t known)

-- so they were among the ends before
all-ended : {N : Net} {b : Bool} {S S₁ : State} {es : List Event} → Each IsEnd es → Leads N b S es S₁ → NoOldEndOwed N S₁ → EndsAllOwed N S es
all-ended e l o t known old = omega (arith, opening-ends e l t known, o t known old)

-- and where they have led, the step opens
opens : {N : Net} {b : Bool} {S S' : State} (earlier opening later : List Event) → Each IsEnd opening
    → Leads N b S (earlier ++ (opening ++ later)) S' → ((c : Bool) (S₂ : State) → Leads N c S₂ later S' → NoOldEndOwed N S₂)
    → OpensWith N b S earlier opening
opens earlier opening later ends l none =
    let (S₁, a, k) = leads-split earlier l in
    let (S₂, o, j) = leads-split opening k in
    (S₁, a, all-ended ends o (none _ S₂ j))

-- where none is owed, none is owed behind the next event: a start needs it so, and an end makes none owed
pub settles : (N : Net) (started : Bool) (S S' : State) (clear : Bool) (e : Event) → Moves N started S e S'
    → (clear ≡ true → NoOldEndOwed N S) → started_by clear e ≡ true → NoOldEndOwed N S'
settles N started S S' clear event.Tick m known is = not_yet is
settles N started S S' clear (event.Start t) m known is = settles-start m
settles N started S S' clear (event.End t age) m known is = settles_end (known is) m
settles N started S S' clear event.Malformed m known is = absurd m

settled-all : {N : Net} {b : Bool} {S S' : State} {es : List Event} → (b ≡ true → NoOldEndOwed N S) → Leads N b S es S'
    → started_after b es ≡ true → NoOldEndOwed N S'
unfolding started_after
settled-all known stay is = known is
settled-all {N} known (move {started = b} {S} {S₁} {e = e} m l) is = settled-all (settles N b S S₁ b e m known) l is

pub step_order : (N : Net) → StepOrder N
step_order N = record {
  before_a_start = λ b S S' earlier opening later t ends l. opens earlier opening (event.Start t ∷ later) ends l (λ c S₂ k. start-settled k);
  before_a_tick = λ b S S' earlier opening later ends l. opens earlier opening (event.Tick ∷ later) ends l (λ c S₂ k. tick-settled k);
  behind_a_start = λ b S S' earlier rest later is quiet l. let (S₁, a, k) = leads-split earlier l in young rest later quiet (rw is at k);
  none_owed_behind = λ b S S' es known l. settled-all known l;
}
