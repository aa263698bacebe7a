-- A refusal by what is told of it: no two tell the same, and none tells what is told of an event that is done.
-- Assumes nothing.
use Rattle.std.specs.Prelude.{Ok, Err}
use mathlib.Core.Path.{◌≡◌, refl, sym, ap, ◌∙◌}
use mathlib.Core.Bool.{cond}
use Prim.Native.Nat.{ℕ}
use native.Mathlib.Omega.{arith}
use lib.Dec.{eqb}
use Rattle.model.specs.declared.answer.Barrier.{Barrier}
use Rattle.model.specs.declared.answer.Barrier.TheVariants as barrier
use Rattle.model.specs.declared.answer.Refusal.{Refusal}
use Rattle.model.specs.declared.answer.Refusal.TheVariants as refusal
use Rattle.model.specs.Answer.{Answer, Telling, nothing_short, plain, number_of_barrier, telling_of_refusal, number_of_refusal, number_of, short_of}

barrier-number : {C : Type 0} (why : Barrier) → number_of_barrier why ≡ 0 → C
barrier-number barrier.SomeFresh e = absurd (omega arith)
barrier-number barrier.NoneStarted e = absurd (omega arith)
barrier-number barrier.PlaceOverfull e = absurd (omega arith)
barrier-number barrier.TooFewTokens e = absurd (omega arith)
barrier-number barrier.CountOverfull e = absurd (omega arith)

-- a refusal's number is never that of an event that is done
pub refusal-number : {C : Type 0} (why : Refusal) → number_of_refusal why ≡ 0 → C
refusal-number refusal.Malformed e = absurd (omega arith)
refusal-number refusal.NoSuchTransition e = absurd (omega arith)
refusal-number (refusal.NotEnabled short) e = absurd (omega arith)
refusal-number refusal.OldEndOwed e = absurd (omega arith)
refusal-number refusal.CountFull e = absurd (omega arith)
refusal-number refusal.OutsideInterval e = absurd (omega arith)
refusal-number refusal.OldAfterStart e = absurd (omega arith)
refusal-number refusal.NoneOfThatAge e = absurd (omega arith)
refusal-number refusal.PlaceFull e = absurd (omega arith)
refusal-number refusal.StartOwed e = absurd (omega arith)
refusal-number refusal.EndOwed e = absurd (omega arith)
refusal-number refusal.NothingRunning e = absurd (omega arith)
refusal-number (refusal.OnlyBack why) e = barrier-number why e

barrier_named : ℕ → Barrier
barrier_named n =
    cond (eqb n 21) barrier.SomeFresh (cond (eqb n 24) barrier.NoneStarted
    (cond (eqb n 25) barrier.PlaceOverfull (cond (eqb n 26) barrier.TooFewTokens barrier.CountOverfull)))

named : Telling → Refusal
named x =
    let n = x.number in
    cond (eqb n 11) refusal.Malformed (cond (eqb n 12) refusal.NoSuchTransition
    (cond (eqb n 13) (refusal.NotEnabled x.short) (cond (eqb n 14) refusal.CountFull
    (cond (eqb n 15) refusal.OutsideInterval (cond (eqb n 16) refusal.NoneOfThatAge
    (cond (eqb n 17) refusal.PlaceFull (cond (eqb n 18) refusal.StartOwed
    (cond (eqb n 19) refusal.EndOwed (cond (eqb n 20) refusal.NothingRunning
    (cond (eqb n 28) refusal.OldAfterStart (cond (eqb n 29) refusal.OldEndOwed (refusal.OnlyBack (barrier_named n)))))))))))))

named-telling : (why : Refusal) → named (telling_of_refusal why) ≡ why
unfolding named barrier_named
named-telling refusal.Malformed = refl
named-telling refusal.NoSuchTransition = refl
named-telling (refusal.NotEnabled short) = refl
named-telling refusal.OldEndOwed = refl
named-telling refusal.CountFull = refl
named-telling refusal.OutsideInterval = refl
named-telling refusal.OldAfterStart = refl
named-telling refusal.NoneOfThatAge = refl
named-telling refusal.PlaceFull = refl
named-telling refusal.StartOwed = refl
named-telling refusal.EndOwed = refl
named-telling refusal.NothingRunning = refl
named-telling (refusal.OnlyBack barrier.SomeFresh) = refl
named-telling (refusal.OnlyBack barrier.NoneStarted) = refl
named-telling (refusal.OnlyBack barrier.PlaceOverfull) = refl
named-telling (refusal.OnlyBack barrier.TooFewTokens) = refl
named-telling (refusal.OnlyBack barrier.CountOverfull) = refl

-- two refusals of which the same is told are one
pub one-telling : (why other : Refusal) → telling_of_refusal why ≡ telling_of_refusal other → why ≡ other
one-telling why other e = sym (named-telling why) ∙ ap named e ∙ named-telling other

-- all but 13 tell no more than their number
plainly : (why : Refusal) → ¬ (number_of_refusal why ≡ 13) → telling_of_refusal why ≡ plain (number_of_refusal why)
plainly refusal.Malformed h = refl
plainly refusal.NoSuchTransition h = refl
plainly (refusal.NotEnabled short) h = absurd (h refl)
plainly refusal.OldEndOwed h = refl
plainly refusal.CountFull h = refl
plainly refusal.OutsideInterval h = refl
plainly refusal.OldAfterStart h = refl
plainly refusal.NoneOfThatAge h = refl
plainly refusal.PlaceFull h = refl
plainly refusal.StartOwed h = refl
plainly refusal.EndOwed h = refl
plainly refusal.NothingRunning h = refl
plainly (refusal.OnlyBack why) h = refl

pub no_place_lem : (a : Answer) → ¬ (number_of a ≡ 13) → short_of a ≡ nothing_short
no_place_lem (Ok _) h = refl
no_place_lem (Err why) h = ap (λ (x : Telling). x.short) (plainly why h)

-- so of these two with one number are one
pub one_number : (why other : Refusal) → ¬ (number_of_refusal why ≡ 13) → number_of_refusal why ≡ number_of_refusal other → why ≡ other
one_number why other h e =
    one-telling why other (plainly why h ∙ ap plain e ∙ sym (plainly other (λ z. h (e ∙ z))))
