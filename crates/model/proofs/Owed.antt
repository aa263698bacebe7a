-- The owed report is what document 01 says: the two sets, their numbers, the lowest of each, and the standing.
-- Assumes nothing.
use mathlib.Core.Path.{◌≡◌, refl, ap}
use mathlib.Core.Bool.{Bool}
use mathlib.Core.Logic.{◌↔◌}
use Prim.Native.Nat.{ℕ, zero, suc, ◌≤◌}
use native.Mathlib.Omega.{arith}
use Rattle.model.specs.declared.event.Event.TheVariants as event
use Rattle.model.specs.declared.answer.Standing.{Standing}
use Rattle.model.specs.declared.answer.Standing.TheVariants as standing
use Rattle.model.specs.Tab.{Tells, how_many}
use Rattle.model.specs.Net.{Net, State, count}
use Rattle.model.specs.Moves.{NoStartOwed, NoEndOwed}
use Rattle.model.specs.Rules.{ticked, apply, done}
use Rattle.model.specs.Owed.{OwesStart, does_owe_start, OwesEnd, does_owe_end, HowMany, word_bits, Stands, standing_of, Report, Reports, owed}
use Rattle.model.proofs.Tab.{both-tell}
use Rattle.model.proofs.Tests.{leb_tells, ltb-tells, enabled-tells, no-start-owed-tells, no-end-owed-tells}
use Rattle.model.proofs.Tests.{nothing-running-tells, decide, told-true, told-false, tells-once}
use Rattle.model.proofs.Lowest.{lowest-is, lowest-once}
use Rattle.model.proofs.ForwardSteps.{ticks}
use Rattle.model.proofs.Forward.{apply-exact}

-- HOW MANY A SET HAS THAT A TEST TELLS

module _ {f : ℕ → Bool} {A : ℕ → Type 0} (each : (i : ℕ) → Tells (f i) (A i)) where
  pub how-many-is : (n : ℕ) → HowMany A n (how_many n f)
  unfolding how_many
  how-many-is zero = HowMany.none
  how-many-is (suc n) =
      decide (each n)
      (λ a. rw (told-true (each n) a) (HowMany.one_more a (how-many-is n)))
      (λ a. rw (told-false (each n) a) (HowMany.no_more a (how-many-is n)))

-- two numbers of one set are equal
pub how-many-once : {A : ℕ → Type 0} {n k l : ℕ} → HowMany A n k → HowMany A n l → k ≡ l
how-many-once HowMany.none HowMany.none = refl
how-many-once (HowMany.one_more a s) (HowMany.one_more b t) = ap suc (how-many-once s t)
how-many-once (HowMany.one_more a s) (HowMany.no_more b t) = absurd (b a)
how-many-once (HowMany.no_more a s) (HowMany.one_more b t) = absurd (a b)
how-many-once (HowMany.no_more a s) (HowMany.no_more b t) = how-many-once s t

module _ (N : Net) (S : State) where
  -- THE SETS

  pub owes-start-tells : (t : ℕ) → Tells (does_owe_start N S t) (OwesStart N S t)
  unfolding does_owe_start
  owes-start-tells t = both-tell (ltb-tells t N.transitions) (enabled-tells N S t)

  pub owes-end-tells : (t : ℕ) → Tells (does_owe_end N S t) (OwesEnd N S t)
  unfolding does_owe_end
  owes-end-tells t = both-tell (ltb-tells t N.transitions) (leb_tells 1 (count S t (N.lfd t)))

  -- no start, or no end, is owed exactly where the set is empty
  pub no-start-owed-is : NoStartOwed N S ↔ ((t : ℕ) → ¬ OwesStart N S t)
  no-start-owed-is = ((λ none t (l, en). none t l en), λ empty t l en. empty t (l, en))

  pub no-end-owed-is : NoEndOwed N S ↔ ((t : ℕ) → ¬ OwesEnd N S t)
  no-end-owed-is = ((λ none t (l, c). omega (arith, none t l)), λ empty t l. zero-else (count S t (N.lfd t)) (λ c. empty t (l, c)))
    where
      zero-else : (n : ℕ) → ¬ (1 ≤ n) → n ≡ 0
      zero-else n h = omega arith

  -- THE STANDING

  standing-stands : Stands N S (standing_of N S)
  unfolding standing_of
  standing-stands =
      let s = no-start-owed-tells N S in
      let e = no-end-owed-tells N S in
      let r = nothing-running-tells N S in
      decide s
      (λ none. decide e
      (λ none'. decide r
      (λ rest. rw (told-true s none, told-true e none', told-true r rest) (Stands.at_rest none none' rest))
      (λ runs. rw (told-true s none, told-true e none', told-false r runs) (Stands.free_to_tick none none' runs)))
      (λ due. rw (told-true s none, told-false e due) (Stands.end_owed none due)))
      (λ due. rw (told-false s due) (Stands.start_owed due))

  pub stands-once : {a b : Standing} → Stands N S a → Stands N S b → a ≡ b
  stands-once (Stands.start_owed _) (Stands.start_owed _) = refl
  stands-once (Stands.start_owed due) (Stands.end_owed none _) = absurd (due none)
  stands-once (Stands.start_owed due) (Stands.free_to_tick none _ _) = absurd (due none)
  stands-once (Stands.start_owed due) (Stands.at_rest none _ _) = absurd (due none)
  stands-once (Stands.end_owed none _) (Stands.start_owed due) = absurd (due none)
  stands-once (Stands.end_owed _ _) (Stands.end_owed _ _) = refl
  stands-once (Stands.end_owed _ due) (Stands.free_to_tick _ none _) = absurd (due none)
  stands-once (Stands.end_owed _ due) (Stands.at_rest _ none _) = absurd (due none)
  stands-once (Stands.free_to_tick none _ _) (Stands.start_owed due) = absurd (due none)
  stands-once (Stands.free_to_tick _ none _) (Stands.end_owed _ due) = absurd (due none)
  stands-once (Stands.free_to_tick _ _ _) (Stands.free_to_tick _ _ _) = refl
  stands-once (Stands.free_to_tick _ _ runs) (Stands.at_rest _ _ rest) = absurd (runs rest)
  stands-once (Stands.at_rest none _ _) (Stands.start_owed due) = absurd (due none)
  stands-once (Stands.at_rest _ none _) (Stands.end_owed _ due) = absurd (due none)
  stands-once (Stands.at_rest _ _ rest) (Stands.free_to_tick _ _ runs) = absurd (runs rest)
  stands-once (Stands.at_rest _ _ _) (Stands.at_rest _ _ _) = refl

  -- the standing that is computed is the first that holds
  pub standing-exact : (s : Standing) → (standing_of N S ≡ s) ↔ Stands N S s
  standing-exact s = ((λ e. rw e at standing-stands), stands-once standing-stands)

  -- 'free to tick' holds exactly where a tick is accepted
  pub free_to_tick : (begun : Bool) → Stands N S standing.FreeToTick ↔ ((S' : State) × (apply N begun S event.Tick ≡ done S'))
  free_to_tick begun = (
    free,
    λ (S', d). let m = (apply-exact N begun S event.Tick S').0 d in
        Stands.free_to_tick m.no_start_owed m.no_end_owed m.running,
  )
    where
      free : Stands N S standing.FreeToTick → (S' : State) × (apply N begun S event.Tick ≡ done S')
      free (Stands.free_to_tick none none' runs) =
          (ticked N S, (apply-exact N begun S event.Tick (ticked N S)).1 (ticks N S none none' runs))

  -- THE REPORT

  -- DEMAND 2: the owed report is exact
  pub owed-reports : Reports N S (owed N S)
  unfolding owed
  owed-reports = record {
    starts_are = owes-start-tells;
    ends_are = owes-end-tells;
    start_count_is = how-many-is owes-start-tells N.transitions;
    end_count_is = how-many-is owes-end-tells N.transitions;
    lowest_start_is = lowest-is owes-start-tells word_bits N.transitions;
    lowest_end_is = lowest-is owes-end-tells word_bits N.transitions;
    standing_is = standing-stands;
  }

  -- the standing that is reported is the first that holds
  pub owed-standing : (s : Standing) → ((owed N S).standing ≡ s) ↔ Stands N S s
  unfolding owed
  owed-standing = standing-exact

  -- and nothing else could be reported
  pub reports-once : {r r' : Report} → Reports N S r → Reports N S r' → r ≡ r'
  reports-once a b = λ i. record {
    starts = λ t. tells-once (a.starts_are t) (b.starts_are t) i;
    ends = λ t. tells-once (a.ends_are t) (b.ends_are t) i;
    start_count = how-many-once a.start_count_is b.start_count_is i;
    end_count = how-many-once a.end_count_is b.end_count_is i;
    lowest_start = lowest-once a.lowest_start_is b.lowest_start_is i;
    lowest_end = lowest-once a.lowest_end_is b.lowest_end_is i;
    standing = stands-once a.standing_is b.standing_is i;
  }
