-- K1 to K12 of document 01 together, and the further cases: one test that antt computes over a table, and the law that turns
-- it into each case.
-- Assumes nothing.
use mathlib.Core.Path.{◌≡◌, refl, ap₂}
use mathlib.Core.Bool.{Bool, true, false, not, ◌&&◌}
use mathlib.Core.List.{List, [], ◌∷◌}
use Prim.Native.Nat.{ℕ}
use lib.Dec.{T, eqb, eqb→eq}
use lib.ListN.{length, get_or}
use Rattle.model.specs.Answer.{number_of_standing}
use Rattle.model.specs.Tab.{tab, all, largest, least, how_many, lowest, one}
use Rattle.model.specs.Net.{width, State, tokens, count, build, initial_state}
use Rattle.model.specs.Rules.{lacking_place, is_enabled, short, has_no_start_owed, has_no_end_owed, has_nothing_running, is_timely, has_room, does_cover, has_none_fresh}
use Rattle.model.specs.Rules.{can_end, owes_no_old_end, has_no_old_end_owed}
use Rattle.model.specs.Rules.{older, started, ended, ticked, unstarted, unended, unticked, apply, back, times, degree}
use Rattle.model.specs.Run.{RunTold, WalkTold, EventTold, BackTold, told_event, told_back, started_after, turns, in_turn, run, walk_back, walk}
use Rattle.model.specs.Owed.{does_owe_start, does_owe_end, standing_of, owed}
use Rattle.model.specs.Cases.{childrens_row, heavy, slow_middle, threefold, Case, runs, walks, does, undoes, has_degree, has_width, owes, digest, Holds, AllHold, cases, further_cases}

-- TESTS OF EQUALITY

both : (a b : Bool) → T (a && b) → T a × T b
both true b t = (tt, t)
both false b t = absurd t

module _ {A : Type 0} (same : A → A → Bool) where
  same_list : List A → List A → Bool
  same_list [] [] = true
  same_list [] (y ∷ ys) = false
  same_list (x ∷ xs) [] = false
  same_list (x ∷ xs) (y ∷ ys) = same x y && same_list xs ys

  same_list-sound : ((a b : A) → T (same a b) → a ≡ b) → (xs ys : List A) → T (same_list xs ys) → xs ≡ ys
  unfolding same_list
  same_list-sound sound [] [] t = refl
  same_list-sound sound [] (y ∷ ys) t = absurd t
  same_list-sound sound (x ∷ xs) [] t = absurd t
  same_list-sound sound (x ∷ xs) (y ∷ ys) t =
      let (h, r) = both (same x y) (same_list xs ys) t in
      ap₂ ◌∷◌ (sound x y h) (same_list-sound sound xs ys r)

same_state : State → State → Bool
same_state S S' = same_list eqb S.marking S'.marking && same_list (same_list eqb) S.clock S'.clock

same_state-sound : (S S' : State) → T (same_state S S') → S ≡ S'
unfolding same_state
same_state-sound S S' t =
    let (m, h) = both (same_list eqb S.marking S'.marking) (same_list (same_list eqb) S.clock S'.clock) t in
    let p = same_list-sound eqb eqb→eq S.marking S'.marking m in
    let q = same_list-sound (same_list eqb) (same_list-sound eqb eqb→eq) S.clock S'.clock h in
    λ i. record { marking = p i; clock = q i }

numbers : WalkTold → List ℕ
numbers r = r.number ∷ r.index ∷ r.done ∷ r.ticks ∷ []

same_told : WalkTold → WalkTold → Bool
same_told r r' = same_list eqb (numbers r) (numbers r') && same_state r.state r'.state

same_told-sound : (r r' : WalkTold) → T (same_told r r') → r ≡ r'
unfolding same_told numbers
same_told-sound r r' t =
    let (n, s) = both (same_list eqb (numbers r) (numbers r')) (same_state r.state r'.state) t in
    let p = same_list-sound eqb eqb→eq (numbers r) (numbers r') n in
    let q = same_state-sound r.state r'.state s in
    λ i. record {
      number = get_or (p i) 0 0;
      index = get_or (p i) 1 0;
      done = get_or (p i) 2 0;
      ticks = get_or (p i) 3 0;
      state = q i;
    }

run_numbers : RunTold → List ℕ
run_numbers r = r.number ∷ r.index ∷ r.done ∷ r.ticks ∷ r.short.place ∷ r.short.lacks ∷ []

same_bool : Bool → Bool → Bool
same_bool true b = b
same_bool false b = not b

same_bool-sound : (a b : Bool) → T (same_bool a b) → a ≡ b
unfolding same_bool
same_bool-sound true true t = refl
same_bool-sound true false t = absurd t
same_bool-sound false true t = absurd t
same_bool-sound false false t = refl

same_run : RunTold → RunTold → Bool
same_run r r' =
    same_list eqb (run_numbers r) (run_numbers r') && (same_bool r.started r'.started && same_state r.state r'.state)

same_run-sound : (r r' : RunTold) → T (same_run r r') → r ≡ r'
unfolding same_run run_numbers
same_run-sound r r' t =
    let (n, fs) = both (same_list eqb (run_numbers r) (run_numbers r')) (same_bool r.started r'.started && same_state r.state r'.state) t in
    let (f, s) = both (same_bool r.started r'.started) (same_state r.state r'.state) fs in
    let p = same_list-sound eqb eqb→eq (run_numbers r) (run_numbers r') n in
    let b = same_bool-sound r.started r'.started f in
    let q = same_state-sound r.state r'.state s in
    λ i. record {
      number = get_or (p i) 0 0;
      index = get_or (p i) 1 0;
      done = get_or (p i) 2 0;
      ticks = get_or (p i) 3 0;
      short = record { place = get_or (p i) 4 0; lacks = get_or (p i) 5 0 };
      started = b i;
      state = q i;
    }

event_numbers : EventTold → List ℕ
event_numbers r = r.number ∷ r.index ∷ r.short.place ∷ r.short.lacks ∷ []

same_event : EventTold → EventTold → Bool
same_event r r' = same_list eqb (event_numbers r) (event_numbers r') && same_state r.state r'.state

same_event-sound : (r r' : EventTold) → T (same_event r r') → r ≡ r'
unfolding same_event event_numbers
same_event-sound r r' t =
    let (n, s) = both (same_list eqb (event_numbers r) (event_numbers r')) (same_state r.state r'.state) t in
    let p = same_list-sound eqb eqb→eq (event_numbers r) (event_numbers r') n in
    let q = same_state-sound r.state r'.state s in
    λ i. record {
      number = get_or (p i) 0 0;
      index = get_or (p i) 1 0;
      short = record { place = get_or (p i) 2 0; lacks = get_or (p i) 3 0 };
      state = q i;
    }

back_numbers : BackTold → List ℕ
back_numbers r = r.number ∷ r.index ∷ []

same_back : BackTold → BackTold → Bool
same_back r r' = same_list eqb (back_numbers r) (back_numbers r') && same_state r.state r'.state

same_back-sound : (r r' : BackTold) → T (same_back r r') → r ≡ r'
unfolding same_back back_numbers
same_back-sound r r' t =
    let (n, s) = both (same_list eqb (back_numbers r) (back_numbers r')) (same_state r.state r'.state) t in
    let p = same_list-sound eqb eqb→eq (back_numbers r) (back_numbers r') n in
    let q = same_state-sound r.state r'.state s in
    λ i. record { number = get_or (p i) 0 0; index = get_or (p i) 1 0; state = q i }

-- THE TABLES

every : {A : Type 0} → (A → Bool) → List A → Bool
every f [] = true
every f (x ∷ xs) = f x && every f xs

does_hold : Case → Bool
does_hold (runs N f S es r s) = same_run (run N f S es) r && eqb (number_of_standing (standing_of N r.state)) s
does_hold (walks N f S' es n r) = same_told (walk N f S' es n) r
does_hold (does N f S e r) = same_event (told_event S (apply N f S e)) r
does_hold (undoes N f S' e r) = same_back (told_back S' (back N f S' e)) r
does_hold (has_degree N S t n) = eqb (degree N S t) n
does_hold (has_width N d) = eqb (width N) d
does_hold (owes N S r) = same_list eqb (digest (owed N S)) r

holds-sound : (c : Case) → T (does_hold c) → Holds c
unfolding does_hold
holds-sound (runs N f S es r s) t =
    let (a, b) = both (same_run (run N f S es) r) (eqb (number_of_standing (standing_of N r.state)) s) t in
    (same_run-sound _ _ a, eqb→eq _ _ b)
holds-sound (walks N f S' es n r) t = same_told-sound _ _ t
holds-sound (does N f S e r) t = same_event-sound _ _ t
holds-sound (undoes N f S' e r) t = same_back-sound _ _ t
holds-sound (has_degree N S t n) h = eqb→eq _ _ h
holds-sound (has_width N d) h = eqb→eq _ _ h
holds-sound (owes N S r) t = same_list-sound eqb eqb→eq _ _ t

-- a test that passes all along a table is a proof of each case
every-sound : (cs : List Case) → T (every does_hold cs) → AllHold cs
unfolding every AllHold
every-sound [] t = tt
every-sound (c ∷ cs) t = let (h, r) = both (does_hold c) (every does_hold cs) t in (holds-sound c h, every-sound cs r)

all_hold : T (every does_hold cases && every does_hold further_cases)
unfolding every does_hold same_run same_told same_event same_back same_state same_list run_numbers numbers event_numbers back_numbers
    cases further_cases childrens_row heavy slow_middle threefold
    run walk walk_back in_turn owed does_owe_start does_owe_end standing_of degree times apply back started ended ticked unstarted unended unticked older
    same_bool started_after turns can_end owes_no_old_end has_no_old_end_owed lacking_place is_enabled short has_no_start_owed has_no_end_owed has_nothing_running is_timely has_room does_cover has_none_fresh
    width tokens count build initial_state tab all largest least how_many lowest one
all_hold = tt

-- there are twelve, K1 to K12, and each is answered as the table has it
pub cases-hold : (length cases ≡ 12) × AllHold cases
unfolding cases
cases-hold = (refl, every-sound cases (both (every does_hold cases) (every does_hold further_cases) all_hold).0)

pub further-hold : (length further_cases ≡ 80) × AllHold further_cases
unfolding further_cases
further-hold = (refl, every-sound further_cases (both (every does_hold cases) (every does_hold further_cases) all_hold).1)
