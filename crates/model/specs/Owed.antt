-- What is owed in a state: the transitions that must start, those that must end, and how the state stands (document 01,
-- "Owed report").
-- Assumes nothing.
use Rattle.std.specs.Prelude.{Bool, ◌&&◌, not, cond, ℕ, suc, ◌<◌, ◌≤◌, leb, ltb}
use Rattle.model.specs.declared.answer.Standing.{Standing}
use Rattle.model.specs.declared.answer.Standing.TheVariants as standing
use Rattle.model.specs.Tab.{Tells, how_many, lowest}
use Rattle.model.specs.Net.{Net, State, count}
use Rattle.model.specs.Moves.{Enabled, NoStartOwed, NoEndOwed, NothingRunning}
use Rattle.model.specs.Rules.{is_enabled, has_no_start_owed, has_no_end_owed, has_nothing_running}

-- THE TWO SETS

-- t is one of the net's transitions and is enabled: its start is owed
abbrev pub OwesStart : Net → State → ℕ → Type 0
OwesStart N S t = (t < N.transitions) × Enabled N S t 1

unfoldable pub does_owe_start : Net → State → ℕ → Bool
does_owe_start N S t = ltb t N.transitions && is_enabled N S t

-- t is one of the net's transitions and has a count at its lfd: its end is owed
abbrev pub OwesEnd : Net → State → ℕ → Type 0
OwesEnd N S t = (t < N.transitions) × (1 ≤ count S t (N.lfd t))

unfoldable pub does_owe_end : Net → State → ℕ → Bool
does_owe_end N S t = ltb t N.transitions && leb 1 (count S t (N.lfd t))

-- OF A SET OF TRANSITIONS: HOW MANY IT HAS, AND THE LOWEST

-- A holds of k numbers below n
pub data HowMany (A : ℕ → Type 0) : ℕ → ℕ → Type 0 where
  none : HowMany A 0 0
  one_more : {n k : ℕ} → A n → HowMany A n k → HowMany A (suc n) (suc k)
  no_more : {n k : ℕ} → ¬ A n → HowMany A n k → HowMany A (suc n) k

-- the bits of an owed word, and so the trailing zeros of one that has none set
abbrev pub word_bits : ℕ
word_bits = 64

-- l is the lowest of those, or `none` where there is none
pub data Lowest (A : ℕ → Type 0) (n none : ℕ) : ℕ → Type 0 where
  found : {l : ℕ} → l < n → A l → ((i : ℕ) → i < l → ¬ A i) → Lowest A n none l
  empty : ((i : ℕ) → i < n → ¬ A i) → Lowest A n none none

-- THE STANDING

-- how S stands: the first of the four that holds
pub data Stands (N : Net) (S : State) : Standing → Type 0 where
  start_owed : ¬ NoStartOwed N S → Stands N S standing.StartOwed
  end_owed : NoStartOwed N S → ¬ NoEndOwed N S → Stands N S standing.EndOwed
  free_to_tick : NoStartOwed N S → NoEndOwed N S → ¬ NothingRunning N S → Stands N S standing.FreeToTick
  at_rest : NoStartOwed N S → NoEndOwed N S → NothingRunning N S → Stands N S standing.AtRest

unfoldable pub standing_of : Net → State → Standing
standing_of N S =
    cond (not (has_no_start_owed N S)) standing.StartOwed
    (cond (not (has_no_end_owed N S)) standing.EndOwed
    (cond (not (has_nothing_running N S)) standing.FreeToTick standing.AtRest))

-- THE REPORT

pub record Report : Type 0 where
  pub starts : ℕ → Bool
  pub ends : ℕ → Bool
  pub start_count : ℕ
  pub end_count : ℕ
  pub lowest_start : ℕ
  pub lowest_end : ℕ
  pub standing : Standing

-- r is what is to be reported of S
pub record Reports (N : Net) (S : State) (r : Report) : Type 0 where
  pub starts_are : (t : ℕ) → Tells (r.starts t) (OwesStart N S t)
  pub ends_are : (t : ℕ) → Tells (r.ends t) (OwesEnd N S t)
  pub start_count_is : HowMany (OwesStart N S) N.transitions r.start_count
  pub end_count_is : HowMany (OwesEnd N S) N.transitions r.end_count
  pub lowest_start_is : Lowest (OwesStart N S) N.transitions word_bits r.lowest_start
  pub lowest_end_is : Lowest (OwesEnd N S) N.transitions word_bits r.lowest_end
  pub standing_is : Stands N S r.standing

unfoldable pub owed : Net → State → Report
owed N S = record {
  starts = does_owe_start N S;
  ends = does_owe_end N S;
  start_count = how_many N.transitions (does_owe_start N S);
  end_count = how_many N.transitions (does_owe_end N S);
  lowest_start = lowest word_bits N.transitions (does_owe_start N S);
  lowest_end = lowest word_bits N.transitions (does_owe_end N S);
  standing = standing_of N S;
}
