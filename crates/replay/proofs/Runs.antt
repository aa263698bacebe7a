-- The lines of the counts: when another is put, and that each buffer of them comes further.
-- Assumes nothing.
use Rattle.std.proofs.Common.{◌≡◌, Bool, true, false, cond, [], ℕ, zero, suc, List, Option, Some, None, IfSome, ◌+◌, ◌-◌, ◌<◌, ◌≤◌, length, arith}
use Rattle.std.specs.Option.{option_map_or}
use Rattle.std.specs.List.{find, range_with_len}
use Rattle.text.specs.Lines.{Line}
use Rattle.model.proofs.Tab.{below-or-past}
use Rattle.replay.specs.Lines.{run_name, cell_fields, run_most, next_running, RunLines}
use Rattle.replay.specs.Lines.RunLines.{over, full, more}

-- ONE LINE MORE, OR NONE

module _ (state : List ℕ) (cells : ℕ) (b : List ℕ) (at : ℕ) (next : Option ℕ) where
  pub ends : next ≡ None → RunLines state cells b at next b at next
  ends e = rw e over

  module _ (cell : ℕ) (is : next ≡ Some cell) where
    pub fills : at ≤ length b → length b - at < run_most → RunLines state cells b at next b at (Some cell)
    fills l h = let no_room : length b < at + run_most = omega arith in rw is (full no_room)

    pub goes_on : at ≤ length b → run_most ≤ length b - at → (b₁ b' : List ℕ) (at₁ end : ℕ) (next₁ next' : Option ℕ)
        → Line b at run_name (cell_fields state cell) [] b₁ at₁ → next₁ ≡ next_running state cells (cell + 1)
        → RunLines state cells b₁ at₁ next₁ b' end next' → RunLines state cells b at next b' end next'
    goes_on l h b₁ b' at₁ end next₁ next' line e rest =
        let room : at + run_most ≤ length b = omega arith in
        rw is (more room line (rw e at rest))

-- EACH BUFFER COMES FURTHER

-- the cell to come, if any, is one of those from the k-th on
abbrev pub IsFrom : ℕ → ℕ → Option ℕ → Type 0
IsFrom cells k next = IfSome next (λ cell. (k ≤ cell) × (cell < cells))

still : (cells k m : ℕ) (next : Option ℕ) → k ≤ m → IsFrom cells m next → IsFrom cells k next
still cells k m None l h = tt
still cells k m (Some cell) l h = (omega (arith, h.0), h.1)

found_from : (p : ℕ → Bool) (from n cells : ℕ) → from + n ≤ cells → IsFrom cells from (find p (range_with_len from n))
found_from p from zero cells l = tt
found_from p from (suc n) cells l = by-test (p from) (found_from p (from + 1) n cells (omega arith))
  where
    by-test : (x : Bool) → IsFrom cells (from + 1) (find p (range_with_len (from + 1) n)) → IsFrom cells from (cond x (Some from) (find p (range_with_len (from + 1) n)))
    by-test true h = (omega arith, omega arith)
    by-test false h = still cells from (from + 1) _ (omega arith) h

module _ (state : List ℕ) (cells : ℕ) where
  next_from : (from : ℕ) → IsFrom cells from (next_running state cells from)
  unfolding next_running
  next_from from =
      below-or-past cells from
      (λ past. let none : cells - from ≡ 0 = omega arith in rw none tt)
      (λ l. found_from _ from (cells - from) cells (omega arith))

  not_back : (k : ℕ) {b b' : List ℕ} {at end : ℕ} {next next' : Option ℕ} → RunLines state cells b at next b' end next' → IsFrom cells k next
      → IsFrom cells k next'
  not_back k over h = h
  not_back k (full l) h = h
  not_back k (more {cell} l line rest) h =
      not_back k rest (still cells k (cell + 1) _ (omega (arith, h.0)) (next_from (cell + 1)))

  -- where there is room for a line, the cell to come is a later one
  later : (k : ℕ) {b b' : List ℕ} {at end : ℕ} {next next' : Option ℕ} → RunLines state cells b at next b' end next' → at + run_most ≤ length b
      → IsFrom cells k next → IsFrom cells (k + 1) next'
  later k over room h = tt
  later k (full l) room h = absurd (omega arith)
  later k (more {cell} l line rest) room h =
      not_back (k + 1) rest (still cells (k + 1) (cell + 1) _ (omega (arith, h.0)) (next_from (cell + 1)))

  pub further : (from : ℕ) (b b' : List ℕ) (at end : ℕ) (next : Option ℕ) → at + run_most ≤ length b
      → RunLines state cells b at (next_running state cells from) b' end next → IsFrom cells (from + 1) next
  further from b b' at end next room lines = later from lines room (next_from from)

-- how many cells are to come at most
abbrev pub to_come : ℕ → Option ℕ → ℕ
to_come cells next = option_map_or (λ cell. 1 + (cells - cell)) next 0

pub fewer : (cells from : ℕ) (now next : Option ℕ) → now ≡ Some from → IsFrom cells (from + 1) next → to_come cells next < to_come cells now
fewer cells from now None is h = rw is (omega arith)
fewer cells from now (Some cell) is h = rw is (omega (arith, h.0, h.1))
