-- The counts of a state, cell by cell: each stands within the buffer.
-- Assumes nothing.
use mathlib.Core.Path.{◌≡◌, ap, ◌∙◌}
use mathlib.Core.List.{List}
use Prim.Native.Nat.{ℕ, zero, suc, ◌+◌, ◌*◌, ◌<◌, ◌≤◌}
use native.Mathlib.Nat.{mul-le-mul_right, add-mul, one-mul, mul-zero, mod-lt, div-lt_iff_lt-mul, not-suc-le-zero}
use native.Mathlib.Omega.{arith}
use lib.ListN.{length}
use Rattle.model.specs.Age.{column_of}
use Rattle.forms.specs.Word.{byte}
use Rattle.forms.specs.Places.{count_at, state_length}
use Rattle.replay.specs.Replayed.{Shown}
use Rattle.replay.specs.Lines.{cells_in, transition_of, aged_of}

-- there are cells only where a row has some
pub row-wide : (T D cell : ℕ) → cell < T * D → 0 < D
row-wide T zero cell h = absurd (not-suc-le-zero (rw (mul-zero T) at h))
row-wide T (suc D) cell h = omega arith

-- A CELL WITHIN THE STATE

module _ (s : List ℕ) (is : Shown s) (cell : ℕ) (known : cell < cells_in s) where
  pub wide : 0 < byte s 7
  wide = row-wide (byte s 6) (byte s 7) cell known

  pub young : (aged_of s cell).0 < byte s 7
  young = mod-lt cell wide

  pub some-row : transition_of s cell < byte s 6
  some-row = (div-lt_iff_lt-mul wide).1 known

  pub cell_inside : count_at (byte s 5) (byte s 7) (transition_of s cell) (column_of (aged_of s cell)) + 1 < length s
  unfolding count_at state_length
  cell_inside =
      let t = transition_of s cell in
      let D = byte s 7 in
      let row : (t + 1) * D ≡ t * D + D = add-mul t 1 D ∙ ap (λ (x : ℕ). t * D + x) (one-mul D) in
      let below : (t + 1) * D ≤ byte s 6 * D = mul-le-mul_right D (next t (byte s 6) some-row) in
      omega (arith, is.room, row, below, young)
    where
      next : (t T : ℕ) → t < T → t + 1 ≤ T
      next t T h = omega arith
