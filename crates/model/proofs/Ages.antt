-- Ages and columns: each of the two conversions undoes the other.
-- Assumes nothing.
use mathlib.Core.Path.{◌≡◌}
use Prim.Native.Nat.{◌-◌, ◌+◌, ◌<◌}
use native.Mathlib.Omega.{arith}
use Rattle.model.specs.declared.age.Age.{Age}
use Rattle.model.specs.declared.age.Column.{Column}
use Rattle.model.specs.Age.{column_of, age_of}

pub age-of-column : (a : Age) → age_of (column_of a) ≡ a
age-of-column a = let e : a.0 + 1 - 1 ≡ a.0 = omega arith in λ i. record { 0 = e i }

pub column-of-age : (c : Column) → 0 < c.0 → column_of (age_of c) ≡ c
column-of-age c h = let e : c.0 - 1 + 1 ≡ c.0 = omega arith in λ i. record { 0 = e i }
