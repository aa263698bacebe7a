-- How many digits a number has in decimal: one number only.
-- Assumes nothing.
use mathlib.Core.Path.{◌≡◌, refl}
use mathlib.Core.Bool.{Bool, true, false}
use Prim.Native.Nat.{ℕ, ◌-◌, ◌^◌, ◌<◌, ◌≤◌}
use native.Mathlib.Nat.{pow-le-pow_right}
use native.Mathlib.Omega.{arith}
use lib.Dec.{ltb}
use borrow.Author.Tests.{ltb-true, ltb-false}
use Rattle.io.specs.Digits.{IsDigitCount}

-- no number of digits is more than another that holds the number
few : (n j k : ℕ) → 1 ≤ j → n < 10 ^ j → IsDigitCount 10 1 n k → k ≤ j
few n j k l h f = by-test (ltb j k) refl
  where
    by-test : (b : Bool) → ltb j k ≡ b → k ≤ j
    by-test true e =
        let g : j < k = ltb-true j k e in
        let p : 10 ^ j ≤ 10 ^ (k - 1) = pow-le-pow_right {n = 10} (omega arith) {i = j} {j = k - 1} (omega arith) in
        let q : 10 ^ (k - 1) ≤ n = f.2 (omega arith) in
        omega (arith, p, q)
    by-test false e = ltb-false j k e

pub fewest-once : (n j k : ℕ) → IsDigitCount 10 1 n j → IsDigitCount 10 1 n k → j ≡ k
fewest-once n j k f g =
    let a : k ≤ j = few n j k f.0 f.1 g in
    let b : j ≤ k = few n k j g.0 g.1 f in
    omega arith
