-- Weights that are 0 passed over: what is skipped is 0, and so a search or a loop that writes loses nothing by it.
-- Assumes nothing.
use mathlib.Core.Path.{◌≡◌, refl, sym, ap, ◌∙◌}
use mathlib.Core.Logic.{by_cases}
use mathlib.Core.Bool.{Bool, true, false, ◌&&◌, cond}
use mathlib.Core.List.{List}
use Prim.Native.Nat.{ℕ, ◌+◌, ◌-◌, ◌*◌, ◌<◌, ◌≤◌}
use native.Mathlib.Decide.{ℕ_discrete}
use native.Mathlib.Omega.{arith}
use lib.Dec.{T, leb}
use borrow.Author.Tests.{eq-eqb, ne_eqb, le-leb, lt-leb}
use lib.ListN.{length, take, drop, length-take, length-drop}
use lib.Seq.{get_or-take, get_or-drop}
use Rattle.std.specs.Array.{IsFirstChunk}
use Rattle.std.specs.List.{slice_index}
use Rattle.model.specs.Tab.{Tells, all}
use Rattle.model.proofs.Tab.{all-tells, below_suc, below-or-past}
use Rattle.model.proofs.Tests.{told-true}
use Rattle.model.proofs.Alls.{holds}
use Rattle.forms.specs.Word.{byte}
use Rattle.owed.specs.Weights.{AreZero, two_at, four_at, eight_at, pass_zero}

-- eight bytes are 0 where the number that they make is
module _ (s : List ℕ) (at : ℕ) where
  pub same : (i j : ℕ) → i ≡ j → byte s i ≡ byte s j
  same i j e = rw e

  number : eight_at s at
      ≡ byte s (at + 0) + 256 * byte s (at + 1) + 65536 * byte s (at + 2) + 16777216 * byte s (at + 3)
      + 4294967296 * (byte s (at + 4) + 256 * byte s (at + 5) + 65536 * byte s (at + 6) + 16777216 * byte s (at + 7))
  unfolding eight_at four_at two_at
  number =
      omega (
        arith,
        same at (at + 0) (omega arith),
        same (at + 2 + 1) (at + 3) (omega arith),
        same (at + 4 + 1) (at + 5) (omega arith),
        same (at + 4 + 2) (at + 6) (omega arith),
        same (at + 4 + 2 + 1) (at + 7) (omega arith),
      )

  eight-each : eight_at s at ≡ 0 → (i : ℕ) → i < 8 → byte s (at + i) ≡ 0
  eight-each e =
      let A : ℕ → Type 0 = λ i. byte s (at + i) ≡ 0 in
      let none : (i : ℕ) → i < 0 → A i = λ i g. absurd (omega arith) in
      let z0 = below_suc A 0 (omega (arith, number)) none in
      let z1 = below_suc A 1 (omega (arith, number)) z0 in
      let z2 = below_suc A 2 (omega (arith, number)) z1 in
      let z3 = below_suc A 3 (omega (arith, number)) z2 in
      let z4 = below_suc A 4 (omega (arith, number)) z3 in
      let z5 = below_suc A 5 (omega (arith, number)) z4 in
      let z6 = below_suc A 6 (omega (arith, number)) z5 in
      below_suc A 7 (omega (arith, number)) z6

-- eight bytes of a slice from p on, and the number that they make
module _ (s eight : List ℕ) (p : ℕ) (c : IsFirstChunk (take (length s - p) (drop p s)) eight 8) where
  pub chunk-fits : p < length s → p + 8 ≤ length s
  chunk-fits l = omega (arith, c.enough, length-take (length s - p) (drop p s), length-drop p s)

  module _ (l : p < length s) where
    chunk-byte : (i : ℕ) → i < 8 → slice_index eight i ≡ byte s (0 + p + i)
    chunk-byte i k =
        ap (λ (xs : List ℕ). slice_index xs i) c.same
        ∙ get_or-take 8 (take (length s - p) (drop p s)) i 0 k
        ∙ get_or-take (length s - p) (drop p s) i 0 (omega (arith, chunk-fits l))
        ∙ get_or-drop p s i 0
        ∙ same s p (p + i) (0 + p + i) (omega arith)

    pub chunk-number : (made : ℕ)
        → made ≡ slice_index eight 0 + slice_index eight 1 * 256 + slice_index eight 2 * 65536 + slice_index eight 3 * 16777216
        + slice_index eight 4 * 4294967296 + slice_index eight 5 * 1099511627776 + slice_index eight 6 * 281474976710656 + slice_index eight 7 * 72057594037927936
        → made ≡ eight_at s (0 + p)
    chunk-number made e =
        omega (
          arith,
          chunk-byte 0 (omega arith),
          chunk-byte 1 (omega arith),
          chunk-byte 2 (omega arith),
          chunk-byte 3 (omega arith),
          chunk-byte 4 (omega arith),
          chunk-byte 5 (omega arith),
          chunk-byte 6 (omega arith),
          chunk-byte 7 (omega arith),
          number s (0 + p),
        )

module _ (net : List ℕ) (from p n : ℕ) where
  -- fewer than eight places are left, or the eight weights are not all 0, or they are
  pub pass-last : n < p + 8 → p + 1 ≡ pass_zero net from p n
  unfolding pass_zero
  pass-last l = rw (lt-leb (p + 8) n l)

  pub pass-one : ¬ (eight_at net (from + p) ≡ 0) → p + 1 ≡ pass_zero net from p n
  unfolding pass_zero
  pass-one some = rw (ne_eqb (eight_at net (from + p)) 0 some) (sym (none (leb (p + 8) n)))
    where
      none : (b : Bool) → cond (b && false) (p + 8) (p + 1) ≡ p + 1
      none true = refl
      none false = refl

  pub pass-eight : p + 8 ≤ n → eight_at net (from + p) ≡ 0 → p + 8 ≡ pass_zero net from p n
  unfolding pass_zero
  pass-eight l e = rw (le-leb (p + 8) n l, eq-eqb (eight_at net (from + p)) 0 e)

  -- so there are two cases
  pass-cases : {A : Type 0} → (p + 1 ≡ pass_zero net from p n → A) → (p + 8 ≤ n → eight_at net (from + p) ≡ 0 → p + 8 ≡ pass_zero net from p n → A) → A
  pass-cases one eight =
      below-or-past n (p + 8) (λ few. one (pass-last few))
      (λ many. by_cases (ℕ_discrete (eight_at net (from + p)) 0) (λ e. eight many e (pass-eight many e)) (λ some. one (pass-one some)))

  -- where p is one of n places
  module _ (l : p < n) where
    pub pass_on : (p < pass_zero net from p n) × (pass_zero net from p n ≤ n)
    pass_on = pass-cases (λ e. (omega arith, omega arith)) (λ many z e. (omega arith, omega arith))

    -- the weights of the places passed over are 0, where that of p is
    pub passed-zero : byte net (from + p) ≡ 0 → (q : ℕ) → p ≤ q → q < pass_zero net from p n → byte net (from + q) ≡ 0
    passed-zero zero-here q up below =
        pass-cases
        (λ e. let here : q ≡ p = omega arith in rw here zero-here)
        (λ many z e.
        let place : from + p + (q - p) ≡ from + q = omega arith in
        rw place at (eight-each net (from + p) z (q - p) (omega arith)))

-- the weights of a slice that are passed over at place p are 0, and none behind its end is passed over
pub passed : (s : List ℕ) (p r : ℕ) → p < length s → byte s p ≡ 0 → r ≡ pass_zero s 0 p (length s) → (p < r) × AreZero s p r × (r ≤ length s)
passed s p r l zero-here e =
    let n = length s in
    let here : byte s (0 + p) ≡ 0 = same s p (0 + p) p (omega arith) ∙ zero-here in (
      omega (arith, pass_on s 0 p n l),
      λ k u v. same s k k (0 + k) (omega arith) ∙ passed-zero s 0 p n l here k u (omega arith),
      omega (arith, pass_on s 0 p n l),
    )

-- a loop that has passed the test f at each number below p, and passes on to r
pub all-on : (f : ℕ → Bool) (p r : ℕ) → all p f ≡ true → ((q : ℕ) → p ≤ q → q < r → f q ≡ true) → all r f ≡ true
all-on f p r before between =
    told-true (all-tells r each) (λ q l. below-or-past q p (λ b. holds (all-tells p each) before q b) (λ u. rw (between q u l) tt))
  where
    each : (i : ℕ) → Tells (f i) (T (f i))
    each i = record { sound = λ x. x; complete = λ x. x }
