-- The laws of `word_of`, for any test: its digits, its bound, one more digit by `|`, its count of ones and of trailing zeros.
-- Assumes nothing.
use mathlib.Core.Path.{◌≡◌, refl, sym, ◌∙◌}
use mathlib.Core.Bool.{Bool, true, false, cond}
use Prim.Native.Nat.{ℕ, zero, suc, ◌+◌, ◌-◌, ◌*◌, ◌/◌, ◌%◌, ◌^◌, ◌≤◌, ◌<◌}
use native.Mathlib.Nat.{pow-suc, add-zero, zero-add, zero-mul, one-mul, mod-eq_of_lt, div-eq_of_lt, div-one, lt_of_lt_of_le, suc-add}
use native.Mathlib.Omega.{arith}
use native.Mathlib.Numerals.{add-one, one-add}
use lib.Dec.{eqb, lit<}
use lib.Pow.{pow_pos, pow_mono, pow-lt, high, low, shr-shr, mod-mod-pow, field}
use lib.Bits.{bit_or, or_shifted_r}
use lib.Count.{ones, ones_cat, count_trailing_zeros, under, trailing_of_zero}
use Rattle.model.specs.Tab.{Tells, one_if, how_many, lowest}
use Rattle.model.specs.Owed.{Lowest}
use Rattle.model.proofs.Tab.{below-or-past, at-or-below}
use Rattle.model.proofs.Lowest.{lowest-is, lowest-once}
use Rattle.owed.specs.Bits.{word_of, bit_at}

bit-lt : (b : Bool) → one_if b < 2
bit-lt true = lit< tt
bit-lt false = lit< tt

ones_bit : (b : Bool) → ones (one_if b) ≡ one_if b
unfolding ones
ones_bit true = refl
ones_bit false = refl

eqb-bit : (b : Bool) → eqb (one_if b) 1 ≡ b
eqb-bit true = refl
eqb-bit false = refl

count-step : (b : Bool) (k : ℕ) → one_if b + k ≡ cond b (suc k) k
count-step true k = one-add k
count-step false k = zero-add k

-- `a * 2 ^ n + r` with a digit a and an r of n digits is a number of n + 1 digits
one_more : (a n r : ℕ) → a < 2 → r < 2 ^ n → a * 2 ^ n + r < 2 ^ suc n
one_more zero n r ha hr = rw (zero-mul, zero-add) (lt_of_lt_of_le hr (pow_mono (omega arith)))
one_more (suc zero) n r ha hr = rw (one-mul, pow-suc) (omega arith)
one_more (suc (suc a)) n r ha hr = absurd (omega arith)

low_step : (b : Bool) (z t s : ℕ) → z + suc t ≡ s → under (one_if b) z + t ≡ cond b t s
low_step true z t s e = zero-add t
low_step false z t s e = omega arith

module _ (f : ℕ → Bool) where
  pub word_lt : (n : ℕ) → word_of n f < 2 ^ n
  unfolding word_of
  word_lt zero = lit< tt
  word_lt (suc n) = one_more (one_if (f n)) n (word_of n f) (bit-lt (f n)) (word_lt n)

  -- a loop that makes the word begins with 0
  pub word-begin : 0 ≡ word_of 0 f
  unfolding word_of
  word-begin = refl

  -- a turn of it: one more digit, by `|`, or none
  pub word_set : (w n : ℕ) → w ≡ word_of n f → n < 64 → f n ≡ true → bit_or w ((1 * 2 ^ n) % 2 ^ 64) ≡ word_of (n + 1) f
  unfolding word_of
  word_set w n i h e =
      let fits : 1 * 2 ^ n < 2 ^ 64 = rw one-mul (pow-lt h) in
      rw (i, add-one, mod-eq_of_lt fits, or_shifted_r 1 n (word_of n f) (word_lt n), e)

  pub word-skip : (w n : ℕ) → w ≡ word_of n f → f n ≡ false → w ≡ word_of (n + 1) f
  unfolding word_of
  word-skip w n i e = rw (add-one, e, zero-mul, zero-add) i

  -- the k low digits of a longer word are the word of k digits
  word_mod : (d k : ℕ) → word_of (d + k) f % 2 ^ k ≡ word_of k f
  unfolding word_of
  word_mod zero k = rw zero-add (mod-eq_of_lt (word_lt k))
  word_mod (suc d) k =
      rw (suc-add, ← mod-mod-pow (word_of (suc (d + k)) f) d k, low (one_if (f (d + k))) (d + k) (word_lt (d + k))) (word_mod d k)

  word-digit : (n t : ℕ) → t < n → word_of n f / 2 ^ t % 2 ≡ one_if (f t)
  unfolding word_of
  word-digit n t h =
      let e : n ≡ (n - suc t) + suc t = omega arith in
      sym (field (word_of n f) 1 t) ∙ rw (one-add, e, word_mod (n - suc t) (suc t)) (high (one_if (f t)) t (word_lt t))

  -- bit t of the word tells the test of t, for every t below n
  word-tells : (n t : ℕ) → t < n → bit_at (word_of n f) t ≡ f t
  word-tells n t h = rw (word-digit n t h) (eqb-bit (f t))

  -- and no bit from n on is set
  word-high : (n t : ℕ) → n ≤ t → bit_at (word_of n f) t ≡ false
  word-high n t h = rw (div-eq_of_lt (lt_of_lt_of_le (word_lt n) (pow_mono h)))

  -- so where the test passes below n alone, every bit tells it
  pub word-bits : (n t : ℕ) → (n ≤ t → f t ≡ false) → bit_at (word_of n f) t ≡ f t
  word-bits n t past = below-or-past t n (word-tells n t) (λ h. word-high n t h ∙ sym (past h))

  pub word_ones : (n : ℕ) → ones (word_of n f) ≡ how_many n f
  unfolding word_of how_many ones
  word_ones zero = refl
  word_ones (suc n) =
      rw (ones_cat n (one_if (f n)) (word_of n f) (word_lt n), ones_bit, word_ones n) (count-step (f n) (how_many n f))

  -- the word is 0 exactly where the test passes nowhere
  pub word_none : (n : ℕ) → ((t : ℕ) → t < n → f t ≡ false) → word_of n f ≡ 0
  unfolding word_of
  word_none zero none = refl
  word_none (suc n) none = rw (none n (omega arith), zero-mul, zero-add) (word_none n (λ t h. none t (omega arith)))

  pub word-zero : (n : ℕ) → word_of n f ≡ 0 → (t : ℕ) → t < n → f t ≡ false
  word-zero n z t h =
      let d : 0 / 2 ^ t % 2 ≡ one_if (f t) = rw z at (word-digit n t h) in
      off (f t) (sym d ∙ rw (div-eq_of_lt (pow_pos t)))
    where
      off : (b : Bool) → one_if b ≡ 0 → b ≡ false
      off true e = absurd (omega arith)
      off false e = refl

  -- THE LOWEST

  -- the first of the k numbers from t on that passes, or 64
  scan : ℕ → ℕ → ℕ
  scan zero t = 64
  scan (suc k) t = cond (f t) t (scan k (suc t))

  low-from : (n k t m : ℕ) → k + t ≡ n → m + t ≡ 64 → n ≤ 64 → count_trailing_zeros m (word_of n f / 2 ^ t) + t ≡ scan k t
  unfolding count_trailing_zeros scan
  low-from n zero t m e g h =
      let z : word_of n f / 2 ^ t ≡ zero = div-eq_of_lt (rw (← zero-add t, e) (word_lt n)) in
      rw (z, trailing_of_zero) g
  low-from n (suc k) t zero e g h = absurd (omega arith)
  low-from n (suc k) t (suc m) e g h =
      rw (word-digit n t (omega arith), shr-shr (word_of n f) t 1, add-one)
      (low_step (f t) _ t _ (low-from n k (suc t) m (omega arith) (omega arith) h))

  Passes : ℕ → Type 0
  Passes i = f i ≡ true

  passes-tells : (i : ℕ) → Tells (f i) (Passes i)
  unfolding Passes
  passes-tells i = go (f i)
    where
      go : (b : Bool) → Tells b (b ≡ true)
      go true = record { sound = λ _. refl; complete = λ _. tt }
      go false = record { sound = λ x. absurd x; complete = λ e. let z : ◌≡◌ {A = ℕ} 0 1 = cc in absurd (omega arith) }

  -- what a scan from t on finds is the lowest, where none below t passes
  scan-lowest : (n k t : ℕ) → k + t ≡ n → ((i : ℕ) → i < t → ¬ Passes i) → Lowest Passes n 64 (scan k t)
  unfolding scan Passes
  scan-lowest n zero t e none = Lowest.empty (λ i h. none i (omega arith))
  scan-lowest n (suc k) t e none = go (f t) refl (scan-lowest n k (suc t) (omega arith))
    where
      clash : f t ≡ true → f t ≡ false → ⊥
      clash p q = let z : ◌≡◌ {A = ℕ} 0 1 = cc in omega arith

      go : (b : Bool) → f t ≡ b → (((i : ℕ) → i < suc t → ¬ Passes i) → Lowest Passes n 64 (scan k (suc t)))
          → Lowest Passes n 64 (cond b t (scan k (suc t)))
      go true here rest = Lowest.found {l = t} (omega arith) here none
      go false here rest =
          rest (λ i h. at-or-below i t (omega arith) (λ same p. clash (rw same at p) here) (λ below. none i below))

  pub word_low : (n : ℕ) → n ≤ 64 → count_trailing_zeros 64 (word_of n f) ≡ lowest 64 n f
  word_low n h =
      rw (← div-one (word_of n f), ← add-zero (count_trailing_zeros 64 (word_of n f / 1))) (low-from n n 0 64 (add-zero n) refl h)
      ∙ lowest-once (scan-lowest n n 0 (add-zero n) (λ i l. absurd (omega arith))) (lowest-is passes-tells 64 n)
