-- Runs and rows of words that are written one after the other. No contract cites this file.
-- Assumes nothing.
use mathlib.Core.Path.{◌≡◌, refl, sym, ap, ◌∙◌}
use mathlib.Core.Logic.{by_cases}
use mathlib.Core.List.{List}
use Prim.Native.Nat.{ℕ, zero, suc, ◌+◌, ◌*◌, ◌≤◌, ◌<◌}
use native.Mathlib.Decide.{ℕ_discrete}
use native.Mathlib.Omega.{arith}
use Rattle.forms.specs.Word.{Bytes, word, set_word, put_words, put_rows}
use Rattle.forms.proofs.WordLaws.{put_words-zero, put_words-step, set_word-set_word, put_words-set_word, put_words-put_words, put_words-cong, put_words-own}

-- a run that stands behind another may be written before it
pub put_words-comm : (base : ℕ) (f : ℕ → ℕ) (n base' : ℕ) (g : ℕ → ℕ) (m : ℕ) (s : List ℕ) → base + 2 * n ≤ base'
    → put_words base n f (put_words base' m g s) ≡ put_words base' m g (put_words base n f s)
unfolding put_words
put_words-comm base f n base' g zero s h = refl
put_words-comm base f n base' g (suc m) s h =
    put_words-set_word base f (put_words base' m g s) n (base' + 2 * m) (g m) (omega arith)
    ∙ ap (λ (l : List ℕ). set_word l (base' + 2 * m) (g m)) (put_words-comm base f n base' g m s h)

-- a run of m + n words is a run of m words, and one of n words behind it
pub put_words-append : (base : ℕ) (f : ℕ → ℕ) (s : List ℕ) (m n : ℕ)
    → put_words (base + 2 * m) n (λ i. f (m + i)) (put_words base m f s) ≡ put_words base (m + n) f s
unfolding put_words
put_words-append base f s m zero = let e : m + 0 ≡ m = omega arith in rw e
put_words-append base f s m (suc n) =
    let e : m + suc n ≡ suc (m + n) = omega arith in
    let place : base + 2 * m + 2 * n ≡ base + 2 * (m + n) = omega arith in
    rw e
    (ap (λ (i : ℕ). set_word (put_words (base + 2 * m) n (λ k. f (m + k)) (put_words base m f s)) i (f (m + n))) place
    ∙ ap (λ (l : List ℕ). set_word l (base + 2 * (m + n)) (f (m + n))) (put_words-append base f s m n))

module _ (base d : ℕ) where
  -- a run before the rows may be written after them
  pub put_words-put_rows : (front : ℕ) (f : ℕ → ℕ) (m : ℕ) (g : ℕ → ℕ → ℕ) (s : List ℕ) (n : ℕ) → front + 2 * m ≤ base
      → put_words front m f (put_rows base d n g s) ≡ put_rows base d n g (put_words front m f s)
  unfolding put_rows
  put_words-put_rows front f m g s zero h = refl
  put_words-put_rows front f m g s (suc n) h =
      put_words-comm front f m (base + 2 * (n * d)) (g n) d (put_rows base d n g s) (omega arith)
      ∙ ap (λ (l : List ℕ). put_words (base + 2 * (n * d)) d (g n) l) (put_words-put_rows front f m g s n h)

  -- a run behind the rows may be written before them
  pub put_rows-put_words : (behind : ℕ) (f : ℕ → ℕ) (m : ℕ) (g : ℕ → ℕ → ℕ) (s : List ℕ) (n : ℕ) → base + 2 * (n * d) ≤ behind
      → put_rows base d n g (put_words behind m f s) ≡ put_words behind m f (put_rows base d n g s)
  unfolding put_rows
  put_rows-put_words behind f m g s zero h = refl
  put_rows-put_words behind f m g s (suc n) h =
      ap (λ (l : List ℕ). put_words (base + 2 * (n * d)) d (g n) l) (put_rows-put_words behind f m g s n (omega arith))
      ∙ put_words-comm (base + 2 * (n * d)) (g n) d behind f m (put_rows base d n g s) (omega arith)

  -- rows that are written twice
  pub put_rows-put_rows : (f g : ℕ → ℕ → ℕ) (s : List ℕ) (n : ℕ) → put_rows base d n f (put_rows base d n g s) ≡ put_rows base d n f s
  unfolding put_rows
  put_rows-put_rows f g s zero = refl
  put_rows-put_rows f g s (suc n) =
      let here = base + 2 * (n * d) in
      ap (λ (l : List ℕ). put_words here d (f n) l) (put_rows-put_words here (g n) d f (put_rows base d n g s) n (omega arith))
      ∙ put_words-put_words here (f n) (g n) (put_rows base d n f (put_rows base d n g s)) d
      ∙ ap (λ (l : List ℕ). put_words here d (f n) l) (put_rows-put_rows f g s n)

  -- rows are one run, where the run's values are the rows', row after row
  pub put_rows-flat : (g : ℕ → ℕ → ℕ) (f : ℕ → ℕ) (s : List ℕ) (n : ℕ) → ((t j : ℕ) → t < n → j < d → g t j ≡ f (t * d + j))
      → put_rows base d n g s ≡ put_words base (n * d) f s
  unfolding put_rows put_words
  put_rows-flat g f s zero same = let e : 0 * d ≡ 0 = omega arith in rw e
  put_rows-flat g f s (suc n) same =
      let e : suc n * d ≡ n * d + d = omega arith in
      rw e
      (put_words-cong (base + 2 * (n * d)) (g n) (λ j. f (n * d + j)) (put_rows base d n g s) d (λ j h. same n j (omega arith) h)
      ∙ ap (λ (l : List ℕ). put_words (base + 2 * (n * d)) d (λ j. f (n * d + j)) l) (put_rows-flat g f s n (λ t j h k. same t j (omega arith) k))
      ∙ put_words-append base f s (n * d) d)

  pub put_rows-cong : (f g : ℕ → ℕ → ℕ) (s : List ℕ) (n : ℕ) → ((t j : ℕ) → t < n → j < d → f t j ≡ g t j)
      → put_rows base d n f s ≡ put_rows base d n g s
  unfolding put_rows
  put_rows-cong f g s zero same = refl
  put_rows-cong f g s (suc n) same =
      put_words-cong (base + 2 * (n * d)) (f n) (g n) (put_rows base d n f s) d (λ j h. same n j (omega arith) h)
      ∙ ap (λ (l : List ℕ). put_words (base + 2 * (n * d)) d (g n) l) (put_rows-cong f g s n (λ t j h k. same t j (omega arith) k))

  -- rows that are written as they stand
  pub put_rows-own : (s : List ℕ) (n : ℕ) → Bytes s → put_rows base d n (λ t j. word s (base + 2 * (t * d + j))) s ≡ s
  put_rows-own s n b =
      put_rows-flat (λ t j. word s (base + 2 * (t * d + j))) (λ k. word s (base + 2 * k)) s n (λ t j h k. refl)
      ∙ put_words-own base s (n * d) b

-- a word that the run writes over
pub put_words-over : (base : ℕ) (f : ℕ → ℕ) (s : List ℕ) (n i v : ℕ) → i < n → put_words base n f (set_word s (base + 2 * i) v) ≡ put_words base n f s
unfolding put_words
put_words-over base f s zero i v h = absurd (omega arith)
put_words-over base f s (suc n) i v h =
    by_cases (ℕ_discrete i n)
    (λ e. rw e
    (ap (λ (l : List ℕ). set_word l (base + 2 * n) (f n)) (put_words-set_word base f s n (base + 2 * n) v (omega arith))
    ∙ set_word-set_word (put_words base n f s) (base + 2 * n) v (f n)))
    (λ p. ap (λ (l : List ℕ). set_word l (base + 2 * n) (f n)) (put_words-over base f s n i v (omega arith)))

-- A LOOP THAT WRITES A RUN, WORD BY WORD: it keeps that the first i words are written

module _ (base : ℕ) (f : ℕ → ℕ) (s₀ : List ℕ) where
  pub put-begin : s₀ ≡ put_words base 0 f s₀
  put-begin = sym (put_words-zero base f s₀)

  pub put-turn : (i : ℕ) (s s' : List ℕ) (v : ℕ) → s ≡ put_words base i f s₀ → s' ≡ set_word s (base + 2 * i) v → v ≡ f i
      → s' ≡ put_words base (i + 1) f s₀
  put-turn i s s' v inv wrote value = wrote ∙ rw (inv, value) (sym (put_words-step base f s₀ i))

  pub put-end : (i n : ℕ) (s : List ℕ) → s ≡ put_words base i f s₀ → i ≡ n → s ≡ put_words base n f s₀
  put-end i n s inv e = rw e at inv
