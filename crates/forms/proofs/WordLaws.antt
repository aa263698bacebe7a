-- The laws of `specs/Word.antt`'s functions. No contract cites this file. Assumes nothing.
use mathlib.Core.Path.{◌≡◌, refl, sym, ap, ◌∙◌}
use mathlib.Core.Logic.{by_cases}
use mathlib.Core.List.{List}
use Prim.Native.Nat.{ℕ, zero, suc, ◌+◌, ◌*◌, ◌/◌, ◌%◌, ◌≤◌, ◌<◌}
use native.Mathlib.Nat.{div-add-mod, mul-le-mul_right}
use native.Mathlib.Decide.{ℕ_discrete}
use native.Mathlib.Numerals.{add-one}
use native.Mathlib.Omega.{arith}
use lib.ListN.{length, get_or, set, take, drop, length-set, length-drop}
use lib.Seq.{get_or-set_same, get_or-set_other, set_comm, set-set, set-get_or}
use Rattle.std.proofs.lemmas.List.{get_or-take, get_or-drop, get_or_past, length-take}
use Rattle.forms.specs.Word.{Bytes, byte, word, set_word, set_word32, put_words, put_rows}

-- ---- a byte of a part

pub byte-part : (s : List ℕ) (from k i : ℕ) → i < k → byte (take k (drop from s)) i ≡ byte s (from + i)
byte-part s from k i h = get_or-take k (drop from s) i 0 h ∙ get_or-drop from s i 0

-- and past its end
pub byte-part_past : (s : List ℕ) (from k i : ℕ) → k ≤ i → byte (take k (drop from s)) i ≡ 0
byte-part_past s from k i h = get_or_past (take k (drop from s)) i 0 (simp (length-take, length-drop) (omega arith))

-- ---- one word

pub length-set_word : (s : List ℕ) (i v : ℕ) → length (set_word s i v) ≡ length s
unfolding set_word
length-set_word s i v = simp length-set

pub length-set_word32 : (s : List ℕ) (i v : ℕ) → length (set_word32 s i v) ≡ length s
unfolding set_word32
length-set_word32 s i v = simp length-set_word

-- the two bytes that a word is written as
pub high : (s : List ℕ) (i v : ℕ) → i + 1 < length s → get_or (set_word s i v) i 0 ≡ v / 256
unfolding set_word
high s i v h = get_or-set_other (set s i (v / 256)) (i + 1) i (v % 256) 0 (λ e. omega arith) ∙ get_or-set_same s i (v / 256) 0 (omega arith)

pub low : (s : List ℕ) (i v : ℕ) → i + 1 < length s → get_or (set_word s i v) (i + 1) 0 ≡ v % 256
unfolding set_word
low s i v h = get_or-set_same (set s i (v / 256)) (i + 1) (v % 256) 0 (simp length-set (omega arith))

pub byte-other : (s : List ℕ) (i v k : ℕ) → (k ≡ i → ⊥) → (k ≡ i + 1 → ⊥) → get_or (set_word s i v) k 0 ≡ get_or s k 0
unfolding set_word
byte-other s i v k p q = get_or-set_other (set s i (v / 256)) (i + 1) k (v % 256) 0 q ∙ get_or-set_other s i k (v / 256) 0 p

pub word_same : (s : List ℕ) (i v : ℕ) → i + 1 < length s → word (set_word s i v) i ≡ v
unfolding word
word_same s i v h = omega (arith, high s i v h, low s i v h, div-add-mod v 256)

pub word_after : (s : List ℕ) (i v j : ℕ) → i + 2 ≤ j → word (set_word s i v) j ≡ word s j
unfolding word
word_after s i v j h =
    omega (arith, byte-other s i v j (λ e. omega arith) (λ e. omega arith), byte-other s i v (j + 1) (λ e. omega arith) (λ e. omega arith))

pub word-before : (s : List ℕ) (i v j : ℕ) → j + 2 ≤ i → word (set_word s i v) j ≡ word s j
unfolding word
word-before s i v j h =
    omega (arith, byte-other s i v j (λ e. omega arith) (λ e. omega arith), byte-other s i v (j + 1) (λ e. omega arith) (λ e. omega arith))

pub word_fits : (s : List ℕ) (i : ℕ) → Bytes s → word s i < 65536
unfolding word
word_fits s i b = omega (arith, b i, b (i + 1))

pub bytes-set_word : (s : List ℕ) (i v : ℕ) → i + 1 < length s → v < 65536 → Bytes s → Bytes (set_word s i v)
bytes-set_word s i v h l b k =
    by_cases (ℕ_discrete k i)
    (λ e. rw e (omega (arith, high s i v h)))
    (λ p.
    by_cases (ℕ_discrete k (i + 1))
    (λ e. rw e (omega (arith, low s i v h)))
    (λ q. omega (arith, byte-other s i v k p q, b k)))

-- two writes of words that do not overlap, in either order
pub set_word-comm : (s : List ℕ) (i v j w : ℕ) → i + 2 ≤ j → set_word (set_word s i v) j w ≡ set_word (set_word s j w) i v
unfolding set_word
set_word-comm s i v j w h =
    ap (λ (l : List ℕ). set l (j + 1) (w % 256)) (set_comm (set s i (v / 256)) (i + 1) j (v % 256) (w / 256) (λ e. omega arith))
    ∙ set_comm (set (set s i (v / 256)) j (w / 256)) (i + 1) (j + 1) (v % 256) (w % 256) (λ e. omega arith)
    ∙ ap (λ (l : List ℕ). set (set l (j + 1) (w % 256)) (i + 1) (v % 256)) (set_comm s i j (v / 256) (w / 256) (λ e. omega arith))
    ∙ ap (λ (l : List ℕ). set l (i + 1) (v % 256)) (set_comm (set s j (w / 256)) i (j + 1) (v / 256) (w % 256) (λ e. omega arith))

-- ---- a run of words

module _ (base : ℕ) (f : ℕ → ℕ) (s : List ℕ) where
  pub put_words-zero : put_words base 0 f s ≡ s
  unfolding put_words
  put_words-zero = refl

  -- a turn of a loop that writes the words upwards
  pub put_words-step : (n : ℕ) → put_words base (n + 1) f s ≡ set_word (put_words base n f s) (base + 2 * n) (f n)
  unfolding put_words
  put_words-step n = rw add-one

  pub length-put_words : (n : ℕ) → length (put_words base n f s) ≡ length s
  unfolding put_words
  length-put_words zero = refl
  length-put_words (suc n) = length-set_word (put_words base n f s) (base + 2 * n) (f n) ∙ length-put_words n

  -- a byte before or behind the run
  pub put_words-before : (n k : ℕ) → k < base → get_or (put_words base n f s) k 0 ≡ get_or s k 0
  unfolding put_words
  put_words-before zero k h = refl
  put_words-before (suc n) k h =
      byte-other (put_words base n f s) (base + 2 * n) (f n) k (λ e. omega arith) (λ e. omega arith) ∙ put_words-before n k h

  pub put_words-behind : (n k : ℕ) → base + 2 * n ≤ k → get_or (put_words base n f s) k 0 ≡ get_or s k 0
  unfolding put_words
  put_words-behind zero k h = refl
  put_words-behind (suc n) k h =
      byte-other (put_words base n f s) (base + 2 * n) (f n) k (λ e. omega arith) (λ e. omega arith) ∙ put_words-behind n k (omega arith)

  -- a word before or behind the run
  pub word-put_words-before : (n i : ℕ) → i + 2 ≤ base → word (put_words base n f s) i ≡ word s i
  unfolding word
  word-put_words-before n i h = omega (arith, put_words-before n i (omega arith), put_words-before n (i + 1) (omega arith))

  pub word-put_words-behind : (n i : ℕ) → base + 2 * n ≤ i → word (put_words base n f s) i ≡ word s i
  unfolding word
  word-put_words-behind n i h = omega (arith, put_words-behind n i h, put_words-behind n (i + 1) (omega arith))

  -- the word at place i of the run
  pub word-put_words : (n i : ℕ) → base + 2 * n ≤ length s → i < n → word (put_words base n f s) (base + 2 * i) ≡ f i
  unfolding put_words
  word-put_words zero i l h = absurd (omega arith)
  word-put_words (suc n) i l h =
      by_cases (ℕ_discrete i n)
      (λ e. rw e (word_same (put_words base n f s) (base + 2 * n) (f n) (rw length-put_words (omega arith))))
      (λ p.
      word-before (put_words base n f s) (base + 2 * n) (f n) (base + 2 * i) (omega arith) ∙ word-put_words n i (omega arith) (omega arith))

  pub bytes-put_words : (n : ℕ) → base + 2 * n ≤ length s → ((i : ℕ) → i < n → f i < 65536) → Bytes s → Bytes (put_words base n f s)
  unfolding put_words
  bytes-put_words zero l h b = b
  bytes-put_words (suc n) l h b =
      bytes-set_word (put_words base n f s) (base + 2 * n) (f n) (rw length-put_words (omega arith)) (h n (omega arith))
      (bytes-put_words n (omega arith) (λ i p. h i (omega arith)) b)

-- the run depends on f only at its places
pub put_words-cong : (base : ℕ) (f g : ℕ → ℕ) (s : List ℕ) (n : ℕ) → ((i : ℕ) → i < n → f i ≡ g i) → put_words base n f s ≡ put_words base n g s
unfolding put_words
put_words-cong base f g s zero h = refl
put_words-cong base f g s (suc n) h =
    ap (λ (l : List ℕ). set_word l (base + 2 * n) (f n)) (put_words-cong base f g s n (λ i p. h i (omega arith)))
    ∙ ap (λ (v : ℕ). set_word (put_words base n g s) (base + 2 * n) v) (h n (omega arith))

-- ---- rows

module _ (base d : ℕ) (g : ℕ → ℕ → ℕ) (s : List ℕ) where
  pub length-put_rows : (n : ℕ) → length (put_rows base d n g s) ≡ length s
  unfolding put_rows
  length-put_rows zero = refl
  length-put_rows (suc n) = length-put_words (base + 2 * (n * d)) (g n) (put_rows base d n g s) d ∙ length-put_rows n

  pub put_rows-before : (n k : ℕ) → k < base → get_or (put_rows base d n g s) k 0 ≡ get_or s k 0
  unfolding put_rows
  put_rows-before zero k h = refl
  put_rows-before (suc n) k h = put_words-before (base + 2 * (n * d)) (g n) (put_rows base d n g s) d k (omega arith) ∙ put_rows-before n k h

  pub put_rows-behind : (n k : ℕ) → base + 2 * (n * d) ≤ k → get_or (put_rows base d n g s) k 0 ≡ get_or s k 0
  unfolding put_rows
  put_rows-behind zero k h = refl
  put_rows-behind (suc n) k h =
      put_words-behind (base + 2 * (n * d)) (g n) (put_rows base d n g s) d k (omega arith) ∙ put_rows-behind n k (omega arith)

  pub word-put_rows-before : (n i : ℕ) → i + 2 ≤ base → word (put_rows base d n g s) i ≡ word s i
  unfolding word
  word-put_rows-before n i h = omega (arith, put_rows-before n i (omega arith), put_rows-before n (i + 1) (omega arith))

  -- the word at place j of row t
  pub word-put_rows : (n t j : ℕ) → base + 2 * (n * d) ≤ length s → t < n → j < d → word (put_rows base d n g s) (base + 2 * (t * d + j)) ≡ g t j
  unfolding put_rows
  word-put_rows zero t j l h k = absurd (omega arith)
  word-put_rows (suc n) t j l h k =
      by_cases (ℕ_discrete t n)
      (λ e.
      let place : base + 2 * (n * d + j) ≡ base + 2 * (n * d) + 2 * j = omega arith in
      rw e
      (ap (λ (i : ℕ). word (put_words (base + 2 * (n * d)) d (g n) (put_rows base d n g s)) i) place
      ∙ word-put_words (base + 2 * (n * d)) (g n) (put_rows base d n g s) d j (rw length-put_rows (omega arith)) k))
      (λ p.
      let up : t < n = omega arith in
      word-put_words-before (base + 2 * (n * d)) (g n) (put_rows base d n g s) d (base + 2 * (t * d + j)) (omega (arith, mul-le-mul_right d up))
      ∙ word-put_rows n t j (omega arith) up k)

  pub bytes-put_rows : (n : ℕ) → base + 2 * (n * d) ≤ length s → ((t j : ℕ) → t < n → j < d → g t j < 65536) → Bytes s → Bytes (put_rows base d n g s)
  unfolding put_rows
  bytes-put_rows zero l h b = b
  bytes-put_rows (suc n) l h b =
      bytes-put_words (base + 2 * (n * d)) (g n) (put_rows base d n g s) d (rw length-put_rows (omega arith)) (λ j q. h n j (omega arith) q)
      (bytes-put_rows n (omega arith) (λ t j p q. h t j (omega arith) q) b)

-- ---- writing again: what taking a step back is made of

pub set_word-set_word : (s : List ℕ) (i v w : ℕ) → set_word (set_word s i v) i w ≡ set_word s i w
unfolding set_word
set_word-set_word s i v w =
    ap (λ (l : List ℕ). set l (i + 1) (w % 256)) (sym (set_comm (set s i (v / 256)) i (i + 1) (w / 256) (v % 256) (λ e. omega arith)))
    ∙ set-set (set (set s i (v / 256)) i (w / 256)) (i + 1) (v % 256) (w % 256)
    ∙ ap (λ (l : List ℕ). set l (i + 1) (w % 256)) (set-set s i (v / 256) (w / 256))

-- a word that is written as it stands
pub set_word-own : (s : List ℕ) (i : ℕ) → Bytes s → set_word s i (word s i) ≡ s
unfolding set_word word
set_word-own s i b =
    let hi : (256 * get_or s i 0 + get_or s (i + 1) 0) / 256 ≡ get_or s i 0 = omega (arith, b (i + 1)) in
    let lo : (256 * get_or s i 0 + get_or s (i + 1) 0) % 256 ≡ get_or s (i + 1) 0 = omega (arith, b (i + 1)) in
    rw (hi, lo, set-get_or s i 0) (set-get_or s (i + 1) 0)

-- a word behind the run may be written before it
pub put_words-set_word : (base : ℕ) (f : ℕ → ℕ) (s : List ℕ) (n i v : ℕ) → base + 2 * n ≤ i → put_words base n f (set_word s i v) ≡ set_word (put_words base n f s) i v
unfolding put_words
put_words-set_word base f s zero i v h = refl
put_words-set_word base f s (suc n) i v h =
    ap (λ (l : List ℕ). set_word l (base + 2 * n) (f n)) (put_words-set_word base f s n i v (omega arith))
    ∙ sym (set_word-comm (put_words base n f s) (base + 2 * n) (f n) i v (omega arith))

-- a run that is written twice
pub put_words-put_words : (base : ℕ) (f g : ℕ → ℕ) (s : List ℕ) (n : ℕ) → put_words base n f (put_words base n g s) ≡ put_words base n f s
unfolding put_words
put_words-put_words base f g s zero = refl
put_words-put_words base f g s (suc n) =
    ap (λ (l : List ℕ). set_word l (base + 2 * n) (f n)) (put_words-set_word base f (put_words base n g s) n (base + 2 * n) (g n) (omega arith))
    ∙ set_word-set_word (put_words base n f (put_words base n g s)) (base + 2 * n) (g n) (f n)
    ∙ ap (λ (l : List ℕ). set_word l (base + 2 * n) (f n)) (put_words-put_words base f g s n)

-- a run that is written as it stands
pub put_words-own : (base : ℕ) (s : List ℕ) (n : ℕ) → Bytes s → put_words base n (λ i. word s (base + 2 * i)) s ≡ s
unfolding put_words
put_words-own base s zero b = refl
put_words-own base s (suc n) b =
    ap (λ (l : List ℕ). set_word l (base + 2 * n) (word s (base + 2 * n))) (put_words-own base s n b) ∙ set_word-own s (base + 2 * n) b
