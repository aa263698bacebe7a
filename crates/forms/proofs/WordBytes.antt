-- Bytes that are written over a part of a slice, as the words that they make. No contract cites this file.
-- Assumes nothing.
use Rattle.std.proofs.Common.{append_assoc, ◌≡◌, List, [], ◌∷◌, ℕ, zero, suc, ◌+◌, ◌-◌, ◌*◌, ◌/◌, ◌%◌, ◌<◌, ◌≤◌, length, length-drop, refl, sym, ap, ◌∙◌, arith, take, drop, set, replicate}
use borrow.Rule.Slice.PartMut.{put_mid}
use Rattle.std.proofs.lemmas.List.{drop-drop, length-replicate, length-take}
use Rattle.std.proofs.lemmas.List.Edits.{sets, sets-eq}
use Rattle.model.proofs.Tab.{below-or-past}
use Rattle.forms.specs.Word.{Bytes, byte, word, set_word, set_word32, put_words}
use Rattle.forms.proofs.WordLaws.{byte-part, byte-part_past}
use Rattle.forms.proofs.Runs.{put_words-append}

-- a part that is written over, from `at` to `end`, holds the bytes one after the other
pub put_mid-sets : (s : List ℕ) (at end : ℕ) (ys : List ℕ) → at + length ys ≡ end → end ≤ length s
    → put_mid at (end - at) s ys ≡ sets s at ys
put_mid-sets s at end ys e h =
    let width : end - at ≡ length ys = omega arith in
    rw (width, drop-drop, ← append_assoc) (sym (sets-eq ys s at (omega arith)))

-- the two bytes of a number are its word
pub put_two : (s : List ℕ) (at v : ℕ) → at + 1 < length s → v < 65536
    → put_mid at (at + 2 - at) s (v / 256 % 256 ∷ v % 256 ∷ []) ≡ set_word s at v
unfolding set_word
put_two s at v h l =
    let high : v / 256 % 256 ≡ v / 256 = omega arith in
    let next : suc at ≡ at + 1 = omega arith in
    rw (high, put_mid-sets s at (at + 2) (v / 256 ∷ v % 256 ∷ []) refl (omega arith), next)

-- and the four bytes its two words
pub put_four : (s : List ℕ) (at v : ℕ) → at + 3 < length s → v < 4294967296
    → put_mid at (at + 4 - at) s (v / 16777216 % 256 ∷ v / 65536 % 256 ∷ v / 256 % 256 ∷ v % 256 ∷ []) ≡ set_word32 s at v
unfolding set_word32 set_word
put_four s at v h l =
    let first : v / 16777216 % 256 ≡ v / 65536 / 256 = omega arith in
    let third : v / 256 % 256 ≡ v % 65536 / 256 = omega arith in
    let fourth : v % 256 ≡ v % 65536 % 256 = omega arith in
    let one : suc at ≡ at + 1 = omega arith in
    let two : suc (suc at) ≡ at + 2 = omega arith in
    let three : suc (suc (suc at)) ≡ at + 2 + 1 = omega arith in
    let bytes = v / 65536 / 256 ∷ v / 65536 % 256 ∷ v % 65536 / 256 ∷ v % 65536 % 256 ∷ [] in
    rw (first, third, fourth, put_mid-sets s at (at + 4) bytes refl (omega arith), three, two, one)

-- two bytes of a list are its first word
first_word : (s : List ℕ) (base h l v : ℕ) (rest : List ℕ) → l < 256 → word (h ∷ l ∷ rest) 0 ≡ v
    → set (set s base h) (suc base) l ≡ set_word s (base + 0) v
unfolding word set_word
first_word s base h l v rest b w =
    let high : v / 256 ≡ h = omega arith in
    let low : v % 256 ≡ l = omega arith in
    let next : suc base ≡ base + 1 = omega arith in
    let here : base + 0 ≡ base = omega arith in
    rw (high, low, next, here)

-- and behind them the others
word-behind : (h l : ℕ) (rest : List ℕ) (i : ℕ) → word rest (2 * i) ≡ word (h ∷ l ∷ rest) (2 * (1 + i))
unfolding word
word-behind h l rest i =
    let e : 2 * (1 + i) ≡ suc (suc (2 * i)) = omega arith in
    let next : suc (suc (2 * i)) + 1 ≡ suc (suc (2 * i + 1)) = omega arith in
    rw (e, next)

-- bytes one after the other are a run of the words that they make
sets-words : (base : ℕ) (f : ℕ → ℕ) (n : ℕ) (s ys : List ℕ) → length ys ≡ 2 * n → Bytes ys → ((i : ℕ) → i < n → word ys (2 * i) ≡ f i)
    → sets s base ys ≡ put_words base n f s
unfolding put_words
sets-words base f zero s [] e b w = refl
sets-words base f zero s (y ∷ ys) e b w = absurd (omega arith)
sets-words base f (suc n) s [] e b w = absurd (omega arith)
sets-words base f (suc n) s (h ∷ []) e b w = absurd (omega arith)
sets-words base f (suc n) s (h ∷ l ∷ rest) e b w =
    let next : suc (suc base) ≡ base + 2 = omega arith in
    let all : 1 + n ≡ suc n = omega arith in
    rw (first_word s base h l (f 0) rest (b 1) (w 0 (omega arith)), next)
    (sets-words (base + 2) (λ i. f (1 + i)) n (put_words base 1 f s) rest (omega arith) (λ i. b (suc (suc i)))
    (λ i k. word-behind h l rest i ∙ w (1 + i) (omega arith))
    ∙ put_words-append base f s 1 n ∙ ap (λ (k : ℕ). put_words base k f s) all)

pub put_run : (s : List ℕ) (base n : ℕ) (f : ℕ → ℕ) (ys : List ℕ) → base + 2 * n ≤ length s → length ys ≡ 2 * n → Bytes ys
    → ((i : ℕ) → i < n → word ys (2 * i) ≡ f i) → put_mid base (base + 2 * n - base) s ys ≡ put_words base n f s
put_run s base n f ys room e b w = put_mid-sets s base (base + 2 * n) ys (omega arith) room ∙ sets-words base f n s ys e b w

-- each byte of a list of zeros is 0, and of what is behind it
zeros-byte : (n i : ℕ) → byte (replicate n 0) i ≡ 0
zeros-byte zero i = refl
zeros-byte (suc n) zero = refl
zeros-byte (suc n) (suc i) = zeros-byte n i

-- as many zeros as a part is long are words that are 0
pub put_zeros : (s : List ℕ) (at n : ℕ) → at + 2 * n ≤ length s
    → put_mid at (at + 2 * n - at) s (replicate (length (take (at + 2 * n - at) (drop at s))) 0) ≡ put_words at n (λ _. 0) s
unfolding word
put_zeros s at n room =
    let k = length (take (at + 2 * n - at) (drop at s)) in
    put_run s at n (λ _. 0) (replicate k 0) room
    (simp (length-replicate, length-take, length-drop) (omega arith)) (λ i. omega (arith, zeros-byte k i))
    (λ i h. omega (arith, zeros-byte k (2 * i), zeros-byte k (2 * i + 1)))

-- a part of other bytes, copied, is a run of the words there
pub put_copied : (s t : List ℕ) (base from n : ℕ) → base + 2 * n ≤ length s → from + 2 * n ≤ length t → Bytes t
    → put_mid base (base + 2 * n - base) s (take (from + 2 * n - from) (drop from t)) ≡ put_words base n (λ p. word t (from + 2 * p)) s
unfolding word
put_copied s t base from n room whole small =
    put_run s base n (λ p. word t (from + 2 * p)) part room (simp (length-take, length-drop) (omega arith)) bytes
    (λ p h. let next : from + (2 * p + 1) ≡ from + 2 * p + 1 = omega arith in
    omega (arith, inside (2 * p) (omega arith), rw next at (inside (2 * p + 1) (omega arith))))
  where
    part : List ℕ
    part = take (from + 2 * n - from) (drop from t)

    inside : (i : ℕ) → i < 2 * n → byte part i ≡ byte t (from + i)
    inside i h = byte-part t from (from + 2 * n - from) i (omega arith)

    bytes : Bytes part
    bytes i =
        below-or-past i (2 * n) (λ h. rw inside (small (from + i)))
        (λ past. rw (byte-part_past t from (from + 2 * n - from) i (omega arith)) (omega arith))
