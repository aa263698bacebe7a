-- Words put into a list, as the pieces before them, the words' own bytes, and the pieces behind.
-- Assumes nothing.
use mathlib.Core.Path.{◌≡◌, refl, sym, ap, ◌∙◌}
use mathlib.Core.List.{List, [], ◌∷◌, ◌++◌, append_assoc, append-nil}
use Prim.Native.Nat.{ℕ, zero, suc, ◌+◌, ◌*◌, ◌/◌, ◌%◌, ◌≤◌, ◌<◌}
use native.Mathlib.Numerals.{add-one}
use native.Mathlib.Omega.{arith}
use lib.ListN.{length, get_or, set, take, drop, length-append, take-append-drop}
use lib.Seq.{drop-cons, drop-drop, take_at, length-take-le, drop-append-add}
use Rattle.forms.specs.Word.{set_word, put_words, put_rows}
use Rattle.forms.specs.Listed.{two, join}
use Rattle.forms.proofs.WordLaws.{length-put_rows}
use Rattle.forms.proofs.ListedNet.{length-join}

-- one part more, behind the others
pub join-snoc : (n : ℕ) (f : ℕ → List ℕ) → join (suc n) f ≡ join n f ++ f n
unfolding join
join-snoc zero f = append-nil (f 0)
join-snoc (suc n) f =
    ap (λ (l : List ℕ). f 0 ++ l) (join-snoc n (λ k. f (suc k)))
    ∙ sym (append_assoc (f 0) (join n (λ k. f (suc k))) (f (suc n)))

-- a word put over the two bytes behind xs
set-seam : (xs : List ℕ) (a b : ℕ) (ys : List ℕ) (v w : ℕ) → set (set (xs ++ a ∷ b ∷ ys) (length xs) v) (suc (length xs)) w ≡ xs ++ (v ∷ w ∷ ys)
set-seam [] a b ys v w = refl
set-seam (x ∷ xs) a b ys v w = ap (λ (l : List ℕ). x ∷ l) (set-seam xs a b ys v w)

set_word-seam : (xs rest : List ℕ) (k v a b : ℕ) (ys : List ℕ) → length xs ≡ k → rest ≡ a ∷ b ∷ ys
    → set_word (xs ++ rest) k v ≡ xs ++ (two v ++ ys)
unfolding set_word
set_word-seam xs rest k v a b ys e r = rw (r, ← e, add-one) (set-seam xs a b ys (v / 256) (v % 256))

-- a list of at least i + 2 elements, cut behind i
cut-two : (s : List ℕ) (i : ℕ) → i + 2 ≤ length s → drop i s ≡ get_or s i 0 ∷ get_or s (suc i) 0 ∷ drop (i + 2) s
cut-two s i h =
    let e : suc (suc i) ≡ i + 2 = omega arith in
    drop-cons s i 0 (omega arith) ∙ ap (λ (l : List ℕ). get_or s i 0 ∷ l) (drop-cons s (suc i) 0 (omega arith) ∙ rw e)

-- n words from `base` on: what stands before, the words, what stands behind
pub put_words-pieces : (base : ℕ) (f : ℕ → ℕ) (s : List ℕ) (n : ℕ) → base + 2 * n ≤ length s
    → put_words base n f s ≡ take base s ++ (join n (λ i. two (f i)) ++ drop (base + 2 * n) s)
unfolding put_words join
put_words-pieces base f s zero h = let e : base + 2 * 0 ≡ base = omega arith in rw e (sym (take-append-drop base s))
put_words-pieces base f s (suc n) h =
    let J = join n (λ i. two (f i)) in
    let k = base + 2 * n in
    let e : k + 2 ≡ base + 2 * suc n = omega arith in
    let long : length (take base s ++ J) ≡ k =
    length-append (take base s) J
    ∙ omega (arith, length-take-le base s (omega arith), length-join 2 n (λ i. two (f i)) (λ i g. refl)) in
    ap (λ (l : List ℕ). set_word l k (f n)) (put_words-pieces base f s n (omega arith) ∙ sym (append_assoc (take base s) J (drop k s)))
    ∙ set_word-seam (take base s ++ J) (drop k s) k (f n) (get_or s k 0) (get_or s (suc k) 0) (drop (k + 2) s) long (cut-two s k (omega arith))
    ∙ append_assoc (take base s) J (two (f n) ++ drop (k + 2) s)
    ∙ ap (λ (l : List ℕ). take base s ++ l) (sym (append_assoc J (two (f n)) (drop (k + 2) s)))
    ∙ ap (λ (l : List ℕ). take base s ++ (l ++ drop (k + 2) s)) (sym (join-snoc n (λ i. two (f i))))
    ∙ rw e

-- what stands before and behind two pieces that are put one behind the other
pub take-two : (xs ys zs : List ℕ) (k : ℕ) → length (xs ++ ys) ≡ k → take k (xs ++ (ys ++ zs)) ≡ xs ++ ys
take-two xs ys zs k e = ap (take k) (sym (append_assoc xs ys zs)) ∙ take_at (xs ++ ys) zs k e

pub drop-two : (xs ys zs : List ℕ) (k m : ℕ) → length (xs ++ ys) ≡ k → drop (k + m) (xs ++ (ys ++ zs)) ≡ drop m zs
drop-two xs ys zs k m e = ap (drop (k + m)) (sym (append_assoc xs ys zs)) ∙ rw (← e) (drop-append-add (xs ++ ys) zs m)

-- n rows of d words from `base` on
pub put_rows-pieces : (base d : ℕ) (g : ℕ → ℕ → ℕ) (s : List ℕ) (n : ℕ) → base + 2 * (n * d) ≤ length s
    → put_rows base d n g s ≡ take base s ++ (join n (λ t. join d (λ j. two (g t j))) ++ drop (base + 2 * (n * d)) s)
unfolding put_rows join
put_rows-pieces base d g s zero h = let e : base + 2 * (0 * d) ≡ base = omega arith in rw e (sym (take-append-drop base s))
put_rows-pieces base d g s (suc n) h =
    let row : ℕ → List ℕ = λ t. join d (λ j. two (g t j)) in
    let R = join n row in
    let k = base + 2 * (n * d) in
    let e : k + 2 * d ≡ base + 2 * (suc n * d) = omega arith in
    let rows : (t : ℕ) → t < n → length (row t) ≡ d * 2 = λ t l. length-join 2 d (λ j. two (g t j)) (λ j q. refl) in
    let twice : n * (d * 2) ≡ 2 * (n * d) = omega arith in
    let long : length (take base s ++ R) ≡ k =
    length-append (take base s) R ∙ omega (arith, length-take-le base s (omega arith), length-join (d * 2) n row rows) in
    let before = take base s ++ (R ++ drop k s) in
    let same : put_rows base d n g s ≡ before = put_rows-pieces base d g s n (omega arith) in
    ap (λ (l : List ℕ). put_words k d (g n) l) same
    ∙ put_words-pieces k (g n) before d (rw (← same) (rw length-put_rows (omega arith)))
    ∙ ap (λ (l : List ℕ). l ++ (row n ++ drop (k + 2 * d) before)) (take-two (take base s) R (drop k s) k long)
    ∙ ap (λ (l : List ℕ). (take base s ++ R) ++ (row n ++ l)) (drop-two (take base s) R (drop k s) k (2 * d) long ∙ drop-drop (2 * d) k s)
    ∙ append_assoc (take base s) R (row n ++ drop (k + 2 * d) s)
    ∙ ap (λ (l : List ℕ). take base s ++ l) (sym (append_assoc R (row n) (drop (k + 2 * d) s)))
    ∙ ap (λ (l : List ℕ). take base s ++ (l ++ drop (k + 2 * d) s)) (sym (join-snoc n row))
    ∙ rw e
