-- Words that are all 0, looked at byte by byte.
-- Assumes nothing.
use Rattle.std.proofs.Common.{◌≡◌, List, [], ◌∷◌, ℕ, zero, suc, ◌+◌, ◌-◌, ◌*◌, ◌/◌, ◌<◌, ◌≤◌, ◌↔◌, length, take, drop, refl, arith, bit_or}
use Rattle.std.specs.List.{fold}
use lib.Bits.{or_add_and, and_le_l, and_le_r}
use lib.Dec.{eqb}
use Rattle.model.proofs.Tab.{all-tells, below-or-past}
use Rattle.model.proofs.Tests.{eqb_tells}
use Rattle.model.proofs.Alls.{tells-same}
use Rattle.forms.specs.Word.{byte, word, is_blank}
use Rattle.forms.proofs.WordLaws.{byte-part, byte-part_past}

-- numbers gathered by `|` come to 0 exactly where each is
gathered : (xs : List ℕ) (a : ℕ) → (fold (λ x y. bit_or x y) a xs ≡ 0) ↔ ((a ≡ 0) × ((i : ℕ) → byte xs i ≡ 0))
gathered [] a = ((λ e. (e, λ i. refl)), λ p. p.0)
gathered (x ∷ xs) a = (
  λ e. let (z, rest) = (gathered xs (bit_or a x)).0 e in (left z, λ i. each z rest i),
  λ (z, g). (gathered xs (bit_or a x)).1 (none z (g 0), λ i. g (suc i)),
)
  where
    left : bit_or a x ≡ 0 → a ≡ 0
    left e = omega (arith, or_add_and a x, and_le_l a x, and_le_r a x)

    each : bit_or a x ≡ 0 → ((i : ℕ) → byte xs i ≡ 0) → (i : ℕ) → byte (x ∷ xs) i ≡ 0
    each e rest zero = omega (arith, or_add_and a x, and_le_l a x, and_le_r a x)
    each e rest (suc i) = rest i

    none : a ≡ 0 → x ≡ 0 → bit_or a x ≡ 0
    none e z = omega (arith, or_add_and a x)

-- words are 0 where their bytes, gathered, are
pub blank-gathered : (s : List ℕ) (at n : ℕ) → at + 2 * n ≤ length s
    → eqb (fold (λ x y. bit_or x y) 0 (take (at + 2 * n - at) (drop at s))) 0 ≡ is_blank s at n
unfolding is_blank word
blank-gathered s at n room =
    tells-same (eqb_tells _ 0) (all-tells n (λ k. eqb_tells (256 * byte s (at + 2 * k) + byte s (at + 2 * k + 1)) 0))
    (λ e. words ((gathered part 0).0 e).1) (λ g. (gathered part 0).1 (refl, bytes g))
  where
    part : List ℕ
    part = take (at + 2 * n - at) (drop at s)

    inside : (i : ℕ) → i < 2 * n → byte part i ≡ byte s (at + i)
    inside i h = byte-part s at (at + 2 * n - at) i (omega arith)

    words : ((i : ℕ) → byte part i ≡ 0) → (k : ℕ) → k < n → 256 * byte s (at + 2 * k) + byte s (at + 2 * k + 1) ≡ 0
    words g k h =
        let next : at + (2 * k + 1) ≡ at + 2 * k + 1 = omega arith in
        omega (arith, g (2 * k), inside (2 * k) (omega arith), g (2 * k + 1), rw next at (inside (2 * k + 1) (omega arith)))

    bytes : ((k : ℕ) → k < n → 256 * byte s (at + 2 * k) + byte s (at + 2 * k + 1) ≡ 0) → (i : ℕ) → byte part i ≡ 0
    bytes g i =
        below-or-past i (2 * n)
        (λ h.
        let k = i / 2 in
        let word : 256 * byte s (at + 2 * k) + byte s (at + 2 * k + 1) ≡ 0 = g k (omega arith) in
        below-or-past i (2 * k + 1)
        (λ even. let e : at + 2 * k ≡ at + i = omega arith in omega (arith, inside i h, rw e at word))
        (λ odd. let e : at + 2 * k + 1 ≡ at + i = omega arith in omega (arith, inside i h, rw e at word)))
        (λ past. byte-part_past s at (at + 2 * n - at) i (omega arith))
