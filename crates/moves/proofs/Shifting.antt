-- What the loops of `shift_up` and `shift_down` show, byte by byte, and that the block of words is then moved by one place.
-- Assumes nothing.
use mathlib.Core.Path.{◌≡◌, refl, sym, ◌∙◌}
use mathlib.Core.Logic.{by_cases}
use mathlib.Core.List.{List}
use Prim.Native.Nat.{ℕ, zero, suc, ◌+◌, ◌-◌, ◌*◌, ◌/◌, ◌<◌, ◌≤◌}
use native.Mathlib.Decide.{ℕ_discrete, dec_lt}
use native.Mathlib.Omega.{arith}
use borrow.Author.Tests.{lt-ltb, le-ltb}
use lib.ListN.{length, set, length-set}
use lib.Seq.{get_or-set_same, get_or-set_other, ext_get_or}
use Rattle.model.proofs.Tab.{below-or-past, at-or-below}
use Rattle.forms.specs.Word.{Bytes, byte, word, set_word, put_words}
use Rattle.forms.proofs.WordLaws.{word_fits, word_same, byte-other, bytes-set_word, length-set_word, length-put_words, word-put_words, put_words-before, put_words-behind, bytes-put_words}
use Rattle.moves.specs.Shift.{later, sooner}

-- A RUN OF WORDS, INDEX BY INDEX

-- two lists of bytes with one word in common there have its two bytes in common
module _ (s r : List ℕ) (i : ℕ) (small : Bytes s) (small' : Bytes r) (e : word s i ≡ word r i) where
  high-of : byte s i ≡ byte r i
  unfolding word
  high-of = omega (arith, small i, small (i + 1), small' i, small' (i + 1), e)

  low_of : byte s (i + 1) ≡ byte r (i + 1)
  unfolding word
  low_of = omega (arith, small i, small (i + 1), small' i, small' (i + 1), e)

-- r is s with its n words from index `base` on replaced by f's
pub record Puts (base n : ℕ) (f : ℕ → ℕ) (s r : List ℕ) : Type 0 where
  pub same_length : length r ≡ length s
  pub at : (i : ℕ) → i < n → word r (base + 2 * i) ≡ f i
  pub before : (k : ℕ) → k < base → byte r k ≡ byte s k
  pub behind : (k : ℕ) → base + 2 * n ≤ k → byte r k ≡ byte s k

module _ (base n : ℕ) (f : ℕ → ℕ) (s : List ℕ) (room : base + 2 * n ≤ length s) where
  put_words-puts : Puts base n f s (put_words base n f s)
  put_words-puts = record {
    same_length = length-put_words base f s n;
    at = λ i h. word-put_words base f s n i room h;
    before = λ k h. put_words-before base f s n k h;
    behind = λ k h. put_words-behind base f s n k h;
  }

  -- what the index-wise form says pins every byte
  puts-only : (r q : List ℕ) → Bytes r → Bytes q → Puts base n f s r → Puts base n f s q → r ≡ q
  puts-only r q br bq R Q =
      ext_get_or 0 r q (R.same_length ∙ sym Q.same_length) (λ k h.
      by_cases (dec_lt k base)
      (λ p. R.before k p ∙ sym (Q.before k p))
      (λ p.
      by_cases (dec_lt k (base + 2 * n))
      (λ m.
      let i : ℕ = (k - base) / 2 in
      let e : word r (base + 2 * i) ≡ word q (base + 2 * i) = R.at i (omega arith) ∙ sym (Q.at i (omega arith)) in
      by_cases (ℕ_discrete k (base + 2 * i))
      (λ same. rw same (high-of r q (base + 2 * i) br bq e))
      (λ other.
      let next : k ≡ base + 2 * i + 1 = omega arith in
      rw next (low_of r q (base + 2 * i) br bq e)))
      (λ m. R.behind k (omega arith) ∙ sym (Q.behind k (omega arith)))))

  puts-is : (r : List ℕ) → Bytes s → Bytes r → ((i : ℕ) → i < n → f i < 65536) → Puts base n f s r → r ≡ put_words base n f s
  puts-is r bs br hf R = puts-only r (put_words base n f s) br (bytes-put_words base f s n room hf bs) R put_words-puts

-- UP

-- of the bytes s, those of the block from place n on have gone up by two places, and these are r
pub record Lifted (base cells : ℕ) (s : List ℕ) (n : ℕ) (r : List ℕ) : Type 0 where
  pub long : length r ≡ length s
  pub moved : (k : ℕ) → n ≤ k → k < 2 * (cells - 1) → byte r (base + 2 + k) ≡ byte s (base + k)
  pub rest : (i : ℕ) → i < base + 2 + n → byte r i ≡ byte s i
  pub behind : (i : ℕ) → base + 2 * cells ≤ i → byte r i ≡ byte s i

pub lifted-none : (base cells : ℕ) (s : List ℕ) → Lifted base cells s (2 * (cells - 1)) s
lifted-none base cells s = record { long = refl; moved = λ k l h. absurd (omega arith); rest = λ i h. refl; behind = λ i h. refl }

module _ (base cells : ℕ) (s : List ℕ) (n : ℕ) (r : List ℕ) (h : Lifted base cells s n r) (some : 1 ≤ cells) (room : base + 2 * cells ≤ length s) where
  pub lifted-turn : 0 < n → n ≤ 2 * (cells - 1) → Lifted base cells s (n - 1) (set r (base + 2 + (n - 1)) (byte r (base + (n - 1))))
  lifted-turn pos most =
      let m = n - 1 in
      let at = base + 2 + m in
      let v = byte r (base + m) in
      record {
        long = simp length-set h.long;
        moved = λ k l u. at-or-below m k l
            (λ e. rw (← e) (get_or-set_same r at v 0 (omega (arith, h.long)) ∙ h.rest (base + m) (omega arith)))
            (λ less. get_or-set_other r at (base + 2 + k) v 0 (omega arith) ∙ h.moved k (omega arith) u);
        rest = λ i l. get_or-set_other r at i v 0 (omega arith) ∙ h.rest i (omega arith);
        behind = λ i l. get_or-set_other r at i v 0 (omega arith) ∙ h.behind i l;
      }

  module _ (none : n ≡ 0) (small : Bytes s) where
    lifted-bytes : Bytes r
    lifted-bytes i =
        below-or-past i (base + 2) (λ l. rw (h.rest i (omega arith)) (small i)) (λ l.
        below-or-past i (base + 2 * cells)
        (λ u. let k = i - base - 2 in
        let e : base + 2 + k ≡ i = omega arith in
        omega (arith, rw e at (h.moved k (omega arith) (omega arith)), small (base + k)))
        (λ u. rw (h.behind i u) (small i)))

    lifted-at : (i : ℕ) → i < cells → word (set_word r base 0) (base + 2 * i) ≡ later s base i
    unfolding later word
    lifted-at zero l =
        let e : base + 2 * 0 ≡ base = omega arith in
        rw e (word_same r base 0 (omega (arith, h.long)))
    lifted-at (suc k) l =
        omega (
          arith,
          byte-other r base 0 (base + 2 * suc k) (omega arith) (omega arith),
          byte-other r base 0 (base + 2 * suc k + 1) (omega arith) (omega arith),
          here,
          next,
        )
      where
        here : byte r (base + 2 * suc k) ≡ byte s (base + 2 * k)
        here = let e : base + 2 + 2 * k ≡ base + 2 * suc k = omega arith in rw e at (h.moved (2 * k) (omega arith) (omega arith))

        next : byte r (base + 2 * suc k + 1) ≡ byte s (base + 2 * k + 1)
        next =
            let e : base + 2 + (2 * k + 1) ≡ base + 2 * suc k + 1 = omega arith in
            let f : base + (2 * k + 1) ≡ base + 2 * k + 1 = omega arith in
            rw (e, f) at (h.moved (2 * k + 1) (omega arith) (omega arith))

    pub lifted-all : set_word r base 0 ≡ put_words base cells (later s base) s
    unfolding later
    lifted-all =
        puts-is base cells (later s base) s room (set_word r base 0) small (bytes-set_word r base 0 (omega (arith, h.long)) (omega arith) lifted-bytes) fits
        (record {
          same_length = length-set_word r base 0 ∙ h.long;
          at = lifted-at;
          before = λ k l. byte-other r base 0 k (omega arith) (omega arith) ∙ h.rest k (omega arith);
          behind = λ k l. byte-other r base 0 k (omega arith) (omega arith) ∙ h.behind k l;
        })
      where
        fits : (i : ℕ) → i < cells → later s base i < 65536
        fits zero l = omega arith
        fits (suc k) l = word_fits s (base + 2 * k) small

-- DOWN

-- of the bytes s, the first n of the block have come down by two places, and these are r
pub record Lowered (base : ℕ) (s : List ℕ) (n : ℕ) (r : List ℕ) : Type 0 where
  pub long : length r ≡ length s
  pub moved : (k : ℕ) → k < n → byte r (base + k) ≡ byte s (base + 2 + k)
  pub front : (i : ℕ) → i < base → byte r i ≡ byte s i
  pub rest : (i : ℕ) → base + n ≤ i → byte r i ≡ byte s i

pub lowered_none : (base : ℕ) (s : List ℕ) → Lowered base s 0 s
lowered_none base s = record { long = refl; moved = λ k h. absurd (omega arith); front = λ i h. refl; rest = λ i h. refl }

module _ (base : ℕ) (s : List ℕ) (n : ℕ) (r : List ℕ) (h : Lowered base s n r) where
  pub lowered-turn : base + n < length s → Lowered base s (n + 1) (set r (base + n) (byte r (base + 2 + n)))
  lowered-turn room =
      let v = byte r (base + 2 + n) in
      record {
        long = simp length-set h.long;
        moved = λ k l. at-or-below k n (omega arith)
            (λ e. rw e (get_or-set_same r (base + n) v 0 (omega (arith, h.long)) ∙ h.rest (base + 2 + n) (omega arith)))
            (λ less. get_or-set_other r (base + n) (base + k) v 0 (omega arith) ∙ h.moved k less);
        front = λ i l. get_or-set_other r (base + n) i v 0 (omega arith) ∙ h.front i l;
        rest = λ i l. get_or-set_other r (base + n) i v 0 (omega arith) ∙ h.rest i (omega arith);
      }

  module _ (cells : ℕ) (all : n ≡ 2 * (cells - 1)) (some : 1 ≤ cells) (room : base + 2 * cells ≤ length s) (small : Bytes s) where
    lowered-bytes : Bytes r
    lowered-bytes i =
        below-or-past i base (λ l. rw (h.front i l) (small i)) (λ l.
        below-or-past i (base + n)
        (λ u. let k = i - base in
        let e : base + k ≡ i = omega arith in
        omega (arith, rw e at (h.moved k (omega arith)), small (base + 2 + k)))
        (λ u. rw (h.rest i u) (small i)))

    sooner-last : (i : ℕ) → cells ≤ suc i → sooner s base cells i ≡ 0
    unfolding sooner
    sooner-last i l = simp (le-ltb (suc i) cells l)

    sooner-next : (i : ℕ) → suc i < cells → sooner s base cells i ≡ word s (base + 2 * suc i)
    unfolding sooner
    sooner-next i l = simp (lt-ltb (suc i) cells l)

    lowered-at : (i : ℕ) → i < cells → word (set_word r (base + n) 0) (base + 2 * i) ≡ sooner s base cells i
    unfolding word
    lowered-at i l = below-or-past (suc i) cells inner (λ u.
        let e : base + 2 * i ≡ base + n = omega arith in
        rw e (word_same r (base + n) 0 (omega (arith, h.long)) ∙ sym (sooner-last i u)))
      where
        inner : suc i < cells → word (set_word r (base + n) 0) (base + 2 * i) ≡ sooner s base cells i
        inner u =
            let e : base + 2 + 2 * i ≡ base + 2 * suc i = omega arith in
            let f : base + (2 * i + 1) ≡ base + 2 * i + 1 = omega arith in
            let g : base + 2 + (2 * i + 1) ≡ base + 2 * suc i + 1 = omega arith in
            rw (sooner-next i u)
            (omega (
              arith,
              byte-other r (base + n) 0 (base + 2 * i) (omega arith) (omega arith),
              byte-other r (base + n) 0 (base + 2 * i + 1) (omega arith) (omega arith),
              rw e at (h.moved (2 * i) (omega arith)),
              rw (f, g) at (h.moved (2 * i + 1) (omega arith)),
            ))

    fits : (i : ℕ) → i < cells → sooner s base cells i < 65536
    fits i l = below-or-past (suc i) cells (λ u. rw (sooner-next i u) (word_fits s (base + 2 * suc i) small)) (λ u. rw (sooner-last i u) (omega arith))

    pub lowered-all : set_word r (base + n) 0 ≡ put_words base cells (sooner s base cells) s
    lowered-all =
        puts-is base cells (sooner s base cells) s room (set_word r (base + n) 0) small (bytes-set_word r (base + n) 0 (omega (arith, h.long)) (omega arith) lowered-bytes) fits
        (record {
          same_length = length-set_word r (base + n) 0 ∙ h.long;
          at = lowered-at;
          before = λ k l. byte-other r (base + n) 0 k (omega arith) (omega arith) ∙ h.front k l;
          behind = λ k l. byte-other r (base + n) 0 k (omega arith) (omega arith) ∙ h.rest k (omega arith);
        })
