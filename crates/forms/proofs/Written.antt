-- The laws of `written`: reading back what was written gives the state; writing what stands there changes nothing; the last writing
-- wins; the length stays; no byte of the head or behind the image changes.
-- Assumes nothing.
use mathlib.Core.Path.{◌≡◌, ap, ◌∙◌}
use mathlib.Core.List.{List}
use Prim.Native.Nat.{ℕ, ◌+◌, ◌*◌, ◌≤◌, ◌<◌}
use native.Mathlib.Omega.{arith}
use lib.ListN.{length}
use Rattle.model.specs.Net.{Net, State, Shaped, Lawful, width, tokens, count}
use Rattle.model.proofs.Shape.{built}
use Rattle.forms.specs.Word.{Bytes, byte, word, put_words, put_rows}
use Rattle.forms.specs.Places.{state_length, image_length}
use Rattle.forms.specs.Stored.{state_of}
use Rattle.forms.specs.Written.{written}
use Rattle.forms.proofs.WordLaws.{length-put_words, word-put_words, put_words-before, put_words-behind, bytes-put_words, put_words-cong, put_words-own, put_words-put_words}
use Rattle.forms.proofs.WordLaws.{length-put_rows, word-put_rows, word-put_rows-before, put_rows-before, put_rows-behind, bytes-put_rows}
use Rattle.forms.proofs.Runs.{put_words-put_rows, put_rows-put_rows, put_rows-cong, put_rows-own}
use Rattle.forms.proofs.Stored.{count-place, tokens-are, count_at_lem}

module _ (N : Net) (S : State) (b : List ℕ) where
  abbrev clock : ℕ
  clock = 8 + 2 * N.places

  abbrev marked : List ℕ
  marked = put_words 8 N.places (tokens S) b

  pub length-written : length (written N S b) ≡ length b
  unfolding written
  length-written = length-put_rows clock (width N) (count S) marked N.transitions ∙ length-put_words 8 (tokens S) b N.places

  -- the head, and what stands behind the image, stay
  pub written-head : (i : ℕ) → i < 8 → byte (written N S b) i ≡ byte b i
  unfolding written
  written-head i h =
      put_rows-before clock (width N) (count S) marked N.transitions i (omega arith)
      ∙ put_words-before 8 (tokens S) b N.places i h

  pub written_behind : (i : ℕ) → image_length N ≤ i → byte (written N S b) i ≡ byte b i
  unfolding written state_length
  written_behind i h =
      put_rows-behind clock (width N) (count S) marked N.transitions i h
      ∙ put_words-behind 8 (tokens S) b N.places i (omega arith)

  -- the second writing wins
  pub written_twice : (S' : State) → written N S (written N S' b) ≡ written N S b
  unfolding written
  written_twice S' =
      let rows = put_rows clock (width N) N.transitions (count S) in
      let before = put_words 8 N.places (tokens S') b in
      ap rows (put_words-put_rows clock (width N) 8 (tokens S) N.places (count S') before N.transitions (omega arith))
      ∙ put_rows-put_rows clock (width N) (count S) (count S') (put_words 8 N.places (tokens S) before) N.transitions
      ∙ ap rows (put_words-put_words 8 (tokens S) (tokens S') b N.places)

  pub bytes-written : Bytes b → Lawful N S → image_length N ≤ length b → Bytes (written N S b)
  unfolding written state_length
  bytes-written small w size =
      bytes-put_rows clock (width N) (count S) marked N.transitions (rw length-put_words size) (λ t j h k. omega (arith, w.counts_fit t j h k))
      (bytes-put_words 8 (tokens S) b N.places (omega arith) (λ p h. omega (arith, w.tokens_fit p h)) small)

  module _ (size : image_length N ≤ length b) where
    pub word-tokens : (p : ℕ) → p < N.places → word (written N S b) (8 + 2 * p) ≡ tokens S p
    unfolding written state_length
    word-tokens p h =
        word-put_rows-before clock (width N) (count S) marked N.transitions (8 + 2 * p) (omega arith)
        ∙ word-put_words 8 (tokens S) b N.places p (omega arith) h

    pub word_counts : (t j : ℕ) → t < N.transitions → j < width N → word (written N S b) (clock + 2 * (t * width N + j)) ≡ count S t j
    unfolding written state_length
    word_counts t j h k = word-put_rows clock (width N) (count S) marked N.transitions t j (rw length-put_words size) h k

    -- what was written is read again
    pub read-written : Shaped N S → state_of N (written N S b) ≡ S
    unfolding state_of
    read-written shaped =
        built N _ _ S shaped word-tokens
        (λ t j h k. ap (word (written N S b)) (count-place N.places (width N) t j) ∙ word_counts t j h k)

-- writing what stands there changes nothing
pub written-own : (N : Net) (b : List ℕ) → Bytes b → written N (state_of N b) b ≡ b
unfolding written
written-own N b small =
    ap (put_rows (8 + 2 * N.places) (width N) N.transitions (count (state_of N b)))
    (put_words-cong 8 (tokens (state_of N b)) (λ p. word b (8 + 2 * p)) b N.places (tokens-are N b) ∙ put_words-own 8 b N.places small)
    ∙ put_rows-cong (8 + 2 * N.places) (width N) (count (state_of N b)) (λ t j. word b (8 + 2 * N.places + 2 * (t * width N + j))) b N.transitions (count_at_lem N b)
    ∙ put_rows-own (8 + 2 * N.places) (width N) b N.transitions small
