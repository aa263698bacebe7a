-- Starts and ends on bytes, done and taken back: the markings move by a transition's weights, and one count by one.
-- Assumes nothing.
use mathlib.Core.Path.{◌≡◌, refl, sym, ap, ◌∙◌}
use mathlib.Core.Logic.{by_cases}
use mathlib.Core.Bool.{Bool, true, false}
use mathlib.Core.List.{List}
use Prim.Native.Nat.{ℕ, suc, ◌+◌, ◌-◌, ◌*◌, ◌<◌, ◌≤◌}
use native.Mathlib.Nat.{mul-le-mul_right}
use native.Mathlib.Decide.{ℕ_discrete}
use native.Mathlib.Numerals.{add-one}
use native.Mathlib.Omega.{arith}
use borrow.Author.Tests.{lt-ltb, le-ltb}
use lib.Dec.{ltb}
use lib.ListN.{length}
use Rattle.model.specs.declared.age.Age.{Age}
use Rattle.model.specs.declared.net.Net.{Net as Shape}
use Rattle.model.specs.Age.{column_of}
use Rattle.model.specs.Limits.{Held, is_held}
use Rattle.model.specs.Tab.{one}
use Rattle.model.specs.Net.{Net, State, width, tokens, count, build}
use Rattle.model.proofs.Tab.{below-or-past, one-here, one-off}
use Rattle.model.proofs.Shape.{tokens-build, count-build}
use Rattle.forms.specs.Word.{Bytes, byte, word, set_word, put_words, put_rows}
use Rattle.forms.specs.Places.{mark_at, count_at, state_length, image_length}
use Rattle.forms.specs.Stored.{net_of, state_of, stored}
use Rattle.forms.specs.Written.{written}
use Rattle.forms.specs.Frame.{Framed}
use Rattle.forms.proofs.WordLaws.{word_same, word_after, word-before, word_fits, bytes-set_word, bytes-put_words, length-put_words, word-put_words-behind, put_words-cong, put_words-own}
use Rattle.forms.proofs.Runs.{put_rows-flat, put_words-over}
use Rattle.forms.proofs.Stored.{count-place, count_at_lem}
use Rattle.forms.proofs.States.{transitions-same}
use Rattle.forms.proofs.States.{places-small}
use Rattle.forms.proofs.Inside.{mark-stands, marks-inside, count-inside}
use Rattle.owed.specs.Weights.{AreWeights}
use Rattle.owed.proofs.Passing.{same}
use Rattle.moves.specs.Marking.{after_taking, after_giving, is_roomy}
use Rattle.moves.proofs.Looked.{roomy-each}

-- two cells of a matrix with d columns stand at one place only if they are one cell
pub cell-once : (d t j u k : ℕ) → j < d → k < d → t * d + j ≡ u * d + k → (t ≡ u) × (j ≡ k)
cell-once d t j u k l m e =
    below-or-past t u (λ h. absurd (omega (arith, mul-le-mul_right d h))) (λ g.
    below-or-past u t (λ h. absurd (omega (arith, mul-le-mul_right d h))) (λ h.
    let same : t ≡ u = omega arith in
    (same, omega (arith, ap (λ (x : ℕ). x * d) same))))

-- THE MARKINGS AND ONE COUNT ARE WRITTEN

module _ (N : Net) (b : List ℕ) (size : image_length N ≤ length b) (small : Bytes b) (t j : ℕ) (known : t < N.transitions) (young : j < width N) where
  abbrev base : ℕ
  base = 8 + 2 * N.places

  abbrev cells : ℕ
  cells = N.transitions * width N

  abbrev cell : ℕ
  cell = t * width N + j

  inside : t * width N + j < N.transitions * width N
  inside = omega (arith, mul-le-mul_right (width N) known)

  fits : 8 + 2 * N.places + 2 * (N.transitions * width N) ≤ length b
  unfolding state_length
  fits = size

  module _ (m : ℕ → ℕ) (v : ℕ) (S' : State)
      (fits-m : (p : ℕ) → p < N.places → m p < 65536) (fits-v : v < 65536)
      (ms : (p : ℕ) → p < N.places → tokens S' p ≡ m p)
      (here : count S' t j ≡ v)
      (there : (u k : ℕ) → u < N.transitions → k < width N → (t ≡ u → j ≡ k → ⊥) → count S' u k ≡ count (state_of N b) u k) where
    abbrev marked : List ℕ
    marked = put_words 8 N.places m b

    abbrev whole : List ℕ
    whole = set_word marked (base + 2 * cell) v

    room : base + 2 * cell + 1 < length marked
    room = rw length-put_words (omega (arith, inside, fits))

    other : (q : ℕ) → (cell ≡ q → ⊥) → word whole (base + 2 * q) ≡ word b (base + 2 * q)
    other q off =
        below-or-past q cell
        (λ l. word-before marked (base + 2 * cell) v (base + 2 * q) (omega arith) ∙ word-put_words-behind 8 m b N.places (base + 2 * q) (omega arith))
        (λ l. word_after marked (base + 2 * cell) v (base + 2 * q) (omega arith) ∙ word-put_words-behind 8 m b N.places (base + 2 * q) (omega arith))

    each : (u k : ℕ) → u < N.transitions → k < width N → count S' u k ≡ word whole (base + 2 * (u * width N + k))
    each u k ul kl =
        by_cases (ℕ_discrete cell (u * width N + k))
        (λ e. let (p, q) = cell-once (width N) t j u k young kl e in
        rw (← p, ← q) (here ∙ sym (word_same marked (base + 2 * cell) v room)))
        (λ off. there u k ul kl (λ p q. off (rw (p, q))) ∙ count_at_lem N b u k ul kl ∙ sym (other (u * width N + k) off))

    pub cell-written : set_word (put_words 8 N.places m b) (8 + 2 * N.places + 2 * (t * width N + j)) v ≡ written N S' b
    unfolding written
    cell-written =
        let g : ℕ → ℕ = λ k. word whole (base + 2 * k) in
        sym
        (ap (put_rows base (width N) N.transitions (count S')) (put_words-cong 8 (tokens S') m b N.places ms)
        ∙ put_rows-flat base (width N) (count S') g marked N.transitions each
        ∙ sym (put_words-over base g marked cells cell v inside)
        ∙ put_words-own base whole cells (bytes-set_word marked (base + 2 * cell) v room fits-v (bytes-put_words 8 m b N.places (omega (arith, fits)) fits-m small)))

-- THE WEIGHTS LEAVE THE MARKING AND THE COUNT GOES UP, OR THEY JOIN IT AND THE COUNT GOES DOWN

-- ws are the weights w, and v is the count; x is the buffer with the markings written, and y with the count written too
module _ (net : List ℕ) (shape : Shape) (b : List ℕ) (f : Framed net shape b) (small : Bytes b) (t : ℕ) (known : t < shape.transitions)
    (age : Age) (young : age.0 < shape.width) (w : ℕ → ℕ) (ws : List ℕ) (are : AreWeights shape.places w ws)
    (v : ℕ) (stands : v ≡ count (stored net b) t age.0) (x y : List ℕ) where
  place_is : count_at shape.places shape.width t (column_of age) ≡ 8 + 2 * (net_of net).places + 2 * (t * width (net_of net) + age.0)
  place_is =
      let h = f.net_framed.has_shape in
      rw (h.places_are, h.width_is) (count-place (net_of net).places (width (net_of net)) t age.0)

  young-model : age.0 < width (net_of net)
  young-model = omega (arith, f.net_framed.has_shape.width_is)

  known-net : t < (net_of net).transitions
  known-net = omega (arith, f.net_framed.has_shape.transitions_are)

  weight : (p : ℕ) → p < (net_of net).places → byte ws (0 + p) ≡ w p
  weight p l = same ws p (0 + p) p (omega arith) ∙ are.1 p (omega (arith, f.net_framed.has_shape.places_are))

  pub raised : Held (v + 1) → x ≡ put_words (mark_at 0) (length ws) (after_taking ws 0 b) b → y ≡ set_word x (count_at shape.places shape.width t (column_of age)) (v + 1)
      → y ≡ written (net_of net) (build (net_of net) (λ p. tokens (stored net b) p - w p) (λ u k. count (stored net b) u k + one t age.0 u k)) b
  raised free ex ey =
      let N = net_of net in
      rw (ey, ex, place_is, are.0, f.net_framed.has_shape.places_are)
      (cell-written N b f.is_state.head.room small t age.0 known-net young-model (after_taking ws 0 b) (v + 1) _
      (λ p l. omega (arith, word_fits b (mark_at p) small)) (omega arith)
      (λ p l. tokens-build N _ _ p l ∙ omega (arith, mark-stands net shape b f p (omega (arith, f.net_framed.has_shape.places_are)), weight p l))
      (count-build N _ _ t age.0 known-net young-model ∙ omega (arith, one-here t age.0, stands))
      (λ u k ul kl off. count-build N _ _ u k ul kl ∙ omega (arith, one-off t age.0 u k off)))

  pub lowered : v < 65536 → is_roomy ws 0 b (length ws) ≡ true → x ≡ put_words (mark_at 0) (length ws) (after_giving ws 0 b) b
      → y ≡ set_word x (count_at shape.places shape.width t (column_of age)) (v - 1)
      → y ≡ written (net_of net) (build (net_of net) (λ p. tokens (stored net b) p + w p) (λ u k. count (stored net b) u k - one t age.0 u k)) b
  lowered fits-v roomy ex ey =
      let N = net_of net in
      rw (ey, ex, place_is, are.0, f.net_framed.has_shape.places_are)
      (cell-written N b f.is_state.head.room small t age.0 known-net young-model (after_giving ws 0 b) (v - 1) _
      (λ p l. omega (arith, roomy-each ws b (length ws) roomy p (omega (arith, are.0, f.net_framed.has_shape.places_are)))) (omega arith)
      (λ p l. tokens-build N _ _ p l ∙ omega (arith, mark-stands net shape b f p (omega (arith, f.net_framed.has_shape.places_are)), weight p l))
      (count-build N _ _ t age.0 known-net young-model ∙ omega (arith, one-here t age.0, stands))
      (λ u k ul kl off. count-build N _ _ u k ul kl ∙ omega (arith, one-off t age.0 u k off)))

-- WHAT THE CODE ASKS, BY THE SHAPE THAT IT HAS IN HAND

module _ (net : List ℕ) (shape : Shape) (b : List ℕ) (f : Framed net shape b) (t : ℕ) where
  pub known-byte : t < shape.transitions → t < byte net 6
  known-byte l = omega (arith, transitions-same net shape f.net_framed)

  pub unknown-test : shape.transitions ≤ t → ltb t (net_of net).transitions ≡ false
  unknown-test l = le-ltb t (net_of net).transitions (omega (arith, f.net_framed.has_shape.transitions_are))

  pub known-test : t < shape.transitions → ltb t (net_of net).transitions ≡ true
  known-test l = lt-ltb t (net_of net).transitions (omega (arith, f.net_framed.has_shape.transitions_are))

  -- what the weights of a transition ask of the state, and a count
  pub weighed : (n : ℕ) → n ≡ shape.places → (n < 256) × (mark_at n ≤ length b)
  weighed n e = (omega (arith, places-small net shape f.net_framed), omega (arith, marks-inside net shape b f))

  pub cell-inside : t < shape.transitions → (age : Age) → age.0 < shape.width → (x : List ℕ) → length x ≡ length b
      → count_at shape.places shape.width t (column_of age) + 1 < length x
  cell-inside l age young x same =
      omega (arith, count-inside net shape b f t (known-byte l) age (column_of age) (count_at shape.places shape.width t (column_of age)) young refl refl)

-- the count that the code found, one more: the test of the code is the model's
pub one_more : {v n : ℕ} {r : Bool} → v ≡ n → is_held (v + 1) ≡ r → is_held (suc n) ≡ r
one_more {v} e h = rw (add-one v, e) at h
