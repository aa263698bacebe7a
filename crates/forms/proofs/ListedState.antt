-- The state that the code writes is document 01's list of bytes, with what stood behind it.
-- Assumes nothing.
use mathlib.Core.Path.{◌≡◌, refl, sym, ap, ◌∙◌}
use mathlib.Core.List.{List, [], ◌∷◌, ◌++◌, append_assoc, append-nil}
use Prim.Native.Nat.{ℕ, ◌+◌, ◌*◌, ◌/◌, ◌%◌, ◌≤◌}
use native.Mathlib.Omega.{arith}
use lib.ListN.{length, get_or, take, drop, replicate, length-append, length-replicate, drop_of_length-le}
use lib.Seq.{drop-cons, drop-drop, drop-append-add, length-take-le}
use Rattle.model.specs.Net.{Net, State, Lawful, width, tokens, count}
use Rattle.forms.specs.Word.{Bytes, byte, word, word32, set_word, set_word32, put_words}
use Rattle.forms.specs.Begins.{version}
use Rattle.forms.specs.Places.{state_length, image_length}
use Rattle.forms.specs.Stored.{state_of}
use Rattle.forms.specs.Written.{written, headed, image}
use Rattle.forms.specs.States.{HasHead, IsState}
use Rattle.forms.specs.Listed.{two, four, join, state_bytes}
use Rattle.forms.proofs.WordLaws.{length-put_words}
use Rattle.forms.proofs.ListedNet.{length-join}
use Rattle.forms.proofs.Pieces.{put_words-pieces, put_rows-pieces, take-two, drop-two}
use Rattle.forms.proofs.Image.{length-headed, length-image, image-accepted, image-reads}

-- THE HEAD

abbrev head : ℕ → ℕ → ℕ → List ℕ
head P T D = version ∷ four (state_length P T D) ++ (P ∷ T ∷ D ∷ [])

-- a list of at least 8 elements begins with 8
eight-first : (b : List ℕ) → 8 ≤ length b
    → b ≡ get_or b 0 0 ∷ get_or b 1 0 ∷ get_or b 2 0 ∷ get_or b 3 0 ∷ get_or b 4 0 ∷ get_or b 5 0 ∷ get_or b 6 0 ∷ get_or b 7 0 ∷ drop 8 b
eight-first b h =
    drop-cons b 0 0 (omega arith)
    ∙ ap (λ (l : List ℕ). get_or b 0 0 ∷ l) (drop-cons b 1 0 (omega arith)
    ∙ ap (λ (l : List ℕ). get_or b 1 0 ∷ l) (drop-cons b 2 0 (omega arith)
    ∙ ap (λ (l : List ℕ). get_or b 2 0 ∷ l) (drop-cons b 3 0 (omega arith)
    ∙ ap (λ (l : List ℕ). get_or b 3 0 ∷ l) (drop-cons b 4 0 (omega arith)
    ∙ ap (λ (l : List ℕ). get_or b 4 0 ∷ l) (drop-cons b 5 0 (omega arith)
    ∙ ap (λ (l : List ℕ). get_or b 5 0 ∷ l) (drop-cons b 6 0 (omega arith)
    ∙ ap (λ (l : List ℕ). get_or b 6 0 ∷ l) (drop-cons b 7 0 (omega arith))))))))

headed-eight : (P T D a₀ a₁ a₂ a₃ a₄ a₅ a₆ a₇ : ℕ) (rest : List ℕ)
    → headed P T D (a₀ ∷ a₁ ∷ a₂ ∷ a₃ ∷ a₄ ∷ a₅ ∷ a₆ ∷ a₇ ∷ rest) ≡ head P T D ++ rest
unfolding headed set_word32 set_word
headed-eight P T D a₀ a₁ a₂ a₃ a₄ a₅ a₆ a₇ rest = refl

headed-is : (P T D : ℕ) (b : List ℕ) → 8 ≤ length b → headed P T D b ≡ head P T D ++ drop 8 b
headed-is P T D b h =
    ap (headed P T D) (eight-first b h)
    ∙ headed-eight P T D (get_or b 0 0) (get_or b 1 0) (get_or b 2 0) (get_or b 3 0) (get_or b 4 0) (get_or b 5 0) (get_or b 6 0) (get_or b 7 0) (drop 8 b)

-- what stands behind the first 8 bytes does not depend on them
behind-eight : (H b : List ℕ) (L m : ℕ) → length H ≡ 8 → L ≡ 8 + m → drop L (H ++ drop 8 b) ≡ drop L b
behind-eight H b L m h e =
    rw e (ap (λ (k : ℕ). drop (k + m) (H ++ drop 8 b)) (sym h) ∙ drop-append-add H (drop 8 b) m ∙ drop-drop m 8 b)

-- a head that is as it must be
head-kept : (P T D : ℕ) (b : List ℕ) → HasHead P T D b → Bytes b → take 8 b ≡ head P T D
unfolding word32 word
head-kept P T D b h small =
    let long = h.begins.length_is in
    let L = state_length P T D in
    let a₁ : byte b 1 ≡ L / 65536 / 256 = omega (arith, small 1, small 2, small 3, small 4) in
    let a₂ : byte b 2 ≡ L / 65536 % 256 = omega (arith, small 1, small 2, small 3, small 4) in
    let a₃ : byte b 3 ≡ L % 65536 / 256 = omega (arith, small 1, small 2, small 3, small 4) in
    let a₄ : byte b 4 ≡ L % 65536 % 256 = omega (arith, small 1, small 2, small 3, small 4) in
    ap (take 8) (eight-first b h.least)
    ∙ (λ i. h.begins.version_is i ∷ a₁ i ∷ a₂ i ∷ a₃ i ∷ a₄ i ∷ h.places_are i ∷ h.transitions_are i ∷ h.width_is i ∷ [])

-- THE IMAGE

module _ (N : Net) (S : State) where
  abbrev marks : List ℕ
  marks = join N.places (λ p. two (tokens S p))

  abbrev rows : List ℕ
  rows = join N.transitions (λ t. join (width N) (λ j. two (count S t j)))

  length-marks : length marks ≡ 2 * N.places
  length-marks = length-join 2 N.places (λ p. two (tokens S p)) (λ i h. refl) ∙ omega arith

  -- a state written over a buffer: the 8 bytes of its head, the state, what stood behind
  pub written_is : (b : List ℕ) → image_length N ≤ length b → written N S b ≡ take 8 b ++ (marks ++ (rows ++ drop (image_length N) b))
  unfolding written state_length
  written_is b room =
      let k = 8 + 2 * N.places in
      let m = 2 * (N.transitions * width N) in
      let inner = put_words 8 N.places (tokens S) b in
      let pieces : inner ≡ take 8 b ++ (marks ++ drop k b) = put_words-pieces 8 (tokens S) b N.places (omega arith) in
      let long : length (take 8 b ++ marks) ≡ k =
      length-append (take 8 b) marks ∙ omega (arith, length-take-le 8 b (omega arith), length-marks) in
      put_rows-pieces k (width N) (count S) inner N.transitions (rw length-put_words (omega arith))
      ∙ ap (λ (l : List ℕ). take k l ++ (rows ++ drop (k + m) l)) pieces
      ∙ ap (λ (l : List ℕ). l ++ (rows ++ drop (k + m) (take 8 b ++ (marks ++ drop k b)))) (take-two (take 8 b) marks (drop k b) k long)
      ∙ ap (λ (l : List ℕ). (take 8 b ++ marks) ++ (rows ++ l)) (drop-two (take 8 b) marks (drop k b) k m long ∙ drop-drop m k b)
      ∙ append_assoc (take 8 b) marks (rows ++ drop (k + m) b)

  long-is : image_length N ≡ 8 + (2 * N.places + 2 * (N.transitions * width N))
  unfolding state_length
  long-is = omega arith

  eight-inside : (b : List ℕ) → image_length N ≤ length b → 8 ≤ length b
  unfolding state_length
  eight-inside b h = omega arith

  -- behind the image stands what stood there
  behind-head : (b : List ℕ) → drop (image_length N) (head N.places N.transitions (width N) ++ drop 8 b) ≡ drop (image_length N) b
  behind-head b =
      behind-eight (head N.places N.transitions (width N)) b (image_length N) (2 * N.places + 2 * (N.transitions * width N)) refl long-is

  -- the whole image is document 01's list of bytes
  pub image-listed : (b : List ℕ) → image_length N ≤ length b → image N S b ≡ state_bytes N S ++ drop (image_length N) b
  unfolding image state_bytes
  image-listed b room =
      let P = N.places in
      let T = N.transitions in
      let D = width N in
      let front = headed P T D b in
      let rest = drop (image_length N) b in
      let eight : 8 ≤ length b = eight-inside b room in
      let cut : front ≡ head P T D ++ drop 8 b = headed-is P T D b eight in
      written_is front (rw (length-headed P T D b eight) room)
      ∙ ap (λ (l : List ℕ). take 8 l ++ (marks ++ (rows ++ drop (image_length N) l))) cut
      ∙ ap (λ (l : List ℕ). head P T D ++ (marks ++ (rows ++ l))) (behind-head b)
      ∙ ap (λ (l : List ℕ). head P T D ++ l) (sym (append_assoc marks rows rest))
      ∙ sym (append_assoc (head P T D) (marks ++ rows) rest)

  -- and so is a state written over another
  pub written_listed : (b : List ℕ) → IsState N b → Bytes b → written N S b ≡ state_bytes N S ++ drop (image_length N) b
  unfolding state_bytes
  written_listed b i small =
      let rest = drop (image_length N) b in
      written_is b i.head.room
      ∙ ap (λ (l : List ℕ). l ++ (marks ++ (rows ++ rest))) (head-kept N.places N.transitions (width N) b i.head small)
      ∙ ap (λ (l : List ℕ). head N.places N.transitions (width N) ++ l) (sym (append_assoc marks rows rest))
      ∙ sym (append_assoc (head N.places N.transitions (width N)) (marks ++ rows) rest)

  -- the bytes of a state are its image over a buffer of just that length, and so are accepted and read as the state
  abbrev blank : List ℕ
  blank = replicate {A = ℕ} (image_length N) 0

  long-enough : image_length N ≤ length blank
  long-enough = omega (arith, length-replicate {A = ℕ} (image_length N) 0)

  listed-image : state_bytes N S ≡ image N S blank
  listed-image =
      sym (image-listed blank long-enough
      ∙ ap (λ (l : List ℕ). state_bytes N S ++ l) (drop_of_length-le blank {i = image_length N} (omega (arith, length-replicate {A = ℕ} (image_length N) 0)))
      ∙ append-nil (state_bytes N S))

  pub length-state_bytes : length (state_bytes N S) ≡ image_length N
  length-state_bytes = ap length listed-image ∙ length-image N S blank long-enough ∙ length-replicate {A = ℕ} (image_length N) 0

  pub state-listed-good : Lawful N S → IsState N (state_bytes N S)
  state-listed-good s = rw listed-image (image-accepted N S blank long-enough s)

  pub state-listed : Lawful N S → state_of N (state_bytes N S) ≡ S
  state-listed s = rw listed-image (image-reads N S blank long-enough s)
