-- The whole image of a state at the front of a buffer: it is accepted as a state and reads as that state.
-- And the image of the initial state, as the code writes it.
-- Assumes nothing.
use Rattle.std.proofs.Common.{Ok, Err}
use mathlib.Core.Path.{◌≡◌, refl, sym, ap, ◌∙◌}
use mathlib.Core.Logic.{◌↔◌}
use mathlib.Core.Bool.{true, false}
use mathlib.Core.List.{List}
use Prim.Native.Nat.{ℕ, ◌+◌, ◌*◌, ◌/◌, ◌%◌, ◌≤◌, ◌<◌}
use native.Mathlib.Nat.{div-add-mod}
use native.Mathlib.Omega.{arith}
use lib.Dec.{leb}
use lib.ListN.{length, set, length-set}
use lib.Seq.{get_or-set_same, get_or-set_other}
use borrow.Author.Tests.{le-leb, lt-leb}
use Rattle.model.specs.declared.net.Net.{Net as Shape}
use Rattle.model.specs.Net.{Net, State, Lawful, Initial, width, tokens, count, initial_state}
use Rattle.model.proofs.Tests.{leb_tells}
use Rattle.model.proofs.Shape.{initial-exact}
use Rattle.forms.specs.declared.fault.Fault.TheVariants as fault
use Rattle.forms.specs.Word.{byte, word, word32, set_word, set_word32, put_words}
use Rattle.forms.specs.Places.{initial_at, state_length, image_length}
use Rattle.forms.specs.Stored.{net_of, state_of}
use Rattle.forms.specs.Written.{written, headed, image, check_room, after_initial}
use Rattle.forms.specs.States.{IsState}
use Rattle.forms.specs.Frame.{HasShape}
use Rattle.forms.proofs.WordLaws.{length-set_word, length-set_word32, byte-other, word_same, word-before, put_words-cong}
use Rattle.forms.proofs.Runs.{put_rows-flat}
use Rattle.forms.proofs.Stored.{count-place}
use Rattle.forms.proofs.Turns.{never, unless-good, fails, fault-by}
use Rattle.forms.proofs.Written.{length-written, written-head, word_counts, read-written}

-- THE HEAD

-- a word of four bytes that was written is read again
word32-same : (s : List ℕ) (i v : ℕ) → i + 3 < length s → word32 (set_word32 s i v) i ≡ v
unfolding word32 set_word32
word32-same s i v h =
    let hi = word-before (set_word s i (v / 65536)) (i + 2) (v % 65536) i (omega arith) ∙ word_same s i (v / 65536) (omega arith) in
    let lo = word_same (set_word s i (v / 65536)) (i + 2) (v % 65536) (rw length-set_word (omega arith)) in
    omega (arith, hi, lo, div-add-mod v 65536)

-- the other bytes stay
other32 : (s : List ℕ) (v k : ℕ) → (1 ≤ k → k ≤ 4 → ⊥) → byte (set_word32 s 1 v) k ≡ byte s k
unfolding set_word32
other32 s v k off =
    byte-other (set_word s 1 (v / 65536)) 3 (v % 65536) k (λ e. off (omega arith) (omega arith)) (λ e. off (omega arith) (omega arith))
    ∙ byte-other s 1 (v / 65536) k (λ e. off (omega arith) (omega arith)) (λ e. off (omega arith) (omega arith))

module _ (P T D : ℕ) (b : List ℕ) (room : 8 ≤ length b) where
  abbrev fields : List ℕ
  fields = set (set (set (set b 0 1) 5 P) 6 T) 7 D

  pub length-headed : length (headed P T D b) ≡ length b
  unfolding headed
  length-headed = length-set_word32 fields 1 (state_length P T D) ∙ simp length-set

  head-version : byte (headed P T D b) 0 ≡ 1
  unfolding headed
  head-version =
      other32 fields (state_length P T D) 0 (λ h l. omega arith)
      ∙ get_or-set_other (set (set (set b 0 1) 5 P) 6 T) 7 0 D 0 (λ e. omega arith)
      ∙ get_or-set_other (set (set b 0 1) 5 P) 6 0 T 0 (λ e. omega arith)
      ∙ get_or-set_other (set b 0 1) 5 0 P 0 (λ e. omega arith)
      ∙ get_or-set_same b 0 1 0 (omega arith)

  head-length : word32 (headed P T D b) 1 ≡ state_length P T D
  unfolding headed
  head-length = word32-same fields 1 (state_length P T D) (simp length-set (omega arith))

  head-places : byte (headed P T D b) 5 ≡ P
  unfolding headed
  head-places =
      other32 fields (state_length P T D) 5 (λ h l. omega arith)
      ∙ get_or-set_other (set (set (set b 0 1) 5 P) 6 T) 7 5 D 0 (λ e. omega arith)
      ∙ get_or-set_other (set (set b 0 1) 5 P) 6 5 T 0 (λ e. omega arith)
      ∙ get_or-set_same (set b 0 1) 5 P 0 (simp length-set (omega arith))

  head-transitions : byte (headed P T D b) 6 ≡ T
  unfolding headed
  head-transitions =
      other32 fields (state_length P T D) 6 (λ h l. omega arith)
      ∙ get_or-set_other (set (set (set b 0 1) 5 P) 6 T) 7 6 D 0 (λ e. omega arith)
      ∙ get_or-set_same (set (set b 0 1) 5 P) 6 T 0 (simp length-set (omega arith))

  head-width : byte (headed P T D b) 7 ≡ D
  unfolding headed
  head-width =
      other32 fields (state_length P T D) 7 (λ h l. omega arith)
      ∙ get_or-set_same (set (set (set b 0 1) 5 P) 6 T) 7 D 0 (simp length-set (omega arith))

-- two lists that agree on the head agree on the length that stands there
pub head-word : (x y : List ℕ) → ((i : ℕ) → i < 8 → byte x i ≡ byte y i) → word32 x 1 ≡ word32 y 1
unfolding word32 word
head-word x y same =
    omega (arith, same 1 (omega arith), same 2 (omega arith), same 3 (omega arith), same 4 (omega arith))

-- THE IMAGE

module _ (N : Net) (S : State) (b : List ℕ) (room : image_length N ≤ length b) where
  abbrev front : List ℕ
  front = headed N.places N.transitions (width N) b

  eight : 8 ≤ length b
  unfolding state_length
  eight = omega arith

  long : image_length N ≤ length front
  long = rw (length-headed N.places N.transitions (width N) b eight) room

  pub length-image : length (image N S b) ≡ length b
  unfolding image
  length-image = length-written N S front ∙ length-headed N.places N.transitions (width N) b eight

  -- it reads as the state
  pub image-reads : Lawful N S → state_of N (image N S b) ≡ S
  unfolding image
  image-reads s = read-written N S front long s.shaped

  -- and is accepted as one
  pub image-accepted : Lawful N S → IsState N (image N S b)
  unfolding image
  image-accepted s =
      let P = N.places in
      let T = N.transitions in
      let D = width N in
      record {
        head = record {
          least = rw length-written (rw (length-headed P T D b eight) eight);
          begins = record {
            version_is = written-head N S front 0 (omega arith) ∙ head-version P T D b eight;
            length_is = head-word (written N S front) front (written-head N S front) ∙ head-length P T D b eight;
          };
          places_are = written-head N S front 5 (omega arith) ∙ head-places P T D b eight;
          transitions_are = written-head N S front 6 (omega arith) ∙ head-transitions P T D b eight;
          width_is = written-head N S front 7 (omega arith) ∙ head-width P T D b eight;
          room = rw length-written long;
        };
        none_past = λ t l j k h.
            ap (word (written N S front)) (count-place P D t j) ∙ word_counts N S front long t j l k ∙ s.none_past_lfd t j l k h;
      }

-- THE INITIAL STATE, AS THE CODE WRITES IT

marking-of : (net : List ℕ) (p : ℕ) → (net_of net).initial_marking p ≡ word net (initial_at p)
unfolding net_of
marking-of net p = refl

module _ (net : List ℕ) (shape : Shape) (h : HasShape (net_of net) shape) (b : List ℕ) where
  abbrev written-so : ℕ → ℕ → ℕ → List ℕ
  written-so P T D = put_words (8 + 2 * P) (T * D) (λ i. 0) (put_words 8 P (λ p. word net (initial_at p)) (headed P T D b))

  -- head, marking and zeros are the image of the initial state
  pub initial_is : written-so shape.places shape.transitions shape.width ≡ image (net_of net) (initial_state (net_of net)) b
  unfolding image written
  initial_is =
      let N = net_of net in
      let S = initial_state N in
      let head = headed N.places N.transitions (width N) b in
      ap (λ (P : ℕ). written-so P shape.transitions shape.width) h.places_are
      ∙ ap (λ (T : ℕ). written-so N.places T shape.width) h.transitions_are
      ∙ ap (λ (D : ℕ). written-so N.places N.transitions D) h.width_is
      ∙ ap (put_words (8 + 2 * N.places) (N.transitions * width N) (λ i. 0))
      (put_words-cong 8 (λ p. word net (initial_at p)) (tokens S) head N.places marks)
      ∙ sym (put_rows-flat (8 + 2 * N.places) (width N) (count S) (λ i. 0) (put_words 8 N.places (tokens S) head) N.transitions idle)
    where
      first : Initial (net_of net) (initial_state (net_of net))
      first = (initial-exact (net_of net) (initial_state (net_of net))).0 refl

      marks : (p : ℕ) → p < (net_of net).places → word net (initial_at p) ≡ tokens (initial_state (net_of net)) p
      marks p l = sym (first.marked p l ∙ marking-of net p)

      idle : (t j : ℕ) → t < (net_of net).transitions → j < width (net_of net) → count (initial_state (net_of net)) t j ≡ 0
      idle t j l k = first.idle t j l k

  pub length-same : state_length shape.places shape.transitions shape.width ≡ image_length (net_of net)
  length-same = rw (h.places_are, h.transitions_are, h.width_is)

  -- where there is no room, and where there is
  pub no_room : length b < state_length shape.places shape.transitions shape.width
      → (Err fault.NoRoom ≡ check_room (net_of net) b) × (b ≡ after_initial (net_of net) b)
  unfolding check_room after_initial
  no_room l =
      let short : leb (image_length (net_of net)) (length b) ≡ false = lt-leb (image_length (net_of net)) (length b) (rw length-same at l) in
      (rw short, rw short)

  pub room : state_length shape.places shape.transitions shape.width ≤ length b → (after : List ℕ)
      → after ≡ written-so shape.places shape.transitions shape.width
      → (Ok tt ≡ check_room (net_of net) b) × (after ≡ after_initial (net_of net) b)
  unfolding check_room after_initial
  room l after e =
      let long : leb (image_length (net_of net)) (length b) ≡ true = le-leb (image_length (net_of net)) (length b) (rw length-same at l) in
      (rw long, rw long (e ∙ initial_is))

-- 7 is told exactly where the buffer is too short, and then no byte is written
pub room-exact : (N : Net) (b : List ℕ) → (check_room N b ≡ Ok tt) ↔ (image_length N ≤ length b)
unfolding check_room
room-exact N b =
    let passes = unless-good {B = Unit {0}} fault.NoRoom (leb_tells (image_length N) (length b)) ((λ _. tt), λ _. refl) in
    ((λ e. (passes.0 e).0), λ h. passes.1 (h, tt))

pub room-faulty : (N : Net) (b : List ℕ) → (check_room N b ≡ Err fault.NoRoom) ↔ (length b < image_length N)
unfolding check_room
room-faulty N b = (
  fault-by fault.NoRoom _ (leb_tells (image_length N) (length b)) (λ f _. short (image_length N) (length b) f) (λ _. never),
  λ h. fails fault.NoRoom _ (leb_tells (image_length N) (length b)) (λ l. omega arith),
)
  where
    short : (m n : ℕ) → ¬ (m ≤ n) → n < m
    short m n f = omega arith
