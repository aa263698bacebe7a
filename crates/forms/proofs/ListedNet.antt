-- The places of a net are those of document 01's list: the bytes of a net are read as that net, and accepted.
-- Assumes nothing.
use mathlib.Core.Path.{◌≡◌, refl, sym, ap, ◌∙◌}
use mathlib.Core.List.{List, [], ◌∷◌, ◌++◌}
use Prim.Native.Nat.{ℕ, zero, suc, ◌+◌, ◌*◌, ◌/◌, ◌%◌, ◌≤◌, ◌<◌}
use native.Mathlib.Nat.{div-add-mod, not-suc-le-zero}
use native.Mathlib.Omega.{arith}
use lib.ListN.{length, get_or, length-append, get_or-append}
use lib.Seq.{get_or-append-add}
use Rattle.model.specs.Tab.{tab}
use Rattle.model.specs.Net.{Net, Accepted}
use Rattle.model.proofs.Tab.{length-tab, get_or-tab}
use Rattle.forms.specs.Word.{byte, word, word32}
use Rattle.forms.specs.Begins.{version}
use Rattle.forms.specs.Places.{row_at, row_length, net_length}
use Rattle.forms.specs.Stored.{net_of}
use Rattle.forms.specs.Nets.{IsNet, RowGood}
use Rattle.forms.specs.Listed.{SameNet, two, four, join, row_bytes, net_bytes}

-- PARTS ONE BEHIND THE OTHER

module _ (k : ℕ) where
  pub length-join : (n : ℕ) (f : ℕ → List ℕ) → ((i : ℕ) → i < n → length (f i) ≡ k) → length (join n f) ≡ n * k
  unfolding join
  length-join zero f each = omega arith
  length-join (suc n) f each =
      length-append (f 0) (join n (λ i. f (suc i)))
      ∙ omega (arith, each 0 (omega arith), length-join n (λ i. f (suc i)) (λ i h. each (suc i) (omega arith)))

  -- element j of part i
  pub get_or-join : (n : ℕ) (f : ℕ → List ℕ) → ((i : ℕ) → i < n → length (f i) ≡ k) → (i j : ℕ) → i < n → j < k
      → get_or (join n f) (i * k + j) 0 ≡ get_or (f i) j 0
  unfolding join
  get_or-join zero f each i j h l = absurd (not-suc-le-zero h)
  get_or-join (suc n) f each zero j h l =
      let e : 0 * k + j ≡ j = omega arith in
      rw e (get_or-append (f 0) (join n (λ i. f (suc i))) 0 j (omega (arith, each 0 (omega arith))))
  get_or-join (suc n) f each (suc i) j h l =
      let rest = join n (λ m. f (suc m)) in
      let e : suc i * k + j ≡ length (f 0) + (i * k + j) = omega (arith, each 0 (omega arith)) in
      rw e (get_or-append-add (f 0) rest (i * k + j) 0 ∙ get_or-join n (λ m. f (suc m)) (λ m g. each (suc m) (omega arith)) i j (omega arith) l)

-- a byte behind a part that is m bytes long
pub behind : (m : ℕ) (xs ys : List ℕ) (n : ℕ) → length xs ≡ m → byte (xs ++ ys) (m + n) ≡ byte ys n
behind m xs ys n e = rw (← e) (get_or-append-add xs ys n 0)

pub before : (m : ℕ) (xs ys : List ℕ) (n : ℕ) → length xs ≡ m → n < m → byte (xs ++ ys) n ≡ byte xs n
before m xs ys n e h = get_or-append xs ys 0 n (omega arith)

-- a number in two bytes is read again
pub two-word : (b : List ℕ) (i v : ℕ) → byte b i ≡ v / 256 → byte b (i + 1) ≡ v % 256 → word b i ≡ v
unfolding word
two-word b i v p q = omega (arith, div-add-mod v 256)

-- a number in four bytes is read again
pub four-word : (b : List ℕ) (i v : ℕ) → word b i ≡ v / 65536 → word b (i + 2) ≡ v % 65536 → word32 b i ≡ v
unfolding word32
four-word b i v p q = omega (arith, div-add-mod v 65536)

-- A NET

module _ (N : Net) where
  abbrev P : ℕ
  P = N.places

  abbrev T : ℕ
  T = N.transitions

  abbrev pub net-head : List ℕ
  net-head = version ∷ four (net_length P T) ++ (P ∷ T ∷ [])

  abbrev markings : List ℕ
  markings = join P (λ p. two (N.initial_marking p))

  abbrev rows : List ℕ
  rows = join T (row_bytes N)

  length-row : (t : ℕ) → t < T → length (row_bytes N t) ≡ row_length P
  length-row t h = omega (arith, length-append (tab P (N.takes t)) (tab P (N.gives t)), length-tab P (N.takes t), length-tab P (N.gives t))

  length-markings : length markings ≡ 2 * P
  length-markings = length-join 2 P (λ p. two (N.initial_marking p)) (λ i h. refl) ∙ omega arith

  pub length-net_bytes : length (net_bytes N) ≡ net_length P T
  unfolding net_bytes row_at
  length-net_bytes =
      omega (
        arith,
        length-append net-head (markings ++ rows),
        length-append markings rows,
        length-markings,
        length-join (row_length P) T (row_bytes N) length-row,
      )

  pub marking-byte : (p j : ℕ) → p < P → j < 2 → byte (net_bytes N) (7 + (p * 2 + j)) ≡ byte (two (N.initial_marking p)) j
  unfolding net_bytes
  marking-byte p j h l =
      behind 7 net-head (markings ++ rows) (p * 2 + j) refl
      ∙ before (2 * P) markings rows (p * 2 + j) length-markings (omega arith)
      ∙ get_or-join 2 P (λ k. two (N.initial_marking k)) (λ i g. refl) p j h l

  pub row-byte : (t j : ℕ) → t < T → j < row_length P → byte (net_bytes N) (row_at P t + j) ≡ byte (row_bytes N t) j
  unfolding net_bytes row_at
  row-byte t j h l =
      let e : 7 + 2 * P + t * row_length P + j ≡ 7 + (2 * P + (t * row_length P + j)) = omega arith in
      ap (byte (net-head ++ (markings ++ rows))) e
      ∙ behind 7 net-head (markings ++ rows) (2 * P + (t * row_length P + j)) refl
      ∙ behind (2 * P) markings rows (t * row_length P + j) length-markings
      ∙ get_or-join (row_length P) T (row_bytes N) length-row t j h l

  -- a byte of the head
  pub head_byte : (i : ℕ) → i < 7 → byte (net_bytes N) i ≡ byte net-head i
  unfolding net_bytes
  head_byte i h = before 7 net-head (markings ++ rows) i refl h

  places-read : byte (net_bytes N) 5 ≡ P
  unfolding net_bytes
  places-read = refl

  transitions-read : byte (net_bytes N) 6 ≡ T
  unfolding net_bytes
  transitions-read = refl

  version-read : byte (net_bytes N) 0 ≡ 1
  unfolding net_bytes
  version-read = refl

  length-read : word32 (net_bytes N) 1 ≡ net_length P T
  unfolding net_bytes
  length-read =
      let L = net_length P T in
      let b = net-head ++ (markings ++ rows) in
      four-word b 1 L (two-word b 1 (L / 65536) refl refl) (two-word b 3 (L % 65536) refl refl)

  marking-read : (p : ℕ) → p < P → (net_of (net_bytes N)).initial_marking p ≡ N.initial_marking p
  unfolding net_of
  marking-read p h =
      let hi : 7 + (p * 2 + 0) ≡ 7 + 2 * p = omega arith in
      let lo : 7 + (p * 2 + 1) ≡ 7 + 2 * p + 1 = omega arith in
      two-word (net_bytes N) (7 + 2 * p) (N.initial_marking p)
      (rw hi at (marking-byte p 0 h (omega arith))) (rw lo at (marking-byte p 1 h (omega arith)))

  sfd-read : (t : ℕ) → t < T → (net_of (net_bytes N)).sfd t ≡ N.sfd t
  unfolding net_of
  sfd-read t h = let e : row_at P t + 0 ≡ row_at P t = omega arith in rw (places-read) (rw e at (row-byte t 0 h (omega arith)))

  lfd-read : (t : ℕ) → t < T → (net_of (net_bytes N)).lfd t ≡ N.lfd t
  unfolding net_of
  lfd-read t h = rw (places-read) (row-byte t 1 h (omega arith))

  takes-read : (t p : ℕ) → t < T → p < P → (net_of (net_bytes N)).takes t p ≡ N.takes t p
  unfolding net_of
  takes-read t p h l =
      let e : row_at P t + suc (suc p) ≡ row_at P t + 2 + p = omega arith in
      rw (places-read)
      (rw e at (row-byte t (suc (suc p)) h (omega arith))
      ∙ before P (tab P (N.takes t)) (tab P (N.gives t)) p (length-tab P (N.takes t)) l ∙ get_or-tab P (N.takes t) p 0 l)

  gives-read : (t p : ℕ) → t < T → p < P → (net_of (net_bytes N)).gives t p ≡ N.gives t p
  unfolding net_of
  gives-read t p h l =
      let e : row_at P t + suc (suc (P + p)) ≡ row_at P t + 2 + P + p = omega arith in
      rw (places-read)
      (rw e at (row-byte t (suc (suc (P + p))) h (omega arith))
      ∙ behind P (tab P (N.takes t)) (tab P (N.gives t)) p (length-tab P (N.takes t)) ∙ get_or-tab P (N.gives t) p 0 l)

  -- the bytes of a net are read as that net
  pub net-listed : SameNet N (net_of (net_bytes N))
  unfolding net_of
  net-listed = record {
    places = places-read;
    transitions = transitions-read;
    initial_marking = marking-read;
    sfd = sfd-read;
    lfd = lfd-read;
    takes = takes-read;
    gives = gives-read;
  }

  seven : 7 ≤ net_length P T
  unfolding row_at
  seven = omega arith

  -- and are accepted, where the net is one that document 01 accepts
  pub net-listed-good : Accepted N → IsNet (net_bytes N)
  net-listed-good a = record {
    head = record {
      least = rw length-net_bytes seven;
      begins = record { version_is = version-read; length_is = length-read ∙ sym length-net_bytes };
    };
    sized = rw (places-read, transitions-read) a.sized;
    long = length-net_bytes ∙ rw (places-read, transitions-read);
    rows = λ t h. good t (rw transitions-read at h);
  }
    where
      good : (t : ℕ) → t < T → RowGood (net_of (net_bytes N)) t
      good t h =
          let (p, l, w) = a.proper.preset t h in
          let (q, m, v) = a.proper.postset t h in
          record {
            interval = rw (sfd-read t h, lfd-read t h) (a.proper.interval t h, a.short t h);
            preset = (p, rw net-listed.places l, rw (takes-read t p h l) w);
            postset = (q, rw net-listed.places m, rw (gives-read t q h m) v);
          }
