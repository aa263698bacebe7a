-- Every accepted net is made of the bytes that document 01 lists: no byte of it goes unread.
-- Assumes nothing.
use mathlib.Core.Path.{◌≡◌, refl, sym, ap, ◌∙◌}
use mathlib.Core.List.{List, ◌++◌}
use Prim.Native.Nat.{ℕ, zero, suc, ◌+◌, ◌-◌, ◌*◌, ◌/◌, ◌%◌, ◌<◌}
use native.Mathlib.Nat.{mul-le-mul_right, div-add-mod, mod-lt}
use native.Mathlib.Omega.{arith}
use lib.ListN.{length}
use lib.Seq.{ext_get_or}
use Rattle.model.specs.Tab.{tab}
use Rattle.model.proofs.Tab.{below-or-past, length-tab, get_or-tab}
use Rattle.forms.specs.Word.{Bytes, byte, word}
use Rattle.forms.specs.Places.{initial_at, row_at, row_length, net_length}
use Rattle.forms.specs.Stored.{net_of}
use Rattle.forms.specs.Nets.{IsNet}
use Rattle.forms.specs.Listed.{two, row_bytes, net_bytes}
use Rattle.forms.proofs.ListedNet.{before, behind, length-net_bytes, net-head, head_byte, marking-byte, row-byte}
use Rattle.forms.proofs.ListedLog.{four_bytes}

module _ (b : List ℕ) (small : Bytes b) (n : IsNet b) where
  abbrev P : ℕ
  P = byte b 5

  abbrev T : ℕ
  T = byte b 6

  -- the bytes of the length
  abbrev length-field : (byte b 1 ≡ net_length P T / 65536 / 256) × (byte b 2 ≡ net_length P T / 65536 % 256)
      × (byte b 3 ≡ net_length P T % 65536 / 256) × (byte b 4 ≡ net_length P T % 65536 % 256)
  length-field = four_bytes b (net_length P T) small (n.head.begins.length_is ∙ n.long)

  -- the two bytes of a marking are those of the word that they make
  mark : (p j : ℕ) → j < 2 → byte b (initial_at p + j) ≡ byte (two (word b (initial_at p))) j
  unfolding word
  mark p zero h = let e : initial_at p + 0 ≡ initial_at p = omega arith in rw e (omega (arith, small (initial_at p + 1)))
  mark p (suc zero) h = omega (arith, small (initial_at p + 1))
  mark p (suc (suc j)) h = absurd (omega arith)

  -- each byte of the head
  head : (i : ℕ) → i < 7 → byte b i ≡ byte (net-head (net_of b)) i
  unfolding net_of
  head zero h = n.head.begins.version_is
  head (suc zero) h = length-field.0
  head (suc (suc zero)) h = length-field.1
  head (suc (suc (suc zero))) h = length-field.2
  head (suc (suc (suc (suc zero)))) h = length-field.3
  head (suc (suc (suc (suc (suc zero))))) h = refl
  head (suc (suc (suc (suc (suc (suc zero)))))) h = refl
  head (suc (suc (suc (suc (suc (suc (suc i))))))) h = absurd (omega arith)

  -- each byte of a row
  row : (t j : ℕ) → j < row_length P → byte b (row_at P t + j) ≡ byte (row_bytes (net_of b) t) j
  unfolding net_of
  row t zero h = let e : row_at P t + 0 ≡ row_at P t = omega arith in rw e
  row t (suc zero) h = refl
  row t (suc (suc j)) h =
      below-or-past j P
      (λ l. let e : row_at P t + suc (suc j) ≡ row_at P t + 2 + j = omega arith in
      rw e (sym (before P takes gives j (length-tab P _) l ∙ get_or-tab P _ j 0 l)))
      (λ l. let q = j - P in
      let e : row_at P t + suc (suc j) ≡ row_at P t + 2 + P + q = omega arith in
      let at : P + q ≡ j = omega arith in
      rw e (sym (ap (byte (takes ++ gives)) (sym at) ∙ behind P takes gives q (length-tab P _) ∙ get_or-tab P _ q 0 (omega arith))))
    where
      takes : List ℕ
      takes = tab P ((net_of b).takes t)

      gives : List ℕ
      gives = tab P ((net_of b).gives t)

  each : (i : ℕ) → i < length b → byte b i ≡ byte (net_bytes (net_of b)) i
  unfolding net_of row_at
  each i h =
      below-or-past i 7 (λ l. head i l ∙ sym (head_byte (net_of b) i l)) (λ l.
      below-or-past i (7 + 2 * P)
      (λ m. let p = (i - 7) / 2 in
      let j = (i - 7) % 2 in
      let at : initial_at p + j ≡ i = omega arith in
      let there : 7 + (p * 2 + j) ≡ i = omega arith in
      rw at at (mark p j (omega arith)) ∙ sym (rw there at (marking-byte (net_of b) p j (omega arith) (omega arith))))
      (λ m. let k = i - (7 + 2 * P) in
      let R = row_length P in
      let t = k / R in
      let j = k % R in
      let short : j < R = mod-lt k (omega arith) in
      let whole = div-add-mod k R in
      let at : 7 + 2 * P + t * R + j ≡ i = omega arith in
      let known : t < T = below-or-past t T (λ x. x) (λ past. absurd (omega (arith, mul-le-mul_right R past, n.long))) in
      rw at at (row t j short) ∙ sym (rw at at (row-byte (net_of b) t j known short))))

  -- an accepted net is made of the bytes of the net that is read there
  pub net-is-listed : b ≡ net_bytes (net_of b)
  unfolding net_of
  net-is-listed = ext_get_or 0 b (net_bytes (net_of b)) (n.long ∙ sym (length-net_bytes (net_of b))) each
