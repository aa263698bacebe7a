-- Each public function's promise determines its answer and every byte of the buffer that is lent to it.
-- Assumes nothing.
use mathlib.Core.Path.{◌≡◌, refl, sym, ap, ◌∙◌}
use mathlib.Core.List.{List, [], ◌∷◌}
use Prim.Native.Nat.{ℕ, ◌+◌}
use lib.ListN.{length, set}
use lib.Seq.{paste}
use Rattle.model.proofs.Determined.{Determined, LeavesOne}
use Rattle.io.specs.Digits.{last_digits}
use Rattle.text.specs.Lines.{space, line_end, Spelt, Fields, all_buffered, behind_buffers, Line}
use Rattle.text.specs.Lines.Fields.{none, more}
use Rattle.text.proofs.Figures.{fewest-once}
use Rattle.text.proofs.line.put_byte.Reads as put_byte
use Rattle.text.proofs.line.put_byte.Kinds as put-byte-kinds
use Rattle.text.proofs.line.put_bytes.Reads as put-bytes
use Rattle.text.proofs.line.put_bytes.Kinds as put-bytes-kinds
use Rattle.text.proofs.line.put_decimal.Reads as put-decimal
use Rattle.text.proofs.line.put_decimal.Kinds as put-decimal-kinds
use Rattle.text.proofs.line.put_field.Reads as put-field
use Rattle.text.proofs.line.put_field.Kinds as put-field-kinds
use Rattle.text.proofs.line.put_fields.Reads as put-fields
use Rattle.text.proofs.line.put_fields.Kinds as put-fields-kinds
use Rattle.text.proofs.line.put_hex.Reads as put-hex
use Rattle.text.proofs.line.put_hex.Kinds as put-hex-kinds
use Rattle.text.proofs.line.put_buffer.Reads as put-buffer
use Rattle.text.proofs.line.put_buffer.Kinds as put-buffer-kinds
use Rattle.text.proofs.line.put_line.Reads as put-line
use Rattle.text.proofs.line.put_line.Kinds as put-line-kinds
use Rattle.text.proofs.line.put_line_with.Reads as put-line-with
use Rattle.text.proofs.line.put_line_with.Kinds as put-line-with-kinds

-- a number is spelt in one way
module _ (before : List ℕ) (at n : ℕ) (after after' : List ℕ) (end end' : ℕ) (a : Spelt before at n after end) (b : Spelt before at n after' end') where
  same : a.places ≡ b.places
  same = fewest-once n a.places b.places a.fewest b.fewest

  pub spelt-ends : end ≡ end'
  spelt-ends = a.ends ∙ ap (λ (k : ℕ). at + k) same ∙ sym b.ends

  pub spelt-stands : after ≡ after'
  spelt-stands = a.stands ∙ ap (λ (k : ℕ). paste before at (last_digits 10 k n) k) same ∙ sym b.stands

-- and so are numbers one behind the other
no_field : {b b' : List ℕ} {at end : ℕ} → Fields b at [] b' end → (b ≡ b') × (at ≡ end)
no_field none = (refl, refl)

first_field : {b b' : List ℕ} {at n end : ℕ} {ns : List ℕ} → Fields b at (n ∷ ns) b' end
    → (b₁ : List ℕ) × (at₁ : ℕ) × Spelt (set b at space) (at + 1) n b₁ at₁ × Fields b₁ at₁ ns b' end
first_field (more {b₁} {at₁} s f) = (b₁, at₁, s, f)

pub fields-once : (ns before : List ℕ) (at : ℕ) (after after' : List ℕ) (end end' : ℕ) → Fields before at ns after end
    → Fields before at ns after' end' → (after ≡ after') × (end ≡ end')
fields-once [] before at after after' end end' f g =
    let (p, q) = no_field f in
    let (r, s) = no_field g in
    (sym p ∙ r, sym q ∙ s)
fields-once (n ∷ ns) before at after after' end end' f g =
    let (b₁, at₁, s, rest) = first_field f in
    let (b₂, at₂, s', rest') = first_field g in
    let stands : b₂ ≡ b₁ = spelt-stands (set before at space) (at + 1) n b₂ b₁ at₂ at₁ s' s in
    let ends : at₂ ≡ at₁ = spelt-ends (set before at space) (at + 1) n b₂ b₁ at₂ at₁ s' s in
    fields-once ns b₁ at₁ after after' end end' rest (rw (stands, ends) at rest')

pub line-once : (before : List ℕ) (at : ℕ) (name ns : List ℕ) (buffers : List (List ℕ)) (after after' : List ℕ) (end end' : ℕ)
    → Line before at name ns buffers after end → Line before at name ns buffers after' end' → (after ≡ after') × (end ≡ end')
line-once before at name ns buffers after after' end end' l m =
    let (stands, ends) =
    fields-once ns (paste before at name (length name)) (at + length name) l.numbered m.numbered l.last m.last l.fields m.fields in
    let whole : List ℕ → ℕ → List ℕ = λ b k. set (all_buffered b k buffers) (behind_buffers k buffers) line_end in (
      l.ended ∙ ap (λ (b : List ℕ). whole b l.last) stands ∙ ap (λ (k : ℕ). whole m.numbered k) ends ∙ sym m.ended,
      l.ends ∙ ap (λ (k : ℕ). behind_buffers k buffers + 1) ends ∙ sym m.ends,
    )

pub put-byte-determined : Determined 1 put-byte-kinds.ps put-byte-kinds.r put_byte.Learnt
put-byte-determined κs args x y s s' p q = p.0 ∙ sym q.0

pub put-byte-leaves : LeavesOne 1 put-byte-kinds.ps put-byte-kinds.r put_byte.Learnt (λ κs s. s.0.now)
put-byte-leaves κs args x y s s' p q = p.1 ∙ sym q.1

pub put-bytes-determined : Determined 2 put-bytes-kinds.ps put-bytes-kinds.r put-bytes.Learnt
put-bytes-determined κs args x y s s' p q = p.0 ∙ sym q.0

pub put-bytes-leaves : LeavesOne 2 put-bytes-kinds.ps put-bytes-kinds.r put-bytes.Learnt (λ κs s. s.0.now)
put-bytes-leaves κs args x y s s' p q = p.1 ∙ sym q.1

pub put-decimal-determined : Determined 1 put-decimal-kinds.ps put-decimal-kinds.r put-decimal.Learnt
put-decimal-determined κs args x y s s' p q = spelt-ends _ _ _ s.0.now s'.0.now x y p.1 q.1

pub put-decimal-leaves : LeavesOne 1 put-decimal-kinds.ps put-decimal-kinds.r put-decimal.Learnt (λ κs s. s.0.now)
put-decimal-leaves κs args x y s s' p q = spelt-stands _ _ _ s.0.now s'.0.now x y p.1 q.1

pub put-field-determined : Determined 1 put-field-kinds.ps put-field-kinds.r put-field.Learnt
put-field-determined κs args x y s s' p q = spelt-ends _ _ _ s.0.now s'.0.now x y p.1 q.1

pub put-field-leaves : LeavesOne 1 put-field-kinds.ps put-field-kinds.r put-field.Learnt (λ κs s. s.0.now)
put-field-leaves κs args x y s s' p q = spelt-stands _ _ _ s.0.now s'.0.now x y p.1 q.1

pub put-hex-determined : Determined 2 put-hex-kinds.ps put-hex-kinds.r put-hex.Learnt
put-hex-determined κs args x y s s' p q = p.0 ∙ sym q.0

pub put-hex-leaves : LeavesOne 2 put-hex-kinds.ps put-hex-kinds.r put-hex.Learnt (λ κs s. s.0.now)
put-hex-leaves κs args x y s s' p q = p.1 ∙ sym q.1

pub put-fields-determined : Determined 2 put-fields-kinds.ps put-fields-kinds.r put-fields.Learnt
put-fields-determined κs args x y s s' p q = (fields-once _ _ _ s.0.now s'.0.now x y p.1 q.1).1

pub put-fields-leaves : LeavesOne 2 put-fields-kinds.ps put-fields-kinds.r put-fields.Learnt (λ κs s. s.0.now)
put-fields-leaves κs args x y s s' p q = (fields-once _ _ _ s.0.now s'.0.now x y p.1 q.1).0

pub put-buffer-determined : Determined 2 put-buffer-kinds.ps put-buffer-kinds.r put-buffer.Learnt
put-buffer-determined κs args x y s s' p q = p.0.0 ∙ sym q.0.0

pub put-buffer-leaves : LeavesOne 2 put-buffer-kinds.ps put-buffer-kinds.r put-buffer.Learnt (λ κs s. s.0.now)
put-buffer-leaves κs args x y s s' p q = p.1 ∙ sym q.1

pub put-line-determined : Determined 3 put-line-kinds.ps put-line-kinds.r put-line.Learnt
put-line-determined κs args x y s s' p q = (line-once _ _ _ _ _ s.0.now s'.0.now x y p.1 q.1).1

pub put-line-leaves : LeavesOne 3 put-line-kinds.ps put-line-kinds.r put-line.Learnt (λ κs s. s.0.now)
put-line-leaves κs args x y s s' p q = (line-once _ _ _ _ _ s.0.now s'.0.now x y p.1 q.1).0

pub put-line-with-determined : Determined 5 put-line-with-kinds.ps put-line-with-kinds.r put-line-with.Learnt
put-line-with-determined κs args x y s s' p q = (line-once _ _ _ _ _ s.0.now s'.0.now x y p.1 q.1).1

pub put-line-with-leaves : LeavesOne 5 put-line-with-kinds.ps put-line-with-kinds.r put-line-with.Learnt (λ κs s. s.0.now)
put-line-with-leaves κs args x y s s' p q = (line-once _ _ _ _ _ s.0.now s'.0.now x y p.1 q.1).0
