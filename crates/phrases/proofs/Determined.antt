-- Each public function's promise determines its answer and every byte of the buffer that is lent to it.
-- Assumes nothing.
use borrow.Author.Rules.{rules}
use mathlib.Core.Path.{◌≡◌, refl, sym, ap, ◌∙◌}
use mathlib.Core.List.{List, [], ◌∷◌}
use Prim.Native.Nat.{ℕ}
use Rattle.model.proofs.Determined.{Determined, LeavesOne}
use Rattle.text.proofs.Determined.{spelt-ends, spelt-stands}
use Rattle.phrases.specs.declared.arguments.Asked.{Asked}
use Rattle.phrases.specs.Arguments.{nothing as nothing_asked}
use Rattle.phrases.specs.Wording.{Meaning, meaning, called, behind_name, Numbered, Meant, Piece, Worded}
use Rattle.phrases.specs.Wording.Worded.{none, more}
use Rattle.phrases.proofs.arguments.AskedDefault.default.Reads as nothing
use Rattle.phrases.proofs.arguments.AskedDefault.default.Kinds as nothing-kinds
use Rattle.phrases.proofs.arguments.Asked.complete.Reads as complete
use Rattle.phrases.proofs.arguments.Asked.complete.Kinds as complete-kinds
use Rattle.phrases.proofs.arguments.Asked.take.Reads as take
use Rattle.phrases.proofs.arguments.Asked.take.Kinds as take-kinds
use Rattle.phrases.proofs.names.next_bad.Reads as next-bad
use Rattle.phrases.proofs.names.next_bad.Kinds as next-bad-kinds
use Rattle.phrases.proofs.names.name_of.Reads as name_of_call
use Rattle.phrases.proofs.names.name_of.Kinds as name-of-kinds
use Rattle.phrases.proofs.wording.put.Reads as put
use Rattle.phrases.proofs.wording.put.Kinds as put-kinds

-- ARGUMENTS AND NAMES: equations

-- the derived `default` is what nothing asks for
pub nothing-is : (κs : _) (args : _) (x : Asked) (s : _) → nothing.Learnt κs args x s → x ≡ nothing_asked
nothing-is κs args x s p = search rules

pub nothing-determined : Determined 0 nothing-kinds.ps nothing-kinds.r nothing.Learnt
nothing-determined κs args x y s s' p q = nothing-is κs args x s p ∙ sym (nothing-is κs args y s' q)

pub complete-determined : Determined 0 complete-kinds.ps complete-kinds.r complete.Learnt
complete-determined κs args x y s s' p q = p ∙ sym q

pub take-determined : Determined 1 take-kinds.ps take-kinds.r take.Learnt
take-determined κs args x y s s' p q = p ∙ sym q

pub next-bad-determined : Determined 1 next-bad-kinds.ps next-bad-kinds.r next-bad.Learnt
next-bad-determined κs args x y s s' p q = p.0 ∙ sym q.0

pub name-of-determined : Determined 1 name-of-kinds.ps name-of-kinds.r name_of_call.Learnt
name-of-determined κs args x y s s' p q = p.0 ∙ sym q.0

-- WORDS: a number with a name, a piece, and pieces one behind the other stand in one way

numbered-once : (before : List ℕ) (at n : ℕ) (name after after' : List ℕ) (end end' : ℕ)
    → Numbered before at n name after end → Numbered before at n name after' end' → (after ≡ after') × (end ≡ end')
numbered-once before at n name after after' end end' p q =
    let stands : p.spelt ≡ q.spelt = spelt-stands before at n p.spelt q.spelt p.last q.last p.number q.number in
    let ends : p.last ≡ q.last = spelt-ends before at n p.spelt q.spelt p.last q.last p.number q.number in (
      p.stands ∙ ap (λ (b : List ℕ). called b p.last name) stands ∙ ap (λ (k : ℕ). called q.spelt k name) ends ∙ sym q.stands,
      p.ends ∙ ap (λ (k : ℕ). behind_name k name) ends ∙ sym q.ends,
    )

meant-once : (before : List ℕ) (at b : ℕ) (m : Meaning) (after after' : List ℕ) (end end' : ℕ)
    → Meant before at b m after end → Meant before at b m after' end' → (after ≡ after') × (end ≡ end')
meant-once before at b Meaning.itself after after' end end' p q = (p.0 ∙ sym q.0, p.1 ∙ sym q.1)
meant-once before at b (Meaning.number n name) after after' end end' p q = numbered-once before at n name after after' end end' p q

no-piece : {ns names b b' : List ℕ} {at end : ℕ} → Worded ns names b at [] b' end → (b ≡ b') × (at ≡ end)
no-piece none = (refl, refl)

first_piece : {ns names b b' : List ℕ} {at w end : ℕ} {ws : List ℕ} → Worded ns names b at (w ∷ ws) b' end
    → (b₁ : List ℕ) × (at₁ : ℕ) × Piece ns names b at w b₁ at₁ × Worded ns names b₁ at₁ ws b' end
first_piece (more {b₁} {at₁} s f) = (b₁, at₁, s, f)

pub worded-once : (ws ns names before : List ℕ) (at : ℕ) (after after' : List ℕ) (end end' : ℕ)
    → Worded ns names before at ws after end → Worded ns names before at ws after' end' → (after ≡ after') × (end ≡ end')
worded-once [] ns names before at after after' end end' f g =
    let (a, b) = no-piece f in
    let (c, d) = no-piece g in
    (sym a ∙ c, sym b ∙ d)
worded-once (w ∷ ws) ns names before at after after' end end' f g =
    let (b₁, at₁, s, rest) = first_piece f in
    let (b₂, at₂, s', rest') = first_piece g in
    let (stands, ends) = meant-once before at w (meaning ns names w) b₂ b₁ at₂ at₁ s'.meant s.meant in
    worded-once ws ns names b₁ at₁ after after' end end' rest (rw (stands, ends) at rest')

pub put-determined : Determined 3 put-kinds.ps put-kinds.r put.Learnt
put-determined κs args x y s s' p q = (worded-once _ _ _ _ _ s.0.now s'.0.now x y p.1 q.1).1

pub put-leaves : LeavesOne 3 put-kinds.ps put-kinds.r put.Learnt (λ κs s. s.0.now)
put-leaves κs args x y s s' p q = (worded-once _ _ _ _ _ s.0.now s'.0.now x y p.1 q.1).0
