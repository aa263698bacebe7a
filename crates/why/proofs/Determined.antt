-- Each public function's promise determines its answer and every byte lent to it.
-- Assumes nothing.
use mathlib.Core.Path.{◌≡◌, sym, ap, ◌∙◌}
use mathlib.Core.List.{List}
use Prim.Native.Nat.{ℕ}
use contract.Lifetimes.{Lfts}
use denote.Triple.Clauses.{AtExit}
use borrow.Fn.Kinds.{Dens, res_t, ended_of}
use mir.Syntax.{w64}
use mir.Val.{Fits}
use Rattle.model.proofs.Determined.{Determined, LeavesOne}
use Rattle.why.specs.declared.telling.Telling.{Telling}
use Rattle.why.specs.declared.cursor.StepPart.{StepPart}
use Rattle.why.specs.declared.cursor.StepPart.TheVariants as step
use Rattle.why.specs.declared.cursor.Part.{Part}
use Rattle.why.specs.declared.cursor.Part.TheVariants as part
use Rattle.why.specs.declared.cursor.Cursor.{Cursor}
use Rattle.why.specs.declared.cursor.Said.{Said}
use Rattle.why.specs.Found.{left_behind}
use Rattle.why.specs.Said.{open_said, Kept, StepsTo, GoesOn}
use Rattle.why.proofs.phrase.Phrase.new.Reads as new
use Rattle.why.proofs.phrase.Phrase.new.Kinds as new-kinds
use Rattle.why.proofs.telling.begin.Reads as begin
use Rattle.why.proofs.telling.begin.Kinds as begin-kinds
use Rattle.why.proofs.telling.Telling.next.Reads as next
use Rattle.why.proofs.telling.Telling.next.Kinds as next-kinds

-- whatever the number of numbers that are given
pub new-determined : (N : ℕ) (fits : Fits w64 N) → Determined 1 (new-kinds.ps N fits) (new-kinds.r N fits) (new.Learnt N fits)
new-determined N fits κs args x y s s' p q = p ∙ sym q

pub begin-determined : Determined 3 begin-kinds.ps begin-kinds.r begin.Learnt
begin-determined κs args x y s s' p q = p.0 ∙ sym q.0

pub begin-leaves : LeavesOne 3 begin-kinds.ps begin-kinds.r begin.Learnt (λ κs s. s.1.1.0.now)
begin-leaves κs args x y s s' p q = p.1.0 ∙ sym q.1.0

-- and one content of the buffer that may have been lent
pub begin-leaves-last : (κs : Lfts 3) (args : Dens κs begin-kinds.ps) (x y : (res_t begin-kinds.r κs).Denot) (s s' : AtExit (ended_of 3 begin-kinds.ps begin-kinds.r) κs)
    → begin.Learnt κs args x s → begin.Learnt κs args y s' → left_behind s.1.1.1.0 ≡ left_behind s'.1.1.1.0
begin-leaves-last κs args x y s s' p q = p.1.1.0 ∙ sym q.1.1.0

-- THE NEXT PHRASE

-- one answer, one state and one portion
abbrev One : Said → Said → List ℕ → List ℕ → List ℕ → List ℕ → Type 0
One r r₂ s s₂ b b₂ = (r ≡ r₂) × (s ≡ s₂) × (b ≡ b₂)

module _ (t : Telling) (state portion : List ℕ) (c : Cursor) (r r₂ : Said) (s s₂ b b₂ : List ℕ) where
  kept-once : {is : Said} → (r ≡ is) × Kept state portion s b → (r₂ ≡ is) × Kept state portion s₂ b₂ → One r r₂ s s₂ b b₂
  kept-once (e, (f, g)) (e₂, (f₂, g₂)) = (e ∙ sym e₂, f ∙ sym f₂, g ∙ sym g₂)

  steps-once : (p : StepPart) → StepsTo t state portion c p r s b → StepsTo t state portion c p r₂ s₂ b₂ → One r r₂ s s₂ b b₂
  steps-once step.Earlier x y = kept-once x y
  steps-once step.Open (e, ran, _) (e₂, ran₂, _) = (
    e ∙ ap (open_said t.log.now t.found c) (ran.told ∙ sym ran₂.told) ∙ sym e₂,
    ran.left ∙ sym ran₂.left,
    ran.wrote ∙ sym ran₂.wrote,
  )
  steps-once step.Events x y = kept-once x y
  steps-once step.State x y = kept-once x y

  goes-once : (p : Part) → GoesOn t state portion c p r s b → GoesOn t state portion c p r₂ s₂ b₂ → One r r₂ s s₂ b b₂
  goes-once (part.Step p) x y = steps-once p x y
  goes-once (part.Verdict p) x y = kept-once x y
  goes-once (part.Last p) x y = kept-once x y
  goes-once (part.Fault p) x y = kept-once x y
  goes-once part.End x y = kept-once x y

pub next-determined : Determined 4 next-kinds.ps next-kinds.r next.Learnt
next-determined κs args x y s s' p q =
    (goes-once args.0.now args.1.0.now args.1.1.0.now args.1.1.1.0 x y s.1.0.now s'.1.0.now s.1.1.0.now s'.1.1.0.now args.1.1.1.0.part p.0 q.0).0

pub next-leaves : LeavesOne 4 next-kinds.ps next-kinds.r next.Learnt (λ κs s. s.1.0.now)
next-leaves κs args x y s s' p q =
    (goes-once args.0.now args.1.0.now args.1.1.0.now args.1.1.1.0 x y s.1.0.now s'.1.0.now s.1.1.0.now s'.1.1.0.now args.1.1.1.0.part p.0 q.0).1

pub next-leaves-portion : LeavesOne 4 next-kinds.ps next-kinds.r next.Learnt (λ κs s. s.1.1.0.now)
next-leaves-portion κs args x y s s' p q =
    (goes-once args.0.now args.1.0.now args.1.1.0.now args.1.1.1.0 x y s.1.0.now s'.1.0.now s.1.1.0.now s'.1.1.0.now args.1.1.1.0.part p.0 q.0).2
