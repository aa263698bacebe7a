-- Each public function's promise determines its answer and every byte lent to it.
-- Assumes nothing.
use mathlib.Core.Path.{◌≡◌, refl, sym, ◌∙◌}
use mathlib.Core.List.{List, []}
use Prim.Native.Nat.{ℕ, ◌+◌, ◌<◌, ◌≤◌}
use native.Mathlib.Omega.{arith}
use contract.Lifetimes.{Lfts}
use denote.Triple.Clauses.{AtExit}
use denote.RattleType.{RattleType}
use denote.Param.Laws.{Laws}
use mir.Syntax.{Dict}
use borrow.Fn.Kinds.{Dens, ended_of}
use Rattle.std.specs.Prelude.{Option, Ok}
use Rattle.std.specs.declared.io.traits.Write.{Ghosts}
use Rattle.model.proofs.Determined.{Determined, LeavesOne}
use Rattle.text.proofs.Determined.{line-once}
use Rattle.replay.specs.declared.input.Replayed.{Replayed}
use Rattle.replay.specs.declared.lines.Filled.{Filled}
use Rattle.replay.specs.declared.sheet.Sheet.{Sheet}
use Rattle.replay.specs.Lines.{result_name, result_fields, marks_name, marks_fields, run_name, cell_fields, next_running, cells_shown, Opens, RunLines, FirstSheet, Sheets}
use Rattle.replay.specs.Lines.Opens.{alone, both}
use Rattle.replay.specs.Lines.RunLines.{over, full, more}
use Rattle.replay.specs.Lines.Sheets.{last}
use Rattle.replay.specs.Lines.Sheets.{more as further}
use Rattle.replay.proofs.Shown.{not-both}
use Rattle.replay.proofs.input.net_length.Reads as net-length
use Rattle.replay.proofs.input.net_length.Kinds as net-length-kinds
use Rattle.replay.proofs.input.is_early.Reads as is-early
use Rattle.replay.proofs.input.is_early.Kinds as is-early-kinds
use Rattle.replay.proofs.input.ReplayedFromVerdict.from.Reads as from-verdict
use Rattle.replay.proofs.input.ReplayedFromVerdict.from.Kinds as from-verdict-kinds
use Rattle.replay.proofs.input.replay.Reads as replay
use Rattle.replay.proofs.input.replay.Kinds as replay-kinds
use Rattle.replay.proofs.lines.result.Reads as result
use Rattle.replay.proofs.lines.result.Kinds as result-kinds
use Rattle.replay.proofs.lines.marks.Reads as marks
use Rattle.replay.proofs.lines.marks.Kinds as marks-kinds
use Rattle.replay.proofs.lines.opening.Reads as opening
use Rattle.replay.proofs.lines.opening.Kinds as opening-kinds
use Rattle.replay.proofs.lines.cells_shown.Reads as cells-shown
use Rattle.replay.proofs.lines.cells_shown.Kinds as cells-shown-kinds
use Rattle.replay.proofs.lines.next_running.Reads as next-running
use Rattle.replay.proofs.lines.next_running.Kinds as next-running-kinds
use Rattle.replay.proofs.lines.run.Reads as run
use Rattle.replay.proofs.lines.run.Kinds as run-kinds
use Rattle.replay.proofs.lines.run_of.Reads as run_of
use Rattle.replay.proofs.lines.run_of.Kinds as run-of-kinds
use Rattle.replay.proofs.lines.runs.Reads as runs
use Rattle.replay.proofs.lines.runs.Kinds as runs-kinds
use Rattle.replay.proofs.sheet.show.Reads as show
use Rattle.replay.proofs.sheet.show.Kinds as show-kinds
use Rattle.replay.proofs.sheet.first.Reads as first
use Rattle.replay.proofs.sheet.first.Kinds as first-kinds
use Rattle.replay.proofs.sheet.print.Reads as print
use Rattle.replay.proofs.sheet.print.Kinds as print-kinds

pub net-length-determined : Determined 1 net-length-kinds.ps net-length-kinds.r net-length.Learnt
net-length-determined κs args x y s s' p q = p.0 ∙ sym q.0

pub is-early-determined : Determined 0 is-early-kinds.ps is-early-kinds.r is-early.Learnt
is-early-determined κs args x y s s' p q = p ∙ sym q

pub from-verdict-determined : Determined 0 from-verdict-kinds.ps from-verdict-kinds.r from-verdict.Learnt
from-verdict-determined κs args x y s s' p q = p ∙ sym q

pub replay-determined : Determined 2 replay-kinds.ps replay-kinds.r replay.Learnt
replay-determined κs args x y s s' p q = p.0 ∙ sym q.0

pub replay-leaves : LeavesOne 2 replay-kinds.ps replay-kinds.r replay.Learnt (λ κs s. s.1.0.now)
replay-leaves κs args x y s s' p q = p.1 ∙ sym q.1

-- THE LINES

-- one line or two
opens-once : (before : List ℕ) (at : ℕ) (told : Replayed) (state after after' : List ℕ) (end end' : ℕ) → Opens before at told state after end
    → Opens before at told state after' end' → (after ≡ after') × (end ≡ end')
opens-once before at told state after after' end end' (alone e l) (alone f m) =
    line-once before at result_name (result_fields told) [] after after' end end' l m
opens-once before at told state after after' end end' (alone e l) (both f m n) = not-both e f
opens-once before at told state after after' end end' (both e l k) (alone f m) = not-both f e
opens-once before at told state after after' end end' (both {between = b} {next = a} e l k) (both {between = b₂} {next = a₂} f m n) =
    let (stands, ends) = line-once before at result_name (result_fields told) [] b₂ b a₂ a m l in
    line-once b a marks_name (marks_fields state) [] after after' end end' k (rw (stands, ends) at n)

-- there is room for a line, or not
not_room : {long most : ℕ} {A : Type 0} → most ≤ long → long < most → A
not_room l h = absurd (omega arith)

-- as many lines of counts as there is room for
runs-once : (s : List ℕ) (cells : ℕ) (b : List ℕ) (at : ℕ) (now : Option ℕ) (after after' : List ℕ) (end end' : ℕ) (next next' : Option ℕ)
    → RunLines s cells b at now after end next → RunLines s cells b at now after' end' next' → (after ≡ after') × (end ≡ end') × (next ≡ next')
runs-once s cells b at now after after' end end' next next' over over = (refl, refl, refl)
runs-once s cells b at now after after' end end' next next' (full h) (full i) = (refl, refl, refl)
runs-once s cells b at now after after' end end' next next' (full h) (more l m q) = not_room l h
runs-once s cells b at now after after' end end' next next' (more l m r) (full h) = not_room l h
runs-once s cells b at now after after' end end' next next' (more {b₁} {at₁} {cell} h l r) (more {b₁ = b₂} {at₁ = at₂} i m q) =
    let (stands, ends) = line-once b at run_name (cell_fields s cell) [] b₂ b₁ at₂ at₁ m l in
    runs-once s cells b₁ at₁ (next_running s cells (cell + 1)) after after' end end' next next' r (rw (stands, ends) at q)

same-filled : (x y : Filled) → x.end ≡ y.end → x.next ≡ y.next → x ≡ y
same-filled x y e n = λ i. record { end = e i; next = n i }

pub result-determined : Determined 1 result-kinds.ps result-kinds.r result.Learnt
result-determined κs args x y s s' p q = (line-once _ _ _ _ _ s.0.now s'.0.now x y p.1 q.1).1

pub result-leaves : LeavesOne 1 result-kinds.ps result-kinds.r result.Learnt (λ κs s. s.0.now)
result-leaves κs args x y s s' p q = (line-once _ _ _ _ _ s.0.now s'.0.now x y p.1 q.1).0

pub marks-determined : Determined 2 marks-kinds.ps marks-kinds.r marks.Learnt
marks-determined κs args x y s s' p q = (line-once _ _ _ _ _ s.0.now s'.0.now x y p.1 q.1).1

pub marks-leaves : LeavesOne 2 marks-kinds.ps marks-kinds.r marks.Learnt (λ κs s. s.0.now)
marks-leaves κs args x y s s' p q = (line-once _ _ _ _ _ s.0.now s'.0.now x y p.1 q.1).0

pub opening-determined : Determined 2 opening-kinds.ps opening-kinds.r opening.Learnt
opening-determined κs args x y s s' p q = (opens-once _ _ _ _ s.0.now s'.0.now x y p.1 q.1).1

pub opening-leaves : LeavesOne 2 opening-kinds.ps opening-kinds.r opening.Learnt (λ κs s. s.0.now)
opening-leaves κs args x y s s' p q = (opens-once _ _ _ _ s.0.now s'.0.now x y p.1 q.1).0

pub cells-shown-determined : Determined 1 cells-shown-kinds.ps cells-shown-kinds.r cells-shown.Learnt
cells-shown-determined κs args x y s s' p q = p ∙ sym q

pub next-running-determined : Determined 1 next-running-kinds.ps next-running-kinds.r next-running.Learnt
next-running-determined κs args x y s s' p q = p.0 ∙ sym q.0

pub run-determined : Determined 1 run-kinds.ps run-kinds.r run.Learnt
run-determined κs args x y s s' p q = (line-once _ _ _ _ _ s.0.now s'.0.now x y p.1 q.1).1

pub run_leaves : LeavesOne 1 run-kinds.ps run-kinds.r run.Learnt (λ κs s. s.0.now)
run_leaves κs args x y s s' p q = (line-once _ _ _ _ _ s.0.now s'.0.now x y p.1 q.1).0

pub run-of-determined : Determined 2 run-of-kinds.ps run-of-kinds.r run_of.Learnt
run-of-determined κs args x y s s' p q = (line-once _ _ _ _ _ s.0.now s'.0.now x y p.1 q.1).1

pub run-of-leaves : LeavesOne 2 run-of-kinds.ps run-of-kinds.r run_of.Learnt (λ κs s. s.0.now)
run-of-leaves κs args x y s s' p q = (line-once _ _ _ _ _ s.0.now s'.0.now x y p.1 q.1).0

pub runs-determined : Determined 2 runs-kinds.ps runs-kinds.r runs.Learnt
runs-determined κs args x y s s' p q =
    let same = runs-once _ _ _ _ _ s.0.now s'.0.now x.end y.end x.next y.next p.1 q.1 in
    same-filled x y same.1 same.2

pub runs-leaves : LeavesOne 2 runs-kinds.ps runs-kinds.r runs.Learnt (λ κs s. s.0.now)
runs-leaves κs args x y s s' p q = (runs-once _ _ _ _ _ s.0.now s'.0.now x.end y.end x.next y.next p.1 q.1).0

-- the first buffer
pub sheet-once : (before : List ℕ) (at : ℕ) (told : Replayed) (state after after' : List ℕ) (end end' : ℕ) (next next' : Option ℕ)
    → FirstSheet before at told state after end next → FirstSheet before at told state after' end' next'
    → (after ≡ after') × (end ≡ end') × (next ≡ next')
sheet-once before at told state after after' end end' next next' p q =
    let cells = cells_shown told.number state in
    let (stands, ends) = opens-once before at told state q.opened p.opened q.behind p.behind q.opens p.opens in
    runs-once state cells p.opened p.behind (next_running state cells 0) after after' end end' next next' p.counts (rw (stands, ends) at q.counts)

pub same-sheet : (x y : Sheet) → x.end ≡ y.end → x.next ≡ y.next → x.cells ≡ y.cells → x ≡ y
same-sheet x y e n c = λ i. record { end = e i; next = n i; cells = c i }

pub show-determined : Determined 2 show-kinds.ps show-kinds.r show.Learnt
show-determined κs args x y s s' p q =
    let same = sheet-once _ _ _ _ s.0.now s'.0.now x.end y.end x.next y.next p.0 q.0 in
    same-sheet x y same.1 same.2 (p.1.0 ∙ sym q.1.0)

pub show-leaves : LeavesOne 2 show-kinds.ps show-kinds.r show.Learnt (λ κs s. s.0.now)
show-leaves κs args x y s s' p q = (sheet-once _ _ _ _ s.0.now s'.0.now x.end y.end x.next y.next p.0 q.0).0

pub first-determined : Determined 3 first-kinds.ps first-kinds.r first.Learnt
first-determined κs args x y s s' p q =
    let same = sheet-once _ _ _ _ s.1.1.0.now s'.1.1.0.now x.end y.end x.next y.next p.0 q.0 in
    same-sheet x y same.1 same.2 (p.1.0 ∙ sym q.1.0)

pub first-leaves : LeavesOne 3 first-kinds.ps first-kinds.r first.Learnt (λ κs s. s.1.0.now)
first-leaves κs args x y s s' p q = p.1.1.0 ∙ sym q.1.1.0

pub first-prints : LeavesOne 3 first-kinds.ps first-kinds.r first.Learnt (λ κs s. s.1.1.0.now)
first-prints κs args x y s s' p q = (sheet-once _ _ _ _ s.1.1.0.now s'.1.1.0.now x.end y.end x.next y.next p.0 q.0).0

-- the buffers behind it
sheets-once : (s : List ℕ) (cells : ℕ) (b : List ℕ) (now : Option ℕ) (after after' : List ℕ) → Sheets s cells b now after → Sheets s cells b now after'
    → after ≡ after'
sheets-once s cells b now after after' last last = refl
sheets-once s cells b now after after' (further {b₁} {cell} {end} {next} l r) (further {b₁ = b₂} {end = end₂} {next = next₂} m q) =
    let (stands, ends, goes) = runs-once s cells b 0 (next_running s cells cell) b₂ b₁ end₂ end next₂ next m l in
    sheets-once s cells b₁ next after after' r (rw (stands, goes) at q)

-- whatever it is written to, where all of it was written
module _ (W : RattleType) (L : Laws W) (G : Ghosts W.Denot) (d : Dict) where
  pub print-leaves : (κs : Lfts 4) (args : Dens κs (print-kinds.ps W L)) (s s' : AtExit (ended_of 4 (print-kinds.ps W L) (print-kinds.r W L)) κs)
      → print.Learnt W L G d κs args (Ok tt) s → print.Learnt W L G d κs args (Ok tt) s' → s.1.0.now ≡ s'.1.0.now
  print-leaves κs args s s' p q = sheets-once _ _ _ _ s.1.0.now s'.1.0.now p.0 q.0
