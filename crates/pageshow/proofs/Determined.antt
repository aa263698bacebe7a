-- Each public function's promise determines its answer and every byte lent to it.
-- Assumes nothing.
use mathlib.Core.Path.{◌≡◌, sym, ◌∙◌}
use mathlib.Core.List.{List, [], ◌∷◌}
use Prim.Native.Nat.{ℕ}
use Rattle.std.specs.Prelude.{Option}
use Rattle.model.proofs.Determined.{Determined, LeavesOne}
use Rattle.text.proofs.Determined.{line-once}
use Rattle.replay.specs.declared.input.Replayed.{Replayed}
use Rattle.replay.proofs.Determined.{sheet-once, same-sheet}
use Rattle.pageshow.specs.declared.sheet.Output.{Output}
use Rattle.pageshow.specs.Built.{net_alone, built}
use Rattle.pageshow.specs.Sheet.{stop_name, PageSheet, Shows}
use Rattle.pageshow.proofs.arguments.read.Reads as read
use Rattle.pageshow.proofs.arguments.read.Kinds as read-kinds
use Rattle.pageshow.proofs.build.net_length.Reads as net-length
use Rattle.pageshow.proofs.build.net_length.Kinds as net-length-kinds
use Rattle.pageshow.proofs.build.BuiltFromVerdict.from.Reads as from-verdict
use Rattle.pageshow.proofs.build.BuiltFromVerdict.from.Kinds as from-verdict-kinds
use Rattle.pageshow.proofs.build.build.Reads as build
use Rattle.pageshow.proofs.build.build.Kinds as build-kinds
use Rattle.pageshow.proofs.sheet.first.Reads as first
use Rattle.pageshow.proofs.sheet.first.Kinds as first-kinds

pub read-determined : Determined 2 read-kinds.ps read-kinds.r read.Learnt
read-determined κs args x y s s' p q = p ∙ sym q

pub net-length-determined : Determined 1 net-length-kinds.ps net-length-kinds.r net-length.Learnt
net-length-determined κs args x y s s' p q = p.0 ∙ sym q.0

pub from-verdict-determined : Determined 0 from-verdict-kinds.ps from-verdict-kinds.r from-verdict.Learnt
from-verdict-determined κs args x y s s' p q = p ∙ sym q

pub build-determined : Determined 3 build-kinds.ps build-kinds.r build.Learnt
build-determined κs args x y s s' p q = p.0 ∙ sym q.0

pub build-leaves : LeavesOne 3 build-kinds.ps build-kinds.r build.Learnt (λ κs s. s.1.0.now)
build-leaves κs args x y s s' p q = p.1.0 ∙ sym q.1.0

pub build-leaves-log : LeavesOne 3 build-kinds.ps build-kinds.r build.Learnt (λ κs s. s.1.1.0.now)
build-leaves-log κs args x y s s' p q = p.1.1.0 ∙ sym q.1.1.0

-- THE FIRST BUFFER

page-once : (before : List ℕ) (stop : ℕ) (told : Replayed) (state after after' : List ℕ) (end end' : ℕ) (next next' : Option ℕ)
    → PageSheet before stop told state after end next → PageSheet before stop told state after' end' next'
    → (after ≡ after') × (end ≡ end') × (next ≡ next')
page-once before stop told state after after' end end' next next' p q =
    let (stands, ends) = line-once before 0 stop_name (stop ∷ []) [] q.headed p.headed q.behind p.behind q.stop_line p.stop_line in
    sheet-once p.headed p.behind told state after after' end end' next next' p.others (rw (stands, ends) at q.others)

module _ (input : List ℕ) (budget : ℕ) (state log before : List ℕ) (x y : Output) (state' state'' log' log'' after after' : List ℕ)
    (p : Shows input budget state log before x state' log' after) (q : Shows input budget state log before y state'' log'' after') where
  same_left : state'' ≡ state'
  same_left = q.state-left ∙ sym p.state-left

  printed : (after ≡ after') × (x.sheet.end ≡ y.sheet.end) × (x.sheet.next ≡ y.sheet.next)
  printed =
      page-once before (built (net_alone input) state log budget).stop (built (net_alone input) state log budget).told state' after after'
      x.sheet.end y.sheet.end x.sheet.next y.sheet.next p.lines (rw same_left at q.lines)

  same-page : x ≡ y
  same-page =
      let cells = p.cells_are ∙ sym (rw same_left at q.cells_are) in
      let sheets : x.sheet ≡ y.sheet = same-sheet x.sheet y.sheet printed.1 printed.2 cells in
      let logs = p.log_is ∙ sym q.log_is in
      λ i. record { log = logs i; sheet = sheets i }

pub first-determined : Determined 4 first-kinds.ps first-kinds.r first.Learnt
first-determined κs args x y s s' p q =
    same-page _ _ _ _ _ x y s.1.1.0.now s'.1.1.0.now s.1.1.1.0.now s'.1.1.1.0.now s.1.1.1.1.0.now s'.1.1.1.1.0.now
    p.0 q.0

pub first-leaves : LeavesOne 4 first-kinds.ps first-kinds.r first.Learnt (λ κs s. s.1.1.0.now)
first-leaves κs args x y s s' p q = p.0.state-left ∙ sym q.0.state-left

pub first-leaves-log : LeavesOne 4 first-kinds.ps first-kinds.r first.Learnt (λ κs s. s.1.1.1.0.now)
first-leaves-log κs args x y s s' p q = p.0.log-left ∙ sym q.0.log-left

pub first-prints : LeavesOne 4 first-kinds.ps first-kinds.r first.Learnt (λ κs s. s.1.1.1.1.0.now)
first-prints κs args x y s s' p q =
    (printed _ _ _ _ _ x y s.1.1.0.now s'.1.1.0.now s.1.1.1.0.now s'.1.1.1.0.now s.1.1.1.1.0.now s'.1.1.1.1.0.now
    p.0 q.0).0
