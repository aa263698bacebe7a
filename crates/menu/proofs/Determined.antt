-- Each function's promise determines every number of the answer and every byte of the state that are lent to it: two lists that it
-- permits either to hold at exit are equal. What is cited is the promise itself, as a caller learns it. Nothing is returned beside.
-- Assumes nothing.
use mathlib.Core.Path.{sym, ◌∙◌}
use Rattle.model.proofs.Determined.{LeavesOne}
use Rattle.menu.proofs.menu_check_net.Reads as check-net
use Rattle.menu.proofs.menu_check_net.Kinds as check-net-kinds
use Rattle.menu.proofs.menu_initial.Reads as initial
use Rattle.menu.proofs.menu_initial.Kinds as initial-kinds
use Rattle.menu.proofs.menu_check_state.Reads as check-state
use Rattle.menu.proofs.menu_check_state.Kinds as check-state-kinds
use Rattle.menu.proofs.menu_event.Reads as event
use Rattle.menu.proofs.menu_event.Kinds as event-kinds
use Rattle.menu.proofs.menu_back.Reads as back
use Rattle.menu.proofs.menu_back.Kinds as back-kinds
use Rattle.menu.proofs.menu_degree.Reads as degree
use Rattle.menu.proofs.menu_degree.Kinds as degree-kinds
use Rattle.menu.proofs.menu_owed.Reads as owed
use Rattle.menu.proofs.menu_owed.Kinds as owed-kinds
use Rattle.menu.proofs.menu_run.Reads as run
use Rattle.menu.proofs.menu_run.Kinds as run-kinds
use Rattle.menu.proofs.menu_walk.Reads as walk
use Rattle.menu.proofs.menu_walk.Kinds as walk-kinds
use Rattle.menu.proofs.menu_step.Reads as step
use Rattle.menu.proofs.menu_step.Kinds as step-kinds
use Rattle.menu.proofs.menu_page.Reads as page
use Rattle.menu.proofs.menu_page.Kinds as page-kinds
use Rattle.menu.proofs.menu_balance.Reads as balance
use Rattle.menu.proofs.menu_balance.Kinds as balance-kinds

pub check-net-tells : LeavesOne 2 check-net-kinds.ps check-net-kinds.r check-net.Learnt (λ κs s. s.1.0.now)
check-net-tells κs args x y s s' p q = p.0 ∙ sym q.0

pub initial-tells : LeavesOne 3 initial-kinds.ps initial-kinds.r initial.Learnt (λ κs s. s.1.1.0.now)
initial-tells κs args x y s s' p q = p.0 ∙ sym q.0

pub initial-leaves : LeavesOne 3 initial-kinds.ps initial-kinds.r initial.Learnt (λ κs s. s.1.0.now)
initial-leaves κs args x y s s' p q = p.1.0 ∙ sym q.1.0

pub check-state-tells : LeavesOne 3 check-state-kinds.ps check-state-kinds.r check-state.Learnt (λ κs s. s.1.1.0.now)
check-state-tells κs args x y s s' p q = p.0 ∙ sym q.0

pub event-tells : LeavesOne 3 event-kinds.ps event-kinds.r event.Learnt (λ κs s. s.1.1.1.1.1.0.now)
event-tells κs args x y s s' p q = p.0 ∙ sym q.0

pub event-leaves : LeavesOne 3 event-kinds.ps event-kinds.r event.Learnt (λ κs s. s.1.0.now)
event-leaves κs args x y s s' p q = p.1.0 ∙ sym q.1.0

pub back-tells : LeavesOne 3 back-kinds.ps back-kinds.r back.Learnt (λ κs s. s.1.1.1.1.1.0.now)
back-tells κs args x y s s' p q = p.0 ∙ sym q.0

pub back-leaves : LeavesOne 3 back-kinds.ps back-kinds.r back.Learnt (λ κs s. s.1.0.now)
back-leaves κs args x y s s' p q = p.1.0 ∙ sym q.1.0

pub degree-tells : LeavesOne 3 degree-kinds.ps degree-kinds.r degree.Learnt (λ κs s. s.1.1.1.0.now)
degree-tells κs args x y s s' p q = p.0 ∙ sym q.0

pub owed-tells : LeavesOne 3 owed-kinds.ps owed-kinds.r owed.Learnt (λ κs s. s.1.1.0.now)
owed-tells κs args x y s s' p q = p.0 ∙ sym q.0

pub run_tells : LeavesOne 4 run-kinds.ps run-kinds.r run.Learnt (λ κs s. s.1.1.1.1.0.now)
run_tells κs args x y s s' p q = p.0 ∙ sym q.0

pub run_leaves : LeavesOne 4 run-kinds.ps run-kinds.r run.Learnt (λ κs s. s.1.0.now)
run_leaves κs args x y s s' p q = p.1.0 ∙ sym q.1.0

pub walk-tells : LeavesOne 4 walk-kinds.ps walk-kinds.r walk.Learnt (λ κs s. s.1.1.1.1.1.0.now)
walk-tells κs args x y s s' p q = p.0 ∙ sym q.0

pub walk-leaves : LeavesOne 4 walk-kinds.ps walk-kinds.r walk.Learnt (λ κs s. s.1.0.now)
walk-leaves κs args x y s s' p q = p.1.0 ∙ sym q.1.0

pub step-tells : LeavesOne 2 step-kinds.ps step-kinds.r step.Learnt (λ κs s. s.1.1.0.now)
step-tells κs args x y s s' p q = p.0 ∙ sym q.0

pub page-tells : LeavesOne 4 page-kinds.ps page-kinds.r page.Learnt (λ κs s. s.1.1.1.1.0.now)
page-tells κs args x y s s' p q = p.0 ∙ sym q.0

pub page-leaves : LeavesOne 4 page-kinds.ps page-kinds.r page.Learnt (λ κs s. s.1.0.now)
page-leaves κs args x y s s' p q = p.1.0 ∙ sym q.1.0

pub page-leaves-log : LeavesOne 4 page-kinds.ps page-kinds.r page.Learnt (λ κs s. s.1.1.0.now)
page-leaves-log κs args x y s s' p q = p.1.1.0 ∙ sym q.1.1.0

pub balance-tells : LeavesOne 4 balance-kinds.ps balance-kinds.r balance.Learnt (λ κs s. s.1.1.1.0.now)
balance-tells κs args x y s s' p q = p.0 ∙ sym q.0
