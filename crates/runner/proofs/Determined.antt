-- Each public function's promise determines its answer and every byte lent to it: two answers that it permits for the same arguments
-- are equal, and so are two lists that it permits a lent buffer to hold at exit.
-- Assumes nothing.
use mathlib.Core.Path.{sym, ◌∙◌}
use Rattle.model.proofs.Determined.{Determined, LeavesOne}
use Rattle.runner.proofs.Clearing.{from-once}
use Rattle.runner.proofs.stop.U8FromStop.from.Reads as stop-number
use Rattle.runner.proofs.stop.U8FromStop.from.Kinds as stop-number-kinds
use Rattle.runner.proofs.stop.Stop.refused.Reads as stop-refused
use Rattle.runner.proofs.stop.Stop.refused.Kinds as stop-refused-kinds
use Rattle.runner.proofs.clear.Clear.nothing.Reads as clear-nothing
use Rattle.runner.proofs.clear.Clear.nothing.Kinds as clear-nothing-kinds
use Rattle.runner.proofs.clear.Clear.after.Reads as clear-after
use Rattle.runner.proofs.clear.Clear.after.Kinds as clear-after-kinds
use Rattle.runner.proofs.choose.next_end.Reads as next-end
use Rattle.runner.proofs.choose.next_end.Kinds as next-end-kinds
use Rattle.runner.proofs.choose.next_start.Reads as next_start
use Rattle.runner.proofs.choose.next_start.Kinds as next-start-kinds
use Rattle.runner.proofs.choose.choose.Reads as choose
use Rattle.runner.proofs.choose.choose.Kinds as choose-kinds
use Rattle.runner.proofs.log.room_of.Reads as room_of_call
use Rattle.runner.proofs.log.room_of.Kinds as room-of-kinds
use Rattle.runner.proofs.log.put.Reads as put
use Rattle.runner.proofs.log.put.Kinds as put-kinds
use Rattle.runner.proofs.log.write_head.Reads as write-head
use Rattle.runner.proofs.log.write_head.Kinds as write-head-kinds
use Rattle.runner.proofs.build.build.Reads as build
use Rattle.runner.proofs.build.build.Kinds as build-kinds
use Rattle.runner.proofs.call.PageToldFromTally.from.Reads as told_of
use Rattle.runner.proofs.call.PageToldFromTally.from.Kinds as told-of-kinds
use Rattle.runner.proofs.call.PageToldFromFault.from.Reads as told-unfit
use Rattle.runner.proofs.call.PageToldFromFault.from.Kinds as told-unfit-kinds
use Rattle.runner.proofs.call.page.Reads as call
use Rattle.runner.proofs.call.page.Kinds as call-kinds

pub stop-number-determined : Determined 0 stop-number-kinds.ps stop-number-kinds.r stop-number.Learnt
stop-number-determined κs args x y s s' p q = p ∙ sym q

pub stop-refused-determined : Determined 0 stop-refused-kinds.ps stop-refused-kinds.r stop-refused.Learnt
stop-refused-determined κs args x y s s' p q = p ∙ sym q

pub clear-nothing-determined : Determined 0 clear-nothing-kinds.ps clear-nothing-kinds.r clear-nothing.Learnt
clear-nothing-determined κs args x y s s' p q = p ∙ sym q

pub clear-after-determined : Determined 0 clear-after-kinds.ps clear-after-kinds.r clear-after.Learnt
clear-after-determined κs args x y s s' p q = p ∙ sym q

pub next-end-determined : Determined 2 next-end-kinds.ps next-end-kinds.r next-end.Learnt
next-end-determined κs args x y s s' p q = from-once p q

pub next-start-determined : Determined 2 next-start-kinds.ps next-start-kinds.r next_start.Learnt
next-start-determined κs args x y s s' p q = from-once p q

pub choose-determined : Determined 2 choose-kinds.ps choose-kinds.r choose.Learnt
choose-determined κs args x y s s' p q = p ∙ sym q

pub room-of-determined : Determined 0 room-of-kinds.ps room-of-kinds.r room_of_call.Learnt
room-of-determined κs args x y s s' p q = p ∙ sym q

pub put-leaves : LeavesOne 1 put-kinds.ps put-kinds.r put.Learnt (λ κs s. s.0.now)
put-leaves κs args x y s s' p q = p ∙ sym q

pub write-head-leaves : LeavesOne 1 write-head-kinds.ps write-head-kinds.r write-head.Learnt (λ κs s. s.0.now)
write-head-leaves κs args x y s s' p q = p ∙ sym q

pub build-determined : Determined 3 build-kinds.ps build-kinds.r build.Learnt
build-determined κs args x y s s' p q = p.0 ∙ sym q.0

pub build-leaves : LeavesOne 3 build-kinds.ps build-kinds.r build.Learnt (λ κs s. s.1.0.now)
build-leaves κs args x y s s' p q = p.1.0 ∙ sym q.1.0

pub build-leaves-log : LeavesOne 3 build-kinds.ps build-kinds.r build.Learnt (λ κs s. s.1.1.0.now)
build-leaves-log κs args x y s s' p q = p.1.1 ∙ sym q.1.1

pub told-of-determined : Determined 0 told-of-kinds.ps told-of-kinds.r told_of.Learnt
told-of-determined κs args x y s s' p q = p ∙ sym q

pub told-unfit-determined : Determined 0 told-unfit-kinds.ps told-unfit-kinds.r told-unfit.Learnt
told-unfit-determined κs args x y s s' p q = p ∙ sym q

pub call-determined : Determined 3 call-kinds.ps call-kinds.r call.Learnt
call-determined κs args x y s s' p q = p.0 ∙ sym q.0

pub call-leaves : LeavesOne 3 call-kinds.ps call-kinds.r call.Learnt (λ κs s. s.1.0.now)
call-leaves κs args x y s s' p q = p.1.0 ∙ sym q.1.0

pub call-leaves-log : LeavesOne 3 call-kinds.ps call-kinds.r call.Learnt (λ κs s. s.1.1.0.now)
call-leaves-log κs args x y s s' p q = p.1.1.0 ∙ sym q.1.1.0
