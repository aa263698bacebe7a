use Rattle.std.proofs.Common.{Result, Ok, Err, arith}
use Rattle.std.specs.Prelude.{OnOk, OnErr}
use Rattle.replay.specs.Lines.Sheets.{last, more}
use Rattle.replay.specs.Lines.SheetsSoFar.{here}
use Rattle.replay.specs.Lines.SheetsSoFar.{further as on}
use Rattle.replay.proofs.Runs.{further, fewer}
use Rattle.replay.proofs.sheet.print.Goals as goal

-- what holds in any case holds on each
if_ok : {T E P : Type 0} (r : Result T E) → P → OnOk r P
if_ok (Ok x) p = p
if_ok (Err e) p = tt

if_err : {T E P : Type 0} (r : Result T E) → P → OnErr r P
if_err (Ok x) p = tt
if_err (Err e) p = p

pub loop-next-smaller : goal.loop-next-smaller
loop-next-smaller g c =
    let a = c.args in
    let t = c.loop-next in
    let runs = c.runs-filled in
    let later = further a.state.now a.sheet.cells c.in-Some.cell t.out runs.new.out 0 runs.result.end runs.result.next (omega arith) runs.ensures.run_lines in
    fewer a.sheet.cells c.in-Some.cell t.next runs.result.next c.in-Some.is later

pub loop-next-preserved : goal.loop-next-preserved
loop-next-preserved g c =
    let t = c.loop-next in
    let runs = c.runs-filled in
    record {
      end_bound = runs.ensures.end_in_bounds;
      same_length = omega arith;
      completes = λ b s. t.invariant.completes b (rw c.in-Some.is (more runs.ensures.run_lines s));
      so_far = λ b s. t.invariant.so_far b (rw c.in-Some.is (on runs.ensures.run_lines s));
    }

pub returns-in_err-write_all-clause-err : goal.returns-in_err-write_all-clause-err
returns-in_err-write_all-clause-err g c = if_err c.from_residual.result (c.loop-next.invariant.so_far c.loop-next.out here)

pub returns-clause-ok : goal.returns-clause-ok
returns-clause-ok g c =
    let t = c.loop-next in
    if_ok c.write_all-2.result (t.invariant.completes t.out (rw c.in_default.is last))

pub returns-clause-err : goal.returns-clause-err
returns-clause-err g c = if_err c.write_all-2.result (c.loop-next.invariant.so_far c.loop-next.out here)
