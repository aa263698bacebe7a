use Rattle.std.proofs.Common.{Some, arith}
use Rattle.replay.proofs.Runs.{ends, fills, goes_on}
use Rattle.replay.proofs.lines.runs.Goals as goal

pub loop-next-preserved : goal.loop-next-preserved
loop-next-preserved c =
    let a = c.args in
    let t = c.loop-next in
    let run = c.run_of-end in
    let later = c.next_running-next-in-Some in
    record {
      end_bound = omega (arith, run.ensures.upper_bound);
      same_length = omega arith;
      known = later.ensures.upper_bound;
      completes = λ b e n lines.
          t.invariant.completes b e n
          (goes_on a.state.now a.cells t.out t.end t.next c.in-Some.cell c.in-Some.is t.invariant.end_bound c.if-out-end-lt-RUN_MOST.false
          run.new.out b run.result e later.result n run.ensures.line later.ensures.value lines);
    }

pub returns-then-out-end-lt-RUN_MOST-clause-run_lines : goal.returns-then-out-end-lt-RUN_MOST-clause-run_lines
returns-then-out-end-lt-RUN_MOST-clause-run_lines c =
    let a = c.args in
    let t = c.loop-next in
    let first = c.next_running-next.ensures.value in
    rw (← first)
    (t.invariant.completes t.out t.end (Some c.in-Some.cell)
    (fills a.state.now a.cells t.out t.end t.next c.in-Some.cell c.in-Some.is t.invariant.end_bound c.if-out-end-lt-RUN_MOST.true))

pub returns-in_default-clause-run_lines : goal.returns-in_default-clause-run_lines
returns-in_default-clause-run_lines c =
    let a = c.args in
    let t = c.loop-next in
    let first = c.next_running-next.ensures.value in
    rw (← first) (t.invariant.completes t.out t.end t.next (ends a.state.now a.cells t.out t.end t.next c.in_default.is))
