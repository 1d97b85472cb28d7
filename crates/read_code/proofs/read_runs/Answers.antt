-- `read_runs` meets its contract: at each turn the runs so far are read and their spans stored.
use Rattle.std.specs.Prelude.{List, ℕ, Err}
use Rattle.std.proofs.Common.{arith, refl}
use Rattle.refusal.specs.declared.Refusal.{Refusal}
use Rattle.cursor.specs.declared.Cursor.{Cursor}
use Rattle.read_code.specs.Runs.{RunsRead}
use Rattle.refusal.specs.Laws.Errors.{same_error}
use Rattle.read_code.proofs.Runs.{filling_none, filling_more, filling_over, filling_over_stop, filling_stop, filling_under, filling_all}
use Rattle.read_code.proofs.read_runs.Goals as goal

-- a refusal says nothing of where the cursor is
refused_here : {c c' : Cursor} {table table' : List ℕ} {used size count : ℕ} {e : Refusal}
    → RunsRead c c' table table' used size count (Err e) → RunsRead c c table table' used size count (Err e)
refused_here g = record { payload = refl; outcome = g.outcome }

pub loop-k-init : goal.loop-k-init
loop-k-init c = filling_none c.args.cursor.now c.args.spans.now c.args.used c.args.size c.args.count

pub returns-in_err-run : goal.returns-in_err-run
returns-in_err-run c =
    rw (same_error c.from_residual.result _ c.from_residual.ensures.1)
    (refused_here (filling_stop c.loop-k.invariant c.loop-k-test.true c.in_err-run.ensures))

pub returns-in_err-pass_runs : goal.returns-in_err-pass_runs
returns-in_err-pass_runs c =
    rw (same_error c.from_residual-in_err-pass_runs.result _ c.from_residual-in_err-pass_runs.ensures.1)
    (refused_here (filling_over_stop c.loop-k.invariant c.loop-k-test.true c.in_ok-run.ensures c.in_err-pass_runs.ensures))

pub returns-then-stop-from : goal.returns-then-stop-from
returns-then-stop-from c =
    refused_here (filling_over c.loop-k.invariant c.loop-k-test.true c.in_ok-run.ensures c.in_ok-pass_runs.ensures (omega arith) c.at.ensures)

pub loop-k-preserved : goal.loop-k-preserved
loop-k-preserved c = filling_more c.loop-k.invariant c.loop-k-test.true c.in_ok-run.ensures (omega arith) c.span.ensures c.fill.ensures

pub returns-then-from-stop : goal.returns-then-from-stop
returns-then-from-stop c = refused_here (filling_under c.loop-k.invariant c.loop-k-test.false c.if-from-stop.true c.at-then-from-stop.ensures)

pub returns : goal.returns
returns c = record { payload = refl; outcome = (filling_all c.loop-k.invariant c.loop-k-test.false c.if-from-stop.false).outcome }
