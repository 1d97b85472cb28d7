-- `pass_runs` meets its contract: at each turn the runs so far are read.
use Rattle.std.specs.Prelude.{[]}
use Rattle.refusal.specs.Laws.Errors.{same_error}
use Rattle.read_code.proofs.Runs.{passed_none, passed_more, passed_stop, passed_all}
use Rattle.read_code.proofs.pass_runs.Goals as goal

pub loop-init : goal.loop-init
loop-init c = ([], passed_none c.args.cursor.now c.args.count c.args.before)

pub loop-preserved : goal.loop-preserved
loop-preserved c = (_, passed_more c.loop.invariant.1 c.loop-test.true c.in_ok-run.ensures)

pub returns-in_err-run : goal.returns-in_err-run
returns-in_err-run c =
    rw (same_error c.from_residual.result _ c.from_residual.ensures.1)
    (record { runs = []; reads = passed_stop c.loop.invariant.1 c.loop-test.true c.in_err-run.ensures })

pub returns : goal.returns
returns c = record { runs = c.loop.invariant.0; reads = passed_all c.loop.invariant.1 c.loop-test.false }
