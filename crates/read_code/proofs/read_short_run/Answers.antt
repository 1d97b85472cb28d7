-- `read_short_run` meets its contract: three bytes are three varints.
use Rattle.std.proofs.Common.{◌≡◌, ◌+◌, rules, arith, refl}
use Rattle.refusal.specs.Laws.Errors.{same_error}
use Rattle.cursor.specs.Laws.Advances.{stays}
use Rattle.read_code.proofs.OneRun.{no_start, no_end, one_run}
use Rattle.read_code.proofs.Short.{reads_one}
use Rattle.read_code.proofs.read_short_run.Goals as goal

pub returns-in_err-start : goal.returns-in_err-start
returns-in_err-start c = rw (same_error c.from_residual.result _ c.from_residual.ensures.1) (stays (no_start _ c.in_err-start.ensures (search rules)))

pub returns-in_err-end : goal.returns-in_err-end
returns-in_err-end c =
    rw (same_error c.from_residual-in_err-end.result _ c.from_residual-in_err-end.ensures.1)
    (stays (no_end _ c.in_ok-start.ensures (search rules) c.in_err-end.ensures (search rules)))

pub returns : goal.returns
returns c =
    let at = c.args.cursor.now.at in
    let two : at + 1 + 1 ≡ at + 2 = omega arith in
    let three : at + 2 + 1 ≡ at + 3 = omega arith in
    let k = rw (three, ← c.from-count.ensures) at (reads_one _ (at + 2) (omega arith) c.requires.count) in
    record { payload = refl; reads = one_run _ c.in_ok-start.ensures (search rules) (rw two at c.in_ok-end.ensures) (search rules) k (search rules) (search rules) }
