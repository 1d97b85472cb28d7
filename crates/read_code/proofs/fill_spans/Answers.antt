-- `fill_spans` meets its contract: the length, the body, room for its spans, and its runs.
use Rattle.std.proofs.Common.{arith}
use Rattle.refusal.specs.Laws.Errors.{same_error}
use Rattle.read_code.proofs.CodeSteps.{no_length, no_body, no_room, no_count, no_runs, accepted}
use Rattle.read_code.proofs.fill_spans.Goals as goal

pub returns-in_err-length : goal.returns-in_err-length
returns-in_err-length c = rw (same_error c.from_residual.result _ c.from_residual.ensures.1) (no_length _ _ c.in_err-length.ensures.advances)

pub returns-in_err-take : goal.returns-in_err-take
returns-in_err-take c =
    rw (same_error c.from_residual-in_err-take.result _ c.from_residual-in_err-take.ensures.1)
    (no_body _ _ c.in_ok-length.ensures.advances c.in_err-take.ensures.advances)

pub returns-then-most-used : goal.returns-then-most-used
returns-then-most-used c = no_room _ _ c.in_ok-length.ensures.advances c.in_ok-take.ensures.advances (omega arith) c.at.ensures

pub returns-in_err-count : goal.returns-in_err-count
returns-in_err-count c =
    rw (same_error c.from_residual-in_err-count.result _ c.from_residual-in_err-count.ensures.1)
    (no_count _ _ c.in_ok-length.ensures.advances c.in_ok-take.ensures.advances (omega arith) c.in_err-count.ensures.advances)

pub returns-in_err-read_runs : goal.returns-in_err-read_runs
returns-in_err-read_runs c =
    let t = c.in_ok-take.ensures in
    rw (same_error c.from_residual-in_err-read_runs.result _ c.from_residual-in_err-read_runs.ensures.1)
    (no_runs _ _ c.in_ok-length.ensures.advances t.advances t.taken (omega arith) c.in_ok-count.ensures.advances c.in_err-read_runs.ensures)

pub returns : goal.returns
returns c =
    let t = c.in_ok-take.ensures in
    accepted _ _ c.in_ok-length.ensures.advances t.advances t.taken (omega arith) c.in_ok-count.ensures.advances c.in_ok-read_runs.ensures
