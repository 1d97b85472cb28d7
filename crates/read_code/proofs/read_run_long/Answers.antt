-- `read_run_long` meets its contract: two positions and a count, or the refusal of one of them.
use Rattle.std.proofs.Common.{◌∙◌, rules}
use Rattle.refusal.specs.Laws.Errors.{same_error}
use Rattle.cursor.specs.Laws.Advances.{by_law}
use Rattle.read_code.proofs.Runs.{on_payload}
use Rattle.read_code.proofs.OneRun.{no_start, no_end, no_count, one_run}
use Rattle.read_code.proofs.read_run_long.Goals as goal

pub returns-in_err-start : goal.returns-in_err-start
returns-in_err-start c = rw (same_error c.from_residual.result _ c.from_residual.ensures.1) (by_law (λ g. no_start _ g (search rules)) c.in_err-start.ensures)

pub returns-in_err-end : goal.returns-in_err-end
returns-in_err-end c =
    let s = c.in_ok-start.ensures in
    let e = c.in_err-end.ensures in
    rw (same_error c.from_residual-in_err-end.result _ c.from_residual-in_err-end.ensures.1)
    (record { payload = e.payload ∙ s.payload; reads = no_end _ s.reads (search rules) (on_payload s.payload e) (search rules) })

pub returns-in_err-count : goal.returns-in_err-count
returns-in_err-count c =
    let s = c.in_ok-start.ensures in
    let e = c.in_ok-end.ensures in
    let k = c.in_err-count.ensures.advances in
    let p = e.payload ∙ s.payload in
    rw (same_error c.from_residual-in_err-count.result _ c.from_residual-in_err-count.ensures.1)
    (record { payload = k.payload ∙ p; reads = no_count _ s.reads (search rules) (on_payload s.payload e) (search rules) (on_payload p k) })

pub returns : goal.returns
returns c =
    let s = c.in_ok-start.ensures in
    let e = c.in_ok-end.ensures in
    let k = c.in_ok-count.ensures.advances in
    let p = e.payload ∙ s.payload in
    record {
      payload = k.payload ∙ p;
      reads = one_run _ s.reads (search rules) (on_payload s.payload e) (search rules) (on_payload p k) (search rules) (search rules);
    }
