-- `read_flagged` meets its contract: the name, the count of the starts, the starts.
use Rattle.payload.specs.Reading.{read_flagged}
use Rattle.refusal.specs.Laws.Errors.{same_error}
use Rattle.cursor.specs.Laws.Advances.{then_reads, stop_reads}
use Rattle.read_items.specs.Context.{context_of}
use Rattle.read_lines.proofs.Flagged.{flagged, refuses}
use Rattle.read_lines.proofs.read_flagged.Goals as goal

pub returns-in_err-name : goal.returns-in_err-name
unfolding read_flagged
returns-in_err-name c =
    let name = c.in_err-name.ensures in
    refuses (same_error c.from_residual.result _ c.from_residual.ensures.1) name.same_pool (λ cs names h. stop_reads _ (name.moves.is names cs))

pub returns-in_err-count : goal.returns-in_err-count
unfolding read_flagged
returns-in_err-count c =
    let name = c.in_ok-name.ensures in
    refuses (same_error c.from_residual-in_err-count.result _ c.from_residual-in_err-count.ensures.1) name.same_pool
    (λ cs names h. then_reads _ (name.moves.is names cs) (stop_reads _ c.in_err-count.ensures.advances))

pub returns-in_err-read_starts : goal.returns-in_err-read_starts
unfolding read_flagged context_of
returns-in_err-read_starts c =
    let name = c.in_ok-name.ensures in
    refuses (same_error c.from_residual-in_err-read_starts.result _ c.from_residual-in_err-read_starts.ensures.1) name.same_pool
    (λ cs names h. then_reads _ (name.moves.is names cs) (then_reads _ c.in_ok-count.ensures.advances (stop_reads _ (rw h c.in_err-read_starts.ensures.outcome))))

pub returns : goal.returns
returns c =
    let name = c.in_ok-name.ensures in
    record { same_pool = name.same_pool; moves = record { outcome = flagged name.moves c.in_ok-count.ensures.advances c.in_ok-read_starts.ensures.outcome } }
