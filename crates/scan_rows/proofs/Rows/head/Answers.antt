-- `scan_rows::Rows::head` meets its contract: the tag first, then the words.
use mathlib.Core.Path.{refl, sym}
use Rattle.std.proofs.lemmas.Result.{err_from_is_err_and}
use Rattle.payload.specs.Choice.{◌and◌}
use Rattle.scan_rows.specs.Row.{head_fits}
use Rattle.scan_rows.proofs.Rows.head.Goals as goal

pub returns-in_err-row-clause-err : goal.returns-in_err-row-clause-err
unfolding head_fits ◌and◌
returns-in_err-row-clause-err c =
    let p = err_from_is_err_and c.from_residual.result c.from_residual.ensures.1 in
    rw (p.1, p.2) (c.in_err-row.ensures.err.0, rw c.in_err-row.ensures.err.1)

pub returns-then-not-row_fits-clause-err : goal.returns-then-not-row_fits-clause-err
unfolding head_fits ◌and◌
returns-then-not-row_fits-clause-err c = let e = c.in_ok-row.ensures.ok in (refl, rw (e.2, ← e.0, ← e.1, sym c.if-not-row_fits.ensures))

pub returns-clause-ok : goal.returns-clause-ok
unfolding head_fits ◌and◌
returns-clause-ok c = let e = c.in_ok-row.ensures.ok in (e.0, e.1, rw (e.2, ← e.0, ← e.1, sym c.if-not-row_fits.ensures))
