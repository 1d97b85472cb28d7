-- `scan_rows::scan_tables` meets its contract: the outer chunk first, then the rows after it, the spans, the line index.
use mathlib.Core.Path.{refl, sym}
use native.Mathlib.Omega.{arith}
use Rattle.std.proofs.lemmas.Result.{err_from_is_err_and}
use Rattle.payload.specs.Held.{tables_in}
use Rattle.scan_rows.specs.Laws.Script.{answer_bad_row, answer_rows_left, answer_spans, answer_line_lem, answer_sound}
use Rattle.scan_rows.proofs.scan_tables.Goals as goal

pub returns-in_err-end : goal.returns-in_err-end
returns-in_err-end c =
    let p = err_from_is_err_and c.from_residual.result c.from_residual.ensures.1 in
    rw (p.1, p.2) (answer_bad_row (tables_in c.args.tables) c.in_err-end.ensures refl)

pub returns-then-end-count : goal.returns-then-end-count
returns-then-end-count c =
    answer_rows_left (tables_in c.args.tables) c.in_ok-end.ensures refl (omega (arith, c.count.ensures, c.if-end-count.true))

pub returns-then-not-spans_fit : goal.returns-then-not-spans_fit
returns-then-not-spans_fit c =
    answer_spans (tables_in c.args.tables) c.in_ok-end.ensures refl (omega (arith, c.count.ensures, c.if-end-count.false)) c.requires.whole_rows.whole c.requires.spans_len
    (sym c.if-not-spans_fit.ensures)

pub returns-then-not-line_sound : goal.returns-then-not-line_sound
returns-then-not-line_sound c =
    answer_line_lem (tables_in c.args.tables) c.in_ok-end.ensures refl (omega (arith, c.count.ensures, c.if-end-count.false)) c.requires.whole_rows.whole c.requires.spans_len
    (sym c.if-not-spans_fit.ensures) (sym c.if-not-line_sound.ensures)

pub returns : goal.returns
returns c =
    answer_sound (tables_in c.args.tables) c.in_ok-end.ensures refl (omega (arith, c.count.ensures, c.if-end-count.false)) c.requires.whole_rows.whole c.requires.spans_len
    (sym c.if-not-spans_fit.ensures) (sym c.if-not-line_sound.ensures)
