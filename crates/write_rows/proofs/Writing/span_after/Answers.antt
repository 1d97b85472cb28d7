-- `write_rows::Writing::span_after` meets its contract: a row with code has a span for each of its bytes.
use Rattle.std.proofs.Common.{◌≡◌, ℕ, ap, ap₂, ◌∙◌, arith, length}
use Rattle.pool_index.specs.Strings.{bytes_at}
use Rattle.row_layout.specs.Layout.{first_form}
use Rattle.row_layout.specs.Row.{row_word}
use Rattle.write_rows.specs.Laws.Tests.{form_test, when_yes, when_no}
use Rattle.write_rows.specs.Walk.{span_after, code_length}
use Rattle.write_rows.proofs.Writing.span_after.Goals as goal

pub returns-then-eq : goal.returns-then-eq
unfolding span_after code_length
returns-then-eq c =
    let args = c.args in
    let store = args.self.now.pool.store.now in
    let word = row_word args.row.table.now args.row.number in
    let n : length c.bytes_at-code.result.now ≡ length (bytes_at store (word 1) (word 2)) = ap length (c.bytes_at-code.ensures ∙ ap₂ (bytes_at store) c.word.ensures c.word-then-eq.ensures) in
    rw (← (when_yes {A = ℕ} _ 0 (form_test 7 _ c.eq.ensures (c.first_form.ensures ∙ ap first_form c.tag.ensures)) c.if-eq.true)) (omega (arith, c.min.ensures))

pub returns : goal.returns
unfolding span_after code_length
returns c = rw (← (when_no {A = ℕ} _ 0 (form_test 7 _ c.eq.ensures (c.first_form.ensures ∙ ap first_form c.tag.ensures)) c.if-eq.false)) (omega arith)
