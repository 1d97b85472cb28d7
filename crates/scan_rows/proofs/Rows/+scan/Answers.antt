-- The functions of the scan meet their contracts: what each found, from what its callees found.
use mathlib.Core.List.{List}
use mathlib.Core.Path.{◌≡◌, refl, sym, ap, ◌∙◌}
use Prim.Native.Nat.{ℕ, ◌+◌, ◌<◌}
use denote.Bor.{Bor}
use native.Mathlib.Omega.{arith}
use Rattle.std.proofs.lemmas.Result.{err_from_is_err_and}
use Rattle.payload.specs.Laws.Pool.{and_left}
use Rattle.payload.specs.Choice.{when◌then◌else◌}
use Rattle.payload.specs.Reader.{pure}
use Rattle.payload.specs.Scan.{scan_value}
use Rattle.payload.specs.Shapes.{shape}
use Rattle.payload.specs.Trees.{nil}
use Rattle.row_layout.specs.Layout.{under_rules}
use Rattle.row_layout.specs.Laws.Row.{row_word_at}
use Rattle.row_layout.specs.Number.{rules_number}
use Rattle.row_layout.specs.Row.{row_word}
use Rattle.row_layout.specs.declared.Rules.{Rules}
use Rattle.row_layout.specs.declared.Rules.TheVariants.{Nothing}
use Rattle.row_layout.specs.declared.row.Row.{Row}
use Rattle.scan_rows.specs.Found.{Scan, Scanned}
use Rattle.scan_rows.specs.Laws.Entries.{keyed_start, keyed_deep, keyed_key_bad, keyed_next, keyed_value_bad, keyed_end}
use Rattle.scan_rows.specs.Laws.Fits.{none_low}
use Rattle.scan_rows.specs.Laws.Found.{found_count, many_start, many_stop, many_more, many_done, next_of, bad_of}
use Rattle.scan_rows.specs.Laws.Keys.{key_in}
use Rattle.scan_rows.specs.Laws.Members.{too_deep, past_rows, no_value_tag, unfit_row, value_found, chunk_unfit, chunk_found, field_unfit, field_found, no_function, function_unsound, function_found}
use Rattle.scan_rows.specs.Laws.Value.{found_under}
use Rattle.scan_rows.specs.Row.{at_row, count_at, row_count, tag_at}
use Rattle.scan_rows.specs.Under.{stay, rows_under, scan_by, scan_under, under_by}
use Rattle.scan_rows.specs.declared.Rows.{Rows}
use Rattle.scan_rows.proofs.Rows.+scan.Goals as goal

pub scan_many-loop-init : goal.scan_many-loop-init
scan_many-loop-init t c = many_start

pub scan_many-returns-in_err-at : goal.scan_many-returns-in_err-at
scan_many-returns-in_err-at t c =
    let p = err_from_is_err_and c.from_residual.result c.from_residual.ensures.1 in
    rw (p.1, p.2) (many_stop c.loop.invariant c.loop-test.true refl c.in_err-at.ensures)

pub scan_many-loop-preserved : goal.scan_many-loop-preserved
scan_many-loop-preserved t c = many_more c.loop.invariant c.loop-test.true refl c.in_ok-at.ensures

pub scan_many-returns : goal.scan_many-returns
scan_many-returns t c = many_done c.loop.invariant c.loop-test.false

pub scan_entries-loop-init : goal.scan_entries-loop-init
scan_entries-loop-init t c = keyed_start

pub scan_entries-returns-then-depth-eq0 : goal.scan_entries-returns-then-depth-eq0
scan_entries-returns-then-depth-eq0 t c =
    keyed_deep c.args.depth c.loop.invariant c.args.self.now.whole.whole c.loop-test.true c.if-depth-eq0.true

pub scan_entries-returns-then-not-is_new_key : goal.scan_entries-returns-then-not-is_new_key
scan_entries-returns-then-not-is_new_key t c =
    let loop = c.loop in
    keyed_key_bad c.args.depth loop.invariant c.args.self.now.whole.whole c.loop-test.true
    (omega (arith, c.if-depth-eq0.false)) (sym (c.if-not-is_new_key.ensures loop.invariant.its_keys loop.invariant.entries))

pub scan_entries-overflow_add-at : goal.scan_entries-overflow_add-at
scan_entries-overflow_add-at t c =
    let loop = c.loop in
    omega (
      arith,
      key_in c.args.self.now.store.now c.args.self.now.words.now loop.at
          (and_left _ _ (sym (c.if-not-is_new_key.ensures loop.invariant.its_keys loop.invariant.entries))),
    )

pub scan_entries-returns-in_err-at : goal.scan_entries-returns-in_err-at
scan_entries-returns-in_err-at t c =
    let loop = c.loop in
    let p = err_from_is_err_and c.from_residual.result c.from_residual.ensures.1 in
    rw (p.1, p.2)
    (keyed_value_bad c.args.depth loop.invariant c.loop-test.true c.requires (omega (arith, c.if-depth-eq0.false))
    (sym (c.if-not-is_new_key.ensures loop.invariant.its_keys loop.invariant.entries))
    (bad_of refl c.in_err-at.ensures))

pub scan_entries-loop-preserved : goal.scan_entries-loop-preserved
scan_entries-loop-preserved t c =
    let loop = c.loop in
    let g = next_of refl c.in_ok-at.ensures in
    keyed_next c.args.depth g.0 loop.invariant c.loop-test.true c.requires (omega (arith, c.if-depth-eq0.false))
    (sym (c.if-not-is_new_key.ensures loop.invariant.its_keys loop.invariant.entries)) g.1 g.2

pub scan_entries-returns : goal.scan_entries-returns
scan_entries-returns t c = keyed_end c.loop.invariant c.loop-test.false

pub scan_template-returns-in_err-tagged : goal.scan_template-returns-in_err-tagged
scan_template-returns-in_err-tagged t c =
    let p = err_from_is_err_and c.from_residual.result c.from_residual.ensures.1 in
    rw (p.1, p.2, c.in_err-tagged.ensures.err.0) (no_function _ _ c.args.self.now.whole _ _ _ c.in_err-tagged.ensures.err.1)

pub scan_template-returns-in_err-values : goal.scan_template-returns-in_err-values
scan_template-returns-in_err-values t c =
    let p = err_from_is_err_and c.from_residual-in_err-values.result c.from_residual-in_err-values.ensures.1 in
    rw (p.1, p.2) (function_unsound _ _ c.args.self.now.whole _ _ _ c.in_ok-tagged.ensures.ok.2 refl c.in_err-values.ensures)

pub scan_template-returns : goal.scan_template-returns
scan_template-returns t c = function_found _ _ c.args.self.now.whole _ _ _ c.in_ok-tagged.ensures.ok.2 refl c.in_ok-values.ensures c.scan_many.ensures

pub scan_chunk-returns-in_err-row : goal.scan_chunk-returns-in_err-row
scan_chunk-returns-in_err-row t c =
    let p = err_from_is_err_and c.from_residual.result c.from_residual.ensures.1 in
    rw (p.1, p.2, c.in_err-row.ensures.err.0) (chunk_unfit _ _ c.args.self.now.whole _ _ c.in_err-row.ensures.err.1)

pub scan_chunk-returns : goal.scan_chunk-returns
unfolding row_word when◌then◌else◌
scan_chunk-returns t c = let e = c.in_ok-row.ensures.ok in chunk_found _ _ c.args.self.now.whole _ _ e.2 (rw (e.0, e.1) at c.word.ensures) c.scan_many.ensures

pub scan_field-returns-in_err-head : goal.scan_field-returns-in_err-head
scan_field-returns-in_err-head t c =
    let p = err_from_is_err_and c.from_residual.result c.from_residual.ensures.1 in
    rw (p.1, p.2, c.in_err-head.ensures.err.0) (field_unfit _ _ c.args.self.now.whole _ _ c.in_err-head.ensures.err.1)

pub scan_field-returns : goal.scan_field-returns
scan_field-returns t c = field_found _ _ c.args.self.now.whole _ _ c.in_ok-head.ensures.ok.2 c.scan_many.ensures

pub scan_value-returns-then-depth-eq0 : goal.scan_value-returns-then-depth-eq0
scan_value-returns-then-depth-eq0 t c = too_deep _ _ c.args.self.now.whole _ _ c.if-depth-eq0.true

pub scan_value-returns-in_default : goal.scan_value-returns-in_default
scan_value-returns-in_default t c = past_rows _ _ c.args.self.now.whole _ _ c.in_default.ensures.none

-- a row of the table is one of those that the table has
row_in : {words : Bor (List ℕ)} {i : ℕ} (row : Row) → row.table ≡ words → row.number ≡ i → i < row_count words.now
row_in row e f = rw (← e, ← f) (omega (arith, row.inside))

pub scan_value-returns-then-tag-gt-LAST : goal.scan_value-returns-then-tag-gt-LAST
unfolding row_word when◌then◌else◌
scan_value-returns-then-tag-gt-LAST t c =
    let e = c.in-Some.ensures.some in
    no_value_tag _ _ c.args.self.now.whole _ (row_in c.in-Some.row e.0 e.1) _ (omega (arith, c.if-depth-eq0.false)) (rw (e.0, e.1) at c.tag.ensures) c.if-tag-gt-LAST.true

pub scan_value-returns-then-not-row_fits : goal.scan_value-returns-then-not-row_fits
scan_value-returns-then-not-row_fits t c =
    let e = c.in-Some.ensures.some in
    unfit_row _ _ c.args.self.now.whole _ (row_in c.in-Some.row e.0 e.1) _ (omega (arith, c.if-depth-eq0.false)) (rw (e.0, e.1) at (sym c.if-not-row_fits.ensures))

pub scan_value-returns : goal.scan_value-returns
unfolding row_word when◌then◌else◌
scan_value-returns t c =
    let e = c.in-Some.ensures.some in
    value_found _ _ c.args.self.now.whole _ (row_in c.in-Some.row e.0 e.1) _ (omega (arith, c.if-depth-eq0.false)) (rw (e.0, e.1) at c.tag.ensures)
    c.if-tag-gt-LAST.false (rw (e.0, e.1) at (sym c.if-not-row_fits.ensures)) (rw (e.0, e.1) at c.scan_under.ensures)

-- what is under a row, by the rules that its tag has
ruled : {r : Scan} {x y : Rules} {t n : ℕ} (rows : Rows) (row : Row) (d : ℕ) → x ≡ y → rules_number x ≡ under_rules t → t ≡ row_word row.table.now row.number 0 → n ≡ count_at row.table.now row.number
    → Scanned rows.words.now (under_by (rules_number y) n) (row.number + 1) r (scan_by rows.store.now (scan_value rows.store.now d) (rules_number y) n (at_row rows.words.now (row.number + 1)))
    → Scanned rows.words.now (rows_under row.table.now row.number) (row.number + 1) r
    (scan_under rows.store.now (scan_value rows.store.now d) (shape (tag_at row.table.now row.number)) (count_at row.table.now row.number) (at_row rows.words.now (row.number + 1)))
ruled {y = y} rows row d e er et en s =
    found_under rows.store.now rows.words.now row.table.now row.number (scan_value rows.store.now d) (rules_number y)
    (sym (sym (ap rules_number e) ∙ er ∙ ap under_rules (et ∙ row_word_at row.table.now row.number 0 (omega arith)))) en s

pub scan_under-returns-then-tag-le-STRING : goal.scan_under-returns-then-tag-le-STRING
unfolding under_by scan_by when◌then◌else◌ pure
scan_under-returns-then-tag-le-STRING t c =
    ruled {x = Nothing} {y = Nothing} c.args.self.now c.args.row c.args.depth refl (sym (none_low c.tag-tag.result (omega arith))) c.tag-tag.ensures refl (record { found = (nil, refl, stay) })

pub scan_under-returns-in-Nothing : goal.scan_under-returns-in-Nothing
unfolding under_by scan_by pure
scan_under-returns-in-Nothing t c =
    ruled c.args.self.now c.args.row c.args.depth c.in-Nothing.is c.under_rules.ensures c.tag-tag.ensures refl (record { found = (nil, refl, stay) })

pub scan_under-returns-in-OneValue : goal.scan_under-returns-in-OneValue
unfolding under_by scan_by
scan_under-returns-in-OneValue t c = ruled c.args.self.now c.args.row c.args.depth c.in-OneValue.is c.under_rules.ensures c.tag-tag.ensures refl c.scan_many.ensures

pub scan_under-returns-in-Values : goal.scan_under-returns-in-Values
unfolding under_by scan_by
scan_under-returns-in-Values t c = ruled c.args.self.now c.args.row c.args.depth c.in-Values.is c.under_rules.ensures c.tag-tag.ensures c.count_of.ensures c.scan_many-in-Values.ensures

pub scan_under-returns-in-Keys : goal.scan_under-returns-in-Keys
unfolding under_by scan_by when◌then◌else◌
scan_under-returns-in-Keys t c =
    ruled c.args.self.now c.args.row c.args.depth c.in-Keys.is c.under_rules.ensures c.tag-tag.ensures c.count_of-in-Keys.ensures (found_count (omega arith) c.scan_entries.ensures)

pub scan_under-returns-in-Pairs : goal.scan_under-returns-in-Pairs
unfolding under_by scan_by when◌then◌else◌
scan_under-returns-in-Pairs t c =
    ruled c.args.self.now c.args.row c.args.depth c.in-Pairs.is c.under_rules.ensures c.tag-tag.ensures c.count_of-in-Pairs.ensures c.scan_entries-in-Pairs.ensures

pub scan_under-returns-in-Chunk : goal.scan_under-returns-in-Chunk
unfolding under_by scan_by
scan_under-returns-in-Chunk t c = ruled c.args.self.now c.args.row c.args.depth c.in-Chunk.is c.under_rules.ensures c.tag-tag.ensures refl c.scan_many-in-Chunk.ensures

pub scan_under-returns-in-Fields : goal.scan_under-returns-in-Fields
unfolding under_by scan_by
scan_under-returns-in-Fields t c =
    ruled c.args.self.now c.args.row c.args.depth c.in-Fields.is c.under_rules.ensures c.tag-tag.ensures c.count_of-in-Fields.ensures c.scan_many-in-Fields.ensures

pub scan_under-returns-in-Template : goal.scan_under-returns-in-Template
unfolding under_by scan_by
scan_under-returns-in-Template t c =
    ruled c.args.self.now c.args.row c.args.depth c.in-Template.is c.under_rules.ensures c.tag-tag.ensures c.count_of-in-Template.ensures c.scan_template.ensures
