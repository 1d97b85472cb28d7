-- The readers of values and chunks meet their contracts, each by the law of its shape.
use Rattle.std.specs.Prelude.{[], ◌∷◌, refl}
use Rattle.std.proofs.Common.{arith, ap, ◌∙◌}
use Rattle.payload.specs.Reading.{read_value}
use Rattle.payload.specs.Shapes.{ItemKind, one_value, values}
use Rattle.refusal.specs.Laws.Errors.{same_error}
use Rattle.read_values.specs.Does.{Loan}
use Rattle.read_values.specs.Laws.Did.{did_same}
use Rattle.read_values.specs.Laws.Does.{did_from, does_as, does_refuse}
use Rattle.read_values.proofs.Classes.{chunk_follows, closure_tag, field_follows, fields_follow, function_count, keys_follow, pairs_follow, values_follow}
use Rattle.read_values.proofs.EntryLoop.{entries_start, entries_stop, entries_half, entries_bad, entries_next, entries_end}
use Rattle.read_values.proofs.Loop.{does_one, sofar_next, sofar_end, sofar_stop}
use Rattle.read_values.proofs.Tests.{field_row, row_full, value_deep, value_end, value_full, value_row, value_shape, value_tag_bad}
use Rattle.read_values.proofs.Value.{code_read, head_over, head_read, no_code_read, no_head_over, no_head_read, read_on, some_words}
use Rattle.read_values.proofs.Value.{captures_refused, code_refused, count_refused, does_chunk, does_closure, does_leaf, does_row, row_refused, template_other, template_refused}
use Rattle.read_values.proofs.values.Decoder.+values.Goals as goal

---- a chunk

pub read_chunk-returns-then-self : goal.read_chunk-returns-then-self
read_chunk-returns-then-self t c =
    let s = c.args.self.now in rw c.at.ensures (does_refuse (row_full s (λ e. read_value e c.args.left) 32 (ItemKind.code ∷ []) values c.if-self.true))

pub read_chunk-returns-in_err-code : goal.read_chunk-returns-in_err-code
read_chunk-returns-in_err-code t c =
    let s = c.args.self.now in
    rw (same_error c.from_residual.result _ c.from_residual.ensures.1)
    (code_refused s (λ e. read_value e c.args.left) c.if-self.false refl (no_code_read s.source c.new-cursor.ensures c.in_err-code.ensures))

pub read_chunk-returns-in_err-count : goal.read_chunk-returns-in_err-count
read_chunk-returns-in_err-count t c =
    let s = c.args.self.now in
    let code = c.in_ok-code.ensures in
    rw (same_error c.from_residual-in_err-count.result _ c.from_residual-in_err-count.ensures.1)
    (count_refused s (λ e. read_value e c.args.left) c.if-self.false (code_read s.source c.new-cursor.ensures code) refl
    (read_on s.source (code.payload ∙ c.new-cursor.ensures.0) c.in_err-count.ensures.advances))

pub read_chunk-returns : goal.read_chunk-returns
read_chunk-returns t c =
    let s = c.args.self.now in
    let code = c.in_ok-code.ensures in
    let stored = c.store_row.ensures in
    does_chunk s (λ e. read_value e c.args.left) c.if-self.false (code_read s.source c.new-cursor.ensures code)
    (read_on s.source (code.payload ∙ c.new-cursor.ensures.0) c.in_ok-count.ensures.advances) stored.stored stored.same_spans (c.read_values.ensures.same ∙ stored.same)
    (did_from s stored.same c.read_values.ensures)

---- a closure

pub read_closure-returns-in_err-read_value : goal.read_closure-returns-in_err-read_value
read_closure-returns-in_err-read_value t c =
    rw (same_error c.from_residual.result _ c.from_residual.ensures.1)
    (template_refused c.args.self.now (λ e. read_value e c.args.left) c.in_err-read_value.ensures.same c.in_err-read_value.ensures.did.out)

pub read_closure-bounds-self-own : goal.read_closure-bounds-self-own
read_closure-bounds-self-own t c =
    let g = c.in_ok-read_value.ensures.did.out in
    let m = c.read_value.new.self in
    omega (arith, g.1.size, g.1.used, some_words g.0, m.fits)

pub read_closure-returns-then-self-own-ne-FUNCTION : goal.read_closure-returns-then-self-own-ne-FUNCTION
read_closure-returns-then-self-own-ne-FUNCTION t c =
    let d = c.in_ok-read_value.ensures in
    rw c.at.ensures (template_other c.args.self.now c.read_value.new.self (λ e. read_value e c.args.left) d.same d.did.out.1 c.if-self-own-ne-FUNCTION.true)

pub read_closure-returns-in_err-head : goal.read_closure-returns-in_err-head
read_closure-returns-in_err-head t c =
    let s = c.args.self.now in
    let d = c.in_ok-read_value.ensures in
    rw (same_error c.from_residual-in_err-head.result _ c.from_residual-in_err-head.ensures.1)
    (captures_refused s c.read_value.new.self (λ e. read_value e c.args.left) d.same d.did.out.1 c.if-self-own-ne-FUNCTION.false
    (no_head_read s.source (c.new-cursor.ensures.0 ∙ ap (λ (l : Loan). l.source.payload) d.same, c.new-cursor.ensures.1)
    (c.in_err-head.ensures s.source.names.now s.source.pool.now)))

pub read_closure-invariant_of-self-2 : goal.read_closure-invariant_of-self-2
read_closure-invariant_of-self-2 t c =
    let m = c.read_value.new.self in
    let head = head_read m.source c.new-cursor.ensures (c.in_ok-head.ensures m.source.names.now m.source.pool.now) in
    record { fits = omega (arith, m.fits, head.is.inside, c.write_row.auto) }

pub read_closure-returns : goal.read_closure-returns
read_closure-returns t c =
    let s = c.args.self.now in
    let d = c.in_ok-read_value.ensures in
    does_closure s c.read_value.new.self (λ e. read_value e c.args.left) d.same d.did.out.1 c.if-self-own-ne-FUNCTION.false
    (head_read s.source (c.new-cursor.ensures.0 ∙ ap (λ (l : Loan). l.source.payload) d.same, c.new-cursor.ensures.1)
    (c.in_ok-head.ensures s.source.names.now s.source.pool.now)) c.write_row.ensures (c.read_values.ensures.same ∙ d.same)
    (did_from s d.same c.read_values.ensures)

---- the entries of a set or a map

pub read_entries-loop-k-init : goal.read_entries-loop-k-init
read_entries-loop-k-init t c = entries_start

pub read_entries-returns-in_err-read_value : goal.read_entries-returns-in_err-read_value
read_entries-returns-in_err-read_value t c =
    rw (same_error c.from_residual.result _ c.from_residual.ensures.1)
    (entries_stop c.args.left c.loop-k.invariant c.loop-k-test.true c.in_err-read_value.ensures)

pub read_entries-returns-in_err-read_values : goal.read_entries-returns-in_err-read_values
read_entries-returns-in_err-read_values t c =
    rw (same_error c.from_residual-in_err-read_values.result _ c.from_residual-in_err-read_values.ensures.1)
    (entries_half c.args.left c.loop-k.invariant c.loop-k-test.true c.in_ok-read_value.ensures c.in_err-read_values.ensures)

pub read_entries-test_key-requires : goal.read_entries-test_key-requires
read_entries-test_key-requires t c =
    let g = c.in_ok-read_value.ensures.did.out in
    let f = c.in_ok-read_values.ensures.did.out in
    omega (arith, g.1.size, f.1.size, some_words g.0, c.loop-k.invariant.size, c.requires)

pub read_entries-returns-in-Err : goal.read_entries-returns-in-Err
read_entries-returns-in-Err t c =
    rw c.at.ensures
    (entries_bad c.args.left c.loop-k.invariant c.loop-k-test.true c.in_ok-read_value.ensures c.in_ok-read_values.ensures c.in-Err.ensures c.in-Err.reason refl)

pub read_entries-loop-k-preserved : goal.read_entries-loop-k-preserved
read_entries-loop-k-preserved t c =
    entries_next c.args.left c.loop-k.invariant c.loop-k-test.true c.in_ok-read_value.ensures c.in_ok-read_values.ensures c.in_default.ensures refl

pub read_entries-returns : goal.read_entries-returns
read_entries-returns t c = entries_end c.args.left c.loop-k.invariant c.loop-k-test.false

---- a field, and the fields of a record

pub read_field-returns-then-self : goal.read_field-returns-then-self
read_field-returns-then-self t c =
    let s = c.args.self.now in rw c.at.ensures (does_refuse (row_full s (λ e. read_value e c.args.left) 33 (ItemKind.string ∷ []) one_value c.if-self.true))

pub read_field-returns-in_err-head : goal.read_field-returns-in_err-head
read_field-returns-in_err-head t c =
    let s = c.args.self.now in
    rw (same_error c.from_residual.result _ c.from_residual.ensures.1)
    (row_refused (field_row s (λ e. read_value e c.args.left) c.if-self.false)
    (no_head_over s.source c.items_at-items.ensures (c.in_err-head.ensures s.source.names.now)))

pub read_field-store_row-requires-clause-inside : goal.read_field-store_row-requires-clause-inside
read_field-store_row-requires-clause-inside t c =
    let s = c.args.self.now in (head_over s.source c.items_at-items.ensures (c.in_ok-head.ensures s.source.names.now)).is.inside

pub read_field-returns : goal.read_field-returns
read_field-returns t c =
    let s = c.args.self.now in
    does_row (field_row s (λ e. read_value e c.args.left) c.if-self.false)
    (head_over s.source c.items_at-items.ensures (c.in_ok-head.ensures s.source.names.now)) c.store_row.ensures
    (does_as (field_follows _ _ _ _) c.read_values.ensures)

pub read_fields-returns-in_err-read_field : goal.read_fields-returns-in_err-read_field
read_fields-returns-in_err-read_field t c =
    rw (same_error c.from_residual.result _ c.from_residual.ensures.1) (sofar_stop c.loop-k.invariant c.loop-k-test.true c.in_err-read_field.ensures)

pub read_fields-loop-k-preserved : goal.read_fields-loop-k-preserved
read_fields-loop-k-preserved t c = sofar_next c.loop-k.invariant c.loop-k-test.true c.in_ok-read_field.ensures

pub read_fields-returns : goal.read_fields-returns
read_fields-returns t c = sofar_end c.loop-k.invariant c.loop-k-test.false

---- what stands under a row

pub read_under-returns-in-Function : goal.read_under-returns-in-Function
read_under-returns-in-Function t c = does_as (chunk_follows _ _ c.args.class _ c.in-Function.is (c.requires c.in-Function.is) _) (does_one c.read_chunk.ensures)

pub read_under-returns-in-Keys : goal.read_under-returns-in-Keys
read_under-returns-in-Keys t c = does_as (keys_follow _ _ c.args.class _ c.in-Keys.is _) c.read_entries.ensures

pub read_under-returns-in-Pairs : goal.read_under-returns-in-Pairs
read_under-returns-in-Pairs t c = does_as (pairs_follow _ _ c.args.class _ c.in-Pairs.is _) c.read_entries-in-Pairs.ensures

pub read_under-returns-in-Record : goal.read_under-returns-in-Record
read_under-returns-in-Record t c = does_as (fields_follow _ _ c.args.class _ c.in-Record.is _) c.read_fields.ensures

pub read_under-returns-in_default : goal.read_under-returns-in_default
read_under-returns-in_default t c =
    let k = c.in_default in does_as (values_follow _ _ _ c.args.class k.not-Function k.not-Keys k.not-Pairs k.not-Record _) c.read_values.ensures

---- a value

pub read_value-returns-then-self-at : goal.read_value-returns-then-self-at
read_value-returns-then-self-at t c = let s = c.args.self.now in rw c.at.ensures (does_refuse (value_end s c.args.left c.if-self-at.true))

pub read_value-returns-then-tag-gt-LAST : goal.read_value-returns-then-tag-gt-LAST
read_value-returns-then-tag-gt-LAST t c =
    let s = c.args.self.now in
    rw c.at-then-tag-gt-LAST.ensures (does_refuse (value_tag_bad s c.if-self-at.false c.args.left c.if-tag-gt-LAST.true))

pub read_value-returns-then-left-eq0 : goal.read_value-returns-then-left-eq0
read_value-returns-then-left-eq0 t c =
    let s = c.args.self.now in
    rw c.at-then-left-eq0.ensures (does_refuse (value_deep s c.if-self-at.false c.if-tag-gt-LAST.false c.args.left c.if-left-eq0.true))

pub read_value-returns-then-self : goal.read_value-returns-then-self
read_value-returns-then-self t c =
    let s = c.args.self.now in
    rw c.at-then-self.ensures
    (does_refuse (value_full s c.if-self-at.false c.if-tag-gt-LAST.false c.args.left c.if-left-eq0.false c.if-self.true))

pub read_value-returns-in-Closure : goal.read_value-returns-in-Closure
read_value-returns-in-Closure t c =
    let s = c.args.self.now in
    let closure = c.read_closure.ensures in
    record {
      same = closure.same;
      did = did_same (value_shape s c.if-self-at.false c.if-tag-gt-LAST.false c.args.left c.if-left-eq0.false c.if-self.false refl)
          (rw (closure_tag _ c.if-tag-gt-LAST.false c.in-Closure.ensures) closure.did);
    }

pub read_value-returns-in_err-head : goal.read_value-returns-in_err-head
read_value-returns-in_err-head t c =
    let s = c.args.self.now in
    rw (same_error c.from_residual.result _ c.from_residual.ensures.1)
    (row_refused
    (value_row s c.args.left c.class_of-class.result c.if-self-at.false c.if-tag-gt-LAST.false c.if-left-eq0.false c.if-self.false c.class_of-class.ensures
    c.in_default.not-Closure) (no_head_over s.source c.items_at-items.ensures c.in_err-head.ensures))

pub read_value-store_row-requires-clause-inside : goal.read_value-store_row-requires-clause-inside
read_value-store_row-requires-clause-inside t c = (head_over c.args.self.now.source c.items_at-items.ensures c.in_ok-head.ensures).is.inside

pub read_value-returns-then-head-eq0 : goal.read_value-returns-then-head-eq0
read_value-returns-then-head-eq0 t c =
    let s = c.args.self.now in
    does_leaf
    (value_row s c.args.left c.class_of-class.result c.if-self-at.false c.if-tag-gt-LAST.false c.if-left-eq0.false c.if-self.false c.class_of-class.ensures
    c.in_default.not-Closure) (head_over s.source c.items_at-items.ensures c.in_ok-head.ensures) c.store_row.ensures c.if-head-eq0.true

pub read_value-read_under-requires : goal.read_value-read_under-requires
read_value-read_under-requires t c =
    let head = head_over c.args.self.now.source c.items_at-items.ensures c.in_ok-head.ensures in
    (omega (arith, c.decreases, c.if-left-eq0.false), function_count _ _ c.class_of-class.result head.head.told)

pub read_value-returns : goal.read_value-returns
read_value-returns t c =
    let s = c.args.self.now in
    does_row
    (value_row s c.args.left c.class_of-class.result c.if-self-at.false c.if-tag-gt-LAST.false c.if-left-eq0.false c.if-self.false c.class_of-class.ensures
    c.in_default.not-Closure) (head_over s.source c.items_at-items.ensures c.in_ok-head.ensures) c.store_row.ensures c.read_under.ensures

---- values one after another

pub read_values-returns-in_err-read_value : goal.read_values-returns-in_err-read_value
read_values-returns-in_err-read_value t c =
    rw (same_error c.from_residual.result _ c.from_residual.ensures.1) (sofar_stop c.loop-k.invariant c.loop-k-test.true c.in_err-read_value.ensures)

pub read_values-loop-k-preserved : goal.read_values-loop-k-preserved
read_values-loop-k-preserved t c = sofar_next c.loop-k.invariant c.loop-k-test.true c.in_ok-read_value.ensures

pub read_values-returns : goal.read_values-returns
read_values-returns t c = sofar_end c.loop-k.invariant c.loop-k-test.false
