-- `write_rows::Writing::write_both_items` meets its contract: the first item, and the second where there is one.
use Rattle.std.proofs.Common.{arith, eqb-true, refl, sym, ◌∙◌}
use Rattle.row_layout.specs.Laws.Layout.{second_word_low}
use Rattle.write_rows.specs.Laws.Tests.{form_test}
use Rattle.write_rows.specs.Laws.Walk.{both_emitted, one_emitted}
use Rattle.write_rows.specs.Written.{held_at}
use Rattle.write_rows.proofs.Writing.write_both_items.Goals as goal

pub overflow_add-w : goal.overflow_add-w
overflow_add-w c = omega (arith, c.second_word-w.ensures, second_word_low c.tag-tag.result)

pub returns-then-eq : goal.returns-then-eq
returns-then-eq c =
    one_emitted (held_at c.args.self.now c.args.row) _ _ c.tag-tag.ensures c.first_form-first.ensures c.word.ensures c.word-2.ensures c.write_item-next.ensures
    c.second_form-second.ensures (eqb-true _ 0 (sym (form_test 0 _ c.eq.ensures refl) ∙ c.if-eq.true))

pub returns : goal.returns
returns c =
    both_emitted (held_at c.args.self.now c.args.row) _ _ c.tag-tag.ensures c.first_form-first.ensures c.word.ensures c.word-2.ensures c.write_item-next.ensures
    c.second_form-second.ensures c.second_word-w.ensures c.word-3.ensures c.word-4.ensures c.write_item.ensures
