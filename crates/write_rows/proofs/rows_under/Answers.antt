-- `write_rows::rows_under` meets its contract: by what is under the row.
use Rattle.std.proofs.Common.{ℕ, ◌∙◌, ap, inl, inr, min}
use Rattle.payload.specs.Choice.{when◌then◌else◌}
use Rattle.row_layout.specs.Layout.{under_form}
use Rattle.write_rows.specs.Laws.Tests.{count_is}
use Rattle.write_rows.specs.Walk.{row_count, rows_under}
use Rattle.write_rows.proofs.rows_under.Goals as goal

pub returns-in-Nothing : goal.returns-in-Nothing
unfolding rows_under when◌then◌else◌
returns-in-Nothing c = rw (← (c.under_form.ensures ∙ ap under_form c.tag-tag.ensures), c.in-Nothing.is)

pub returns-in-OneRow : goal.returns-in-OneRow
unfolding rows_under when◌then◌else◌
returns-in-OneRow c = rw (← (c.under_form.ensures ∙ ap under_form c.tag-tag.ensures), c.in-OneRow.is)

pub returns-in-Counted : goal.returns-in-Counted
unfolding rows_under when◌then◌else◌
returns-in-Counted c =
    let rows = c.args.row.table.now in
    let count = c.min-count.ensures ∙ ap (λ (w : ℕ). min w (row_count rows)) (count_is rows c.args.row.number c.word.ensures c.count_word.ensures c.tag-tag.ensures) in
    rw (← (c.under_form.ensures ∙ ap under_form c.tag-tag.ensures)) (elim c.in-Counted.is [ inl e ↦ rw e count | inr e ↦ rw e count ])

pub returns-in-CountedPairs : goal.returns-in-CountedPairs
unfolding rows_under when◌then◌else◌
returns-in-CountedPairs c =
    rw (
      ← (c.under_form.ensures ∙ ap under_form c.tag-tag.ensures),
      c.in-CountedPairs.is,
      c.min-count.ensures,
      count_is c.args.row.table.now c.args.row.number c.word.ensures c.count_word.ensures c.tag-tag.ensures,
    )
