-- `row_layout::second_form` meets its contract: the digits agree with the shapes at each of the 35 entries, which antt computes. Assumes nothing.
use mathlib.Core.Path.{ap, ◌∙◌}
use Rattle.payload.specs.Choice.{when◌then◌else◌}
use Rattle.payload.specs.Shapes.{Shape, shape, shapes, kinds_of}
use Rattle.row_layout.specs.Digits.{digits, entries}
use Rattle.row_layout.specs.Laws.Layout.{shape_min}
use Rattle.row_layout.specs.Layout.{second_form, number_form, item_form, second_of}
use Rattle.row_layout.proofs.Table.{agrees, at_most}
use Rattle.row_layout.proofs.second_form.Goals as goal

pub of-requires : goal.of-requires
of-requires c = at_most 7 _ _ _ _ _ c.digit-digit.ensures (unfold entries digits in tt)

pub returns : goal.returns
returns c =
    c.of.ensures ∙ agrees second_form _ _ _ _ _ c.digit-digit.ensures (unfold entries digits second_form shape shapes kinds_of number_form item_form second_of when◌then◌else◌ in tt)
    (unfold second_form in (ap (λ (s : Shape). second_of (kinds_of s)) (shape_min c.args.tag)))
