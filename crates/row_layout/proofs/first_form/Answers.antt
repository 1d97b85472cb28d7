-- `row_layout::first_form` meets its contract: the digits agree with the shapes at each of the 35 entries, which antt computes. Assumes nothing.
use mathlib.Core.Path.{ap, ◌∙◌}
use Rattle.payload.specs.Choice.{when◌then◌else◌}
use Rattle.payload.specs.Shapes.{Shape, shape, shapes, kinds_of}
use Rattle.row_layout.specs.Digits.{digits, entries}
use Rattle.row_layout.specs.Laws.Layout.{shape_min}
use Rattle.row_layout.specs.Layout.{first_form, number_form, item_form, first_of}
use Rattle.row_layout.proofs.Table.{agrees, at_most}
use Rattle.row_layout.proofs.first_form.Goals as goal

pub of-requires : goal.of-requires
of-requires c = at_most 7 _ _ _ _ _ c.digit-digit.ensures (unfold entries digits in tt)

pub returns : goal.returns
returns c =
    c.of.ensures ∙ agrees first_form _ _ _ _ _ c.digit-digit.ensures (unfold entries digits first_form shape shapes kinds_of number_form item_form first_of when◌then◌else◌ in tt)
    (unfold first_form in (ap (λ (s : Shape). first_of (kinds_of s)) (shape_min c.args.tag)))
