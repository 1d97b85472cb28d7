-- `row_layout::under_form` meets its contract: the digits agree with the shapes at each of the 35 entries, which antt computes. Assumes nothing.
use mathlib.Core.Path.{ap, ◌∙◌}
use Rattle.payload.specs.Choice.{when◌then◌else◌}
use Rattle.payload.specs.Shapes.{Shape, shape, shapes}
use Rattle.row_layout.specs.Digits.{digits, entries}
use Rattle.row_layout.specs.Laws.Layout.{shape_min}
use Rattle.row_layout.specs.Layout.{under_form, kids_form, shape_form}
use Rattle.row_layout.proofs.Table.{agrees, at_most}
use Rattle.row_layout.proofs.under_form.Goals as goal

pub of-requires : goal.of-requires
of-requires c = at_most 4 _ _ _ _ _ c.digit-digit.ensures (unfold entries digits in tt)

pub returns : goal.returns
returns c =
    c.of.ensures ∙ agrees under_form _ _ _ _ _ c.digit-digit.ensures (unfold entries digits under_form shape shapes kids_form shape_form when◌then◌else◌ in tt)
    (unfold under_form in (ap (λ (s : Shape). shape_form s) (shape_min c.args.tag)))
