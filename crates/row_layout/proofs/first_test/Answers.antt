-- `row_layout::first_test` meets its contract: the digits agree with the shapes at each of the 35 entries, which antt computes. Assumes nothing.
use mathlib.Core.Path.{ap, ◌∙◌}
use Rattle.payload.specs.Choice.{when◌then◌else◌}
use Rattle.payload.specs.Shapes.{Shape, shape, shapes, kinds_of}
use Rattle.row_layout.specs.Digits.{digits, entries}
use Rattle.row_layout.specs.Laws.Layout.{shape_min}
use Rattle.row_layout.specs.Layout.{first_test, number_test, item_test, first_test_of}
use Rattle.row_layout.proofs.Table.{agrees, at_most}
use Rattle.row_layout.proofs.first_test.Goals as goal

pub of-requires : goal.of-requires
of-requires c = at_most 12 _ _ _ _ _ c.digit-digit.ensures (unfold entries digits in tt)

pub returns : goal.returns
returns c =
    c.of.ensures ∙ agrees first_test _ _ _ _ _ c.digit-digit.ensures (unfold entries digits first_test shape shapes kinds_of number_test item_test first_test_of when◌then◌else◌ in tt)
    (unfold first_test in (ap (λ (s : Shape). first_test_of (kinds_of s)) (shape_min c.args.tag)))
