-- `row_layout::second_word` meets its contract: the digits agree with the shapes at each of the 35 entries, which antt computes. Assumes nothing.
use mathlib.Core.Path.{ap}
use Rattle.payload.specs.Choice.{when◌then◌else◌}
use Rattle.payload.specs.Rows.{kind_width}
use Rattle.payload.specs.Shapes.{Shape, shape, shapes, kinds_of}
use Rattle.row_layout.specs.Digits.{digits, entries}
use Rattle.row_layout.specs.Laws.Layout.{shape_min}
use Rattle.row_layout.specs.Layout.{second_word, after_first}
use Rattle.row_layout.proofs.Table.{agrees}
use Rattle.row_layout.proofs.second_word.Goals as goal

pub returns : goal.returns
returns c =
    agrees second_word _ _ _ _ _ c.digit.ensures (unfold entries digits second_word shape shapes kinds_of after_first kind_width when◌then◌else◌ in tt)
    (unfold second_word in (ap (λ (s : Shape). after_first (kinds_of s)) (shape_min c.args.tag)))
