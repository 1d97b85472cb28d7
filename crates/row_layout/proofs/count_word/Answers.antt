-- `row_layout::count_word` meets its contract: the digits agree with the shapes at each of the 35 entries, which antt computes. Assumes nothing.
use mathlib.Core.Path.{ap}
use Prim.Native.Nat.{◌+◌}
use Rattle.payload.specs.Choice.{when◌then◌else◌}
use Rattle.payload.specs.Rows.{kind_width, kinds_width}
use Rattle.payload.specs.Shapes.{Shape, shape, shapes, kinds_of}
use Rattle.row_layout.specs.Digits.{digits, entries}
use Rattle.row_layout.specs.Laws.Layout.{shape_min}
use Rattle.row_layout.specs.Layout.{count_word}
use Rattle.row_layout.proofs.Table.{agrees}
use Rattle.row_layout.proofs.count_word.Goals as goal

pub returns : goal.returns
returns c =
    agrees count_word _ _ _ _ _ c.digit.ensures (unfold entries digits count_word shape shapes kinds_of kind_width kinds_width when◌then◌else◌ in tt)
    (unfold count_word in (ap (λ (s : Shape). 1 + kinds_width (kinds_of s)) (shape_min c.args.tag)))
