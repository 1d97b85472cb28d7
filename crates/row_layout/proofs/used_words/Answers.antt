-- `row_layout::used_words` meets its contract: the digits agree with the shapes at each of the 35 entries, which antt computes. Assumes nothing.
use mathlib.Core.Path.{ap}
use Prim.Native.Nat.{suc, ◌+◌}
use lib.ListN.{length}
use Rattle.payload.specs.Choice.{when◌then◌else◌}
use Rattle.payload.specs.Rows.{kind_width, kinds_width, count_words, kids_count_words}
use Rattle.payload.specs.Shapes.{Shape, shape, shapes, kinds_of}
use Rattle.row_layout.specs.Digits.{digits, entries}
use Rattle.row_layout.specs.Laws.Layout.{shape_min}
use Rattle.row_layout.specs.Layout.{used_words}
use Rattle.row_layout.proofs.Table.{agrees}
use Rattle.row_layout.proofs.used_words.Goals as goal

pub returns : goal.returns
returns c =
    agrees used_words _ _ _ _ _ c.digit.ensures
    (unfold entries digits used_words shape shapes kinds_of kind_width kinds_width count_words kids_count_words when◌then◌else◌ in tt)
    (unfold used_words in (ap (λ (s : Shape). suc (kinds_width (kinds_of s) + length (count_words s 0))) (shape_min c.args.tag)))
