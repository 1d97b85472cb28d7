-- `row_layout::under_rules` meets its contract: the digits agree with the shapes at each of the 35 entries, which antt computes. Assumes nothing.
use mathlib.Core.Path.{ap, ◌∙◌}
use Rattle.payload.specs.Choice.{when◌then◌else◌}
use Rattle.payload.specs.Shapes.{Shape, shape, shapes}
use Rattle.row_layout.specs.Digits.{digits, entries}
use Rattle.row_layout.specs.Laws.Layout.{shape_min}
use Rattle.row_layout.specs.Layout.{under_rules, kids_rules, shape_rules}
use Rattle.row_layout.proofs.Table.{agrees, at_most}
use Rattle.row_layout.proofs.under_rules.Goals as goal

pub of-requires : goal.of-requires
of-requires c = at_most 7 _ _ _ _ _ c.digit-digit.ensures (unfold entries digits in tt)

pub returns : goal.returns
returns c =
    c.of.ensures ∙ agrees under_rules _ _ _ _ _ c.digit-digit.ensures (unfold entries digits under_rules shape shapes kids_rules shape_rules when◌then◌else◌ in tt)
    (unfold under_rules in (ap (λ (s : Shape). shape_rules s) (shape_min c.args.tag)))
