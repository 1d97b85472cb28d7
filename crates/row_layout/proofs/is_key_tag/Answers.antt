-- `row_layout::is_key_tag` meets its contract: one range of tags after the other.
use native.Mathlib.Omega.{arith}
use Rattle.std.proofs.lemmas.Bool.Decides.{nat_tests}
use Rattle.payload.specs.Choice.{◌and◌}
use Rattle.payload.specs.Shapes.{is_key_tag}
use Rattle.row_layout.proofs.is_key_tag.Goals as goal

pub returns-in_default : goal.returns-in_default
unfolding is_key_tag ◌and◌
returns-in_default c = grind (arith, nat_tests)

pub returns-in_default-2 : goal.returns-in_default-2
unfolding is_key_tag ◌and◌
returns-in_default-2 c = grind (arith, nat_tests)

pub returns-in_default-3 : goal.returns-in_default-3
unfolding is_key_tag ◌and◌
returns-in_default-3 c = grind (arith, nat_tests)

pub returns-in-1 : goal.returns-in-1
unfolding is_key_tag ◌and◌
returns-in-1 c = grind (arith, nat_tests)

pub returns-in-1-2 : goal.returns-in-1-2
unfolding is_key_tag ◌and◌
returns-in-1-2 c = grind (arith, nat_tests)

pub returns-in-1-3 : goal.returns-in-1-3
unfolding is_key_tag ◌and◌
returns-in-1-3 c = grind (arith, nat_tests)
