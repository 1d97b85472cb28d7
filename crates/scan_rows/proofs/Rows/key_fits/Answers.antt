-- `scan_rows::Rows::key_fits` meets its contract: the row is there, has a key's tag, and its words fit.
use native.Mathlib.Omega.{arith}
use Rattle.std.proofs.lemmas.Bool.Decides.{nat_tests}
use Rattle.payload.specs.Choice.{◌and◌, when◌then◌else◌}
use Rattle.row_layout.specs.Row.{row_word}
use Rattle.scan_rows.specs.Row.{key_fits}
use Rattle.scan_rows.proofs.Rows.key_fits.Goals as goal

pub returns-in_default : goal.returns-in_default
unfolding key_fits ◌and◌
returns-in_default c = grind (arith, nat_tests)

pub returns-then-is_key_tag : goal.returns-then-is_key_tag
unfolding key_fits ◌and◌ row_word when◌then◌else◌
returns-then-is_key_tag c = grind (arith, nat_tests)

pub returns-else-is_key_tag : goal.returns-else-is_key_tag
unfolding key_fits ◌and◌ row_word when◌then◌else◌
returns-else-is_key_tag c = grind (arith, nat_tests)
