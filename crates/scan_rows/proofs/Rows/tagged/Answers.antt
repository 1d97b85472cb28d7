-- `scan_rows::Rows::tagged` meets its contract: the row is there, and its first word is the tag.
use native.Mathlib.Omega.{arith}
use mathlib.Core.Path.{refl}
use borrow.Author.Tests.{le-ltb}
use Rattle.std.proofs.lemmas.Bool.Decides.{nat_tests}
use Rattle.payload.specs.Choice.{◌and◌, when◌then◌else◌}
use Rattle.row_layout.specs.Row.{row_word}
use Rattle.scan_rows.specs.Row.{is_tagged}
use Rattle.scan_rows.proofs.Rows.tagged.Goals as goal

pub returns-in_default-clause-err : goal.returns-in_default-clause-err
unfolding is_tagged ◌and◌
returns-in_default-clause-err c = (refl, rw (le-ltb _ _ c.in_default.ensures.none))

pub returns-then-tag-clause-err : goal.returns-then-tag-clause-err
unfolding is_tagged ◌and◌ row_word when◌then◌else◌
returns-then-tag-clause-err c = let e = c.in-Some.ensures.some in (refl, rw (← e.0, ← e.1) (grind (arith, nat_tests)))

pub returns-clause-ok : goal.returns-clause-ok
unfolding is_tagged ◌and◌ row_word when◌then◌else◌
returns-clause-ok c = let e = c.in-Some.ensures.some in (e.0, e.1, rw (← e.0, ← e.1) (grind (arith, nat_tests)))
