-- `gather::name_place` meets its contract: by its test.
use borrow.Author.Tests.{eq-eqb, ne_eqb}
use Rattle.payload.specs.Choice.{when◌then◌else◌}
use Rattle.gather.specs.Places.{name_place}
use Rattle.gather.proofs.name_place.Goals as goal

pub returns-then-tables-eq0 : goal.returns-then-tables-eq0
unfolding name_place when◌then◌else◌
returns-then-tables-eq0 c = rw (eq-eqb _ _ c.if-tables-eq0.true)

pub returns : goal.returns
unfolding name_place when◌then◌else◌
returns c = rw (ne_eqb _ _ c.if-tables-eq0.false)
