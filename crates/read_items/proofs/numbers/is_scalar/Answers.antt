-- `is_scalar` meets its contract: the three ranges that its tests leave.
use Rattle.std.proofs.Common.{lt-ltb, le-ltb, le-leb}
use Rattle.std.proofs.lemmas.Bool.{lt-leb}
use Rattle.payload.specs.Choice.{◌and◌}
use Rattle.payload.specs.Numbers.{is_scalar}
use Rattle.read_items.proofs.numbers.is_scalar.Goals as goal

pub returns-then-c-lt55296 : goal.returns-then-c-lt55296
unfolding is_scalar
returns-then-c-lt55296 c = rw (lt-ltb _ _ c.if-c-lt55296.true)

pub returns-then-c-ge57344 : goal.returns-then-c-ge57344
unfolding is_scalar ◌and◌
returns-then-c-ge57344 c = rw (le-ltb _ _ c.if-c-lt55296.false, le-leb _ _ c.if-c-ge57344.true)

pub returns-else-c-ge57344 : goal.returns-else-c-ge57344
unfolding is_scalar ◌and◌
returns-else-c-ge57344 c = rw (le-ltb _ _ c.if-c-lt55296.false, lt-leb _ _ c.if-c-ge57344.false)
