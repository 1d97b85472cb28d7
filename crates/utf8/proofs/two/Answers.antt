-- The test is that of UTF8-2.
use Rattle.utf8.specs.Utf8.{is_two}
use Rattle.utf8.proofs.two.Goals as goal

pub returns : goal.returns
unfolding is_two
returns c = cc
