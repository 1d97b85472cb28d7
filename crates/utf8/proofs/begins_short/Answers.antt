-- The two tests are those of the definition.
use Rattle.utf8.specs.Utf8.{is_one}
use Rattle.utf8.specs.Pairs.{begins_short}
use Rattle.utf8.proofs.begins_short.Goals as goal

pub returns : goal.returns
unfolding begins_short is_one
returns c = cc
