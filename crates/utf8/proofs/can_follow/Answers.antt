-- The three tests are those of the definition.
use Rattle.utf8.specs.Pairs.{can_follow}
use Rattle.utf8.proofs.can_follow.Goals as goal

pub returns : goal.returns
unfolding can_follow
returns c = cc
