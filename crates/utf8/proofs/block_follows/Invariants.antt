use mathlib.Core.Path.{◌≡◌}
use mathlib.Core.Bool.{true}
use Rattle.utf8.specs.Pairs.{Follows}
use Rattle.utf8.proofs.block_follows.Given as goal

abbrev pub invariant-loop-k : goal.invariant-loop-k
invariant-loop-k l = l.all ≡ true → Follows l.s l.i l.k
