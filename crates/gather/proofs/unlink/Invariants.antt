use Rattle.gather.specs.Entries.{unlinked}
use mathlib.Core.Path.{◌≡◌}
use Rattle.gather.proofs.unlink.Given as goal

abbrev pub invariant-loop-k : goal.invariant-loop-k
invariant-loop-k l = l.pool ≡ unlinked l.k l.initial.pool
