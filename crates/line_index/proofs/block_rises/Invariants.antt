use mathlib.Core.Path.{◌≡◌}
use mathlib.Core.Bool.{true}
use Rattle.line_index.specs.Rises.{Rises}
use Rattle.line_index.proofs.block_rises.Given as goal

abbrev pub invariant-loop-k : goal.invariant-loop-k
invariant-loop-k l = l.rises ≡ true → Rises l.starts l.i l.k
