use Prim.Native.Nat.{ℕ, ◌+◌, ◌*◌, ◌<◌}
use lib.ListN.{length}
use Rattle.native_names.specs.NameEnds.{NameEnds}
use Rattle.native_names.proofs.is_name.Given as goal

abbrev pub invariant-loop-block : goal.invariant-loop-block
invariant-loop-block l = (k : ℕ) → k < l.first + 32 * l.block → NameEnds l.names l.name (length l.name) k → ⊥
