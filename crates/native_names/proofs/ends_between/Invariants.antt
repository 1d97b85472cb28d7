use Prim.Native.Nat.{ℕ, ◌≤◌, ◌<◌}
use lib.ListN.{length}
use Rattle.native_names.specs.NameEnds.{NameEnds}
use Rattle.native_names.proofs.ends_between.Given as goal

abbrev pub invariant-loop-i : goal.invariant-loop-i
invariant-loop-i l = (k : ℕ) → l.from ≤ k → k < l.i → NameEnds l.names l.name (length l.name) k → ⊥
