use mathlib.Core.Bool.{false}
use mathlib.Core.Path.{◌≡◌}
use Prim.Native.Nat.{ℕ, ◌≤◌, ◌<◌}
use Rattle.native_names.specs.NameEnds.{MayEnd}
use Rattle.native_names.proofs.may_end.Given as goal

abbrev pub invariant-loop-k : goal.invariant-loop-k
invariant-loop-k l = l.any ≡ false → (j : ℕ) → l.i ≤ j → j < l.k → MayEnd l.names l.n l.last j → ⊥
