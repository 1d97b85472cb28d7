use mathlib.Core.Path.{◌≡◌}
use Prim.Native.Nat.{◌≤◌}
use Rattle.std.specs.Prelude.{length, take}
use Rattle.slices.specs.Put.{put}
use Rattle.slices.proofs.copy_part.Given as goal

abbrev pub invariant-loop-i : goal.invariant-loop-i
invariant-loop-i l = (l.i ≤ length l.s) × (length l.out ≡ length l.initial.out) × (l.out ≡ put l.initial.out l.at (take l.i l.s))
