use mathlib.Core.Path.{◌≡◌}
use Prim.Native.Nat.{◌-◌, ◌≤◌}
use Rattle.std.specs.Prelude.{length, replicate}
use Rattle.slices.specs.Put.{put}
use Rattle.slices.proofs.zero_from.Given as goal

abbrev pub invariant-loop-i : goal.invariant-loop-i
invariant-loop-i g l =
    (l.i - l.from ≤ length l.initial.t - l.from)
    × (l.t ≡ put l.initial.t l.from (replicate (l.i - l.from) g.W.Zero.ZERO))
