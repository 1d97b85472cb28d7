use mathlib.Core.Path.{◌≡◌}
use Prim.Native.Nat.{◌+◌, ◌-◌}
use Rattle.std.specs.Prelude.{length}
use Rattle.slices.specs.LittleEndian.{to_le_bytes}
use Rattle.slices.specs.Put.{put}
use Rattle.emit.proofs.store_number.Given as goal

abbrev pub invariant-loop-i : goal.invariant-loop-i
invariant-loop-i l =
    (length l.out ≡ length l.initial.out)
    × (put l.out (l.at + l.i) (to_le_bytes (l.n - l.i) l.rest) ≡ put l.initial.out l.at (to_le_bytes l.n l.w))
