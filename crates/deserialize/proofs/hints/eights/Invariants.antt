use Prim.Native.Nat.{◌+◌, ◌≤◌}
use mathlib.Core.Path.{◌≡◌}
use lib.ListN.{length}
use Rattle.std.specs.Slice.Iter.{chunks_exact_rest, chunks_exact_size}
use Rattle.deserialize.proofs.hints.eights.Given as goal

abbrev pub invariant-loop-block : goal.invariant-loop-block
invariant-loop-block l = (chunks_exact_size l.block-iterator ≡ 128) × (l.count + length (chunks_exact_rest l.block-iterator) ≤ length l.bytes)
