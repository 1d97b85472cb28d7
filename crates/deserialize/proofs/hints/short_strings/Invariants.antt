use mathlib.Core.Path.{◌≡◌}
use Prim.Native.Nat.{◌*◌, ◌+◌, ◌≤◌}
use lib.ListN.{length}
use Rattle.std.specs.Slice.Iter.{chunks_exact_rest, chunks_exact_size}
use Rattle.deserialize.proofs.hints.short_strings.Given as goal

abbrev pub invariant-loop-entry : goal.invariant-loop-entry
invariant-loop-entry l = (chunks_exact_size l.entry-iterator ≡ 2) × (2 * l.count + length (chunks_exact_rest l.entry-iterator) ≤ length l.pool)
