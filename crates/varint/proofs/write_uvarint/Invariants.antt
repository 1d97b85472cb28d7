use mathlib.Core.Path.{◌≡◌}
use mathlib.Core.List.{List}
use Prim.Native.Nat.{ℕ, ◌≤◌, ◌+◌}
use lib.ListN.{length}
use Rattle.slices.specs.Put.{put}
use Rattle.varint.specs.Uleb128.{uleb128}
use Rattle.varint.proofs.write_uvarint.Given as goal

pub record Left (whole : List ℕ) (end : ℕ) (out₀ out : List ℕ) (rest i : ℕ) : Type 0 where
  pub bytes : put out i (uleb128 rest) ≡ whole
  pub ends : i + length (uleb128 rest) ≡ end
  pub room : end ≤ length out
  pub long : length out ≡ length out₀

abbrev pub invariant-loop-rest : goal.invariant-loop-rest
invariant-loop-rest l = Left (put l.initial.out l.at (uleb128 l.n)) (l.at + length (uleb128 l.n)) l.initial.out l.out l.rest l.i

abbrev pub decreases-loop-rest : goal.decreases-loop-rest
decreases-loop-rest l = l.rest
