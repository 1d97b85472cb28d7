use mathlib.Core.List.{List}
use Prim.Native.Nat.{ℕ, ◌-◌}
use lib.ListN.{length, drop}
use Rattle.slices.specs.Put.{put}
use Rattle.host_leaves.specs.HostLeaves.{bytes_of}
use Rattle.host_leaves.proofs.Loops.{Left}
use Rattle.host_leaves.proofs.rlc2_write_all.Given as goal

-- i numbers are written, and the next goes to `at`
abbrev pub ToWrite : (numbers before t : List ℕ) (at i : ℕ) → Type 0
ToWrite numbers before t at i =
    Left before (put before 0 (bytes_of (length before) numbers)) (length (bytes_of (length before) numbers)) t at (bytes_of (length before - at) (drop i numbers))

abbrev pub invariant-loop-n : goal.invariant-loop-n
invariant-loop-n l = ToWrite l.numbers l.initial.out l.out l.at l.n-index
