use mathlib.Core.List.{List}
use Prim.Native.Nat.{ℕ, ◌-◌}
use lib.ListN.{length}
use Rattle.slices.specs.Put.{put}
use Rattle.host_leaves.specs.HostLeaves.{numbers_of}
use Rattle.host_leaves.proofs.Loops.{Left}
use Rattle.host_leaves.proofs.rlc2_read_all.Given as goal

-- `count` numbers are read, and the next stands at `at`
abbrev pub ToRead : (bytes before t : List ℕ) (at count : ℕ) → Type 0
ToRead bytes before t at count =
    Left before (put before 0 (numbers_of (length before) bytes 0)) (length (numbers_of (length before) bytes 0)) t count
    (numbers_of (length before - count) bytes at)

abbrev pub invariant-loop-count : goal.invariant-loop-count
invariant-loop-count l = ToRead l.bytes l.initial.numbers l.numbers l.at l.count
