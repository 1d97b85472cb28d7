use mathlib.Core.Path.{◌≡◌}
use mathlib.Core.List.{List}
use Prim.Native.Nat.{ℕ, ◌+◌, ◌-◌, ◌*◌, ◌^◌, ◌≤◌, ◌<◌}
use lib.ListN.{length, drop}
use Rattle.varint.specs.Varint.{scan, cut, varint_of}
use Rattle.varint.specs.Laws.Varint.{onto}
use Rattle.varint.proofs.uvarint_long.Given as goal

pub record Sofar (s : List ℕ) (at end value shift i : ℕ) : Type 0 where
  pub begun : at < i
  pub upto : i ≤ end
  pub inside : end ≤ length s
  pub ten : end ≤ at + 10
  pub whole : end < at + 10 → end ≡ length s
  pub sevens : shift ≡ 7 * (i - at)
  pub small : value < 2 ^ shift
  pub reads : varint_of s at ≡ cut (onto value (2 ^ shift) (scan at (at + 10 - i) (drop i s) i))

abbrev pub invariant-loop-i : goal.invariant-loop-i
invariant-loop-i l = Sofar l.bytes l.at l.end l.value (7 * (l.i - l.at)) l.i
