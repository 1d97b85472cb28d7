use Prim.Native.Nat.{◌+◌, ◌-◌}
use mathlib.Core.Path.{◌≡◌}
use lib.ListN.{get_or, drop}
use Rattle.line_index.specs.LineCol.{rising_prefix, rising_above}
use Rattle.line_index.proofs.rising_prefix.Given as goal

abbrev pub invariant-loop-i : goal.invariant-loop-i
invariant-loop-i l = rising_prefix l.starts ≡ l.i + rising_above (get_or l.starts (l.i - 1) 0) (drop l.i l.starts)
