use Prim.Native.Nat.{◌+◌, ◌≤◌}
use mathlib.Core.Path.{◌≡◌}
use lib.ListN.{drop}
use Rattle.line_index.specs.LineCol.{not_above}
use Rattle.line_index.proofs.not_above.Given as goal

abbrev pub invariant-loop-start : goal.invariant-loop-start
invariant-loop-start l = (l.count ≤ l.start-index) × (not_above l.o l.starts ≡ l.count + not_above l.o (drop l.start-index l.starts))
