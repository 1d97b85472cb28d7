use Prim.Native.Nat.{◌≤◌}
use mathlib.Core.Path.{◌≡◌}
use mathlib.Core.List.{◌++◌}
use lib.ListN.{take, drop}
use Rattle.line_index.specs.LineIndex.{line_starts, after_newlines}
use Rattle.line_index.proofs.line_starts.Given as goal

abbrev pub invariant-loop-i : goal.invariant-loop-i
invariant-loop-i l = record {
  one : 1 ≤ l.count;
  room : l.count ≤ l.most;
  met : line_starts l.text ≡ take l.count l.starts ++ after_newlines l.i (drop l.i l.text);
}
