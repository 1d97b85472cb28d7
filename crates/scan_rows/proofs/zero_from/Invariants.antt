use mathlib.Core.Path.{◌≡◌}
use Prim.Native.Nat.{◌-◌}
use Rattle.payload.specs.Rows.{row_width}
use Rattle.scan_rows.specs.Row.{zeros_from}
use Rattle.scan_rows.proofs.zero_from.Given as goal

abbrev pub invariant-loop-j : goal.invariant-loop-j
invariant-loop-j l = zeros_from l.row.table.now l.row.number l.k (row_width - l.k) ≡ zeros_from l.row.table.now l.row.number l.j (row_width - l.j)
