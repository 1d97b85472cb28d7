use Rattle.std.proofs.Common.{◌+◌, ◌*◌, ◌≤◌}
use Rattle.listing.specs.Listing.{row_lines}
use Rattle.listing.specs.Puts.{Adds}
use Rattle.listing.proofs.Text.put_rows.Given as goal

abbrev pub invariant-loop-i : goal.invariant-loop-i
invariant-loop-i l =
    Adds l.initial.self (row_lines l.i l.rows) l.self × (l.self.end ≤ l.initial.self.end + 127 * l.i)
