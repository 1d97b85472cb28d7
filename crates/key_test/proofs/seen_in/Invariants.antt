-- The invariant of the search through the rows in `seen_in`.
use Rattle.payload.specs.Rows.{row_width}
use Rattle.key_test.specs.Keys.{most_rows, seen_in}
use Prim.Native.Nat.{ℕ, ◌+◌, ◌-◌, ◌*◌, ◌≤◌}
use mathlib.Core.Path.{◌≡◌}
use mathlib.Core.List.{List}
use lib.ListN.{drop}
use Rattle.key_test.proofs.seen_in.Given as goal

-- the search from here on finds what the search from the start finds
pub record Searched (p rows : List ℕ) (first own gap skip i : ℕ) : Type 0 where
  pub small : skip ≤ (2 * most_rows + 1) * (i - first)
  pub found :
      seen_in p (drop (row_width * own) rows) gap 0 (own - first) (drop (row_width * first) rows)
      ≡ seen_in p (drop (row_width * own) rows) gap skip (own - i) (drop (row_width * i) rows)

abbrev pub invariant-loop-number : goal.invariant-loop-number
invariant-loop-number l = Searched l.bytes l.own.table.now l.first l.own.number l.gap l.skip l.number
