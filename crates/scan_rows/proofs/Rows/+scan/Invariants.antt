-- The scan's depth falls, or the calls at one depth follow in one order; what its loops have scanned so far.
use Prim.Native.Nat.{ℕ, ◌+◌, ◌*◌}
use Rattle.payload.specs.Scan.{scan_value}
use Rattle.scan_rows.specs.Laws.Entries.{Keyed}
use Rattle.scan_rows.specs.Laws.Found.{Many}
use Rattle.scan_rows.specs.Under.{scan_member}
use Rattle.scan_rows.specs.declared.Member.{Member}
use Rattle.scan_rows.specs.declared.Member.TheVariants.{Value, Chunk, Field}
use Rattle.scan_rows.proofs.Rows.+scan.Given as goal

-- at one depth a chunk or field row comes before the values under it
abbrev rank : Member → ℕ
rank Value = 0
rank Chunk = 3
rank Field = 3

abbrev pub decreases-scan_value : goal.decreases-scan_value
decreases-scan_value l = 8 * l.depth

abbrev pub decreases-scan_member : goal.decreases-scan_member
decreases-scan_member l = 8 * l.depth + 1 + rank l.member

abbrev pub decreases-scan_many : goal.decreases-scan_many
decreases-scan_many l = 8 * l.depth + 2 + rank l.member

abbrev pub decreases-scan_chunk : goal.decreases-scan_chunk
decreases-scan_chunk l = 8 * l.depth + 3

abbrev pub decreases-scan_field : goal.decreases-scan_field
decreases-scan_field l = 8 * l.depth + 3

abbrev pub decreases-scan_entries : goal.decreases-scan_entries
decreases-scan_entries l = 8 * l.depth + 3

abbrev pub decreases-scan_template : goal.decreases-scan_template
decreases-scan_template l = 8 * l.depth + 3

abbrev pub decreases-scan_under : goal.decreases-scan_under
decreases-scan_under l = 8 * l.depth + 6

abbrev pub invariant-scan_many-loop : goal.invariant-scan_many-loop
invariant-scan_many-loop l =
    Many l.self.words.now (scan_member l.self.store.now (scan_value l.self.store.now l.depth) l.member) l.n l.i l.counter l.at

abbrev pub invariant-scan_entries-loop : goal.invariant-scan_entries-loop
invariant-scan_entries-loop l = Keyed l.self.store.now l.self.words.now l.gap l.depth l.n l.i l.counter l.at
