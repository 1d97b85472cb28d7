use Rattle.std.proofs.Common.{◌+◌, ◌*◌}
use Rattle.payload.specs.Reading.{read_value}
use Rattle.read_heads.specs.Following.{read_field_row}
use Rattle.read_values.proofs.EntryLoop.{EntrySofar}
use Rattle.read_values.proofs.Loop.{Sofar}
use Rattle.read_values.proofs.values.Decoder.+values.Given as goal

abbrev pub decreases-read_chunk : goal.decreases-read_chunk
decreases-read_chunk l = 8 * l.left + 2

abbrev pub decreases-read_closure : goal.decreases-read_closure
decreases-read_closure l = 8 * l.left + 2

abbrev pub decreases-read_entries : goal.decreases-read_entries
decreases-read_entries l = 8 * l.left + 2

abbrev pub decreases-read_field : goal.decreases-read_field
decreases-read_field l = 8 * l.left + 2

abbrev pub decreases-read_fields : goal.decreases-read_fields
decreases-read_fields l = 8 * l.left + 3

abbrev pub decreases-read_under : goal.decreases-read_under
decreases-read_under l = 8 * l.left + 4

abbrev pub decreases-read_value : goal.decreases-read_value
decreases-read_value l = 8 * l.left

abbrev pub decreases-read_values : goal.decreases-read_values
decreases-read_values l = 8 * l.left + 1

abbrev pub invariant-read_entries-loop-k : goal.invariant-read_entries-loop-k
invariant-read_entries-loop-k l = EntrySofar l.gap l.initial.self l.self (λ e. read_value e l.left) l.count l._k

abbrev pub invariant-read_fields-loop-k : goal.invariant-read_fields-loop-k
invariant-read_fields-loop-k l = Sofar l.initial.self l.self (λ e. read_field_row e (read_value e l.left)) l.count l._k

abbrev pub invariant-read_values-loop-k : goal.invariant-read_values-loop-k
invariant-read_values-loop-k l = Sofar l.initial.self l.self (λ e. read_value e l.left) l.count l._k
