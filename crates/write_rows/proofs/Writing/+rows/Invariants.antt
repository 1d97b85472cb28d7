use Rattle.std.proofs.Common.{◌+◌, ◌*◌, ◌/◌, length}
use Rattle.write_rows.specs.Laws.Walk.{Loop}
use Rattle.write_rows.specs.Walk.{walk_next, walk}
use Rattle.write_rows.specs.Written.{held_in}
use Rattle.write_rows.proofs.Writing.+rows.Given as goal

abbrev pub decreases-write_row : goal.decreases-write_row
decreases-write_row l = 2 * l.depth + 1

abbrev pub decreases-write_rows : goal.decreases-write_rows
decreases-write_rows l = 2 * l.depth

abbrev pub invariant-write_rows-loop-k : goal.invariant-write_rows-loop-k
invariant-write_rows-loop-k l =
    Loop (length l.self.tables.spans.now / 2) (walk_next (held_in l.self) (walk (held_in l.self) l.under)) l.initial.emitter l.emitter l.initial.here l.here l.count l._k
