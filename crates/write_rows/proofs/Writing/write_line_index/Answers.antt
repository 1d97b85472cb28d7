-- `write_rows::Writing::write_line_index` meets its contract: the flag, and where it is not 0, name, count and starts.
use Rattle.std.proofs.Common.{ap}
use borrow.Author.Tests.{eq-eqb, ne_eqb}
use Rattle.varint.specs.Uleb128.{uleb128}
use Rattle.payload.specs.Choice.{when◌then◌else◌}
use Rattle.emit.specs.Laws.Emitter.{emits_then, emits_as}
use Rattle.write_rows.specs.Payload.{line_bytes}
use Rattle.write_rows.proofs.Writing.write_line_index.Goals as goal

pub returns-then-tables-eq0 : goal.returns-then-tables-eq0
unfolding line_bytes when◌then◌else◌
returns-then-tables-eq0 c = rw (eq-eqb c.args.self.now.tables.flag 0 c.if-tables-eq0.true) c.byte.ensures

pub returns : goal.returns
unfolding line_bytes when◌then◌else◌
returns c =
    rw (ne_eqb c.args.self.now.tables.flag 0 c.if-tables-eq0.false)
    (emits_then c.byte-2.ensures (emits_then (emits_as (ap uleb128 c.lookup-k.ensures) c.varint.ensures) (emits_then c.varint-2.ensures c.write_starts.ensures)))
