-- `emit::Emitter::part` meets its contract: what was emitted into the part that was lent is emitted into the whole.
use Rattle.emit.specs.Laws.Lent.{lent}
use Rattle.emit.proofs.Emitter.part.Goals as goal

pub returns : goal.returns
returns g c =
    let to = c.advance.ensures in
    record {
      same_output = to.same_output;
      same_expected = to.same_expected;
      wrote = rw to.same_bytes (lent c.min-o.ensures c.expected_from-expected.ensures.bytes to.place (rw c.expected_from-expected.ensures.compares at c.emit_part-written.ensures));
    }
