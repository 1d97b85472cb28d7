-- `write_rows::write_starts` meets its contract: what is left to write is the starts left, from the last one written.
use Rattle.emit.specs.Laws.Emitter.{rest_next, rest_end}
use Rattle.write_rows.specs.Laws.Payload.{starts_next, starts_end}
use Rattle.write_rows.proofs.write_starts.Goals as goal

pub loop-s-preserved : goal.loop-s-preserved
loop-s-preserved c =
    let loop = c.loop-s in
    rest_next loop.invariant (starts_next c.args.starts.now loop.s-index loop.last.offset c.from-start.result.offset c.loop-s-test.true c.from-start.ensures) c.write_delta.ensures

pub returns : goal.returns
returns c =
    rest_end c.loop-s.invariant (starts_end c.args.starts.now c.loop-s.s-index c.loop-s.last.offset c.loop-s-test.false)
