-- The writing of `write_code::Runs` is that of its spans: only measured, the length is enough; else what is left to write is the runs from the next span on.
use Rattle.std.proofs.Common.{ap, refl}
use Rattle.varint.specs.Uleb128.{uleb128}
use Rattle.payload.specs.Spans.{write_deltas, write_runs, runs_of}
use Rattle.emit.specs.Laws.Emitter.{emits_as, emits_measured, emits_then, rest_next, rest_end}
use Rattle.write_code.proofs.RunsPart.emit.Goals as goal

pub returns-then-only_measures : goal.returns-then-only_measures
returns-then-only_measures c = emits_measured c.only_measures.ensures c.if-only_measures.true c.length.ensures c.advance.ensures

pub loop-run-preserved : goal.loop-run-preserved
unfolding write_deltas
loop-run-preserved c = rest_next c.loop-run.invariant (rw c.in-Some.ensures.some refl) c.write_run.ensures

pub returns : goal.returns
unfolding write_runs write_deltas runs_of
returns c =
    let n = emits_as (ap uleb128 c.count.ensures) c.varint.ensures in
    emits_then n (rest_end c.loop-run.invariant (rw c.in_default.ensures.none refl))
