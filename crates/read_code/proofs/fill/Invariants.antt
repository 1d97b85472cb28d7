use Rattle.std.specs.Prelude.{◌≡◌, ◌*◌, replicate}
use Rattle.slices.specs.Put.{put}
use Rattle.payload.specs.Tables.{span_words}
use Rattle.read_code.specs.Runs.{span_of}
use Rattle.read_code.proofs.fill.Given as goal

abbrev pub invariant-loop-k : goal.invariant-loop-k
invariant-loop-k l = l.spans ≡ put l.initial.spans (2 * l.from) (span_words (replicate l.k (span_of l.span)))
