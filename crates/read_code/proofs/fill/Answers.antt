-- `fill` meets its contract: one to four spans are stored by a call, and any other number in a loop, at each turn of which k spans are stored.
use Rattle.std.proofs.Common.{sym, ◌∙◌}
use Rattle.payload.specs.Tables.{span_words}
use Rattle.read_code.specs.Runs.{span_of}
use Rattle.slices.specs.Laws.Put.{put_none}
use Rattle.read_code.proofs.SpanTable.{span_after}
use Rattle.read_code.proofs.fill.Goals as goal

pub loop-k-init : goal.loop-k-init
unfolding span_words
loop-k-init c = sym (put_none _ _)

pub loop-k-preserved : goal.loop-k-preserved
loop-k-preserved c = c.store_span.ensures ∙ span_after _ _ _ _ (span_of c.args.span) c.loop-k.invariant
