-- `fill_up_to_four` meets its contract: each store is the next span, or the last one again.
use Rattle.std.specs.Prelude.{◌≡◌, ◌*◌, min, replicate}
use Rattle.std.proofs.Common.{arith, sym, ◌∙◌}
use Rattle.slices.specs.Put.{put}
use Rattle.slices.specs.Laws.Put.{put_none}
use Rattle.payload.specs.Tables.{span_words}
use Rattle.read_code.specs.Runs.{span_of}
use Rattle.read_code.proofs.SpanTable.{span_next}
use Rattle.read_code.proofs.fill_up_to_four.Goals as goal

pub returns : goal.returns
unfolding span_words
returns c =
    let args = c.args in
    let pre = c.requires in
    let xs = args.spans.now in
    let from = args.from in
    let n = args.n in
    let s = span_of args.span in
    let zero : min 0 n ≡ 0 = omega arith in
    let none : xs ≡ put xs (2 * from) (span_words (replicate (min 0 n) s)) = rw zero (sym (put_none xs (2 * from))) in
    let one = c.store_span.ensures ∙ span_next xs xs from n 0 _ s pre.0 (omega arith) none in
    let two = c.store_span-2.ensures ∙ span_next xs _ from n 1 _ s pre.0 (omega arith) one in
    let three = c.store_span-3.ensures ∙ span_next xs _ from n 2 _ s pre.0 (omega arith) two in
    let four = c.store_span-4.ensures ∙ span_next xs _ from n 3 _ s pre.0 (omega arith) three in
    let all : min 4 n ≡ n = omega arith in
    rw all at four
