-- The writing of a `pool_index::Pool` is that of its strings: what is left to write is the strings of the entries left.
use Rattle.std.proofs.Common.{refl, sym, ap, ap₂, ◌∙◌}
use Rattle.varint.specs.Uleb128.{uleb128}
use Rattle.emit.specs.Laws.Emitter.{emits_as, emits_then, rest_next, rest_end}
use Rattle.pool_index.specs.Laws.Strings.{length_strings, write_next, write_end}
use Rattle.pool_index.specs.Strings.{bytes_at, write_pool}
use Rattle.pool_index.proofs.PoolPart.emit.Goals as goal

pub loop-k-preserved : goal.loop-k-preserved
loop-k-preserved c =
    let l = c.loop-k in
    let w = c.args.self.now in
    let s = c.bytes_at-s.ensures ∙ ap₂ (bytes_at w.store.now) c.low_in.ensures.0 c.length_in.ensures.0 in
    rest_next (rest_next l.invariant (write_next w.store.now w.words.now l.k (rw c.count-count.ensures at c.loop-k-test.true) _ s) c.varint-in-loop-k.ensures) refl c.body.ensures

pub returns : goal.returns
unfolding write_pool
returns c =
    let w = c.args.self.now in
    emits_then (emits_as (ap uleb128 (c.count-count.ensures ∙ sym (length_strings w.store.now w.words.now))) c.varint.ensures)
    (rest_end c.loop-k.invariant (write_end w.store.now w.words.now c.loop-k.k (rw c.count-count.ensures at c.loop-k-test.false)))
