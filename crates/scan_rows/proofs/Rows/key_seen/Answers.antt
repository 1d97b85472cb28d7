-- `scan_rows::Rows::key_seen` meets its contract: a key is among the entries' keys exactly where it is among those not yet compared.
use mathlib.Core.Path.{sym, ◌∙◌}
use native.Mathlib.Omega.{arith}
use Rattle.scan_rows.specs.Laws.Keys.{key_in, search_next, search_found, search_end, search_key, search_values}
use Rattle.scan_rows.specs.Laws.Under.{skip_far}
use Rattle.scan_rows.proofs.Rows.key_seen.Goals as goal

pub same_key-requires-clause-a_value : goal.same_key-requires-clause-a_value
same_key-requires-clause-a_value c = search_key c.requires.by_index.0 c.requires.by_index.1 c.loop-k.invariant c.loop-k-test.true

pub returns-then-same_key : goal.returns-then-same_key
returns-then-same_key c = search_found c.loop-k-test.true c.loop-k.invariant (sym c.same_key.ensures ∙ c.if-same_key.true)

pub row_after-k-requires-clause-i_bound : goal.row_after-k-requires-clause-i_bound
row_after-k-requires-clause-i_bound c = omega (arith, key_in c.args.self.now.store.now c.args.self.now.words.now c.args.i c.requires.i_value)

pub row_after-k-requires-clause-by_index : goal.row_after-k-requires-clause-by_index
row_after-k-requires-clause-by_index c = search_values c.requires.by_index.0 c.requires.by_index.1 c.loop-k.invariant c.loop-k-test.true

pub loop-k-smaller : goal.loop-k-smaller
loop-k-smaller c =
    let next = search_values c.requires.by_index.0 c.requires.by_index.1 c.loop-k.invariant c.loop-k-test.true in
    omega (arith, c.row_after-k.ensures next.0 next.1, skip_far next.1)

pub loop-k-preserved : goal.loop-k-preserved
loop-k-preserved c = search_next c.loop-k-test.true c.loop-k.invariant (sym c.same_key.ensures ∙ c.if-same_key.false) c.row_after-k.ensures

pub returns : goal.returns
returns c = search_end c.loop-k-test.false c.loop-k.invariant
