-- `read_index` meets its contract: the cut index is below the count of strings, is not, or no varint is read.
use Rattle.std.proofs.Common.{arith}
use Rattle.refusal.specs.Laws.Errors.{same_error}
use Rattle.cursor.specs.Laws.Advances.{by_law}
use Rattle.read_items.specs.Laws.Context.{reads_index, reads_index_above, reads_index_stop}
use Rattle.read_items.proofs.items.read_index.Goals as goal

pub returns-in_err-i : goal.returns-in_err-i
returns-in_err-i c = rw (same_error c.from_residual.result _ c.from_residual.ensures.1) (record {
  is = λ names cs. by_law (reads_index_stop c.args.pool.now names cs) c.in_err-i.ensures.advances;
  inside = tt;
})

pub returns-then-i-pool : goal.returns-then-i-pool
returns-then-i-pool c = record { is = λ names cs. by_law (λ g. reads_index c.args.pool.now names cs g (omega arith)) c.in_ok-i.ensures.advances; inside = omega arith }

pub returns : goal.returns
returns c = rw c.at.ensures (record { is = λ names cs. by_law (λ g. reads_index_above c.args.pool.now names cs g c.if-i-pool.false) c.in_ok-i.ensures.advances; inside = tt })
