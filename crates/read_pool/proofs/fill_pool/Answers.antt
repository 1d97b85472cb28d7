-- `fill_pool` meets its contract: the count of the strings, then the strings.
use Rattle.std.proofs.Common.{arith}
use Rattle.payload.specs.Reading.{read_pool}
use Rattle.refusal.specs.Laws.Errors.{same_error}
use Rattle.cursor.specs.Laws.Advances.{stop_reads}
use Rattle.read_pool.proofs.Strings.{pool_read}
use Rattle.read_pool.proofs.fill_pool.Goals as goal

pub returns-in_err-count : goal.returns-in_err-count
unfolding read_pool
returns-in_err-count c = rw (same_error c.from_residual.result _ c.from_residual.ensures.1) (record { outcome = stop_reads _ c.in_err-count.ensures.advances })

pub returns : goal.returns
returns c = pool_read c.in_ok-count.ensures.advances (omega arith) c.read_strings.ensures
