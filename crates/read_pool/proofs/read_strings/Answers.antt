-- `read_strings` meets its contract. The invariant: the strings so far stand in the table, and with what the rest of the definition reads they are the whole.
use Rattle.refusal.specs.Laws.Errors.{same_error}
use Rattle.read_pool.proofs.Strings.{storing_none, storing_full, storing_stop, storing_more, storing_all}
use Rattle.read_pool.proofs.read_strings.Goals as goal

pub loop-k-init : goal.loop-k-init
loop-k-init c = storing_none

pub returns-then-most-k : goal.returns-then-most-k
returns-then-most-k c = rw c.at.ensures (record { outcome = storing_full c.loop-k.invariant c.loop-k-test.true c.if-most-k.true })

pub returns-in_err-string : goal.returns-in_err-string
returns-in_err-string c = rw (same_error c.from_residual.result _ c.from_residual.ensures.1) (record {
  outcome = storing_stop c.loop-k.invariant c.loop-k-test.true c.if-most-k.false c.in_err-string.ensures.is;
})

pub loop-k-preserved : goal.loop-k-preserved
loop-k-preserved c = let string = c.in_ok-string.ensures in storing_more c.loop-k.invariant c.loop-k-test.true c.if-most-k.false _ _ string.is string.inside

pub returns : goal.returns
returns c = record { outcome = storing_all c.loop-k.invariant c.loop-k-test.false }
