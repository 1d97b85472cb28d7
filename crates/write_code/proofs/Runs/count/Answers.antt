-- `write_code::Runs::count` meets its contract: a span that differs from the one before begins a run, and the first span begins one.
use Rattle.std.proofs.Common.{sym, arith, refl}
use Rattle.payload.specs.Spans.{runs_of}
use Rattle.write_code.specs.Laws.Runs.{length_spans}
use Rattle.write_code.specs.Laws.Length.{counted_first, counted_same, counted_other, counted_end}
use Rattle.write_code.proofs.Runs.count.Goals as goal

pub returns-in_default : goal.returns-in_default
unfolding runs_of
returns-in_default c = rw c.in_default.ensures.none refl

pub loop-next-init : goal.loop-next-init
loop-next-init c = rw c.in-Some.ensures.some (counted_first _ _)

pub overflow_add-n : goal.overflow_add-n
overflow_add-n c = omega (arith, c.loop-next.invariant.few, length_spans c.args.self.spans.now)

pub loop-next-preserved-then-not-has : goal.loop-next-preserved-then-not-has
loop-next-preserved-then-not-has c = counted_other (rw c.in-Some-split_first.ensures.some at c.loop-next.invariant) (sym c.if-not-has.ensures)

pub loop-next-preserved : goal.loop-next-preserved
loop-next-preserved c = counted_same (rw c.in-Some-split_first.ensures.some at c.loop-next.invariant) (sym c.if-not-has.ensures)

pub returns : goal.returns
returns c = counted_end (rw c.in_default-split_first.ensures.none at c.loop-next.invariant)
