-- `write_code::Runs::length` meets its contract: the bytes of the runs before a span, and those of the run that is under way there.
use Rattle.std.proofs.Common.{ℕ, ◌+◌, sym, ap₂, ◌∙◌, add-zero, arith}
use Rattle.write_code.specs.Laws.Runs.{length_spans}
use Rattle.write_code.proofs.Tests.{at_most_one}
use Rattle.write_code.specs.Laws.Length.{measured_none, measured_first, measured_same, measured_other, measured_end}
use Rattle.write_code.proofs.Runs.length.Goals as goal

pub returns-in_default : goal.returns-in_default
returns-in_default c = rw c.in_default.ensures.none measured_none

pub loop-next-init : goal.loop-next-init
loop-next-init c =
    let none = c.origin-origin.ensures in
    let start = c.delta_width.ensures in
    let end = c.delta_width-2.ensures in
    rw c.in-Some.ensures.some (measured_first _ _ _ (ap₂ ◌+◌ (rw none.0 at start.0) (rw none.1 at end.0)) (omega arith))

pub overflow_add-length-in-Some-split_first : goal.overflow_add-length-in-Some-split_first
overflow_add-length-in-Some-split_first c = omega (arith, c.loop-next.invariant.short, c.boundary_width-length.ensures.1, length_spans c.args.self.spans.now)

pub overflow_add-runs : goal.overflow_add-runs
overflow_add-runs c = omega (arith, c.loop-next.invariant.counted.few, c.from-runs.ensures, at_most_one, length_spans c.args.self.spans.now)

pub overflow_add-n : goal.overflow_add-n
overflow_add-n c = omega (arith, c.loop-next.invariant.often, length_spans c.args.self.spans.now)

pub loop-next-preserved-then-ends : goal.loop-next-preserved-then-ends
loop-next-preserved-then-ends c =
    let m = rw c.in-Some-split_first.ensures.some at c.loop-next.invariant in
    let width = rw c.if-ends.true at c.boundary_width-length.ensures in
    rw (c.from-runs.ensures, c.if-ends.true) (measured_other m (sym c.if-ends.ensures) _ width.0 width.1)

pub loop-next-preserved : goal.loop-next-preserved
loop-next-preserved c =
    let m = rw c.in-Some-split_first.ensures.some at c.loop-next.invariant in
    let width = rw c.if-ends.false at c.boundary_width-length.ensures in
    rw (c.from-runs.ensures, c.if-ends.false, width.0) (simp add-zero (measured_same m (sym c.if-ends.ensures)))

pub overflow_add-result : goal.overflow_add-result
overflow_add-result c = omega (arith, c.loop-next.invariant.short, c.width-2.ensures.1, length_spans c.args.self.spans.now)

pub overflow_add-result-2 : goal.overflow_add-result-2
overflow_add-result-2 c = omega (arith, c.loop-next.invariant.short, c.width.ensures.1, c.width-2.ensures.1, length_spans c.args.self.spans.now)

pub returns : goal.returns
returns c = ap₂ (λ (x y : ℕ). x + (c.loop-next.length + y)) c.width.ensures.0 c.width-2.ensures.0 ∙ measured_end (rw c.in_default-split_first.ensures.none at c.loop-next.invariant)
