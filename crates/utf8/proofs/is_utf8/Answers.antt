-- Whole characters stand before the loop's index, so that the rest decides.
use mathlib.Core.Path.{sym, ◌∙◌}
use native.Mathlib.Omega.{arith}
use Rattle.utf8.specs.Laws.Utf8.{utf8_bad, utf8_end}
use Rattle.utf8.proofs.Skips.{skips_on, skips_one, skips_width, no_width}
use Rattle.utf8.proofs.is_utf8.Goals as goal

pub loop-i-preserved-then-s-i-lt128 : goal.loop-i-preserved-then-s-i-lt128
loop-i-preserved-then-s-i-lt128 c =
    let one = skips_one _ _ c.loop-i-test.true c.if-s-i-lt128.true in
    skips_on c.loop-i.invariant (skips_on one c.skip_ascii-i.ensures)

pub returns-in_default : goal.returns-in_default
returns-in_default c = sym (c.loop-i.invariant.same ∙ utf8_bad _ _ c.loop-i-test.true (no_width _ (sym c.char_at.ensures ∙ c.in_default.is)))

pub overflow_add-i-else-s-i-lt128 : goal.overflow_add-i-else-s-i-lt128
overflow_add-i-else-s-i-lt128 c = omega (arith, skips_width _ _ _ c.loop-i-test.true c.char_at.ensures c.in-Some.is)

pub skip_run-i-requires : goal.skip_run-i-requires
skip_run-i-requires c = (skips_width _ _ _ c.loop-i-test.true c.char_at.ensures c.in-Some.is).1.inside

pub loop-i-smaller : goal.loop-i-smaller
loop-i-smaller c = omega (arith, skips_width _ _ _ c.loop-i-test.true c.char_at.ensures c.in-Some.is)

pub loop-i-preserved : goal.loop-i-preserved
loop-i-preserved c = skips_on c.loop-i.invariant (skips_on (skips_width _ _ _ c.loop-i-test.true c.char_at.ensures c.in-Some.is).1 c.skip_run-i.ensures)

pub returns : goal.returns
returns c = sym (c.loop-i.invariant.same ∙ utf8_end _ _ c.loop-i-test.false)
