-- Whole characters stand from `from` up to the loop's index.
use native.Mathlib.Omega.{arith}
use borrow.Author.Rules.{rules}
use Rattle.utf8.proofs.Skips.{skips_none, skips_on}
use Rattle.utf8.proofs.skip_while.Goals as goal

pub loop-i-init : goal.loop-i-init
loop-i-init g c = skips_none _ _ c.requires.inside

pub loop-i-preserved : goal.loop-i-preserved
loop-i-preserved g c = skips_on c.loop-i.invariant (c.requires.whole c.loop-i.i (omega arith) (search rules))
