-- `gather::first_unnamed` meets its contract: the rows passed are named.
use mathlib.Core.Path.{sym, ◌∙◌}
use borrow.Author.Tests.{not-true, not-false}
use Rattle.gather.specs.Laws.Named.{passed_next, passed_found, passed_end, unnamed_found, unnamed_none}
use Rattle.gather.proofs.first_unnamed.Goals as goal

pub returns-then-not-is_named : goal.returns-then-not-is_named
returns-then-not-is_named c =
    unnamed_found _ _ _ (passed_found c.loop-i.invariant c.loop-i-test.true (sym c.is_named.ensures ∙ not-true _ c.if-not-is_named.true-raw)) c.loop-i-test.true

pub loop-i-preserved : goal.loop-i-preserved
loop-i-preserved c =
    passed_next c.loop-i.invariant c.loop-i-test.true (sym c.is_named.ensures ∙ not-false _ c.if-not-is_named.false-raw)

pub returns : goal.returns
returns c = unnamed_none _ _ _ (passed_end c.loop-i.invariant c.loop-i-test.false) c.loop-i-test.false
