-- `pool_check::link_distinct` meets its contract: the entries passed differ and are linked.
use mathlib.Core.Path.{◌≡◌, sym, ◌∙◌}
use Prim.Native.Nat.{◌/◌}
use native.Mathlib.Omega.{arith}
use lib.ListN.{length}
use borrow.Author.Tests.{not-true, not-false}
use Rattle.pool_check.specs.Laws.Distinct.{linking_start, linking_found, linking_next, linking_end}
use Rattle.pool_check.proofs.link_distinct.Goals as goal

pub loop-k-init : goal.loop-k-init
loop-k-init c = linking_start c.requires

pub returns-then-not-intern_next : goal.returns-then-not-intern_next
returns-then-not-intern_next c =
    linking_found c.requires c.loop-k.invariant c.loop-k-test.true c.intern_next.ensures.table_after
    (sym c.intern_next.ensures.value ∙ not-true _ c.if-not-intern_next.true-raw)

pub loop-k-preserved : goal.loop-k-preserved
loop-k-preserved c =
    linking_next c.requires c.loop-k.invariant c.loop-k-test.true c.intern_next.ensures.table_after c.intern_next.ensures.kept
    (sym c.intern_next.ensures.value ∙ not-false _ c.if-not-intern_next.false-raw)

pub returns : goal.returns
returns c =
    let e : c.loop-k.k ≡ length c.args.pool.now / 2 = omega arith in
    rw (← e) (linking_end c.requires c.loop-k.invariant c.loop-k-test.false)
