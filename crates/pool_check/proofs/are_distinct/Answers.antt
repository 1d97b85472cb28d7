-- `pool_check::are_distinct` meets its contract: all entries were linked where no string stands twice, and without links the table is as it was.
use mathlib.Core.List.{List}
use mathlib.Core.Path.{ap, ◌∙◌}
use Prim.Native.Nat.{ℕ, ◌/◌}
use lib.Dec.{eqb}
use lib.ListN.{length}
use Rattle.pool_check.proofs.are_distinct.Goals as goal

pub returns-clause-value : goal.returns-clause-value
returns-clause-value c =
    let back = c.unlink.ensures ∙ c.link_distinct-linked.ensures.back in
    ap (λ (l : List ℕ). eqb c.link_distinct-linked.result (length l / 2)) back ∙ c.link_distinct-linked.ensures.all

pub returns-clause-pool_unchanged : goal.returns-clause-pool_unchanged
returns-clause-pool_unchanged c =
    let back = c.unlink.ensures ∙ c.link_distinct-linked.ensures.back in
    back
