-- `gather::gather_strings` meets its contract: the table as the strings were gathered into it, or zeros.
use mathlib.Core.Path.{◌≡◌, refl, ap, ◌∙◌}
use Prim.Native.Nat.{◌-◌}
use lib.ListN.{length}
use Rattle.slices.specs.Zeros.{zeros}
use native.Mathlib.Omega.{arith}
use Rattle.gather.specs.Gather.{pooled_parts, gathered_table, entry_count, entry_words}
use Rattle.gather.specs.Laws.Interning.{answer_is, table_is, entries_are}
use Rattle.gather.proofs.gather_strings.Goals as goal

pub returns-clause-value : goal.returns-clause-value
unfolding pooled_parts
returns-clause-value c = answer_is _ c.in-Some.ensures

pub returns-clause-pool_after : goal.returns-clause-pool_after
unfolding pooled_parts gathered_table
returns-clause-pool_after c = table_is c.in-Some.ensures

pub returns-clause-result_in_bounds : goal.returns-clause-result_in_bounds
unfolding pooled_parts
returns-clause-result_in_bounds c = entries_are _ c.in-Some.ensures

pub returns-in_default-clause-value : goal.returns-in_default-clause-value
unfolding pooled_parts
returns-in_default-clause-value c = answer_is _ c.in_default.ensures

pub returns-in_default-clause-pool_after : goal.returns-in_default-clause-pool_after
unfolding gathered_table
returns-in_default-clause-pool_after c =
    let e : length c.gather_all.new.table ≡ length c.args.pool.now - 0 = omega (arith, c.gather_all.auto.table) in
    c.fill.ensures.after (λ y e. e) ∙ ap zeros e

pub returns-in_default-clause-result_in_bounds : goal.returns-in_default-clause-result_in_bounds
unfolding entry_count entry_words
returns-in_default-clause-result_in_bounds c = (omega arith, refl)
