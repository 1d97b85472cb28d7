-- `gather::intern_next` meets its contract: a string is new where one more entry is used.
use Rattle.gather.specs.Laws.Placing.{next_new, next_kept, next_table}
use Rattle.gather.proofs.intern_next.Goals as goal

pub returns-clause-value : goal.returns-clause-value
returns-clause-value c = next_new _ _ c.requires.used_bound c.intern.ensures

pub returns-clause-table_after : goal.returns-clause-table_after
returns-clause-table_after c = next_table _ _ c.requires.used_bound c.intern.ensures

pub returns-clause-kept : goal.returns-clause-kept
returns-clause-kept c = next_kept _ _ c.requires.used_bound c.intern.ensures
