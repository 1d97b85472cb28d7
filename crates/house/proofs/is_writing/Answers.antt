-- `house::is_writing` meets its contract: a record name that is no gathered string leaves the program without a writing; else the walk's bytes are the writing.
use Rattle.payload.specs.Held.{tables_in}
use Rattle.house.specs.Laws.Sound.{sound_distinct, can_write, not_named, compared}
use Rattle.house.proofs.is_writing.Goals as goal

pub first_unnamed-requires : goal.first_unnamed-requires
first_unnamed-requires c = sound_distinct (tables_in c.args.tables.now) c.requires.script c.args.pool.now c.requires.pool_value c.requires.payload_len_bound

pub of-requires : goal.of-requires
of-requires c = can_write (tables_in c.args.tables.now) c.requires.script c.args.pool.now c.requires.pool_value c.requires.payload_len_bound

pub returns-then-is_none : goal.returns-then-is_none
returns-then-is_none c =
    compared (tables_in c.args.tables.now) c.requires.script c.args.pool.now c.requires.pool_value c.requires.payload_len_bound _ c.args.tables.now.store.now
    c.first_unnamed.ensures c.if-is_none.ensures (rw c.of.ensures at c.agrees.ensures)

pub returns-else-is_none : goal.returns-else-is_none
returns-else-is_none c = rw c.if-is_none.false
    (not_named (tables_in c.args.tables.now) c.requires.script c.args.pool.now c.requires.pool_value c.requires.payload_len_bound _ c.args.tables.now.store.now
    c.first_unnamed.ensures c.if-is_none.ensures)
