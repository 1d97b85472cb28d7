-- `gather::is_named` meets its contract: a string is in the pool where its index is below the count.
use mathlib.Core.Path.{sym, ◌∙◌}
use Rattle.gather.specs.Laws.Named.{in_by_index, named_record, named_other}
use Rattle.pool_index.specs.Laws.Strings.{length_strings}
use Rattle.pool_index.specs.Strings.{pool_strings}
use Rattle.gather.proofs.is_named.Goals as goal

pub returns-then-tag-eq-RECORD : goal.returns-then-tag-eq-RECORD
returns-then-tag-eq-RECORD c =
    let args = c.args in
    let pool = pool_strings args.store.now args.pool.now in
    in_by_index _ pool c.lookup.result _ (rw (c.word.ensures, c.word-then-tag-eq-RECORD.ensures) at c.lookup.ensures) (sym (length_strings args.store.now args.pool.now))
    ∙ named_record args.store.now pool args.row.table.now args.row.number (sym c.tag.ensures ∙ c.if-tag-eq-RECORD.true)

pub returns : goal.returns
returns c = named_other c.args.store.now _ c.args.row.table.now c.args.row.number (rw c.tag.ensures at c.if-tag-eq-RECORD.false)
