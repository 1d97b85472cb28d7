-- `gather::gather_all` meets its contract: the strings of the rows, then the line index's name.
use mathlib.Core.Path.{refl}
use Rattle.gather.specs.Laws.Gather.{name_parts_at}
use Rattle.gather.specs.Laws.Interning.{interned_as, interned_then, interned_more}
use Rattle.gather.proofs.gather_all.Goals as goal

pub returns-in_err-count : goal.returns-in_err-count
returns-in_err-count c = rw c.from_residual.ensures (interned_more _ _ c.in_err-count.ensures)

pub returns : goal.returns
returns c =
    let t = c.args.tables.now in
    interned_then _ c.in_ok-count.ensures (interned_as refl (name_parts_at t.store.now t.flag t.name_o t.name_n c.name_place.ensures) c.gather_string.ensures)
