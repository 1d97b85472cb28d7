-- `read_cut` meets its contract: a varint, cut, or none.
use Rattle.refusal.specs.Laws.Errors.{same_error}
use Rattle.cursor.specs.Laws.Advances.{by_law}
use Rattle.read_items.specs.Laws.Numbers.{reads_cut, reads_cut_stop}
use Rattle.read_items.proofs.numbers.read_cut.Goals as goal

pub returns-in_err-uvarint : goal.returns-in_err-uvarint
returns-in_err-uvarint c = rw (same_error c.from_residual.result _ c.from_residual.ensures.1) (by_law (λ g. reads_cut_stop g c.args.cut) c.in_err-uvarint.ensures.advances)

pub returns : goal.returns
returns c = rw c.cut_word.ensures (by_law (λ g. reads_cut g c.args.cut) c.in_ok-uvarint.ensures.advances)
