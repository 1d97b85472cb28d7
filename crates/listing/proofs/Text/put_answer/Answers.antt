-- `put_answer` meets its contract: one text put after another.
use Rattle.listing.specs.Listing.{answer_line}
use Rattle.listing.specs.Laws.Puts.{adds_then}
use Rattle.listing.proofs.Text.put_answer.Goals as goal

pub returns-clause-adds : goal.returns-clause-adds
unfolding answer_line
returns-clause-adds c = adds_then c.put_column.ensures.adds (adds_then c.put_column-2.ensures.adds c.put_bytes.ensures)
