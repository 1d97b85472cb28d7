-- `put_all` meets its contract: the lines of the used rows, then the last line.
use Rattle.listing.specs.Listing.{last_line, listed_rows, listing, row_lines}
use Rattle.listing.specs.Laws.Puts.{adds_then}
use Rattle.listing.proofs.Text.put_all.Goals as goal

pub returns-in-Ok-clause-adds : goal.returns-in-Ok-clause-adds
unfolding listing listed_rows last_line
returns-in-Ok-clause-adds c = rw c.in-Ok.is (adds_then c.put_rows.ensures.adds c.put_answer.ensures.adds)

pub returns-in-Err-clause-adds : goal.returns-in-Err-clause-adds
unfolding listing listed_rows last_line row_lines
returns-in-Err-clause-adds c = rw (c.in-Err.is, ← c.from.ensures) c.put_answer-in-Err.ensures.adds
