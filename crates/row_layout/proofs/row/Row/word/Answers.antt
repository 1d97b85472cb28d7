-- `Row::word` meets its contract: a row has so many words.
use borrow.Author.Tests.{lt-ltb, le-ltb}
use Rattle.payload.specs.Rows.{row_width}
use Rattle.payload.specs.Choice.{when◌then◌else◌}
use Rattle.row_layout.specs.Row.{row_word}
use Rattle.row_layout.proofs.row.Row.word.Goals as goal

pub returns-then-word-lt-ROW_WIDTH : goal.returns-then-word-lt-ROW_WIDTH
unfolding row_word when◌then◌else◌
returns-then-word-lt-ROW_WIDTH c = rw (lt-ltb c.args.k row_width c.if-word-lt-ROW_WIDTH.true)

pub returns : goal.returns
unfolding row_word when◌then◌else◌
returns c = rw (le-ltb c.args.k row_width c.if-word-lt-ROW_WIDTH.false)
