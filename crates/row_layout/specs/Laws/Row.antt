-- A word of a row is a word of the table, and one of the words that stand from the row on.
use Rattle.std.specs.Prelude.{List, ◌≡◌, ℕ, ◌+◌, ◌*◌, ◌<◌, get_or, drop}
use Rattle.std.proofs.Math.Path.{refl}
use Rattle.std.proofs.Common.{sym, ◌∙◌, lt-ltb, get_or-drop}
use Rattle.payload.specs.Choice.{when◌then◌else◌}
use Rattle.payload.specs.Rows.{row_width}
use Rattle.row_layout.specs.Row.{row_word}

pub row_word_at : (rows : List ℕ) (i k : ℕ) → k < row_width → row_word rows i k ≡ get_or rows (row_width * i + k) 0
unfolding row_word when◌then◌else◌
row_word_at rows i k h = rw (lt-ltb k row_width h) refl

pub row_word_drop : (rows : List ℕ) (i k : ℕ) → k < row_width → get_or (drop (row_width * i) rows) k 0 ≡ row_word rows i k
row_word_drop rows i k h = get_or-drop (row_width * i) rows k 0 ∙ sym (row_word_at rows i k h)
