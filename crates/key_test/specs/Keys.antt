-- The test of a key against the keys before it, on the words of a row table.
use Rattle.std.specs.Prelude.{Bool, cond, false, ◌&&◌, ◌||◌, List, ℕ, zero, suc, ◌+◌, ◌*◌, ◌-◌, min, eqb, leb, drop, get_or, length, take, Result, Ok, Err}
use Rattle.slices.specs.Same.{same}
use Rattle.payload.specs.Rows.{row_width}
use Rattle.payload.specs.Shapes.{is_key_tag, shape}
use Rattle.payload.specs.Tables.{limits}
use Rattle.refusal.specs.Number.{number}
use Rattle.refusal.specs.declared.Reason.{Reason}
use Rattle.row_layout.specs.declared.row.Row.{Row}
use Rattle.row_layout.specs.Under.{count_in, rows_under}

-- the words of a table from a row on
abbrev pub words_from : Row → List ℕ
words_from row = drop (row_width * row.number) row.table.now

-- a row's words stand at the front of the list
abbrev pub tag_of : List ℕ → ℕ
tag_of row = get_or row 0 0

abbrev pub first_of : List ℕ → ℕ
first_of row = get_or row 1 0

abbrev pub second_of : List ℕ → ℕ
second_of row = get_or row 2 0

-- whether n bytes from o on stand in p
abbrev pub stands : List ℕ → ℕ → ℕ → Bool
stands p o n = leb n (length p) && leb o (length p - n)

-- strings of p: lengths first, then offsets, then bytes
unfoldable pub same_string : List ℕ → ℕ → ℕ → ℕ → ℕ → Bool
same_string p o n q m = eqb n m && (eqb o q || (stands p o n && (stands p q n && same (take n (drop o p)) (take n (drop q p)))))

-- equal keys have one tag and one value
unfoldable pub same_key : List ℕ → List ℕ → List ℕ → Bool
same_key p row other =
    eqb (tag_of row) (tag_of other) && cond (eqb (tag_of row) 6) (same_string p (first_of row) (second_of row) (first_of other) (second_of other)) (eqb (first_of row) (first_of other))

-- the most rows that a row is taken to tell
abbrev pub most_rows : ℕ
most_rows = limits.rows

-- how many rows a row tells right under it
unfoldable pub rows_told : List ℕ → ℕ
rows_told row = rows_under (shape (tag_of row)) (min most_rows (count_in (shape (tag_of row)) (take 4 (drop 1 row))))

-- whether a key equals one of the keys in n rows; `skip` rows, with what is under them, stand before the next key, and `gap` after each key
unfoldable pub seen_in : List ℕ → List ℕ → ℕ → ℕ → ℕ → List ℕ → Bool
seen_in p key gap skip zero rows = false
seen_in p key gap zero (suc n) rows = same_key p key rows || seen_in p key gap gap n (drop row_width rows)
seen_in p key gap (suc skip) (suc n) rows = seen_in p key gap (skip + rows_told rows) n (drop row_width rows)

-- refusal 9 or 10 of the key in row `own` of a set or map whose rows begin at `first`, or 0
unfoldable pub key_refusal : List ℕ → List ℕ → ℕ → ℕ → ℕ → ℕ
key_refusal p rows gap first own =
    cond (is_key_tag (tag_of (drop (row_width * own) rows)))
    (cond (seen_in p (drop (row_width * own) rows) gap 0 (own - first) (drop (row_width * first) rows)) 10 0)
    9

-- 0, or the number of the reason
abbrev pub number_told : Result (Unit {0}) Reason → ℕ
number_told (Ok u) = 0
number_told (Err reason) = number reason
