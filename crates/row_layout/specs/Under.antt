-- How many rows stand right under a row, and the count that its words tell, by its shape.
use Rattle.std.specs.Prelude.{List, ℕ, suc, ◌*◌, get_or}
use Rattle.payload.specs.Rows.{kinds_width}
use Rattle.payload.specs.Shapes.{no_value, one_value, values, keys, pairs, Shape, with_kids, with_chunk, with_fields, with_template}

-- how many rows stand right under a row with this count
unfoldable pub rows_under : Shape → ℕ → ℕ
rows_under (with_kids kinds no_value) n = n
rows_under (with_kids kinds one_value) n = n
rows_under (with_kids kinds values) n = n
rows_under (with_kids kinds keys) n = n
rows_under (with_kids kinds pairs) n = 2 * n
rows_under (with_chunk kinds) n = n
rows_under (with_fields kinds) n = n
rows_under (with_template kinds) n = suc n

-- the count that a row's words after the tag tell
unfoldable pub count_in : Shape → List ℕ → ℕ
count_in (with_kids kinds no_value) ws = 0
count_in (with_kids kinds one_value) ws = 1
count_in (with_kids kinds values) ws = get_or ws (kinds_width kinds) 0
count_in (with_kids kinds keys) ws = get_or ws (kinds_width kinds) 0
count_in (with_kids kinds pairs) ws = get_or ws (kinds_width kinds) 0
count_in (with_chunk kinds) ws = 1
count_in (with_fields kinds) ws = get_or ws (kinds_width kinds) 0
count_in (with_template kinds) ws = get_or ws (kinds_width kinds) 0
