-- The bytes of rows, in the order in which the payload has them: what a row gives before the rows under it, and, for a closure, after the first of them.
-- Every function is total: parts are cut to the store, and counts and spans to what the tables have.
use Rattle.std.specs.Prelude.{List, [], ◌∷◌, ◌++◌, ℕ, zero, suc, ◌+◌, ◌-◌, ◌*◌, ◌/◌, ◌%◌, min, leb, ltb, eqb, length, take, drop}
use Rattle.slices.specs.LittleEndian.{to_le_bytes}
use Rattle.varint.specs.Uleb128.{uleb128}
use Rattle.payload.specs.Choice.{when◌then◌else◌}
use Rattle.payload.specs.Numbers.{zigzag_word}
use Rattle.payload.specs.Pool.{index_of}
use Rattle.payload.specs.Rows.{row_width}
use Rattle.payload.specs.Sound.{spans_of}
use Rattle.payload.specs.Spans.{Span, write_code}
use Rattle.payload.specs.Writing.{tag_byte}
use Rattle.pool_index.specs.Strings.{bytes_at, pool_strings}
use Rattle.row_layout.specs.Layout.{first_form, second_form, second_word, under_form, count_word}
use Rattle.row_layout.specs.Row.{row_word}

-- what a walk reads: the store, the pool's strings, the words of the row table and of the span table
pub record Held : Type 0 where
  pub store : List ℕ
  pub pool : List (List ℕ)
  pub rows : List ℕ
  pub spans : List ℕ

abbrev pub held : List ℕ → List ℕ → List ℕ → List ℕ → Held
held store pool rows spans = record { store = store; pool = pool_strings store pool; rows = rows; spans = spans }

abbrev pub row_count : List ℕ → ℕ
row_count rows = length rows / row_width

-- an item by its form
unfoldable pub item_bytes : List ℕ → List (List ℕ) → List Span → ℕ → ℕ → ℕ → List ℕ
item_bytes store pool spans form a b =
    when eqb form 1 then uleb128 a
    else when eqb form 2 then uleb128 (zigzag_word a)
    else when eqb form 3 then a % 256 ∷ []
    else when eqb form 4 then to_le_bytes 8 a
    else when eqb form 5 then to_le_bytes 4 a
    else when eqb form 6 then uleb128 (index_of (bytes_at store a b) pool)
    else when eqb form 7 then write_code (bytes_at store a b) spans
    else []

abbrev pub tag_at : List ℕ → ℕ → ℕ
tag_at rows i = row_word rows i 0

abbrev pub count_at : List ℕ → ℕ → ℕ
count_at rows i = row_word rows i (count_word (tag_at rows i))

-- how many bytes of code a row has
unfoldable pub code_length : Held → ℕ → ℕ
code_length H i = when eqb (first_form (tag_at H.rows i)) 7 then length (bytes_at H.store (row_word H.rows i 1) (row_word H.rows i 2)) else 0

-- the span after those of a row
unfoldable pub span_after : Held → ℕ → ℕ → ℕ
span_after H i j = min (j + code_length H i) (length H.spans / 2)

unfoldable pub row_spans : Held → ℕ → ℕ → List Span
row_spans H i j = spans_of (take (2 * span_after H i j - 2 * j) (drop (2 * j) H.spans))

-- a row's items
abbrev pub both_items : Held → ℕ → List Span → List ℕ
both_items H i spans =
    item_bytes H.store H.pool spans (first_form (tag_at H.rows i)) (row_word H.rows i 1) (row_word H.rows i 2)
    ++ item_bytes H.store H.pool spans (second_form (tag_at H.rows i)) (row_word H.rows i (second_word (tag_at H.rows i))) (row_word H.rows i (second_word (tag_at H.rows i) + 1))

-- and its count
unfoldable pub items_bytes : Held → ℕ → List Span → List ℕ
items_bytes H i spans = both_items H i spans ++ (when leb 2 (under_form (tag_at H.rows i)) then uleb128 (count_at H.rows i) else [])

-- before the rows under it
unfoldable pub head_bytes : Held → ℕ → List Span → List ℕ
head_bytes H i spans = tag_byte (tag_at H.rows i) ++ (when eqb (under_form (tag_at H.rows i)) 4 then [] else items_bytes H i spans)

-- how many rows are under it; of a closure, after the first
unfoldable pub rows_under : List ℕ → ℕ → ℕ
rows_under rows i =
    when eqb (under_form (tag_at rows i)) 0 then 0
    else when eqb (under_form (tag_at rows i)) 1 then 1
    else when eqb (under_form (tag_at rows i)) 3 then 2 * min (count_at rows i) (row_count rows)
    else min (count_at rows i) (row_count rows)

-- bytes, and the row and the span after them
pub record Walked : Type 0 where
  pub bytes : List ℕ
  pub row : ℕ
  pub span : ℕ

abbrev pub walked : List ℕ → ℕ → ℕ → Walked
walked b i j = record { bytes = b; row = i; span = j }

-- and then
unfoldable pub and_walk : Walked → (ℕ → ℕ → Walked) → Walked
and_walk w f = walked (w.bytes ++ (f w.row w.span).bytes) (f w.row w.span).row (f w.row w.span).span

unfoldable pub walk_times : (ℕ → ℕ → Walked) → ℕ → ℕ → ℕ → Walked
walk_times f zero i j = walked [] i j
walk_times f (suc n) i j = and_walk (f i j) (walk_times f n)

-- what a row gives before the rows under it, from the span where its own begin
abbrev pub head_walk : Held → ℕ → ℕ → Walked
head_walk H i j = walked (head_bytes H i (row_spans H i j)) (i + 1) (span_after H i j)

-- a row and those under it, of which f gives so many
unfoldable pub walk_row : Held → (ℕ → ℕ → ℕ → Walked) → ℕ → ℕ → Walked
walk_row H f i j = and_walk (head_walk H i j)
    (when eqb (under_form (tag_at H.rows i)) 4
    then (λ i' j'. and_walk (f 1 i' j') (λ i'' j''. and_walk (walked (items_bytes H i []) i'' j'') (f (rows_under H.rows i))))
    else f (rows_under H.rows i))

-- nothing past the last row
unfoldable pub walk_next : Held → (ℕ → ℕ → ℕ → Walked) → ℕ → ℕ → Walked
walk_next H f i j = when ltb i (row_count H.rows) then walk_row H f i j else walked [] i j

-- n rows with those under them, d levels deep
unfoldable pub walk : Held → ℕ → ℕ → ℕ → ℕ → Walked
walk H zero n i j = walked [] i j
walk H (suc d) n i j = walk_times (walk_next H (walk H d)) n i j
