-- The rows under a row: how they are scanned, how many there are, and where the row after them stands.
use Rattle.std.specs.Prelude.{true, List, [], ◌∷◌, ◌≡◌, ◌*◌, ◌+◌, ◌<◌, suc, ℕ, eqb, if◌then◌else◌}
use Rattle.payload.specs.Choice.{when◌then◌else◌}
use Rattle.payload.specs.Reader.{Part, Reader, ◌>>=◌, pure}
use Rattle.payload.specs.Reading.{read_many}
use Rattle.payload.specs.Scan.{RowScan, any_row, is_function, scan_keys, scan_kids, scan_pairs, scan_untagged}
use Rattle.payload.specs.Shapes.{ItemKind, Kids, Shape, keys, no_value, one_value, pairs, shape, values, with_chunk, with_fields, with_kids, with_template}
use Rattle.payload.specs.Trees.{Node, Trees, cons, nil}
use Rattle.scan_rows.specs.declared.Member.{Member}
use Rattle.scan_rows.specs.declared.Member.TheVariants.{Value, Chunk, Field}
use Rattle.scan_rows.specs.Row.{count_at, key_fits, row_count, row_key, tag_at}

-- a chunk row, a field row
abbrev pub scan_chunk : List ℕ → RowScan → Reader (Node Part)
scan_chunk store r = scan_untagged store r 32 (ItemKind.code ∷ []) values

abbrev pub scan_field : List ℕ → RowScan → Reader (Node Part)
scan_field store r = scan_untagged store r 33 (ItemKind.string ∷ []) one_value

-- a row of a kind
abbrev pub scan_member : List ℕ → RowScan → Member → Reader (Node Part)
scan_member store r Value = r any_row
scan_member store r Chunk = scan_chunk store r
scan_member store r Field = scan_field store r

-- a function, and then values
abbrev pub scan_template : RowScan → ℕ → Reader (Trees Part)
scan_template r n = r is_function >>= λ f. read_many n (r any_row) >>= λ ts. pure (cons f ts)

-- the scan of the rows under a row of a shape that has the count n
module _ (store : List ℕ) where
  unfoldable pub scan_under : RowScan → Shape → ℕ → Reader (Trees Part)
  scan_under r (with_kids kinds kids) n = scan_kids r kids n
  scan_under r (with_chunk kinds) n = read_many 1 (scan_chunk store r)
  scan_under r (with_fields kinds) n = read_many n (scan_field store r)
  scan_under r (with_template kinds) n = scan_template r n

  -- the same by the rules of a shape
  unfoldable pub scan_by : RowScan → ℕ → ℕ → Reader (Trees Part)
  scan_by r rules n =
      if eqb rules 0 then pure nil
      else if eqb rules 1 then read_many 1 (r any_row)
      else if eqb rules 5 then read_many 1 (scan_chunk store r)
      else if eqb rules 3 then scan_keys n [] r
      else if eqb rules 4 then scan_pairs n [] r
      else if eqb rules 6 then read_many n (scan_field store r)
      else if eqb rules 7 then scan_template r n
      else read_many n (r any_row)

unfoldable pub kids_under : Kids → ℕ → ℕ
kids_under no_value n = 0
kids_under one_value n = 1
kids_under values n = n
kids_under keys n = n
kids_under pairs n = 2 * n

unfoldable pub shape_under : Shape → ℕ → ℕ
shape_under (with_kids kinds kids) n = kids_under kids n
shape_under (with_chunk kinds) n = 1
shape_under (with_fields kinds) n = n
shape_under (with_template kinds) n = n + 1

-- the same by the rules of a shape
unfoldable pub under_by : ℕ → ℕ → ℕ
under_by rules n =
    if eqb rules 0 then 0
    else if eqb rules 1 then 1
    else if eqb rules 5 then 1
    else if eqb rules 4 then 2 * n
    else if eqb rules 7 then n + 1
    else n

unfoldable pub rows_under : List ℕ → ℕ → ℕ
rows_under rows i = shape_under (shape (tag_at rows i)) (count_at rows i)

-- n rows, each with those under it, go from row i to row j
pub data Skip (rows : List ℕ) : ℕ → ℕ → ℕ → Type 0 where
  stay : {i : ℕ} → Skip rows 0 i i
  over : {n i j : ℕ} → i < row_count rows → Skip rows (rows_under rows i + n) (i + 1) j → Skip rows (suc n) i j

-- entries go from row i to row j, and these are their keys; an entry is a key and, in a map (width 2), a value
pub data Entries (store rows : List ℕ) (width : ℕ) : ℕ → ℕ → List (List ℕ) → Type 0 where
  no_entry : {i : ℕ} → Entries store rows width i i []
  entry : {i k j : ℕ} {l : List (List ℕ)} → key_fits store rows i ≡ true → Skip rows width i k → Entries store rows width k j l → Entries store rows width i j (row_key store rows i ∷ l)

-- the entries of a set, of a map
abbrev pub scan_entries : ℕ → ℕ → List (List ℕ) → RowScan → Reader (Trees Part)
scan_entries width n seen r = when eqb width 1 then scan_keys n seen r else scan_pairs n seen r
