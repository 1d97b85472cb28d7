-- The writing of a program: pool, outer chunk, line index.
use Rattle.std.specs.Prelude.{List, [], ◌++◌, ◌∷◌, ◌/◌, ℕ, leb, length}
use Rattle.std.proofs.Math.Option.{Option, none, some}
use Rattle.varint.specs.Uleb128.{uleb128}
use Rattle.payload.specs.Choice.{when◌then◌else◌}
use Rattle.payload.specs.Numbers.{write_number}
use Rattle.payload.specs.Pool.{index_of, interned}
use Rattle.payload.specs.Shapes.{Kids, Shape, keys, no_value, one_value, pairs, shape, values, with_chunk, with_fields, with_kids, with_template}
use Rattle.payload.specs.Spans.{write_code, write_delta}
use Rattle.payload.specs.Trees.{Item, LineIndex, Script, Trees, code, native_name, nil, node, number, record_name, single, string}

unfoldable pub write_item : List (List ℕ) → Item (List ℕ) → List ℕ
write_item l (number k w) = write_number k w
write_item l (string b) = uleb128 (index_of b l)
write_item l (native_name b) = uleb128 (index_of b l)
write_item l (record_name b) = uleb128 (index_of b l)
write_item l (code b ss) = write_code b ss

unfoldable pub write_items : List (List ℕ) → List (Item (List ℕ)) → List ℕ
write_items l [] = []
write_items l (i ∷ is) = write_item l i ++ write_items l is

unfoldable pub concat : List (List ℕ) → List ℕ
concat [] = []
concat (x ∷ xs) = x ++ concat xs

unfoldable pub write_kids : Kids → List (List ℕ) → List ℕ
write_kids no_value es = concat es
write_kids one_value es = concat es
write_kids values es = uleb128 (length es) ++ concat es
write_kids keys es = uleb128 (length es) ++ concat es
write_kids pairs es = uleb128 (length es / 2) ++ concat es

-- a row's bytes after its tag, from those of the rows under it
unfoldable pub write_row : List ℕ → Shape → List (List ℕ) → List ℕ
write_row is (with_kids kinds kids) es = is ++ write_kids kids es
write_row is (with_chunk kinds) es = is ++ concat es
write_row is (with_fields kinds) es = is ++ (uleb128 (length es) ++ concat es)
write_row is (with_template kinds) [] = []
write_row is (with_template kinds) (e ∷ es) = e ++ (is ++ (uleb128 (length es) ++ concat es))

-- chunk and field rows have no tag byte
unfoldable pub tag_byte : ℕ → List ℕ
tag_byte t = when leb t 26 then t ∷ [] else []

-- the bytes of each tree
unfoldable pub write_trees : List (List ℕ) → Trees (List ℕ) → List (List ℕ)
write_trees l nil = []
write_trees l (node t is ks ts) = (tag_byte t ++ write_row (write_items l is) (shape t) (write_trees l ks)) ∷ write_trees l ts

unfoldable pub write_string : List ℕ → List ℕ
write_string b = uleb128 (length b) ++ b

unfoldable pub write_strings : List (List ℕ) → List ℕ
write_strings [] = []
write_strings (b ∷ bs) = write_string b ++ write_strings bs

unfoldable pub write_starts : ℕ → List ℕ → List ℕ
write_starts p [] = []
write_starts p (s ∷ ss) = write_delta p s ++ write_starts s ss

unfoldable pub write_line_index : List (List ℕ) → Option (LineIndex (List ℕ)) → List ℕ
write_line_index l none = 0 ∷ []
write_line_index l (some x) = 1 ∷ (uleb128 (index_of x.name l) ++ (uleb128 (length x.starts) ++ write_starts 0 x.starts))

-- Gathered strings: all in row order except record names, then the line index's name.
unfoldable pub item_strings : {A : Type 0} → Item A → List A
item_strings (number k w) = []
item_strings (string b) = b ∷ []
item_strings (native_name b) = b ∷ []
item_strings (record_name b) = []
item_strings (code b ss) = []

unfoldable pub items_strings : {A : Type 0} → List (Item A) → List A
items_strings [] = []
items_strings (i ∷ is) = item_strings i ++ items_strings is

unfoldable pub trees_strings : {A : Type 0} → Trees A → List A
trees_strings nil = []
trees_strings (node t is ks ts) = items_strings is ++ (trees_strings ks ++ trees_strings ts)

unfoldable pub line_strings : {A : Type 0} → Option (LineIndex A) → List A
line_strings none = []
line_strings (some x) = x.name ∷ []

unfoldable pub gathered : {A : Type 0} → Script A → List A
gathered s = trees_strings (single s.outer) ++ line_strings s.line

-- the pool: each gathered string at its first place
unfoldable pub pool_of : Script (List ℕ) → List (List ℕ)
pool_of s = interned [] (gathered s)

unfoldable pub writing : Script (List ℕ) → List ℕ
writing s = (uleb128 (length (pool_of s)) ++ write_strings (pool_of s)) ++ (concat (write_trees (pool_of s) (single s.outer)) ++ write_line_index (pool_of s) s.line)
