-- The scan of a row table: the trees that it holds, or the first row that breaks a rule (refusal 17).
use Rattle.std.specs.Prelude.{Bool, false, not, true, List, [], ◌∷◌, ◌+◌, suc, zero, ℕ, eqb, leb, drop, length, take}
use Rattle.utf8.specs.Utf8.{is_utf8}
use Rattle.payload.specs.Choice.{◌and◌}
use Rattle.payload.specs.Numbers.{fits_kind}
use Rattle.payload.specs.Pool.{is_in}
use Rattle.payload.specs.Reader.{Part, Reader, ◌>>=◌, ◌>>◌, advanced, must, ok, pure, refused, with_row}
use Rattle.payload.specs.Reading.{node_key, read_many}
use Rattle.payload.specs.Rows.{unused_words}
use Rattle.payload.specs.Shapes.{ItemKind, Kids, Shape, depth_limit, is_key_tag, keys, no_value, one_value, pairs, shape, values, with_chunk, with_fields, with_kids, with_template}
use Rattle.payload.specs.Trees.{Item, Node, Trees, code, cons, forget_items, key_of, native_name, nil, node_of, number, record_name, string}

unfoldable pub first_word : List ℕ → Reader ℕ
first_word [] = λ s. refused 17 s.rows
first_word (w ∷ ws) = λ s. ok w (advanced 1 s)

unfoldable pub next_word : Reader ℕ
next_word = λ s. first_word s.rest s

-- a rule of the row in hand
unfoldable pub row_must : Bool → Reader (Unit {0})
row_must b = λ s. must b 17 s.rows s

unfoldable pub end_row : Reader (Unit {0})
end_row = λ s. ok tt (with_row s)

unfoldable pub zero_words : ℕ → Reader (Unit {0})
zero_words zero = pure tt
zero_words (suc n) = next_word >>= λ w. row_must (eqb w 0) >> zero_words n

abbrev pub Test : Type 0
Test = ℕ → List (Item (List ℕ)) → Bool

-- reads a tree whose row passes a test
abbrev pub RowScan : Type 0
RowScan = Test → Reader (Node Part)

abbrev pub any_row : Test
any_row t is = true

abbrev pub new_key : List (List ℕ) → Test
new_key seen t is = is_key_tag t and not (is_in (key_of t is) seen)

unfoldable pub scan_keys : ℕ → List (List ℕ) → RowScan → Reader (Trees Part)
scan_keys zero seen r = pure nil
scan_keys (suc n) seen r = r (new_key seen) >>= λ t. scan_keys n (node_key t ∷ seen) r >>= λ ts. pure (cons t ts)

unfoldable pub scan_pairs : ℕ → List (List ℕ) → RowScan → Reader (Trees Part)
scan_pairs zero seen r = pure nil
scan_pairs (suc n) seen r = r (new_key seen) >>= λ t. r any_row >>= λ v. scan_pairs n (node_key t ∷ seen) r >>= λ ts. pure (cons t (cons v ts))

unfoldable pub scan_count : Kids → Reader ℕ
scan_count no_value = pure 0
scan_count one_value = pure 1
scan_count values = next_word
scan_count keys = next_word
scan_count pairs = next_word

unfoldable pub scan_kids : RowScan → Kids → ℕ → Reader (Trees Part)
scan_kids r no_value n = pure nil
scan_kids r one_value n = read_many 1 (r any_row)
scan_kids r values n = read_many n (r any_row)
scan_kids r keys n = scan_keys n [] r
scan_kids r pairs n = scan_pairs n [] r

-- the end of a row
unfoldable pub finish_row : ℕ → Bool → Reader (Unit {0})
finish_row n b = zero_words n >> row_must b >> end_row

unfoldable pub is_function : Test
is_function t is = eqb t 7

module _ (store : List ℕ) where
  unfoldable pub scan_part : Reader Part
  scan_part = next_word >>= λ o. next_word >>= λ n. row_must (leb (o + n) (length store)) >> pure (record { offset = o; bytes = take n (drop o store) })

  unfoldable pub scan_string : Reader Part
  scan_string = scan_part >>= λ l. row_must (is_utf8 l.bytes) >> pure l

  unfoldable pub scan_item : ItemKind → Reader (Item Part)
  scan_item (ItemKind.number k) = next_word >>= λ w. row_must (fits_kind k w) >> pure (number k w)
  scan_item ItemKind.string = scan_string >>= λ l. pure (string l)
  scan_item ItemKind.native_name = scan_string >>= λ l. pure (native_name l)
  scan_item ItemKind.record_name = scan_string >>= λ l. pure (record_name l)
  scan_item ItemKind.code = scan_part >>= λ l. pure (code l [])

  unfoldable pub scan_items : List ItemKind → Reader (List (Item Part))
  scan_items [] = pure []
  scan_items (k ∷ ks) = scan_item k >>= λ i. scan_items ks >>= λ is. pure (i ∷ is)

  unfoldable pub scan_with_kids : RowScan → Test → ℕ → List ItemKind → Kids → Reader (Node Part)
  scan_with_kids r g t kinds kids = scan_items kinds >>= λ is. scan_count kids >>= λ n. finish_row (unused_words (with_kids kinds kids)) (g t (forget_items is)) >> scan_kids r kids n >>= λ ts. pure (node_of t is ts)

  -- a chunk or field row
  unfoldable pub scan_untagged : RowScan → ℕ → List ItemKind → Kids → Reader (Node Part)
  scan_untagged r t kinds kids = next_word >>= λ u. row_must (eqb u t) >> scan_with_kids r any_row t kinds kids

  unfoldable pub scan_shape : RowScan → Test → ℕ → Shape → Reader (Node Part)
  scan_shape r g t (with_kids kinds kids) = scan_with_kids r g t kinds kids
  scan_shape r g t (with_chunk kinds) = scan_items kinds >>= λ is. finish_row (unused_words (with_chunk kinds)) (g t (forget_items is)) >> read_many 1 (scan_untagged r 32 (ItemKind.code ∷ []) values) >>= λ ts. pure (node_of t is ts)
  scan_shape r g t (with_fields kinds) = scan_items kinds >>= λ is. next_word >>= λ n. finish_row (unused_words (with_fields kinds)) (g t (forget_items is)) >> read_many n (scan_untagged r 33
      (ItemKind.string ∷ []) one_value) >>= λ ts. pure (node_of t is ts)
  scan_shape r g t (with_template kinds) =
      scan_items kinds >>= λ is. next_word >>= λ n. finish_row (unused_words (with_template kinds)) (g t (forget_items is)) >> r is_function >>= λ f. read_many n (r any_row) >>= λ ts. pure (node_of t is (cons f ts))

  unfoldable pub scan_value : ℕ → RowScan
  scan_value zero g = next_word >>= λ t. row_must false >> pure (node_of t [] nil)
  scan_value (suc d) g = next_word >>= λ t. row_must (leb t 26) >> scan_shape (scan_value d) g t (shape t)

  -- the outer chunk
  unfoldable pub scan_outer : Reader (Node Part)
  scan_outer = scan_untagged (scan_value depth_limit) 32 (ItemKind.code ∷ []) values
