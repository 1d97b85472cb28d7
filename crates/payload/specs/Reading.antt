-- The reading of a payload: pool, outer chunk, line index, with their refusals in byte order.
use Rattle.std.specs.Prelude.{Bool, false, not, List, [], ◌∷◌, ◌%◌, ◌^◌, suc, zero, ℕ, eqb, leb, ltb, pos, ℤ, get_or, length}
use Rattle.std.proofs.Math.Option.{Option, none, some}
use Rattle.utf8.specs.Utf8.{is_utf8}
use Rattle.signed.specs.Signed.{word_of}
use Rattle.payload.specs.Numbers.{cut_to, read_number, varint}
use Rattle.payload.specs.Pool.{is_in}
use Rattle.payload.specs.Reader.{Part, Reader, ◌>>=◌, ◌>>◌, body, byte, here, must, new_row, pure}
use Rattle.payload.specs.Shapes.{ItemKind, Kids, Shape, depth_limit, is_key_tag, keys, no_value, one_value, pairs, shape, values, with_chunk, with_fields, with_kids, with_template}
use Rattle.payload.specs.Spans.{read_code, read_position}
use Rattle.payload.specs.Trees.{Item, LineIndex, Node, Script, Trees, code, cons, forget_items, key_of, native_name, nil, node_of, number, record_name, string}
use Rattle.payload.specs.declared.Capacities.{Capacities}

---- the pool: 21 before a string is begun, 3 at its body

unfoldable pub read_string : Reader Part
read_string = varint >>= λ n. here >>= λ p. body n >>= λ b. must (is_utf8 b.bytes) 3 p >> pure b

-- n strings, after k that were read
unfoldable pub read_strings : ℕ → ℕ → ℕ → Reader (List Part)
read_strings most zero k = pure []
read_strings most (suc n) k = here >>= λ p. must (ltb k most) 21 p >> read_string >>= λ b. read_strings most n (suc k) >>= λ bs. pure (b ∷ bs)

unfoldable pub read_pool : ℕ → Reader (List Part)
read_pool most = varint >>= λ n. read_strings most n 0

---- the items of a row

-- what a chunk is read with: room, the pool's strings, and which native names are listed
pub record Context : Type 0 where
  pub capacities : Capacities
  pub pool : List Part
  pub listed : List ℕ → Bool

-- A string by its pool index, which is cut to 32 bits before the test; refusal 4.
unfoldable pub read_pool_index : Context → Reader Part
read_pool_index e = here >>= λ p. cut_to (2 ^ 32) >>= λ i. must (ltb i (length e.pool)) 4 p >> pure (get_or e.pool i (record { offset = 0; bytes = [] }))

unfoldable pub read_item : Context → ItemKind → Reader (Item Part)
read_item e (ItemKind.number k) = read_number k >>= λ w. pure (number k w)
read_item e ItemKind.string = read_pool_index e >>= λ b. pure (string b)
read_item e ItemKind.native_name = here >>= λ p. read_pool_index e >>= λ b. must (e.listed b.bytes) 14 p >> pure (native_name b)
read_item e ItemKind.record_name = read_pool_index e >>= λ b. pure (record_name b)
read_item e ItemKind.code = read_code e.capacities.spans >>= λ c. pure (code c.part c.spans)

unfoldable pub read_items : Context → List ItemKind → Reader (List (Item Part))
read_items e [] = pure []
read_items e (k ∷ ks) = read_item e k >>= λ i. read_items e ks >>= λ is. pure (i ∷ is)

---- what follows the items, over the reader of a value one level down

unfoldable pub read_many : ℕ → Reader (Node Part) → Reader (Trees Part)
read_many zero r = pure nil
read_many (suc n) r = r >>= λ t. read_many n r >>= λ ts. pure (cons t ts)

unfoldable pub node_key : Node Part → List ℕ
node_key t = key_of t.tag (forget_items t.items)

-- refusals 9 and 10, at the key's tag
unfoldable pub test_key : ℕ → List (List ℕ) → Node Part → Reader (Unit {0})
test_key p seen t = must (is_key_tag t.tag) 9 p >> must (not (is_in (node_key t) seen)) 10 p

-- set elements, each tested once it is read
unfoldable pub read_keys : ℕ → List (List ℕ) → Reader (Node Part) → Reader (Trees Part)
read_keys zero seen r = pure nil
read_keys (suc n) seen r = here >>= λ p. r >>= λ t. test_key p seen t >> read_keys n (node_key t ∷ seen) r >>= λ ts. pure (cons t ts)

-- map entries, each key tested after its value
unfoldable pub read_pairs : ℕ → List (List ℕ) → Reader (Node Part) → Reader (Trees Part)
read_pairs zero seen r = pure nil
read_pairs (suc n) seen r = here >>= λ p. r >>= λ t. r >>= λ v. test_key p seen t >> read_pairs n (node_key t ∷ seen) r >>= λ ts. pure (cons t (cons v ts))

unfoldable pub read_one : Reader (Node Part) → Reader (Trees Part)
read_one r = r >>= λ t. pure (cons t nil)

unfoldable pub read_kids : Reader (Node Part) → Kids → Reader (Trees Part)
read_kids r no_value = pure nil
read_kids r one_value = read_one r
read_kids r values = varint >>= λ n. read_many n r
read_kids r keys = varint >>= λ n. read_keys n [] r
read_kids r pairs = varint >>= λ n. read_pairs n [] r

-- a chunk or field row: no tag byte, no depth of its own; 22 before it
unfoldable pub read_untagged : Context → Reader (Node Part) → ℕ → List ItemKind → Kids → Reader (Node Part)
read_untagged e r t kinds kids = new_row e.capacities.rows >> read_items e kinds >>= λ is. read_kids r kids >>= λ ts. pure (node_of t is ts)

-- a value's bytes after its tag; a closure's template comes first, and 11 is tested after it
unfoldable pub read_shape : Context → Reader (Node Part) → ℕ → Shape → Reader (Node Part)
read_shape e r t (with_kids kinds kids) = read_items e kinds >>= λ is. read_kids r kids >>= λ ts. pure (node_of t is ts)
read_shape e r t (with_chunk kinds) = read_items e kinds >>= λ is. read_one (read_untagged e r 32 (ItemKind.code ∷ []) values) >>= λ ts. pure (node_of t is ts)
read_shape e r t (with_fields kinds) = read_items e kinds >>= λ is. varint >>= λ n. read_many n (read_untagged e r 33 (ItemKind.string ∷ []) one_value) >>= λ ts. pure (node_of t is ts)
read_shape e r t (with_template kinds) =
    here >>= λ p. r >>= λ f. must (eqb f.tag 7) 11 p >> read_items e kinds >>= λ is. varint >>= λ n. read_many n r >>= λ ts. pure (node_of t is (cons f ts))

-- A value with d levels left; refusals 5, 15, 22, in this order.
unfoldable pub read_value : Context → ℕ → Reader (Node Part)
read_value e zero = here >>= λ p. byte >>= λ t. must (leb t 26) 5 p >> must false 15 p >> pure (node_of t [] nil)
read_value e (suc d) = here >>= λ p. byte >>= λ t. must (leb t 26) 5 p >> new_row e.capacities.rows >> read_shape e (read_value e d) t (shape t)

-- the outer chunk
unfoldable pub read_chunk : Context → Reader (Node Part)
read_chunk e = read_untagged e (read_value e depth_limit) 32 (ItemKind.code ∷ []) values

---- the line index: 13 at the flag, 24 before a start, 8 at its delta

-- n starts, after k that were read, from a running sum; a start is kept modulo 2^32
unfoldable pub read_starts : ℕ → ℕ → ℕ → ℤ → Reader (List ℕ)
read_starts most zero k sum = pure []
read_starts most (suc n) k sum = here >>= λ p. must (ltb k most) 24 p >> read_position sum >>= λ sum'. read_starts most n (suc k) sum' >>= λ ss. pure (word_of sum' % 2 ^ 32 ∷ ss)

unfoldable pub read_flagged : Context → ℕ → Reader (Option (LineIndex Part))
read_flagged e zero = pure none
read_flagged e (suc f) = read_pool_index e >>= λ x. varint >>= λ n. read_starts e.capacities.starts n 0 (pos 0) >>= λ ss. pure (some (record { name = x; starts = ss }))

unfoldable pub read_line_index : Context → Reader (Option (LineIndex Part))
read_line_index e = here >>= λ p. byte >>= λ f. must (leb f 1) 13 p >> read_flagged e f

---- the whole payload

-- what is read: the pool's strings and the script
pub record Payload : Type 0 where
  pub pool : List Part
  pub script : Script Part

unfoldable pub read_payload : Capacities → (List ℕ → Bool) → Reader Payload
read_payload c listed =
    read_pool c.strings >>= λ pool.
    read_chunk (record { capacities = c; pool = pool; listed = listed }) >>= λ outer.
    read_line_index (record { capacities = c; pool = pool; listed = listed }) >>= λ line.
    pure (record { pool = pool; script = record { outer = outer; line = line } })
