-- A key that was read has one row and one item.
use mathlib.Core.Bool.{Bool, true, false, not, ◌||◌}
use mathlib.Core.List.{List, [], ◌∷◌, append-nil}
use mathlib.Core.Path.{◌≡◌, refl, sym, ap}
use Prim.Native.Nat.{ℕ, zero, suc, ◌+◌, ◌*◌, ◌^◌, ◌≤◌, ◌<◌}
use native.Mathlib.Omega.{arith}
use lib.Dec.{eqb, leb, ltb}
use lib.ListN.{drop, get_or, length, take, length-take, length-drop}
use borrow.Author.Tests.{eq-eqb, ne_eqb, eqb-true, leb-true, not-true, eqb-false, ltb-true, lt-ltb}
use Rattle.payload.specs.Choice.{◌and◌}
use Rattle.payload.proofs.Laws.Keeps.{invert, not_ok}
use Rattle.payload.proofs.Laws.ScanWritten.{InStore}
use Rattle.payload.specs.Laws.Pool.{false≢true}
use Rattle.payload.specs.Numbers.{cut_to, read_number, varint}
use Rattle.payload.specs.Reader.{Part, Reader, ◌>>=◌, ◌>>◌, and_then, byte, here, must, new_row, ok, pure}
use Rattle.payload.specs.Reader as reader
use Rattle.payload.specs.Reading.{Context, node_key, read_item, read_items, read_kids, read_many, read_one, read_pool_index, read_shape, read_value}
use Rattle.payload.specs.Rows.{count_words, item_words, items_words, kids_count_words, kind_width, kinds_width, part_words, root_count, row_table, row_words, unused_words}
use Rattle.payload.specs.Shapes.{ItemKind, Shape, is_key_tag, keys, kinds_of, no_value, one_value, pairs, shape, shapes, values, with_chunk, with_fields, with_kids, with_template}
use Rattle.payload.specs.Trees.{Node, forget_item, forget_items, item_value, items_value, cons, key_of, nil, node_of, number, single, string}
use Rattle.read_items.specs.Context.{PartsFit, context_of, parts_of, plain_words}
use Rattle.cursor.specs.Reads.{part_of}
use Rattle.read_values.specs.Did.{context_in}
use Rattle.read_heads.specs.Following.{read_chunk_row, read_field_row}
use Rattle.read_values.specs.declared.sources.Source.{Source}
use Rattle.key_test.specs.Laws.Tags.{by_table, every}
use Rattle.key_test.specs.Laws.Entries.{KeyNode, key_value}

---- a value that was read has the tag of its shape

must_ok :
    {A : Type 0} (b : Bool) (n q : ℕ) (s : reader.State) (f : Unit {0} → Reader A) (a : A) (z : reader.State) → and_then (must b n q s) f ≡ ok a z →
    (b ≡ true) × (f tt s ≡ ok a z)
unfolding must and_then
must_ok true n q s f a z e = (refl, e)
must_ok false n q s f a z e = let w : ◌≡◌ {A = ℕ} 0 1 = cc in absurd (omega arith)

module _ (e : Context) where
  pub record Shaped (u : Node Part) (z : reader.State) : Type 0 where
    pub value : Reader (Node Part)
    pub tag : ℕ
    pub start : reader.State
    pub low : tag ≤ 26
    pub is : read_shape e value tag (shape tag) start ≡ ok u z

  shaped : (d : ℕ) (s : reader.State) (u : Node Part) (z : reader.State) → read_value e d s ≡ ok u z → Shaped u z
  unfolding read_value ◌>>=◌ ◌>>◌ here and_then pure new_row
  shaped zero s u z q =
      let a = invert (byte s) _ u z q in
      let b = must_ok (leb a.0 26) 5 s.place a.1 _ u z a.3 in
      let c = must_ok false 15 s.place a.1 _ u z b.1 in false≢true c.0
  shaped (suc d) s u z q =
      let a = invert (byte s) _ u z q in
      let b = must_ok (leb a.0 26) 5 s.place a.1 _ u z a.3 in
      let c = invert (new_row e.capacities.rows a.1) _ u z b.1 in
      record { value = read_value e d; tag = a.0; start = c.1; low = leb-true a.0 26 b.0; is = c.3 }

  module _ (rv : Reader (Node Part)) (t : ℕ) where
    shape_tag : (sh : Shape) (s : reader.State) (u : Node Part) (z : reader.State) → read_shape e rv t sh s ≡ ok u z → u.tag ≡ t
    unfolding read_shape ◌>>=◌ ◌>>◌ here and_then pure node_of
    shape_tag (with_kids ks kk) s u z q =
        let a = invert (read_items e ks s) _ u z q in
        let b = invert (read_kids rv kk a.1) _ u z a.3 in
        let w : node_of t a.0 b.0 ≡ u = cc in rw (← w)
    shape_tag (with_chunk ks) s u z q =
        let a = invert (read_items e ks s) _ u z q in
        let b = invert (read_one (read_chunk_row e rv) a.1) _ u z a.3 in
        let w : node_of t a.0 b.0 ≡ u = cc in rw (← w)
    shape_tag (with_fields ks) s u z q =
        let a = invert (read_items e ks s) _ u z q in
        let n = invert (varint a.1) _ u z a.3 in
        let b = invert (read_many n.0 (read_field_row e rv) n.1) _ u z n.3 in
        let w : node_of t a.0 b.0 ≡ u = cc in rw (← w)
    shape_tag (with_template ks) s u z q =
        let f = invert (rv s) _ u z q in
        let m = must_ok (eqb f.0.tag 7) 11 s.place f.1 _ u z f.3 in
        let a = invert (read_items e ks f.1) _ u z m.1 in
        let n = invert (varint a.1) _ u z a.3 in
        let b = invert (read_many n.0 rv n.1) _ u z n.3 in
        let w : node_of t a.0 (cons f.0 b.0) ≡ u = cc in rw (← w)

---- a key's shape

unfoldable key_kind : ℕ → ItemKind → Bool
key_kind t (ItemKind.number k) = not (eqb t 6)
key_kind t ItemKind.string = eqb t 6
key_kind t ItemKind.native_name = false
key_kind t ItemKind.record_name = false
key_kind t ItemKind.code = false

unfoldable key_shape : ℕ → Shape → Bool
key_shape t (with_kids [] kk) = false
key_shape t (with_kids (k ∷ l ∷ ks) kk) = false
key_shape t (with_kids (k ∷ []) no_value) = key_kind t k
key_shape t (with_kids (k ∷ []) one_value) = false
key_shape t (with_kids (k ∷ []) values) = false
key_shape t (with_kids (k ∷ []) keys) = false
key_shape t (with_kids (k ∷ []) pairs) = false
key_shape t (with_chunk ks) = false
key_shape t (with_fields ks) = false
key_shape t (with_template ks) = false

key_shape_lem : (t : ℕ) → t ≤ 26 → is_key_tag t ≡ true → key_shape t (shape t) ≡ true
unfolding every key_shape key_kind shapes is_key_tag ◌and◌
key_shape_lem t h e = simp e at (by_table (λ i sh. not (is_key_tag i) || key_shape i sh) refl t h)

---- a string that a pool index names

-- every part stands in p
unfoldable AllIn : List ℕ → List Part → Type 0
AllIn p [] = Unit {0}
AllIn p (l ∷ ls) = InStore p l × AllIn p ls

in_at : (p : List ℕ) (ls : List Part) → AllIn p ls → (i : ℕ) (d : Part) → ltb i (length ls) ≡ true → InStore p (get_or ls i d)
unfolding AllIn
in_at p [] h i d e = let z = ltb-true i 0 e in absurd (omega arith)
in_at p (l ∷ ls) h zero d e = h.0
in_at p (l ∷ ls) h (suc i) d e = let z = ltb-true (suc i) (suc (length ls)) e in in_at p ls h.1 i d (lt-ltb i (length ls) (omega arith))

must_true : (b : Bool) (n q : ℕ) (s : reader.State) (u : Unit {0}) (z : reader.State) → must b n q s ≡ ok u z → b ≡ true
unfolding must
must_true true n q s u z e = refl
must_true false n q s u z e = not_ok n q u z e

index_in_lem : (p : List ℕ) (e : Context) → AllIn p e.pool → (s : reader.State) (l : Part) (z : reader.State) → read_pool_index e s ≡ ok l z → InStore p l
unfolding read_pool_index ◌>>=◌ ◌>>◌ pure
index_in_lem p e h s l z q =
    let a = invert (here s) _ l z q in
    let b = invert (cut_to (2 ^ 32) a.1) _ l z a.3 in
    let m = invert (must (ltb b.0 (length e.pool)) 4 a.0 b.1) _ l z b.3 in
    let t = must_true (ltb b.0 (length e.pool)) 4 a.0 b.1 m.0 m.1 m.2 in
    let w : get_or e.pool b.0 (record { offset = 0; bytes = [] }) ≡ l = cc m.3 in
    rw (← w) (in_at p e.pool h b.0 (record { offset = 0; bytes = [] }) t)

---- a key's row

module _ (p : List ℕ) where
  number_key : (t : ℕ) (k : _) (w : ℕ) → shape t ≡ with_kids (ItemKind.number k ∷ []) no_value → (t ≡ 6 → ⊥) → KeyNode p (node_of t (number k w ∷ []) nil)
  unfolding node_of single row_table row_words root_count items_words item_words count_words kids_count_words unused_words kinds_of kinds_width kind_width node_key key_of forget_items forget_item items_value item_value key_value
  number_key t k w e n = record { first = w; second = 0; words = rw e; value = rw (ne_eqb t 6 n); inside = λ q. absurd (n q) }

  string_key : (t : ℕ) (l : Part) → shape t ≡ with_kids (ItemKind.string ∷ []) no_value → t ≡ 6 → InStore p l → KeyNode p (node_of t (string l ∷ []) nil)
  unfolding node_of single row_table row_words root_count items_words item_words part_words count_words kids_count_words unused_words kinds_of kinds_width kind_width node_key key_of forget_items forget_item items_value item_value key_value
  string_key t l e n h =
      record {
        first = l.offset;
        second = length l.bytes;
        words = rw e;
        value = rw (eq-eqb t 6 n, append-nil l.bytes) (ap (λ (b : List ℕ). t ∷ b) (sym h.its_bytes));
        inside = λ q. h.in_store;
      }

  module _ (e : Context) (rv : Reader (Node Part)) (t : ℕ) where
    key_node_lem :
        (sh : Shape) → shape t ≡ sh → key_shape t sh ≡ true → (s : reader.State) (u : Node Part) (z : reader.State) → read_shape e rv t sh s ≡ ok u z →
        AllIn p e.pool → KeyNode p u
    unfolding key_shape key_kind read_shape read_kids read_items read_item ◌>>=◌ ◌>>◌ here and_then pure node_of
    key_node_lem (with_kids [] kk) i h s u z q held = false≢true h
    key_node_lem (with_kids (k ∷ l ∷ ks) kk) i h s u z q held = false≢true h
    key_node_lem (with_kids (k ∷ []) one_value) i h s u z q held = false≢true h
    key_node_lem (with_kids (k ∷ []) values) i h s u z q held = false≢true h
    key_node_lem (with_kids (k ∷ []) keys) i h s u z q held = false≢true h
    key_node_lem (with_kids (k ∷ []) pairs) i h s u z q held = false≢true h
    key_node_lem (with_chunk ks) i h s u z q held = false≢true h
    key_node_lem (with_fields ks) i h s u z q held = false≢true h
    key_node_lem (with_template ks) i h s u z q held = false≢true h
    key_node_lem (with_kids (ItemKind.native_name ∷ []) no_value) i h s u z q held = false≢true h
    key_node_lem (with_kids (ItemKind.record_name ∷ []) no_value) i h s u z q held = false≢true h
    key_node_lem (with_kids (ItemKind.code ∷ []) no_value) i h s u z q held = false≢true h
    key_node_lem (with_kids (ItemKind.number k ∷ []) no_value) i h s u z q held =
        let a = invert (read_items e (ItemKind.number k ∷ []) s) _ u z q in
        let b = invert (read_item e (ItemKind.number k) s) _ a.0 a.1 a.2 in
        let n = invert (read_number k s) _ b.0 b.1 b.2 in
        let w : node_of t (number k n.0 ∷ []) nil ≡ u = cc in
        rw (← w) (number_key t k n.0 i (eqb-false t 6 (not-true (eqb t 6) h)))
    key_node_lem (with_kids (ItemKind.string ∷ []) no_value) i h s u z q held =
        let a = invert (read_items e (ItemKind.string ∷ []) s) _ u z q in
        let b = invert (read_item e ItemKind.string s) _ a.0 a.1 a.2 in
        let n = invert (read_pool_index e s) _ b.0 b.1 b.2 in
        let w : node_of t (string n.0 ∷ []) nil ≡ u = cc in
        rw (← w) (string_key t n.0 i (eqb-true t 6 h) (index_in_lem p e held s n.0 n.1 n.2))

---- a key that was read

module _ (p : List ℕ) where
  part_stands : (o n : ℕ) → o + n ≤ length p → InStore p (part_of p o n)
  part_stands o n h = let l : length (take n (drop o p)) ≡ n = simp (length-take, length-drop) (omega arith) in
      record { in_store = omega arith; its_bytes = ap (λ (k : ℕ). take k (drop o p)) l }

  pool_stands : (pool : List ℕ) → PartsFit p pool → AllIn p (parts_of p pool)
  unfolding parts_of AllIn
  pool_stands [] h = tt
  pool_stands (o ∷ []) h = tt
  pool_stands (o ∷ n ∷ ws) h = (part_stands o n (h 0 (omega arith)), pool_stands ws (λ i l. go i l))
    where
      at : (k m : ℕ) → k ≡ suc (suc m) → get_or (o ∷ n ∷ ws) k 0 ≡ get_or ws m 0
      at k m e = rw e

      go : (i : ℕ) → 2 * i + 1 < length ws → get_or ws (2 * i) 0 + get_or ws (2 * i + 1) 0 ≤ length p
      go i l = let a = at (2 * suc i) (2 * i) (omega arith) in let b = at (2 * suc i + 1) (2 * i + 1) (omega arith) in omega (arith, h (suc i) (omega arith))

-- one row, whose words are the key's
pub key_read :
    (e : Source) (d : ℕ) (s : reader.State) (t : Node Part) (z : reader.State) → read_value (context_in e) d s ≡ ok t z → is_key_tag t.tag ≡ true →
    KeyNode e.payload.now t
unfolding context_of
key_read e d s t z q k =
    let g = shaped (context_in e) d s t z q in
    let same_tag = shape_tag (context_in e) g.value g.tag (shape g.tag) g.start t z g.is in
    key_node_lem e.payload.now (context_in e) g.value g.tag (shape g.tag) refl (key_shape_lem g.tag g.low (rw same_tag at k)) g.start
    t z g.is (pool_stands e.payload.now (plain_words e.pool.now) e.pool_fits)
