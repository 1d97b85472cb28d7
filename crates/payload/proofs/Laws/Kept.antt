-- What an accepted reading of values has kept: the rows and spans counted, the parts in the payload, the natives in the list, the rules of rows and words.
use Rattle.std.specs.Prelude.{Bool, ◌≡◌, pos, ℤ, get_or, length, replicate}
use Rattle.std.proofs.Math.Bool.{false, true}
use mathlib.Core.List.{List, [], ◌∷◌}
use Rattle.std.proofs.Common.{◌∙◌, mod-lt, arith, lit<, lit≤, length-append}
use Rattle.std.proofs.Math.Path.{refl, sym}
use Prim.Native.Nat.{◌+◌, ◌<◌, ◌^◌, ◌≤◌, pred, suc, zero, ℕ}
use Rattle.std.proofs.Math.Dec.{eqb, leb, ltb}
use Rattle.std.proofs.lemmas.List.{length-replicate}
use borrow.Author.Tests.{eq-eqb, eqb-true, lt-ltb, ltb-true}
use Rattle.slices.specs.Laws.LittleEndian.{Bytes, from_le_bytes_lt, part_bytes}
use Rattle.utf8.specs.Utf8.{is_utf8}
use Rattle.signed.specs.Signed.{unzigzag_of}
use Rattle.payload.specs.Choice.{◌and◌, when◌then◌else◌}
use Rattle.payload.specs.Demand3.{all_items, all_of, item_listed}
use Rattle.payload.proofs.Laws.Keeps.{Keeps, Plain, keeps_at, keeps_bind, keeps_body, keeps_byte, keeps_check, keeps_free, keeps_must, keeps_pure, keeps_row, keeps_so, keeps_spans, keeps_then, keeps_value, keeps_varint, plain_so}
use Rattle.payload.proofs.Laws.Numbers.{cut_fits, word_small}
use Rattle.payload.specs.Laws.Pool.{and_both, and_left, and_right, false≢true}
use Rattle.payload.specs.Laws.Rules.{Root, all_tags, all_values, distinct_keys, distinct_pairs, is_tag, is_value_tag, kids_rule, obey_rules, roots, row_rule, same_kind, same_kinds}
use Rattle.payload.proofs.Laws.ScanWritten.{InItem, InItems, InStore, InTrees}
use Rattle.payload.proofs.Laws.Takes.{closure_rule, put_keys, put_pairs, put_tags, same_kind_self}
use Rattle.payload.specs.Numbers.{NumberKind, bool, char, cut_tested, cut_to, cut_to_signed, f32, f64, fits_kind, fits_signed, handle, i16, i32, i64, i8, is_scalar, read_float, read_number, u16, u32, u64, u8}
use Rattle.payload.specs.Reader.{Part, Reader}
use Rattle.payload.specs.Reading.{Context, node_key, read_chunk, read_item, read_items, read_keys, read_kids, read_many, read_one, read_pairs, read_pool_index, read_shape, read_untagged, read_value, test_key}
use Rattle.payload.specs.declared.Capacities.{Capacities}
use Rattle.payload.specs.Scan.{new_key}
use Rattle.payload.specs.Shapes.{ItemKind, Kids, Shape, keys, no_value, one_value, pairs, shape, values, with_chunk, with_fields, with_kids, with_template}
use Rattle.payload.specs.Spans.{Code, Run, expand, read_code, read_position, read_runs, total}
use Rattle.payload.specs.Trees.{Item, Node, Trees, code, cons, forget_item, forget_items, forget_trees, kind_of, native_name, nil, node_of, number, record_name, single, size, span_count, span_item, span_items, string}

length_expand : (rs : List Run) → length (expand rs) ≡ total rs
unfolding expand total
length_expand [] = refl
length_expand (r ∷ rs) = length-append (replicate r.count r.span) (expand rs) ∙ rw (length-replicate r.count r.span, length_expand rs)

-- `item_sound` but for the positions of spans
unfoldable pub item_read : Item (List ℕ) → Bool
item_read (number k w) = fits_kind k w
item_read (string b) = is_utf8 b
item_read (native_name b) = is_utf8 b
item_read (record_name b) = is_utf8 b
item_read (code b ss) = eqb (length ss) (length b)

-- an item as it is read, its native name listed
unfoldable pub item_held : (List ℕ → Bool) → Item (List ℕ) → Bool
item_held listed i = item_read i and item_listed listed i

-- a string that stands in the store
pub record TextIn (store : List ℕ) (l : Part) : Type 0 where
  pub text_stands : InStore store l
  pub text_utf8 : is_utf8 l.bytes ≡ true

-- strings that stand in the store: a pool
unfoldable pub TextsIn : List ℕ → List Part → Type 0
TextsIn s [] = Unit {0}
TextsIn s (l ∷ ls) = TextIn s l × TextsIn s ls

pub text_at : (s : List ℕ) (ls : List Part) → TextsIn s ls → (i : ℕ) (d : Part) → ltb i (length ls) ≡ true → TextIn s (get_or ls i d)
unfolding TextsIn
text_at s [] h i d e = let z = ltb-true i 0 e in absurd (omega arith)
text_at s (l ∷ ls) h zero d e = h.0
text_at s (l ∷ ls) h (suc i) d e = let z = ltb-true (suc i) (suc (length ls)) e in text_at s ls h.1 i d (lt-ltb i (length ls) (omega arith))

-- a row of tag t and shape sh, with d levels left and d' for the rows under it
record Row (h : ℕ → Bool) (d d' t : ℕ) (sh : Shape) : Type 0 where
  row_shape : shape t ≡ sh
  row_tag : h t ≡ true
  row_deep : (ts : Trees (List ℕ)) → obey_rules d' ts ≡ true → when◌then◌else◌ (leb t 26) (ltb 0 d and obey_rules (pred d) ts) (obey_rules d ts) ≡ true

chunk_row_lem : (d : ℕ) → Row (is_tag 32) d d 32 (with_kids (ItemKind.code ∷ []) values)
unfolding shape when◌then◌else◌
chunk_row_lem d = record { row_shape = refl; row_tag = refl; row_deep = λ ts e. e }

field_row_lem : (d : ℕ) → Row (is_tag 33) d d 33 (with_kids (ItemKind.string ∷ []) one_value)
unfolding shape when◌then◌else◌
field_row_lem d = record { row_shape = refl; row_tag = refl; row_deep = λ ts e. e }

value_row : (d t : ℕ) → leb t 26 ≡ true → Row is_value_tag (suc d) d t (shape t)
unfolding when◌then◌else◌
value_row d t q = record { row_shape = refl; row_tag = q; row_deep = λ ts e. rw q (and_both (lt-ltb 0 (suc d) (omega arith)) e) }

module _ (c : Capacities) (p : List ℕ) where
  abbrev K : {A : Type 0} → Reader A → (A → ℕ → ℕ → Type 0) → Type 0
  K r P = Keeps c p r P

  kept_cut : (n : ℕ) → 0 < n → K (cut_to n) (Plain c p (λ w. w < n))
  unfolding cut_to
  kept_cut n h = keeps_free c p (keeps_varint c p) (λ v z. keeps_value c p _ (λ w. w < n) (mod-lt v h))

  kept_tested : (n : ℕ) (test : ℕ → Bool) (z : ℕ) → 0 < n → K (cut_tested n test z) (Plain c p (λ w. test w ≡ true))
  unfolding cut_tested
  kept_tested n test z h = keeps_at c p (λ q. keeps_free c p (kept_cut n h) (λ v y. keeps_check c p _ z q _ (λ e. keeps_value c p v (λ w. test w ≡ true) e)))

  kept_signed : (k : ℕ) → k ≤ 64 → K (cut_to_signed k) (Plain c p (λ w. fits_signed k w ≡ true))
  unfolding cut_to_signed
  kept_signed k h = keeps_free c p (keeps_varint c p) (λ v z. keeps_value c p _ (λ w. fits_signed k w ≡ true) (cut_fits k _ h))

  kept_float : Bytes p → (n : ℕ) → K (read_float n) (Plain c p (λ w. w < 256 ^ n))
  unfolding read_float
  kept_float small n = keeps_free c p (keeps_body c p n) (λ l z. keeps_value c p _ (λ w. w < 256 ^ n)
      (rw z.1 at (from_le_bytes_lt l.bytes (rw z.0.its_bytes at (part_bytes p l.offset (length l.bytes) small)))))

  pub kept_number : Bytes p → (k : NumberKind) → K (read_number k) (Plain c p (λ w. fits_kind k w ≡ true))
  unfolding read_number fits_kind
  kept_number small u64 = plain_so c p (λ w z. lt-ltb w (2 ^ 64) z) (keeps_varint c p)
  kept_number small u32 = plain_so c p (λ w z. lt-ltb w (2 ^ 32) z) (kept_cut (2 ^ 32) (lit< tt))
  kept_number small u16 = plain_so c p (λ w z. lt-ltb w (2 ^ 16) z) (kept_cut (2 ^ 16) (lit< tt))
  kept_number small u8 = plain_so c p (λ w z. lt-ltb w 256 (z small)) (keeps_byte c p)
  kept_number small i64 = keeps_free c p (keeps_varint c p) (λ v z. keeps_value c p _ (λ w. ltb w (2 ^ 64) ≡ true) (lt-ltb _ (2 ^ 64) (word_small (unzigzag_of v))))
  kept_number small i32 = kept_signed 32 (lit≤ tt)
  kept_number small i16 = kept_signed 16 (lit≤ tt)
  kept_number small i8 = kept_signed 8 (lit≤ tt)
  kept_number small bool = keeps_free c p (keeps_byte c p) (λ v z. keeps_value c p _ (λ w. ltb w 2 ≡ true) (go (eqb v 0)))
    where
      go : (t : Bool) → ltb (when◌then◌else◌ t 0 1) 2 ≡ true
      go true = unfold when◌then◌else◌ in refl
      go false = unfold when◌then◌else◌ in refl
  kept_number small char = kept_tested (2 ^ 32) is_scalar 6 (lit< tt)
  kept_number small handle = kept_tested (2 ^ 8) (λ v. leb v 5) 12 (lit< tt)
  kept_number small f64 = plain_so c p (λ w z. lt-ltb w (2 ^ 64) z) (kept_float small 8)
  kept_number small f32 = plain_so c p (λ w z. lt-ltb w (2 ^ 32) z) (kept_float small 4)

  pub kept_position : (b : ℤ) → K (read_position b) (Plain c p (λ z. Unit {0}))
  unfolding read_position
  kept_position b = keeps_at c p (λ q. keeps_free c p (keeps_varint c p) (λ v w. keeps_check c p _ 8 q _ (λ e. keeps_value c p _ (λ z. Unit {0}) tt)))

  kept_runs : (n : ℕ) (s e : ℤ) → K (read_runs n s e) (Plain c p (λ rs. Unit {0}))
  unfolding read_runs
  kept_runs zero s e = keeps_value c p [] (λ rs. Unit {0}) tt
  kept_runs (suc n) s e =
      keeps_free c p (kept_position s) (λ s' w. keeps_free c p (kept_position e) (λ e' w. keeps_free c p (keeps_varint c p) (λ k w. keeps_free c p (kept_runs n s' e') (λ rs w. keeps_value c p _ (λ rs. Unit {0}) tt))))

  record CodeIs (x : Code) (k m : ℕ) : Type 0 where
    code_rows : k ≡ 0
    code_spans : m ≡ length x.part.bytes
    code_stands : InStore p x.part
    code_each : length x.spans ≡ length x.part.bytes

  kept_code : K (read_code c.spans) CodeIs
  unfolding read_code
  kept_code = keeps_free c p (keeps_varint c p) (λ n w. keeps_free c p (keeps_body c p n) (λ l z. keeps_then c p (keeps_spans c p n) (λ u k m y.
      keeps_free c p (keeps_varint c p) (λ j w. keeps_free c p (kept_runs j (pos 0) (pos 0)) (λ rs w. keeps_at c p (λ q. keeps_check c p _ 7 q _ (λ e.
      keeps_pure c p (record { part = l; spans = expand rs }) (λ b k' m'. CodeIs b (k + k') (m + m')) (record {
        code_rows = omega (arith, y.0);
        code_spans = omega (arith, y.1, z.1);
        code_stands = z.0;
        code_each = length_expand rs ∙ eqb-true (total rs) n e ∙ sym z.1;
      }))))))))

  module _ (listed : List ℕ → Bool) where
    record ItemIs (kind : ItemKind) (i : Item Part) (k m : ℕ) : Type 0 where
      item_rows : k ≡ 0
      item_spans : m ≡ span_item (forget_item i)
      item_kind : same_kind kind (kind_of (forget_item i)) ≡ true
      item_in : InItem p i
      item_held_lem : item_held listed (forget_item i) ≡ true

    record ItemsAre (kinds : List ItemKind) (is : List (Item Part)) (k m : ℕ) : Type 0 where
      items_rows : k ≡ 0
      items_spans_lem : m ≡ span_items (forget_items is)
      items_kinds : same_kinds kinds (forget_items is) ≡ true
      items_in : InItems p is
      items_held : all_of (item_held listed) (forget_items is) ≡ true

    -- trees with d levels left, whose rows pass a test
    pub record TreesAre (d : ℕ) (test : List Root → Bool) (ts : Trees Part) (k m : ℕ) : Type 0 where
      pub trees_rows : k ≡ size ts
      pub trees_spans : m ≡ span_count (forget_trees ts)
      pub trees_in : InTrees p ts
      pub trees_held : all_items (item_held listed) (forget_trees ts) ≡ true
      pub trees_obey : obey_rules d (forget_trees ts) ≡ true
      pub trees_test : test (roots (forget_trees ts)) ≡ true

    -- one tree, whose tag passes a test
    abbrev pub NodeIs : (ℕ → Bool) → ℕ → Node Part → ℕ → ℕ → Type 0
    NodeIs h d u k m = TreesAre d (all_tags h) (single u) k m

    pub node_tag : (h : ℕ → Bool) (d : ℕ) (u : Node Part) (k m : ℕ) → NodeIs h d u k m → h u.tag ≡ true
    unfolding all_tags roots forget_trees single
    node_tag h d u k m a = and_left _ _ a.trees_test

    -- the counts said in another way
    pub are_as : {d : ℕ} {test : List Root → Bool} {ts : Trees Part} {k k' m m' : ℕ} → TreesAre d test ts k m → k ≡ k' → m ≡ m' → TreesAre d test ts k' m'
    are_as a r s = rw (← r, ← s) a

    nil_are : (d : ℕ) (test : List Root → Bool) → test [] ≡ true → TreesAre d test nil 0 0
    unfolding size forget_trees span_count InTrees all_items obey_rules roots
    nil_are d test e = record { trees_rows = refl; trees_spans = refl; trees_in = tt; trees_held = refl; trees_obey = refl; trees_test = e }

    -- a tree in front of trees
    put_are : {d : ℕ} {one test : List Root → Bool} (test' : List Root → Bool) (u : Node Part) (ts : Trees Part) (k m k' m' k'' m'' : ℕ)
        → TreesAre d one (single u) k m → TreesAre d test ts k' m' → test' (roots (forget_trees (cons u ts))) ≡ true → k'' ≡ k + k' → m'' ≡ m + m' → TreesAre d test' (cons u ts) k'' m''
    unfolding cons single size forget_trees span_count InTrees all_items obey_rules
    put_are test' u ts k m k' m' k'' m'' a b q r s = record {
      trees_rows = omega (arith, a.trees_rows, b.trees_rows);
      trees_spans = omega (arith, a.trees_spans, b.trees_spans);
      trees_in = (a.trees_in.0, a.trees_in.1, b.trees_in);
      trees_held = and_both (and_left _ _ a.trees_held) (and_both (and_left _ _ (and_right _ _ a.trees_held)) b.trees_held);
      trees_obey = and_both (and_left _ _ a.trees_obey) (and_both (and_left _ _ (and_right _ _ a.trees_obey)) b.trees_obey);
      trees_test = q;
    }

    -- a row over trees
    row_are : {h : ℕ → Bool} {d d' t : ℕ} {sh : Shape} {kinds : List ItemKind} {test : List Root → Bool} → Row h d d' t sh → (is : List (Item Part)) (ts : Trees Part) (k m k' m' k'' m'' : ℕ)
        → ItemsAre kinds is k m → TreesAre d' test ts k' m' → row_rule sh (forget_items is) (roots (forget_trees ts)) ≡ true → k'' ≡ suc k' → m'' ≡ m + m' → NodeIs h d (node_of t is ts) k'' m''
    unfolding node_of single size forget_trees span_count InTrees all_items obey_rules all_tags roots
    row_are w is ts k m k' m' k'' m'' a b q r s = record {
      trees_rows = omega (arith, b.trees_rows);
      trees_spans = omega (arith, a.items_spans_lem, b.trees_spans);
      trees_in = (a.items_in, b.trees_in, tt);
      trees_held = and_both a.items_held (and_both b.trees_held refl);
      trees_obey = and_both (rw w.row_shape q) (and_both (w.row_deep (forget_trees ts) b.trees_obey) refl);
      trees_test = and_both w.row_tag refl;
    }

    module _ (small : Bytes p) (pool : List Part) (texts : TextsIn p pool) where
      abbrev e : Context
      e = record { capacities = c; pool = pool; listed = listed }

      pub kept_index : K (read_pool_index e) (Plain c p (TextIn p))
      unfolding read_pool_index
      kept_index = keeps_at c p (λ q. keeps_free c p (kept_cut (2 ^ 32) (lit< tt)) (λ i w. keeps_check c p _ 4 q _ (λ z. keeps_value c p _ (TextIn p) (text_at p pool texts i _ z))))

      kept_item : (kind : ItemKind) → K (read_item e kind) (ItemIs kind)
      unfolding read_item forget_item span_item kind_of InItem item_held item_read item_listed
      kept_item (ItemKind.number k) = keeps_free c p (kept_number small k) (λ w z. keeps_pure c p _ (ItemIs (ItemKind.number k))
          (record { item_rows = refl; item_spans = refl; item_kind = same_kind_self _; item_in = tt; item_held_lem = and_both z refl }))
      kept_item ItemKind.string = keeps_free c p kept_index (λ l z. keeps_pure c p _ (ItemIs ItemKind.string)
          (record { item_rows = refl; item_spans = refl; item_kind = same_kind_self _; item_in = z.text_stands; item_held_lem = and_both z.text_utf8 refl }))
      kept_item ItemKind.native_name = keeps_at c p (λ q. keeps_free c p kept_index (λ l z. keeps_check c p _ 14 q _ (λ y. keeps_pure c p _ (ItemIs ItemKind.native_name)
          (record { item_rows = refl; item_spans = refl; item_kind = same_kind_self _; item_in = z.text_stands; item_held_lem = and_both z.text_utf8 y }))))
      kept_item ItemKind.record_name = keeps_free c p kept_index (λ l z. keeps_pure c p _ (ItemIs ItemKind.record_name)
          (record { item_rows = refl; item_spans = refl; item_kind = same_kind_self _; item_in = z.text_stands; item_held_lem = and_both z.text_utf8 refl }))
      kept_item ItemKind.code = keeps_bind c p kept_code (λ x k m z. keeps_pure c p _ (λ i k' m'. ItemIs ItemKind.code i (k + k') (m + m'))
          (record { item_rows = omega (arith, z.code_rows); item_spans = omega (arith, z.code_spans); item_kind = same_kind_self _; item_in = z.code_stands; item_held_lem = and_both (eq-eqb _ _ z.code_each) refl }))

      kept_items : (kinds : List ItemKind) → K (read_items e kinds) (ItemsAre kinds)
      unfolding read_items forget_items span_items same_kinds InItems all_of
      kept_items [] = keeps_pure c p [] (ItemsAre []) (record { items_rows = refl; items_spans_lem = refl; items_kinds = refl; items_in = tt; items_held = refl })
      kept_items (x ∷ xs) = keeps_bind c p (kept_item x) (λ i k m z. keeps_bind c p (kept_items xs) (λ is k' m' y. keeps_pure c p (i ∷ is) (λ is k'' m''. ItemsAre (x ∷ xs) is (k + (k' + k'')) (m + (m' + m'')))
          (record {
            items_rows = omega (arith, z.item_rows, y.items_rows);
            items_spans_lem = omega (arith, z.item_spans, y.items_spans_lem);
            items_kinds = and_both z.item_kind y.items_kinds;
            items_in = (z.item_in, y.items_in);
            items_held = and_both z.item_held_lem y.items_held;
          })))

      kept_many : (h : ℕ → Bool) (d n : ℕ) (r : Reader (Node Part)) → K r (NodeIs h d) → K (read_many n r) (TreesAre d (all_tags h))
      unfolding read_many
      kept_many h d zero r R = keeps_pure c p nil (TreesAre d (all_tags h)) (nil_are d (all_tags h) (unfold all_tags in refl))
      kept_many h d (suc n) r R = keeps_bind c p R (λ u k m z. keeps_bind c p (kept_many h d n r R) (λ ts k' m' y. keeps_pure c p (cons u ts) (λ b k'' m''. TreesAre d (all_tags h) b (k + (k' + k'')) (m + (m' + m'')))
          (put_are (all_tags h) u ts k m k' m' _ _ z y (put_tags h u ts (node_tag h d u k m z) y.trees_test) (omega arith) (omega arith))))

      kept_key : (q : ℕ) (seen : List (List ℕ)) (u : Node Part) → K (test_key q seen u) (Plain c p (λ x. new_key seen u.tag (forget_items u.items) ≡ true))
      unfolding test_key node_key
      kept_key q seen u = keeps_check c p _ 9 q _ (λ x. plain_so c p (λ a y. and_both x y) (keeps_must c p _ 10 q))

      kept_keys : (d n : ℕ) (seen : List (List ℕ)) (r : Reader (Node Part)) → K r (NodeIs is_value_tag d) → K (read_keys n seen r) (TreesAre d (λ rs. all_values rs and distinct_keys seen rs))
      unfolding read_keys
      kept_keys d zero seen r R = keeps_pure c p nil _ (nil_are d (λ rs. all_values rs and distinct_keys seen rs) (unfold all_tags distinct_keys ◌and◌ in refl))
      kept_keys d (suc n) seen r R = keeps_at c p (λ q. keeps_bind c p R (λ u k m z. keeps_then c p (kept_key q seen u) (λ o i j x. keeps_bind c p (kept_keys d n (node_key u ∷ seen) r R) (λ ts k' m' y.
          keeps_pure c p (cons u ts) (λ b k'' m''. TreesAre d (λ rs. all_values rs and distinct_keys seen rs) b (k + (i + (k' + k''))) (m + (j + (m' + m''))))
          (put_are _ u ts k m k' m' _ _ z y (put_keys seen u ts (node_tag is_value_tag d u k m z) x.1 y.trees_test) (omega (arith, x.0.no_rows)) (omega (arith, x.0.no_spans)))))))

      kept_pairs : (d n : ℕ) (seen : List (List ℕ)) (r : Reader (Node Part)) → K r (NodeIs is_value_tag d) → K (read_pairs n seen r) (TreesAre d (λ rs. all_values rs and distinct_pairs seen rs))
      unfolding read_pairs
      kept_pairs d zero seen r R = keeps_pure c p nil _ (nil_are d (λ rs. all_values rs and distinct_pairs seen rs) (unfold all_tags distinct_pairs ◌and◌ in refl))
      kept_pairs d (suc n) seen r R =
          keeps_at c p (λ q. keeps_bind c p R (λ u k m z. keeps_bind c p R (λ v a b w. keeps_then c p (kept_key q seen u) (λ o i j x. keeps_bind c p (kept_pairs d n (node_key u ∷ seen) r R) (λ ts k' m' y.
          keeps_pure c p (cons u (cons v ts)) (λ g k'' m''. TreesAre d (λ rs. all_values rs and distinct_pairs seen rs) g (k + (a + (i + (k' + k'')))) (m + (b + (j + (m' + m'')))))
          (put_are _ u (cons v ts) k m (a + k') (b + m') _ _ z (put_are (λ rs. true) v ts a b k' m' _ _ w y refl refl refl)
          (put_pairs seen u v ts (node_tag is_value_tag d u k m z) x.1 (node_tag is_value_tag d v a b w) y.trees_test) (omega (arith, x.0.no_rows)) (omega (arith, x.0.no_spans))))))))

      kept_one : (h : ℕ → Bool) (d : ℕ) (r : Reader (Node Part)) → K r (NodeIs h d) → K (read_one r) (TreesAre d (λ rs. eqb (length rs) 1 and all_tags h rs))
      unfolding read_one cons
      kept_one h d r R = keeps_bind c p R (λ u k m z. keeps_pure c p (cons u nil) (λ b k'' m''. TreesAre d (λ rs. eqb (length rs) 1 and all_tags h rs) b (k + k'') (m + m''))
          (put_are _ u nil k m 0 0 _ _ z (nil_are d (λ rs. true) refl) (unfold roots forget_trees all_tags in (and_both refl (and_both (node_tag h d u k m z) refl))) refl refl))

      kept_kids : (d : ℕ) (r : Reader (Node Part)) → K r (NodeIs is_value_tag d) → (kk : Kids) → K (read_kids r kk) (TreesAre d (kids_rule kk))
      unfolding read_kids kids_rule
      kept_kids d r R no_value = keeps_pure c p nil _ (nil_are d _ refl)
      kept_kids d r R one_value = kept_one is_value_tag d r R
      kept_kids d r R values = keeps_free c p (keeps_varint c p) (λ n w. kept_many is_value_tag d n r R)
      kept_kids d r R keys = keeps_free c p (keeps_varint c p) (λ n w. kept_keys d n [] r R)
      kept_kids d r R pairs = keeps_free c p (keeps_varint c p) (λ n w. kept_pairs d n [] r R)

      kept_untagged : {h : ℕ → Bool} {d d' : ℕ} (r : Reader (Node Part)) → K r (NodeIs is_value_tag d') → (t : ℕ) (kinds : List ItemKind) (kk : Kids) → Row h d d' t (with_kids kinds kk)
          → K (read_untagged e r t kinds kk) (NodeIs h d)
      unfolding read_untagged row_rule
      kept_untagged {h} {d} {d'} r R t kinds kk w = keeps_then c p (keeps_row c p) (λ u i j x. keeps_bind c p (kept_items kinds) (λ is k m z. keeps_bind c p (kept_kids d' r R kk) (λ ts k' m' y.
          keeps_pure c p (node_of t is ts) (λ g k'' m''. NodeIs h d g (i + (k + (k' + k''))) (j + (m + (m' + m''))))
          (row_are w is ts k m k' m' _ _ z y (and_both z.items_kinds y.trees_test) (omega (arith, x.0, z.items_rows)) (omega (arith, x.1))))))

      -- the row itself is counted before its shape is read
      kept_shape : {h : ℕ → Bool} {d d' : ℕ} (r : Reader (Node Part)) → K r (NodeIs is_value_tag d') → (t : ℕ) (sh : Shape) → Row h d d' t sh → K (read_shape e r t sh) (λ u k m. NodeIs h d u (suc k) m)
      unfolding read_shape row_rule
      kept_shape {h} {d} {d'} r R t (with_kids kinds kk) w = keeps_bind c p (kept_items kinds) (λ is k m z. keeps_bind c p (kept_kids d' r R kk) (λ ts k' m' y.
          keeps_pure c p (node_of t is ts) (λ g k'' m''. NodeIs h d g (suc (k + (k' + k''))) (m + (m' + m'')))
          (row_are w is ts k m k' m' _ _ z y (and_both z.items_kinds y.trees_test) (omega (arith, z.items_rows)) (omega arith))))
      kept_shape {h} {d} {d'} r R t (with_chunk kinds) w =
          keeps_bind c p (kept_items kinds) (λ is k m z. keeps_bind c p (kept_one (is_tag 32) d' _ (kept_untagged r R 32 (ItemKind.code ∷ []) values (chunk_row_lem d'))) (λ ts k' m' y.
          keeps_pure c p (node_of t is ts) (λ g k'' m''. NodeIs h d g (suc (k + (k' + k''))) (m + (m' + m'')))
          (row_are w is ts k m k' m' _ _ z y (and_both z.items_kinds y.trees_test) (omega (arith, z.items_rows)) (omega arith))))
      kept_shape {h} {d} {d'} r R t (with_fields kinds) w = keeps_bind c p (kept_items kinds) (λ is k m z. keeps_bind c p (keeps_varint c p) (λ n i j x.
          keeps_bind c p (kept_many (is_tag 33) d' n _ (kept_untagged r R 33 (ItemKind.string ∷ []) one_value (field_row_lem d'))) (λ ts k' m' y.
          keeps_pure c p (node_of t is ts) (λ g k'' m''. NodeIs h d g (suc (k + (i + (k' + k'')))) (m + (j + (m' + m''))))
          (row_are w is ts k m k' m' _ _ z y (and_both z.items_kinds y.trees_test) (omega (arith, z.items_rows, x.0.no_rows)) (omega (arith, x.0.no_spans))))))
      kept_shape {h} {d} {d'} r R t (with_template kinds) w = keeps_at c p (λ q. keeps_bind c p R (λ f a b o. keeps_check c p _ 11 q _ (λ is-function. keeps_bind c p (kept_items kinds)
          (λ is k m z. keeps_bind c p (keeps_varint c p) (λ n i j x.
          keeps_bind c p (kept_many is_value_tag d' n r R) (λ ts k' m' y. keeps_pure c p (node_of t is (cons f ts)) (λ g k'' m''. NodeIs h d g (suc (a + (k + (i + (k' + k''))))) (b + (m + (j + (m' + m'')))))
          (row_are w is (cons f ts) k m (a + k') (b + m') _ _ z (put_are (λ rs. true) f ts a b k' m' _ _ o y refl refl refl)
          (closure_rule kinds (forget_items is) f ts z.items_kinds is-function y.trees_test) (omega (arith, z.items_rows, x.0.no_rows)) (omega (arith, x.0.no_spans)))))))))

      kept_value : (d : ℕ) → K (read_value e d) (NodeIs is_value_tag d)
      unfolding read_value
      kept_value zero = keeps_at c p (λ q. keeps_free c p (keeps_byte c p) (λ t w. keeps_check c p _ 5 q _ (λ x. keeps_check c p _ 15 q _ (λ z. false≢true z))))
      kept_value (suc d) = keeps_at c p (λ q. keeps_free c p (keeps_byte c p) (λ t w. keeps_check c p _ 5 q _ (λ x. keeps_then c p (keeps_row c p) (λ u i j y.
          keeps_so c p _ (λ v k m z. are_as z (omega (arith, y.0)) (omega (arith, y.1))) (kept_shape (read_value e d) (kept_value d) t (shape t) (value_row d t x))))))

      pub kept_chunk : K (read_chunk e) (NodeIs (is_tag 32) 32)
      unfolding read_chunk
      kept_chunk = kept_untagged (read_value e 32) (kept_value 32) 32 (ItemKind.code ∷ []) values (chunk_row_lem 32)
