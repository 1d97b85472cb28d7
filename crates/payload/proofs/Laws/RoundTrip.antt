-- What the reader of values makes of a tree's bytes: that tree.
use Rattle.std.specs.Prelude.{Bool, false, not, ◌≡◌, ltb, get_or}
use Rattle.std.proofs.Math.Bool.{true}
use mathlib.Core.List.{List, [], ◌++◌, ◌∷◌, append-nil, map}
use Rattle.std.proofs.Common.{◌∙◌, arith}
use Rattle.std.proofs.Math.Path.{ap, ap₂, refl, subst, sym}
use Prim.Native.Nat.{◌+◌, ◌/◌, ◌<◌, ◌^◌, ◌≤◌, pred, suc, zero, ℕ}
use Rattle.std.proofs.Math.Dec.{eqb, leb}
use Rattle.std.proofs.Math.ListN.{length}
use borrow.Author.Tests.{eqb-true, le-leb, lt-ltb}
use Rattle.varint.specs.Uleb128.{uleb128}
use Rattle.payload.specs.Choice.{◌and◌, when◌then◌else◌}
use Rattle.payload.specs.Demand3.{all_items, all_of}
use Rattle.payload.specs.Laws.Gives.{Gives, gives_as, gives_at, gives_bind, gives_byte, gives_check, gives_fits, gives_here, gives_is, gives_must, gives_pure, gives_row, gives_then}
use Rattle.payload.proofs.Laws.Numbers.{gives_cut, gives_number}
use Rattle.payload.specs.Laws.Pool.{and_both, and_left, and_right, false≢true, index_of_at, index_of_lt}
use Rattle.payload.specs.Laws.Rules.{all_tags, all_values, distinct_keys, distinct_pairs, is_tag, is_value_tag, kids_rule, obey_rules, roots, row_rule, same_kind, same_kinds}
use Rattle.payload.proofs.Laws.Spans.{gives_code}
use Rattle.payload.specs.Laws.Varint.{gives_varint}
use Rattle.payload.specs.Numbers.{NumberKind-discrete, fits_kind, varint}
use Rattle.payload.specs.Pool.{index_of, is_in}
use Rattle.payload.specs.Reader.{Part, Reader, ◌>>=◌, pure}
use Rattle.payload.specs.Reading.{Context, node_key, read_item, read_items, read_keys, read_kids, read_many, read_one, read_pairs, read_pool_index, read_shape, read_untagged, read_value, test_key}
use Rattle.payload.specs.declared.Capacities.{Capacities}
use Rattle.payload.specs.Shapes.{ItemKind, ItemKind-discrete, Kids, Shape, is_key_tag, keys, no_value, one_value, pairs, shape, values, with_chunk, with_fields, with_kids, with_template}
use Rattle.payload.specs.Spans.{small_spans}
use Rattle.payload.specs.Trees.{Item, Node, Trees, code, cons, forget_item, forget_items, forget_node, forget_trees, key_of, kind_of, native_name, nil, node, node_of, number, record_name, size, span_count, span_item, span_items, string}
use Rattle.payload.specs.Writing.{concat, tag_byte, write_item, write_items, write_kids, write_row, write_trees}

pub same_kind_eq : (a b : ItemKind) → same_kind a b ≡ true → a ≡ b
unfolding same_kind
same_kind_eq a b = go (ItemKind-discrete NumberKind-discrete a b)
  where
    go : (d : Dec (a ≡ b)) → ◌≡◌ {A = Bool} (elim d [ yes p ↦ true | no q ↦ false ]) true → a ≡ b
    go (yes p) e = p
    go (no q) e = false≢true e

get_or_bytes : (p : List Part) (i : ℕ) (d : Part) → (get_or p i d).bytes ≡ get_or (map (λ (x : Part). x.bytes) p) i d.bytes
get_or_bytes [] i d = refl
get_or_bytes (x ∷ xs) zero d = refl
get_or_bytes (x ∷ xs) (suc i) d = get_or_bytes xs i d

length_bytes : (p : List Part) → length (map (λ (x : Part). x.bytes) p) ≡ length p
length_bytes [] = refl
length_bytes (x ∷ xs) = ap suc (length_bytes xs)

-- what an item must meet to be written against the pool l and read back
unfoldable pub item_readable : (List ℕ → Bool) → List (List ℕ) → Item (List ℕ) → Bool
item_readable listed l (number k w) = fits_kind k w
item_readable listed l (string b) = is_in b l
item_readable listed l (native_name b) = is_in b l and listed b
item_readable listed l (record_name b) = is_in b l
item_readable listed l (code b ss) = eqb (length ss) (length b) and small_spans ss

count_le : (l : List (List ℕ)) (ts : Trees (List ℕ)) → length (write_trees l ts) ≤ size ts
unfolding write_trees size
count_le l nil = omega arith
count_le l (node t is ks ts) = let h = count_le l ts in omega arith

put_bytes : (u : Node Part) (us : Trees Part) (t : ℕ) (is : List (Item (List ℕ))) (ks ts : Trees (List ℕ))
    → forget_node u ≡ node_of t is ks → forget_trees us ≡ ts → forget_trees (cons u us) ≡ node t is ks ts
unfolding cons forget_trees forget_node node_of
put_bytes u us t is ks ts e f = ap₂ cons e f

pair_bytes : (t : ℕ) (js : List (Item Part)) (us : Trees Part) (is : List (Item (List ℕ))) (ts : Trees (List ℕ)) → forget_items js ≡ is → forget_trees us ≡ ts → forget_node (node_of t js us) ≡ node_of t is ts
unfolding forget_node node_of
pair_bytes t js us is ts a b = ap₂ (node_of t) a b

node_tag : (f : Node Part) (n : ℕ) (is : List (Item (List ℕ))) (ks : Trees (List ℕ)) → forget_node f ≡ node_of n is ks → f.tag ≡ n
unfolding forget_node node_of
node_tag f n is ks z = ap (λ (n : Node (List ℕ)). n.tag) z

module _ (e : Context) (l : List (List ℕ)) (pool_is : map (λ (x : Part). x.bytes) e.pool ≡ l) (few : length l ≤ 2 ^ 32)
    (rows_fit : e.capacities.rows < 2 ^ 64) (spans_fit : e.capacities.spans < 2 ^ 64) where
  abbrev c : Capacities
  c = e.capacities

  abbrev readable : Item (List ℕ) → Bool
  readable = item_readable e.listed l

  pub gives_index : (b : List ℕ) → is_in b l ≡ true → Gives c (read_pool_index e) (uleb128 (index_of b l)) 0 0 (λ a. a.bytes ≡ b)
  unfolding read_pool_index
  gives_index b h =
      let lt = index_of_lt b l h in
      let len = ap length (sym pool_is) ∙ length_bytes e.pool in
      gives_bind gives_here (λ p u. gives_as
      (gives_is _ (gives_cut (2 ^ 32) (index_of b l) (omega arith) (omega arith))
      (gives_then (gives_must _ 4 p (lt-ltb (index_of b l) (length e.pool) (omega arith)))
      (gives_pure _ (λ a. a.bytes ≡ b) (get_or_bytes e.pool (index_of b l) _ ∙ rw pool_is (index_of_at b l [] h)))))
      (simp append-nil) refl refl)

  gives_item : (i : Item (List ℕ)) → readable i ≡ true → Gives c (read_item e (kind_of i)) (write_item l i) 0 (span_item i) (λ a. forget_item a ≡ i)
  unfolding read_item kind_of write_item span_item forget_item item_readable
  gives_item (number k w) h = gives_as (gives_is _ (gives_number k w h) (gives_pure _ (λ a. forget_item a ≡ number k w) refl)) (simp append-nil) refl refl
  gives_item (string b) h = gives_as (gives_bind (gives_index b h) (λ a q. gives_pure _ (λ a. forget_item a ≡ string b) (ap string q))) (simp append-nil) refl refl
  gives_item (native_name b) h = gives_bind gives_here (λ p u. gives_as (gives_bind (gives_index b (and_left _ _ h)) (λ a q.
      gives_then (gives_must _ 14 p (rw q (and_right _ _ h))) (gives_pure _ (λ a. forget_item a ≡ native_name b) (ap native_name q)))) (simp append-nil) refl refl)
  gives_item (record_name b) h = gives_as (gives_bind (gives_index b h) (λ a q. gives_pure _ (λ a. forget_item a ≡ record_name b) (ap record_name q))) (simp append-nil) refl refl
  gives_item (code b ss) h = gives_fits (λ hr hs. gives_as (gives_bind (gives_code b ss (eqb-true _ _ (and_left _ _ h)) (omega arith) (and_right _ _ h)) (λ a q.
      gives_pure _ (λ a. forget_item a ≡ code b ss) (ap₂ code q.0 q.1))) (simp append-nil) refl (omega arith))

  gives_item_of : (k : ItemKind) (i : Item (List ℕ)) → same_kind k (kind_of i) ≡ true → readable i ≡ true → Gives c (read_item e k) (write_item l i) 0 (span_item i) (λ a. forget_item a ≡ i)
  gives_item_of k i q h = rw (same_kind_eq k (kind_of i) q) (gives_item i h)

  gives_items : (ks : List ItemKind) (is : List (Item (List ℕ))) → same_kinds ks is ≡ true → all_of readable is ≡ true → Gives c (read_items e ks) (write_items l is) 0 (span_items is) (λ a. forget_items a ≡ is)
  unfolding read_items write_items span_items same_kinds all_of forget_items
  gives_items [] [] q h = gives_pure [] (λ a. forget_items a ≡ []) refl
  gives_items [] (i ∷ is) q h = false≢true q
  gives_items (k ∷ ks) [] q h = false≢true q
  gives_items (k ∷ ks) (i ∷ is) q h = gives_as
      (gives_bind (gives_item_of k i (and_left _ _ q) (and_left _ _ h)) (λ a p.
      gives_bind (gives_items ks is (and_right _ _ q) (and_right _ _ h)) (λ b r. gives_pure _ (λ a. forget_items a ≡ i ∷ is) (ap₂ ◌∷◌ p r))))
      (simp append-nil) refl (omega arith)

  -- r reads, with d levels left, each tree whose tag passes g
  abbrev Reads : (ℕ → Bool) → ℕ → Reader (Node Part) → Type 0
  Reads g d r = (t : ℕ) (is : List (Item (List ℕ))) (ks : Trees (List ℕ)) → g t ≡ true → obey_rules d (node t is ks nil) ≡ true → all_items readable (node t is ks nil) ≡ true
      → Gives c r (tag_byte t ++ write_row (write_items l is) (shape t) (write_trees l ks)) (suc (size ks)) (span_items is + span_count ks) (λ u. forget_node u ≡ node_of t is ks)

  first_shaped : (d t : ℕ) (is : List (Item (List ℕ))) (ks ts : Trees (List ℕ)) → obey_rules d (node t is ks ts) ≡ true → obey_rules d (node t is ks nil) ≡ true
  unfolding obey_rules
  first_shaped d t is ks ts h = and_both (and_left _ _ h) (and_both (and_left _ _ (and_right _ _ h)) refl)

  rest_shaped : (d t : ℕ) (is : List (Item (List ℕ))) (ks ts : Trees (List ℕ)) → obey_rules d (node t is ks ts) ≡ true → obey_rules d ts ≡ true
  unfolding obey_rules
  rest_shaped d t is ks ts h = and_right _ _ (and_right _ _ h)

  first_fine : (t : ℕ) (is : List (Item (List ℕ))) (ks ts : Trees (List ℕ)) → all_items readable (node t is ks ts) ≡ true → all_items readable (node t is ks nil) ≡ true
  unfolding all_items
  first_fine t is ks ts h = and_both (and_left _ _ h) (and_both (and_left _ _ (and_right _ _ h)) refl)

  rest_fine : (t : ℕ) (is : List (Item (List ℕ))) (ks ts : Trees (List ℕ)) → all_items readable (node t is ks ts) ≡ true → all_items readable ts ≡ true
  unfolding all_items
  rest_fine t is ks ts h = and_right _ _ (and_right _ _ h)

  gives_times : (g : ℕ → Bool) (d : ℕ) (r : Reader (Node Part)) → Reads g d r → (ts : Trees (List ℕ)) → all_tags g (roots ts) ≡ true → obey_rules d ts ≡ true → all_items readable ts ≡ true
      → Gives c (read_many (length (write_trees l ts)) r) (concat (write_trees l ts)) (size ts) (span_count ts) (λ us. forget_trees us ≡ ts)
  unfolding read_many write_trees concat size span_count all_tags roots forget_trees
  gives_times g d r R nil q s h = gives_pure nil (λ us. forget_trees us ≡ nil) refl
  gives_times g d r R (node t is ks ts) q s h = gives_as
      (gives_bind (R t is ks (and_left _ _ q) (first_shaped d t is ks ts s) (first_fine t is ks ts h)) (λ u p.
      gives_bind (gives_times g d r R ts (and_right _ _ q) (rest_shaped d t is ks ts s) (rest_fine t is ks ts h)) (λ us p'.
      gives_pure _ (λ us. forget_trees us ≡ node t is ks ts) (put_bytes u us t is ks ts p p'))))
      (simp append-nil) (omega arith) (omega arith)

  -- a key passes its test, if the tree says so
  gives_key : (p : ℕ) (seen : List (List ℕ)) (u : Node Part) (t : ℕ) (is : List (Item (List ℕ))) (ks : Trees (List ℕ)) → forget_node u ≡ node_of t is ks
      → is_key_tag t ≡ true → not (is_in (key_of t is) seen) ≡ true → Gives c (test_key p seen u) [] 0 0 (λ a. Unit {0})
  unfolding test_key node_key forget_node node_of
  gives_key p seen u t is ks q a b =
      let qt : u.tag ≡ t = ap (λ (n : Node (List ℕ)). n.tag) q in
      let qi : forget_items u.items ≡ is = ap (λ (n : Node (List ℕ)). n.items) q in
      gives_then (gives_must _ 9 p (rw qt a)) (gives_must _ 10 p (rw (qt, qi) b))

  key_bytes : (u : Node Part) (t : ℕ) (is : List (Item (List ℕ))) (ks : Trees (List ℕ)) → forget_node u ≡ node_of t is ks → key_of t is ≡ node_key u
  unfolding node_key forget_node node_of
  key_bytes u t is ks q = ap₂ key_of (ap (λ (n : Node (List ℕ)). n.tag) (sym q)) (ap (λ (n : Node (List ℕ)). n.items) (sym q))

  gives_times_keys : (d : ℕ) (r : Reader (Node Part)) → Reads is_value_tag d r → (seen : List (List ℕ)) (ts : Trees (List ℕ)) → all_values (roots ts) ≡ true → distinct_keys seen (roots ts) ≡ true
      → obey_rules d ts ≡ true → all_items readable ts ≡ true
      → Gives c (read_keys (length (write_trees l ts)) seen r) (concat (write_trees l ts)) (size ts) (span_count ts) (λ us. forget_trees us ≡ ts)
  unfolding read_keys write_trees concat size span_count all_tags roots forget_trees distinct_keys
  gives_times_keys d r R seen nil q w s h = gives_pure nil (λ us. forget_trees us ≡ nil) refl
  gives_times_keys d r R seen (node t is ks ts) q w s h =
      gives_at (λ p. gives_as
      (gives_bind (R t is ks (and_left _ _ q) (first_shaped d t is ks ts s) (first_fine t is ks ts h)) (λ u z.
      gives_then (gives_key p seen u t is ks z (and_left _ _ w) (and_left _ _ (and_right _ _ w)))
      (gives_bind (gives_times_keys d r R (node_key u ∷ seen) ts (and_right _ _ q)
      (rw (key_bytes u t is ks z) at (and_right _ _ (and_right _ _ w))) (rest_shaped d t is ks ts s) (rest_fine t is ks ts h)) (λ us p'.
      gives_pure _ (λ us. forget_trees us ≡ node t is ks ts) (put_bytes u us t is ks ts z p')))))
      (simp append-nil) (omega arith) (omega arith))

  two_more : (n : ℕ) → suc (suc n) / 2 ≡ suc (n / 2)
  two_more n = omega arith

  half_encs : (t : ℕ) (is : List (Item (List ℕ))) (ks : Trees (List ℕ)) (t' : ℕ) (is' : List (Item (List ℕ))) (ks' ts : Trees (List ℕ))
      → suc (length (write_trees l ts) / 2) ≡ length (write_trees l (node t is ks (node t' is' ks' ts))) / 2
  unfolding write_trees
  half_encs t is ks t' is' ks' ts = sym (two_more (length (write_trees l ts)))

  value₁ : (t : ℕ) (is : List (Item (List ℕ))) (ks ts : Trees (List ℕ)) → all_values (roots (node t is ks ts)) ≡ true → is_value_tag t ≡ true
  unfolding all_tags roots
  value₁ t is ks ts q = and_left _ _ q

  value₂ : (t : ℕ) (is : List (Item (List ℕ))) (ks ts : Trees (List ℕ)) → all_values (roots (node t is ks ts)) ≡ true → all_values (roots ts) ≡ true
  unfolding all_tags roots
  value₂ t is ks ts q = and_right _ _ q

  module _ (seen : List (List ℕ)) (t : ℕ) (is : List (Item (List ℕ))) (ks : Trees (List ℕ)) (t' : ℕ) (is' : List (Item (List ℕ))) (ks' ts : Trees (List ℕ))
      (w : distinct_pairs seen (roots (node t is ks (node t' is' ks' ts))) ≡ true) where
    pair₁ : is_key_tag t ≡ true
    unfolding distinct_pairs roots
    pair₁ = and_left _ _ w

    pair₂ : not (is_in (key_of t is) seen) ≡ true
    unfolding distinct_pairs roots
    pair₂ = and_left _ _ (and_right _ _ w)

    pair₃ : distinct_pairs (key_of t is ∷ seen) (roots ts) ≡ true
    unfolding distinct_pairs roots
    pair₃ = and_right _ _ (and_right _ _ w)

  -- one pair, before the pairs that follow
  gives_pair : (d n : ℕ) (r : Reader (Node Part)) → Reads is_value_tag d r
      → (seen : List (List ℕ)) (t : ℕ) (is : List (Item (List ℕ))) (ks : Trees (List ℕ)) (t' : ℕ) (is' : List (Item (List ℕ))) (ks' ts : Trees (List ℕ))
      → is_value_tag t ≡ true → obey_rules d (node t is ks nil) ≡ true → all_items readable (node t is ks nil) ≡ true
      → is_value_tag t' ≡ true → obey_rules d (node t' is' ks' nil) ≡ true → all_items readable (node t' is' ks' nil) ≡ true
      → is_key_tag t ≡ true → not (is_in (key_of t is) seen) ≡ true
      → ((u : Node Part) → key_of t is ≡ node_key u → Gives c (read_pairs n (node_key u ∷ seen) r) (concat (write_trees l ts)) (size ts) (span_count ts) (λ us. forget_trees us ≡ ts))
      → Gives c (read_pairs (suc n) seen r) (concat (write_trees l (node t is ks (node t' is' ks' ts)))) (size (node t is ks (node t' is' ks' ts))) (span_count (node t is ks (node t' is' ks' ts)))
      (λ us. forget_trees us ≡ node t is ks (node t' is' ks' ts))
  unfolding read_pairs write_trees concat size span_count
  gives_pair d n r R seen t is ks t' is' ks' ts q s h q' s' h' w w' rest =
      gives_at (λ p. gives_as
      (gives_bind (R t is ks q s h) (λ u z.
      gives_bind (R t' is' ks' q' s' h') (λ v y.
      gives_then (gives_key p seen u t is ks z w w')
      (gives_bind (rest u (key_bytes u t is ks z)) (λ us p'.
      gives_pure _ (λ us. forget_trees us ≡ node t is ks (node t' is' ks' ts)) (put_bytes u (cons v us) t is ks (node t' is' ks' ts) z (put_bytes v us t' is' ks' ts y p')))))))
      (simp append-nil) (omega arith) (omega arith))

  gives_times_pairs : (d : ℕ) (r : Reader (Node Part)) → Reads is_value_tag d r → (seen : List (List ℕ)) (ts : Trees (List ℕ)) → all_values (roots ts) ≡ true → distinct_pairs seen (roots ts) ≡ true
      → obey_rules d ts ≡ true → all_items readable ts ≡ true
      → Gives c (read_pairs (length (write_trees l ts) / 2) seen r) (concat (write_trees l ts)) (size ts) (span_count ts) (λ us. forget_trees us ≡ ts)
  gives_times_pairs d r R seen nil q w s h = unfold read_pairs write_trees concat size span_count forget_trees in (gives_pure nil (λ us. forget_trees us ≡ nil) refl)
  gives_times_pairs d r R seen (node t is ks nil) q w s h = unfold distinct_pairs roots in (false≢true w)
  gives_times_pairs d r R seen (node t is ks (node t' is' ks' ts)) q w s h =
      subst (λ (n : ℕ). Gives c (read_pairs n seen r) (concat (write_trees l (node t is ks (node t' is' ks' ts)))) (size (node t is ks (node t' is' ks' ts))) (span_count (node t is ks (node t' is' ks' ts)))
      (λ us. forget_trees us ≡ node t is ks (node t' is' ks' ts))) (half_encs t is ks t' is' ks' ts)
      (gives_pair d (length (write_trees l ts) / 2) r R seen t is ks t' is' ks' ts (value₁ t is ks _ q) (first_shaped d t is ks _ s) (first_fine t is ks _ h)
      (value₁ t' is' ks' _ (value₂ t is ks _ q)) (first_shaped d t' is' ks' ts (rest_shaped d t is ks _ s)) (first_fine t' is' ks' ts (rest_fine t is ks _ h))
      (pair₁ seen t is ks t' is' ks' ts w) (pair₂ seen t is ks t' is' ks' ts w)
      (λ u z. gives_times_pairs d r R (node_key u ∷ seen) ts (value₂ t' is' ks' _ (value₂ t is ks _ q)) (rw z at (pair₃ seen t is ks t' is' ks' ts w))
      (rest_shaped d t' is' ks' ts (rest_shaped d t is ks _ s)) (rest_fine t' is' ks' ts (rest_fine t is ks _ h))))

  gives_count : (ts : Trees (List ℕ)) → size ts ≤ c.rows → Gives c varint (uleb128 (length (write_trees l ts))) 0 0 (λ n. n ≡ length (write_trees l ts))
  gives_count ts h = gives_varint (length (write_trees l ts)) (let q = count_le l ts in omega arith)

  no_roots : {C : Type 0} (n : ℕ) → eqb (suc n) 0 ≡ true → C
  no_roots n e = let q = eqb-true (suc n) 0 e in absurd (omega arith)

  one_root : {C : Type 0} (n : ℕ) → eqb (suc (suc n)) 1 ≡ true → C
  one_root n e = let q = eqb-true (suc (suc n)) 1 e in absurd (omega arith)

  gives_none : (ts : Trees (List ℕ)) → eqb (length (roots ts)) 0 ≡ true → Gives c (pure nil) (concat (write_trees l ts)) (size ts) (span_count ts) (λ us. forget_trees us ≡ ts)
  unfolding write_trees concat size span_count forget_trees roots
  gives_none nil q = gives_pure nil (λ us. forget_trees us ≡ nil) refl
  gives_none (node t is ks ts) q = no_roots (length (roots ts)) q

  gives_one : (d : ℕ) (r : Reader (Node Part)) (g : ℕ → Bool) → Reads g d r → (ts : Trees (List ℕ)) → (eqb (length (roots ts)) 1 and all_tags g (roots ts)) ≡ true → obey_rules d ts ≡ true → all_items readable ts ≡ true
      → Gives c (read_one r) (concat (write_trees l ts)) (size ts) (span_count ts) (λ us. forget_trees us ≡ ts)
  unfolding read_one write_trees concat size span_count forget_trees roots all_tags ◌and◌
  gives_one d r g R nil q s h = false≢true q
  gives_one d r g R (node t is ks nil) q s h = gives_as
      (gives_bind (R t is ks (and_left _ _ q) s h) (λ u z.
      gives_pure _ (λ us. forget_trees us ≡ node t is ks nil) (put_bytes u nil t is ks nil z refl)))
      refl (omega arith) (omega arith)
  gives_one d r g R (node t is ks (node t' is' ks' ts)) q s h = one_root (length (roots ts)) (and_left _ _ q)

  gives_kids : (d : ℕ) (r : Reader (Node Part)) → Reads is_value_tag d r → (kk : Kids) (ts : Trees (List ℕ)) → kids_rule kk (roots ts) ≡ true → obey_rules d ts ≡ true → all_items readable ts ≡ true
      → Gives c (read_kids r kk) (write_kids kk (write_trees l ts)) (size ts) (span_count ts) (λ us. forget_trees us ≡ ts)
  unfolding read_kids write_kids kids_rule
  gives_kids d r R no_value ts q s h = gives_none ts q
  gives_kids d r R one_value ts q s h = gives_one d r is_value_tag R ts q s h
  gives_kids d r R values ts q s h = gives_fits (λ hr hs. gives_as (gives_is _ (gives_count ts hr) (gives_times is_value_tag d r R ts q s h)) refl (omega arith) (omega arith))
  gives_kids d r R keys ts q s h = gives_fits (λ hr hs. gives_as (gives_is _ (gives_count ts hr) (gives_times_keys d r R [] ts (and_left _ _ q) (and_right _ _ q) s h)) refl (omega arith) (omega arith))
  gives_kids d r R pairs ts q s h = gives_fits (λ hr hs. gives_as (gives_is _ (gives_varint (length (write_trees l ts) / 2) (let z = count_le l ts in omega arith))
      (gives_times_pairs d r R [] ts (and_left _ _ q) (and_right _ _ q) s h)) refl (omega arith) (omega arith))

  -- the items, and the kids
  gives_vals : (d : ℕ) (r : Reader (Node Part)) → Reads is_value_tag d r → (t : ℕ) (kn : List ItemKind) (kk : Kids) (is : List (Item (List ℕ))) (ks : Trees (List ℕ))
      → same_kinds kn is ≡ true → kids_rule kk (roots ks) ≡ true → obey_rules d ks ≡ true → all_of readable is ≡ true → all_items readable ks ≡ true
      → Gives c (read_items e kn >>= λ js. read_kids r kk >>= λ us. pure (node_of t js us)) (write_items l is ++ write_kids kk (write_trees l ks)) (size ks) (span_items is + span_count ks) (λ u. forget_node u ≡ node_of t is ks)
  unfolding forget_node node_of
  gives_vals d r R t kn kk is ks a q s h g = gives_as
      (gives_bind (gives_items kn is a h) (λ js z.
      gives_bind (gives_kids d r R kk ks q s g) (λ us y.
      gives_pure _ (λ u. forget_node u ≡ node_of t is ks) (ap₂ (node_of t) z y))))
      (simp append-nil) (omega arith) (omega arith)

  gives_wrapped : (d : ℕ) (r : Reader (Node Part)) → Reads is_value_tag d r → (t : ℕ) (kn : List ItemKind) (kk : Kids) (is : List (Item (List ℕ))) (ks : Trees (List ℕ))
      → same_kinds kn is ≡ true → kids_rule kk (roots ks) ≡ true → obey_rules d ks ≡ true → all_of readable is ≡ true → all_items readable ks ≡ true
      → Gives c (read_untagged e r t kn kk) (write_items l is ++ write_kids kk (write_trees l ks)) (suc (size ks)) (span_items is + span_count ks) (λ u. forget_node u ≡ node_of t is ks)
  unfolding read_untagged
  gives_wrapped d r R t kn kk is ks a q s h g = gives_as (gives_then gives_row (gives_vals d r R t kn kk is ks a q s h g)) refl (omega arith) (omega arith)

  pub chunk_is : (d : ℕ) (r : Reader (Node Part)) → Reads is_value_tag d r → (is : List (Item (List ℕ))) (ks : Trees (List ℕ)) → obey_rules d (node 32 is ks nil) ≡ true → all_items readable (node 32 is ks nil) ≡ true
      → Gives c (read_untagged e r 32 (ItemKind.code ∷ []) values) (tag_byte 32 ++ write_row (write_items l is) (shape 32) (write_trees l ks)) (suc (size ks)) (span_items is + span_count ks) (λ u. forget_node u ≡ node_of 32 is ks)
  unfolding obey_rules shape all_items tag_byte write_row when◌then◌else◌ row_rule
  chunk_is d r R is ks s h = gives_wrapped d r R 32 (ItemKind.code ∷ []) values is ks (and_left _ _ (and_left _ _ s)) (and_right _ _ (and_left _ _ s))
      (and_left _ _ (and_right _ _ s)) (and_left _ _ h) (and_left _ _ (and_right _ _ h))

  pub reads_chunk : (d : ℕ) (r : Reader (Node Part)) → Reads is_value_tag d r → Reads (is_tag 32) d (read_untagged e r 32 (ItemKind.code ∷ []) values)
  reads_chunk d r R t is ks q s h = let z = eqb-true t 32 q in rw z (chunk_is d r R is ks (rw z at s) (rw z at h))

  field_is : (d : ℕ) (r : Reader (Node Part)) → Reads is_value_tag d r → (is : List (Item (List ℕ))) (ks : Trees (List ℕ)) → obey_rules d (node 33 is ks nil) ≡ true → all_items readable (node 33 is ks nil) ≡ true
      → Gives c (read_untagged e r 33 (ItemKind.string ∷ []) one_value) (tag_byte 33 ++ write_row (write_items l is) (shape 33) (write_trees l ks)) (suc (size ks)) (span_items is + span_count ks) (λ u. forget_node u ≡ node_of 33 is ks)
  unfolding obey_rules shape all_items tag_byte write_row when◌then◌else◌ row_rule
  field_is d r R is ks s h = gives_wrapped d r R 33 (ItemKind.string ∷ []) one_value is ks (and_left _ _ (and_left _ _ s)) (and_right _ _ (and_left _ _ s))
      (and_left _ _ (and_right _ _ s)) (and_left _ _ h) (and_left _ _ (and_right _ _ h))

  reads_field : (d : ℕ) (r : Reader (Node Part)) → Reads is_value_tag d r → Reads (is_tag 33) d (read_untagged e r 33 (ItemKind.string ∷ []) one_value)
  reads_field d r R t is ks q s h = let z = eqb-true t 33 q in rw z (field_is d r R is ks (rw z at s) (rw z at h))

  -- a row after its tag
  gives_closure : (d : ℕ) (r : Reader (Node Part)) → Reads is_value_tag d r → (t : ℕ) (kn : List ItemKind) (is : List (Item (List ℕ))) (ks : Trees (List ℕ))
      → row_rule (with_template kn) is (roots ks) ≡ true → obey_rules d ks ≡ true → all_of readable is ≡ true → all_items readable ks ≡ true
      → Gives c (read_shape e r t (with_template kn)) (write_row (write_items l is) (with_template kn) (write_trees l ks)) (size ks) (span_items is + span_count ks) (λ u. forget_node u ≡ node_of t is ks)
  unfolding read_shape write_row row_rule write_trees size span_count roots
  gives_closure d r R t kn is nil q s h g = false≢true q
  gives_closure d r R t kn is (node ft fi fk ks) q s h g =
      gives_at (λ p. gives_fits (λ hr hs. gives_as
      (gives_bind (R ft fi fk (value_7 ft (and_left _ _ (and_right _ _ q))) (first_shaped d ft fi fk ks s) (first_fine ft fi fk ks g)) (λ f z.
      gives_check _ 11 p _ (tag_7 f ft fi fk z (and_left _ _ (and_right _ _ q)))
      (gives_bind (gives_items kn is (and_left _ _ q) h) (λ js y.
      gives_is _ (gives_count ks (omega arith))
      (gives_bind (gives_times is_value_tag d r R ks (and_right _ _ (and_right _ _ q)) (rest_shaped d ft fi fk ks s) (rest_fine ft fi fk ks g)) (λ us x.
      gives_pure _ (λ u. forget_node u ≡ node_of t is (node ft fi fk ks)) (pair_bytes t js (cons f us) is (node ft fi fk ks) y (put_bytes f us ft fi fk ks z x))))))))
      (simp append-nil) (omega arith) (omega arith)))
    where
      value_7 : (n : ℕ) → eqb n 7 ≡ true → leb n 26 ≡ true
      value_7 n w = let m = eqb-true n 7 w in le-leb n 26 (omega arith)

      tag_7 : (f : Node Part) (n : ℕ) (is : List (Item (List ℕ))) (ks : Trees (List ℕ)) → forget_node f ≡ node_of n is ks → eqb n 7 ≡ true → eqb f.tag 7 ≡ true
      tag_7 f n is ks z w = rw (node_tag f n is ks z) w

  gives_shape : (d : ℕ) (r : Reader (Node Part)) → Reads is_value_tag d r → (t : ℕ) (sh : Shape) (is : List (Item (List ℕ))) (ks : Trees (List ℕ))
      → row_rule sh is (roots ks) ≡ true → obey_rules d ks ≡ true → all_of readable is ≡ true → all_items readable ks ≡ true
      → Gives c (read_shape e r t sh) (write_row (write_items l is) sh (write_trees l ks)) (size ks) (span_items is + span_count ks) (λ u. forget_node u ≡ node_of t is ks)
  unfolding read_shape write_row row_rule
  gives_shape d r R t (with_kids kn kk) is ks q s h g = gives_vals d r R t kn kk is ks (and_left _ _ q) (and_right _ _ q) s h g
  gives_shape d r R t (with_chunk kn) is ks q s h g = gives_as
      (gives_bind (gives_items kn is (and_left _ _ q) h) (λ js y.
      gives_bind (gives_one d _ (is_tag 32) (reads_chunk d r R) ks (and_right _ _ q) s g) (λ us x.
      gives_pure _ (λ u. forget_node u ≡ node_of t is ks) (pair_bytes t js us is ks y x))))
      (simp append-nil) (omega arith) (omega arith)
  gives_shape d r R t (with_fields kn) is ks q s h g = gives_fits (λ hr hs. gives_as
      (gives_bind (gives_items kn is (and_left _ _ q) h) (λ js y.
      gives_is _ (gives_count ks (omega arith))
      (gives_bind (gives_times (is_tag 33) d _ (reads_field d r R) ks (and_right _ _ q) s g) (λ us x.
      gives_pure _ (λ u. forget_node u ≡ node_of t is ks) (pair_bytes t js us is ks y x)))))
      (simp append-nil) (omega arith) (omega arith))
  gives_shape d r R t (with_template kn) is ks q s h g = gives_closure d r R t kn is ks q s h g

  module _ (d t : ℕ) (is : List (Item (List ℕ))) (ks : Trees (List ℕ)) (q : leb t 26 ≡ true) (s : obey_rules d (node t is ks nil) ≡ true) where
    lead_is : tag_byte t ≡ t ∷ []
    unfolding tag_byte when◌then◌else◌
    lead_is = rw q

    shaped_rule : row_rule (shape t) is (roots ks) ≡ true
    unfolding obey_rules
    shaped_rule = and_left _ _ s

    shaped_deep : (ltb 0 d and obey_rules (pred d) ks) ≡ true
    unfolding obey_rules when◌then◌else◌
    shaped_deep = rw q at (and_left _ _ (and_right _ _ s))

  module _ (t : ℕ) (is : List (Item (List ℕ))) (ks : Trees (List ℕ)) (h : all_items readable (node t is ks nil) ≡ true) where
    items_fine : all_of readable is ≡ true
    unfolding all_items
    items_fine = and_left _ _ h

    kids_fine : all_items readable ks ≡ true
    unfolding all_items
    kids_fine = and_left _ _ (and_right _ _ h)

  pub reads_value : (d : ℕ) → Reads is_value_tag d (read_value e d)
  unfolding read_value
  reads_value zero t is ks q s h = false≢true (and_left _ _ (shaped_deep zero t is ks q s))
  reads_value (suc d) t is ks q s h = gives_at (λ p. gives_as
      (gives_is _ (gives_byte t)
      (gives_check _ 5 p _ q
      (gives_then gives_row
      (gives_shape d (read_value e d) (reads_value d) t (shape t) is ks (shaped_rule (suc d) t is ks q s) (and_right _ _ (shaped_deep (suc d) t is ks q s)) (items_fine t is ks h) (kids_fine t is ks h)))))
      (rw (lead_is (suc d) t is ks q s)) (omega arith) (omega arith))
