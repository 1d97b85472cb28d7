-- The scan of the rows of a sound program gives its trees.
use Rattle.std.specs.Prelude.{Bool, ◌≡◌, ltb, drop, length, replicate, take}
use Rattle.std.proofs.Math.Bool.{true}
use mathlib.Core.List.{List, [], ◌++◌, ◌∷◌, append_assoc, append-nil}
use Rattle.std.proofs.Common.{◌∙◌, ap₂}
use Rattle.std.proofs.Math.Path.{ap, refl, subst, sym}
use Prim.Native.Nat.{◌+◌, ◌/◌, ◌≤◌, pred, suc, zero, ℕ}
use native.Mathlib.Omega.{arith}
use Rattle.std.proofs.Math.Dec.{eqb, leb}
use borrow.Author.Tests.{eqb-true, le-leb}
use Rattle.utf8.specs.Utf8.{is_utf8}
use Rattle.payload.specs.Choice.{◌and◌, when◌then◌else◌}
use Rattle.payload.specs.Demand3.{all_items, all_of}
use Rattle.payload.specs.Laws.Gives.{Gives, after_bytes, after_none, after_row_lem, gives_as, gives_bind, gives_is, gives_pure, gives_then}
use Rattle.payload.specs.Laws.Pool.{and_both, and_left, and_right, false≢true}
use Rattle.payload.proofs.Laws.RoundTrip.{same_kind_eq}
use Rattle.payload.specs.Laws.Rules.{all_tags, all_values, distinct_keys, distinct_pairs, is_tag, is_value_tag, item_sound, kids_rule}
use Rattle.payload.specs.Laws.Rules.{obey_rules, roots, row_rule, same_kind, same_kinds, without_spans, without_spans_item, without_spans_items}
use Rattle.payload.specs.Reader.{Part, Reader, ◌>>◌, must, ok, pure}
use Rattle.payload.specs.Reading.{node_key, read_many}
use Rattle.payload.specs.declared.Capacities.{Capacities}
use Rattle.payload.specs.Rows.{count_words, item_words, items_words, kids_count_words, part_words, root_count, row_table, row_words, unused_words}
use Rattle.payload.specs.Scan.{RowScan, Test, any_row, end_row, finish_row, first_word, is_function, new_key, next_word, row_must, scan_count, scan_item, scan_items, scan_keys, scan_kids}
use Rattle.payload.specs.Scan.{scan_outer, scan_pairs, scan_part, scan_shape, scan_string, scan_untagged, scan_value, scan_with_kids, zero_words}
use Rattle.payload.specs.Shapes.{ItemKind, Kids, Shape, keys, no_value, one_value, pairs, shape, values, with_chunk, with_fields, with_kids, with_template}
use Rattle.payload.specs.Trees.{Item, Node, Trees, code, cons, forget_item, forget_items, forget_trees, item_value, items_value, key_of, kind_of, native_name, nil, node, node_of, number, record_name, size, string}

module _ {c : Capacities} where
  gives_word : (w : ℕ) → Gives c next_word (w ∷ []) 0 0 (λ a. a ≡ w)
  unfolding next_word first_word
  gives_word w = record { run = λ s t e hr hs. (w, ap (λ (l : List ℕ). first_word l s) e ∙ ap (ok w) (sym (after_bytes 1 s)), refl) }

  gives_row_must : (b : Bool) → b ≡ true → Gives c (row_must b) [] 0 0 (λ u. Unit {0})
  unfolding row_must must
  gives_row_must b e = rw e (record { run = λ s t h hr hs. (tt, ap (ok tt) (sym (after_none s)), tt) })

  gives_row_check : {A : Type 0} (b : Bool) (r : Reader A) {bs : List ℕ} {k m : ℕ} {P : A → Type 0} → b ≡ true → Gives c r bs k m P → Gives c (row_must b >> r) bs k m P
  gives_row_check b r e g = gives_as (gives_then (gives_row_must b e) g) refl (omega arith) (omega arith)

  gives_next : Gives c end_row [] 1 0 (λ u. Unit {0})
  unfolding end_row
  gives_next = record { run = λ s t h hr hs. (tt, ap (ok tt) (sym (after_row_lem s)), tt) }

  gives_zeros : (n : ℕ) → Gives c (zero_words n) (replicate n 0) 0 0 (λ u. Unit {0})
  unfolding zero_words
  gives_zeros zero = gives_pure tt (λ u. Unit {0}) tt
  gives_zeros (suc n) = gives_is _ (gives_word 0) (gives_row_check _ _ refl (gives_zeros n))

-- the part stands in the store
pub record InStore (store : List ℕ) (l : Part) : Type 0 where
  pub in_store : l.offset + length l.bytes ≤ length store
  pub its_bytes : take (length l.bytes) (drop l.offset store) ≡ l.bytes

unfoldable pub InItem : List ℕ → Item Part → Type 0
InItem s (number k w) = Unit {0}
InItem s (string l) = InStore s l
InItem s (native_name l) = InStore s l
InItem s (record_name l) = InStore s l
InItem s (code l ss) = InStore s l

unfoldable pub InItems : List ℕ → List (Item Part) → Type 0
InItems s [] = Unit {0}
InItems s (i ∷ is) = InItem s i × InItems s is

unfoldable pub InTrees : List ℕ → Trees Part → Type 0
InTrees s nil = Unit {0}
InTrees s (node t is ks ts) = InItems s is × InTrees s ks × InTrees s ts

pub kind_bytes : (i : Item Part) → kind_of (forget_item i) ≡ kind_of i
unfolding kind_of forget_item
kind_bytes (number k w) = refl
kind_bytes (string l) = refl
kind_bytes (native_name l) = refl
kind_bytes (record_name l) = refl
kind_bytes (code l ss) = refl

worth_bare : (i : Item Part) → item_value (forget_item (without_spans_item i)) ≡ item_value (forget_item i)
unfolding item_value forget_item without_spans_item
worth_bare (number k w) = refl
worth_bare (string l) = refl
worth_bare (native_name l) = refl
worth_bare (record_name l) = refl
worth_bare (code l ss) = refl

worths_bare : (is : List (Item Part)) → items_value (forget_items (without_spans_items is)) ≡ items_value (forget_items is)
unfolding items_value forget_items without_spans_items
worths_bare [] = refl
worths_bare (i ∷ is) = ap₂ ◌++◌ (worth_bare i) (worths_bare is)

pub key_bare : (t : ℕ) (is : List (Item Part)) → key_of t (forget_items (without_spans_items is)) ≡ key_of t (forget_items is)
unfolding key_of
key_bare t is = ap (λ (w : List ℕ). t ∷ w) (worths_bare is)

pub count_roots : (ts : Trees Part) → length (roots (forget_trees ts)) ≡ root_count ts
unfolding roots forget_trees root_count
count_roots nil = refl
count_roots (node t is ks ts) = ap suc (count_roots ts)

put_bare : (u : Node Part) (us : Trees Part) (t : ℕ) (is : List (Item Part)) (ks ts : Trees Part) → u ≡ node_of t (without_spans_items is) (without_spans ks) → us ≡ without_spans ts → cons u us ≡ without_spans (node t is ks ts)
unfolding cons without_spans node_of
put_bare u us t is ks ts e f = ap₂ cons e f

module _ (c : Capacities) (store : List ℕ) where
  gives_part : (l : Part) → InStore store l → Gives c (scan_part store) (part_words l) 0 0 (λ a. a ≡ l)
  unfolding scan_part part_words
  gives_part l h = gives_is _ (gives_word l.offset) (gives_is _ (gives_word (length l.bytes)) (gives_row_check _ _ (le-leb _ _ h.in_store)
      (gives_pure _ (λ a. a ≡ l) (λ i. record { offset = l.offset; bytes = h.its_bytes i }))))

  gives_scan_string : (l : Part) → InStore store l → is_utf8 l.bytes ≡ true → Gives c (scan_string store) (part_words l) 0 0 (λ a. a ≡ l)
  unfolding scan_string
  gives_scan_string l h u = gives_as (gives_is _ (gives_part l h) (gives_row_check _ _ u (gives_pure l (λ a. a ≡ l) refl))) (simp append-nil) refl refl

  gives_scan_item : (i : Item Part) → InItem store i → item_sound (forget_item i) ≡ true → Gives c (scan_item store (kind_of i)) (item_words i) 0 0 (λ a. a ≡ without_spans_item i)
  unfolding InItem item_sound forget_item scan_item kind_of item_words without_spans_item
  gives_scan_item (number k w) h s = gives_is _ (gives_word w) (gives_row_check _ _ s (gives_pure _ (λ a. a ≡ number k w) refl))
  gives_scan_item (string l) h s = gives_as (gives_is _ (gives_scan_string l h s) (gives_pure _ (λ a. a ≡ string l) refl)) (simp append-nil) refl refl
  gives_scan_item (native_name l) h s = gives_as (gives_is _ (gives_scan_string l h s) (gives_pure _ (λ a. a ≡ native_name l) refl)) (simp append-nil) refl refl
  gives_scan_item (record_name l) h s = gives_as (gives_is _ (gives_scan_string l h s) (gives_pure _ (λ a. a ≡ record_name l) refl)) (simp append-nil) refl refl
  gives_scan_item (code l ss) h s = gives_as (gives_is _ (gives_part l h) (gives_pure _ (λ a. a ≡ code l []) refl)) (simp append-nil) refl refl

  gives_scan_item_of : (k : ItemKind) (i : Item Part) → same_kind k (kind_of (forget_item i)) ≡ true → InItem store i → item_sound (forget_item i) ≡ true → Gives c (scan_item store k) (item_words i) 0 0 (λ a. a ≡ without_spans_item i)
  gives_scan_item_of k i q h s = rw (same_kind_eq k _ q ∙ kind_bytes i) (gives_scan_item i h s)

  gives_scan_items : (kn : List ItemKind) (is : List (Item Part)) → same_kinds kn (forget_items is) ≡ true → InItems store is → all_of (item_sound) (forget_items is) ≡ true
      → Gives c (scan_items store kn) (items_words is) 0 0 (λ a. a ≡ without_spans_items is)
  unfolding same_kinds forget_items InItems all_of scan_items items_words without_spans_items
  gives_scan_items [] [] q h s = gives_pure [] (λ a. a ≡ []) refl
  gives_scan_items [] (i ∷ is) q h s = false≢true q
  gives_scan_items (k ∷ kn) [] q h s = false≢true q
  gives_scan_items (k ∷ kn) (i ∷ is) q h s = gives_as (gives_is _ (gives_scan_item_of k i (and_left _ _ q) h.0 (and_left _ _ s))
      (gives_is _ (gives_scan_items kn is (and_right _ _ q) h.1 (and_right _ _ s)) (gives_pure _ (λ a. a ≡ without_spans_item i ∷ without_spans_items is) refl))) (simp append-nil) refl refl

  gives_close : (n : ℕ) (b : Bool) → b ≡ true → Gives c (finish_row n b) (replicate n 0) 1 0 (λ u. Unit {0})
  unfolding finish_row
  gives_close n b e = gives_as (gives_then (gives_zeros n) (gives_row_check _ _ e gives_next)) (simp append-nil) refl refl

  -- the rows of a tree
  abbrev rows_of : ℕ → List (Item Part) → Trees Part → List ℕ
  rows_of t is ks = row_words t is (root_count ks) ++ row_table ks

  -- what is known of trees that are to be scanned, with d levels left
  record Known (d : ℕ) (ts : Trees Part) : Type 0 where
    k_obeys : obey_rules d (forget_trees ts) ≡ true
    k_sound : all_items (item_sound) (forget_trees ts) ≡ true
    k_in : InTrees store ts

  known_first : (d t : ℕ) (is : List (Item Part)) (ks ts : Trees Part) → Known d (node t is ks ts) → Known d (node t is ks nil)
  unfolding obey_rules all_items forget_trees InTrees
  known_first d t is ks ts h = record {
    k_obeys = and_both (and_left _ _ h.k_obeys) (and_both (and_left _ _ (and_right _ _ h.k_obeys)) refl);
    k_sound = and_both (and_left _ _ h.k_sound) (and_both (and_left _ _ (and_right _ _ h.k_sound)) refl);
    k_in = (h.k_in.0, h.k_in.1, tt);
  }

  known_rest : (d t : ℕ) (is : List (Item Part)) (ks ts : Trees Part) → Known d (node t is ks ts) → Known d ts
  unfolding obey_rules all_items forget_trees InTrees
  known_rest d t is ks ts h = record { k_obeys = and_right _ _ (and_right _ _ h.k_obeys); k_sound = and_right _ _ (and_right _ _ h.k_sound); k_in = h.k_in.2 }

  -- r reads each tree whose tag passes h, with a test g that the row passes
  abbrev ScanReads : (ℕ → Bool) → ℕ → RowScan → Type 0
  ScanReads h d r = (g : Test) (t : ℕ) (is : List (Item Part)) (ks : Trees Part) → h t ≡ true → g t (forget_items (without_spans_items is)) ≡ true → Known d (node t is ks nil)
      → Gives c (r g) (rows_of t is ks) (suc (size ks)) 0 (λ u. u ≡ node_of t (without_spans_items is) (without_spans ks))

  gives_scan_times : (h : ℕ → Bool) (d : ℕ) (r : RowScan) → ScanReads h d r → (ts : Trees Part) → all_tags h (roots (forget_trees ts)) ≡ true → Known d ts
      → Gives c (read_many (root_count ts) (r (any_row))) (row_table ts) (size ts) 0 (λ us. us ≡ without_spans ts)
  unfolding read_many root_count row_table size all_tags roots forget_trees without_spans
  gives_scan_times h d r R nil q k = gives_pure nil (λ us. us ≡ nil) refl
  gives_scan_times h d r R (node t is ks ts) q k = gives_as
      (gives_bind (R (any_row) t is ks (and_left _ _ q) refl (known_first d t is ks ts k)) (λ u z.
      gives_bind (gives_scan_times h d r R ts (and_right _ _ q) (known_rest d t is ks ts k)) (λ us y.
      gives_pure _ (λ us. us ≡ without_spans (node t is ks ts)) (put_bare u us t is ks ts z y))))
      (simp append-nil) (omega arith) refl

  seen_is : (u : Node Part) (t : ℕ) (is : List (Item Part)) (ks : Trees Part) → u ≡ node_of t (without_spans_items is) (without_spans ks) → key_of t (forget_items is) ≡ node_key u
  unfolding node_key node_of
  seen_is u t is ks z = sym (key_bare t is) ∙ ap (λ (v : Node Part). key_of v.tag (forget_items v.items)) (sym z)

  gives_scan_keys : (d : ℕ) (r : RowScan) → ScanReads is_value_tag d r → (seen : List (List ℕ)) (ts : Trees Part) → all_values (roots (forget_trees ts)) ≡ true → distinct_keys seen (roots (forget_trees ts)) ≡ true → Known d ts
      → Gives c (scan_keys (root_count ts) seen r) (row_table ts) (size ts) 0 (λ us. us ≡ without_spans ts)
  unfolding scan_keys root_count row_table size all_tags roots forget_trees without_spans distinct_keys
  gives_scan_keys d r R seen nil q w k = gives_pure nil (λ us. us ≡ nil) refl
  gives_scan_keys d r R seen (node t is ks ts) q w k = gives_as
      (gives_bind (R (new_key seen) t is ks (and_left _ _ q) (rw (key_bare t is) (and_both (and_left _ _ w) (and_left _ _ (and_right _ _ w)))) (known_first d t is ks ts k)) (λ u z.
      gives_bind (gives_scan_keys d r R (node_key u ∷ seen) ts (and_right _ _ q) (rw (seen_is u t is ks z) at (and_right _ _ (and_right _ _ w))) (known_rest d t is ks ts k)) (λ us y.
      gives_pure _ (λ us. us ≡ without_spans (node t is ks ts)) (put_bare u us t is ks ts z y))))
      (simp append-nil) (omega arith) refl

  gives_scan_pair : (d n : ℕ) (r : RowScan) → ScanReads is_value_tag d r → (seen : List (List ℕ)) (t : ℕ) (is : List (Item Part)) (ks : Trees Part) (t' : ℕ) (is' : List (Item Part)) (ks' ts : Trees Part)
      → is_value_tag t ≡ true → new_key seen t (forget_items (without_spans_items is)) ≡ true → Known d (node t is ks nil) → is_value_tag t' ≡ true → Known d (node t' is' ks' nil)
      → ((u : Node Part) → key_of t (forget_items is) ≡ node_key u → Gives c (scan_pairs n (node_key u ∷ seen) r) (row_table ts) (size ts) 0 (λ us. us ≡ without_spans ts))
      → Gives c (scan_pairs (suc n) seen r) (row_table (node t is ks (node t' is' ks' ts))) (size (node t is ks (node t' is' ks' ts))) 0 (λ us. us ≡ without_spans (node t is ks (node t' is' ks' ts)))
  unfolding scan_pairs row_table size
  gives_scan_pair d n r R seen t is ks t' is' ks' ts q w k q' k' more = gives_as
      (gives_bind (R (new_key seen) t is ks q w k) (λ u z.
      gives_bind (R (any_row) t' is' ks' q' refl k') (λ v x.
      gives_bind (more u (seen_is u t is ks z)) (λ us y.
      gives_pure _ (λ us. us ≡ without_spans (node t is ks (node t' is' ks' ts))) (put_bare u (cons v us) t is ks (node t' is' ks' ts) z (put_bare v us t' is' ks' ts x y))))))
      (simp append-nil) (omega arith) refl

  half_count : (t : ℕ) (is : List (Item Part)) (ks : Trees Part) (t' : ℕ) (is' : List (Item Part)) (ks' ts : Trees Part) → suc (root_count ts / 2) ≡ root_count (node t is ks (node t' is' ks' ts)) / 2
  unfolding root_count
  half_count t is ks t' is' ks' ts = omega arith

  module _ (seen : List (List ℕ)) (t : ℕ) (is : List (Item Part)) (ks : Trees Part) (t' : ℕ) (is' : List (Item Part)) (ks' ts : Trees Part)
      (w : distinct_pairs seen (roots (forget_trees (node t is ks (node t' is' ks' ts)))) ≡ true) where
    pair₁ : new_key seen t (forget_items (without_spans_items is)) ≡ true
    unfolding distinct_pairs roots forget_trees
    pair₁ = rw (key_bare t is) (and_both (and_left _ _ w) (and_left _ _ (and_right _ _ w)))

    pair₂ : distinct_pairs (key_of t (forget_items is) ∷ seen) (roots (forget_trees ts)) ≡ true
    unfolding distinct_pairs roots forget_trees
    pair₂ = and_right _ _ (and_right _ _ w)

  value₁ : (t : ℕ) (is : List (Item Part)) (ks ts : Trees Part) → all_values (roots (forget_trees (node t is ks ts))) ≡ true → is_value_tag t ≡ true
  unfolding all_tags roots forget_trees
  value₁ t is ks ts q = and_left _ _ q

  value₂ : (t : ℕ) (is : List (Item Part)) (ks ts : Trees Part) → all_values (roots (forget_trees (node t is ks ts))) ≡ true → all_values (roots (forget_trees ts)) ≡ true
  unfolding all_tags roots forget_trees
  value₂ t is ks ts q = and_right _ _ q

  gives_scan_pairs : (d : ℕ) (r : RowScan) → ScanReads is_value_tag d r → (seen : List (List ℕ)) (ts : Trees Part) → all_values (roots (forget_trees ts)) ≡ true → distinct_pairs seen (roots (forget_trees ts)) ≡ true → Known d ts
      → Gives c (scan_pairs (root_count ts / 2) seen r) (row_table ts) (size ts) 0 (λ us. us ≡ without_spans ts)
  gives_scan_pairs d r R seen nil q w k = unfold scan_pairs root_count row_table size without_spans in (gives_pure nil (λ us. us ≡ nil) refl)
  gives_scan_pairs d r R seen (node t is ks nil) q w k = unfold distinct_pairs roots forget_trees in (false≢true w)
  gives_scan_pairs d r R seen (node t is ks (node t' is' ks' ts)) q w k =
      subst (λ (n : ℕ). Gives c (scan_pairs n seen r) (row_table (node t is ks (node t' is' ks' ts))) (size (node t is ks (node t' is' ks' ts))) 0 (λ us. us ≡ without_spans (node t is ks (node t' is' ks' ts))))
      (half_count t is ks t' is' ks' ts)
      (gives_scan_pair d (root_count ts / 2) r R seen t is ks t' is' ks' ts (value₁ t is ks _ q) (pair₁ seen t is ks t' is' ks' ts w) (known_first d t is ks _ k)
      (value₁ t' is' ks' _ (value₂ t is ks _ q)) (known_first d t' is' ks' ts (known_rest d t is ks _ k))
      (λ u z. gives_scan_pairs d r R (node_key u ∷ seen) ts (value₂ t' is' ks' _ (value₂ t is ks _ q)) (rw z at (pair₂ seen t is ks t' is' ks' ts w)) (known_rest d t' is' ks' ts (known_rest d t is ks _ k))))

  kids_number : Kids → ℕ → ℕ
  kids_number no_value n = 0
  kids_number one_value n = 1
  kids_number values n = n
  kids_number keys n = n
  kids_number pairs n = n / 2

  gives_kids_cell : (kk : Kids) (n : ℕ) → Gives c (scan_count kk) (kids_count_words kk n) 0 0 (λ a. a ≡ kids_number kk n)
  unfolding scan_count kids_count_words kids_number
  gives_kids_cell no_value n = gives_pure _ (λ a. a ≡ 0) refl
  gives_kids_cell one_value n = gives_pure _ (λ a. a ≡ 1) refl
  gives_kids_cell values n = gives_word n
  gives_kids_cell keys n = gives_word n
  gives_kids_cell pairs n = gives_word (n / 2)

  none_nil : (ts : Trees Part) → eqb (length (roots (forget_trees ts))) 0 ≡ true → Gives c (pure nil) (row_table ts) (size ts) 0 (λ us. us ≡ without_spans ts)
  unfolding row_table size without_spans roots forget_trees
  none_nil nil q = gives_pure nil (λ us. us ≡ nil) refl
  none_nil (node t is ks ts) q = let z = eqb-true (suc (length (roots (forget_trees ts)))) 0 q in absurd (omega arith)

  just_one : (h : ℕ → Bool) (d : ℕ) (r : RowScan) → ScanReads h d r → (ts : Trees Part) → (eqb (length (roots (forget_trees ts))) 1 and all_tags h (roots (forget_trees ts))) ≡ true → Known d ts
      → Gives c (read_many 1 (r (any_row))) (row_table ts) (size ts) 0 (λ us. us ≡ without_spans ts)
  just_one h d r R ts q k = subst (λ (n : ℕ). Gives c (read_many n (r (any_row))) (row_table ts) (size ts) 0 (λ us. us ≡ without_spans ts))
      (sym (count_roots ts) ∙ eqb-true _ 1 (and_left _ _ q)) (gives_scan_times h d r R ts (and_right _ _ q) k)

  gives_scan_kids : (d : ℕ) (r : RowScan) → ScanReads is_value_tag d r → (kk : Kids) (ts : Trees Part) → kids_rule kk (roots (forget_trees ts)) ≡ true → Known d ts
      → Gives c (scan_kids r kk (kids_number kk (root_count ts))) (row_table ts) (size ts) 0 (λ us. us ≡ without_spans ts)
  unfolding scan_kids kids_rule kids_number
  gives_scan_kids d r R no_value ts q k = none_nil ts q
  gives_scan_kids d r R one_value ts q k = just_one is_value_tag d r R ts q k
  gives_scan_kids d r R values ts q k = gives_scan_times is_value_tag d r R ts q k
  gives_scan_kids d r R keys ts q k = gives_scan_keys d r R [] ts (and_left _ _ q) (and_right _ _ q) k
  gives_scan_kids d r R pairs ts q k = gives_scan_pairs d r R [] ts (and_left _ _ q) (and_right _ _ q) k

  pair_bare : (t : ℕ) (js is : List (Item Part)) (us ts : Trees Part) → js ≡ without_spans_items is → us ≡ without_spans ts → node_of t js us ≡ node_of t (without_spans_items is) (without_spans ts)
  pair_bare t js is us ts e f = ap₂ (node_of t) e f

  gives_scan_vals : (d : ℕ) (r : RowScan) → ScanReads is_value_tag d r → (g : Test) (t : ℕ) (kn : List ItemKind) (kk : Kids) (is : List (Item Part)) (ks : Trees Part)
      → same_kinds kn (forget_items is) ≡ true → kids_rule kk (roots (forget_trees ks)) ≡ true → g t (forget_items (without_spans_items is)) ≡ true → InItems store is → all_of (item_sound) (forget_items is) ≡ true → Known d ks
      → Gives c (scan_with_kids store r g t kn kk) ((items_words is ++ (kids_count_words kk (root_count ks) ++ replicate (unused_words (with_kids kn kk)) 0)) ++ row_table ks) (suc (size ks)) 0
      (λ u. u ≡ node_of t (without_spans_items is) (without_spans ks))
  unfolding scan_with_kids
  gives_scan_vals d r R g t kn kk is ks a b o i s k = gives_as
      (gives_is _ (gives_scan_items kn is a i s)
      (gives_is _ (gives_kids_cell kk (root_count ks))
      (gives_then (gives_close (unused_words (with_kids kn kk)) _ o)
      (gives_is _ (gives_scan_kids d r R kk ks b k) (gives_pure _ (λ u. u ≡ node_of t (without_spans_items is) (without_spans ks)) refl)))))
      (simp (append_assoc, append-nil)) (omega arith) refl

  untagged_32 : (d : ℕ) (r : RowScan) → ScanReads is_value_tag d r → (is : List (Item Part)) (ks : Trees Part) → Known d (node 32 is ks nil)
      → Gives c (scan_untagged store r 32 (ItemKind.code ∷ []) values) (rows_of 32 is ks) (suc (size ks)) 0 (λ u. u ≡ node_of 32 (without_spans_items is) (without_spans ks))
  unfolding scan_untagged row_words count_words shape when◌then◌else◌ obey_rules row_rule all_items forget_trees InTrees
  untagged_32 d r R is ks k = gives_as (gives_is _ (gives_word 32) (gives_row_check _ _ refl (gives_scan_vals d r R (any_row) 32 (ItemKind.code ∷ []) values is ks
      (and_left _ _ (and_left _ _ k.k_obeys)) (and_right _ _ (and_left _ _ k.k_obeys)) refl k.k_in.0 (and_left _ _ k.k_sound)
      (record { k_obeys = and_left _ _ (and_right _ _ k.k_obeys); k_sound = and_left _ _ (and_right _ _ k.k_sound); k_in = k.k_in.1 })))) refl (omega arith) refl

  untagged_33 : (d : ℕ) (r : RowScan) → ScanReads is_value_tag d r → (is : List (Item Part)) (ks : Trees Part) → Known d (node 33 is ks nil)
      → Gives c (scan_untagged store r 33 (ItemKind.string ∷ []) one_value) (rows_of 33 is ks) (suc (size ks)) 0 (λ u. u ≡ node_of 33 (without_spans_items is) (without_spans ks))
  unfolding scan_untagged row_words count_words shape when◌then◌else◌ obey_rules row_rule all_items forget_trees InTrees
  untagged_33 d r R is ks k = gives_as (gives_is _ (gives_word 33) (gives_row_check _ _ refl (gives_scan_vals d r R (any_row) 33 (ItemKind.string ∷ []) one_value is ks
      (and_left _ _ (and_left _ _ k.k_obeys)) (and_right _ _ (and_left _ _ k.k_obeys)) refl k.k_in.0 (and_left _ _ k.k_sound)
      (record { k_obeys = and_left _ _ (and_right _ _ k.k_obeys); k_sound = and_left _ _ (and_right _ _ k.k_sound); k_in = k.k_in.1 })))) refl (omega arith) refl

  scans_chunk : (d : ℕ) (r : RowScan) → ScanReads is_value_tag d r → ScanReads (is_tag 32) d (λ g. scan_untagged store r 32 (ItemKind.code ∷ []) values)
  scans_chunk d r R g t is ks q w k = let z = eqb-true t 32 q in rw z (untagged_32 d r R is ks (rw z at k))

  scans_field : (d : ℕ) (r : RowScan) → ScanReads is_value_tag d r → ScanReads (is_tag 33) d (λ g. scan_untagged store r 33 (ItemKind.string ∷ []) one_value)
  scans_field d r R g t is ks q w k = let z = eqb-true t 33 q in rw z (untagged_33 d r R is ks (rw z at k))

  gives_scan_closure : (d : ℕ) (r : RowScan) → ScanReads is_value_tag d r → (g : Test) (t : ℕ) (kn : List ItemKind) (is : List (Item Part)) (ks : Trees Part)
      → row_rule (with_template kn) (forget_items is) (roots (forget_trees ks)) ≡ true → g t (forget_items (without_spans_items is)) ≡ true → InItems store is → all_of (item_sound) (forget_items is) ≡ true → Known d ks
      → Gives c (scan_shape store r g t (with_template kn)) ((items_words is ++ (count_words (with_template kn) (root_count ks) ++ replicate (unused_words (with_template kn)) 0)) ++ row_table ks) (suc
      (size ks)) 0 (λ u. u ≡ node_of t (without_spans_items is) (without_spans ks))
  unfolding scan_shape count_words row_rule roots forget_trees root_count row_table size is_function
  gives_scan_closure d r R g t kn is nil q o i s k = false≢true q
  gives_scan_closure d r R g t kn is (node ft fi fk ks) q o i s k = gives_as
      (gives_is _ (gives_scan_items kn is (and_left _ _ q) i s)
      (gives_is _ (gives_word (root_count ks))
      (gives_then (gives_close (unused_words (with_template kn)) _ o)
      (gives_bind (R (is_function) ft fi fk (value_7 ft (and_left _ _ (and_right _ _ q))) (and_left _ _ (and_right _ _ q)) (known_first d ft fi fk ks k)) (λ f z.
      gives_bind (gives_scan_times is_value_tag d r R ks (and_right _ _ (and_right _ _ q)) (known_rest d ft fi fk ks k)) (λ us y.
      gives_pure _ (λ u. u ≡ node_of t (without_spans_items is) (without_spans (node ft fi fk ks))) (ap (node_of t (without_spans_items is)) (put_bare f us ft fi fk ks z y))))))))
      (simp (append_assoc, append-nil)) (omega arith) refl
    where
      value_7 : (n : ℕ) → eqb n 7 ≡ true → leb n 26 ≡ true
      value_7 n w = let m = eqb-true n 7 w in le-leb n 26 (omega arith)

  gives_scan_shape : (d : ℕ) (r : RowScan) → ScanReads is_value_tag d r → (g : Test) (t : ℕ) (sh : Shape) (is : List (Item Part)) (ks : Trees Part)
      → row_rule sh (forget_items is) (roots (forget_trees ks)) ≡ true → g t (forget_items (without_spans_items is)) ≡ true → InItems store is → all_of (item_sound) (forget_items is) ≡ true → Known d ks
      → Gives c (scan_shape store r g t sh) ((items_words is ++ (count_words sh (root_count ks) ++ replicate (unused_words sh) 0)) ++ row_table ks) (suc (size ks)) 0 (λ u. u ≡ node_of t (without_spans_items is) (without_spans ks))
  unfolding scan_shape count_words row_rule
  gives_scan_shape d r R g t (with_kids kn kk) is ks q o i s k = gives_scan_vals d r R g t kn kk is ks (and_left _ _ q) (and_right _ _ q) o i s k
  gives_scan_shape d r R g t (with_chunk kn) is ks q o i s k = gives_as
      (gives_is _ (gives_scan_items kn is (and_left _ _ q) i s)
      (gives_then (gives_close (unused_words (with_chunk kn)) _ o)
      (gives_is _ (just_one (is_tag 32) d _ (scans_chunk d r R) ks (and_right _ _ q) k) (gives_pure _ (λ u. u ≡ node_of t (without_spans_items is) (without_spans ks)) refl))))
      (simp (append_assoc, append-nil)) (omega arith) refl
  gives_scan_shape d r R g t (with_fields kn) is ks q o i s k = gives_as
      (gives_is _ (gives_scan_items kn is (and_left _ _ q) i s)
      (gives_is _ (gives_word (root_count ks))
      (gives_then (gives_close (unused_words (with_fields kn)) _ o)
      (gives_is _ (gives_scan_times (is_tag 33) d _ (scans_field d r R) ks (and_right _ _ q) k) (gives_pure _ (λ u. u ≡ node_of t (without_spans_items is) (without_spans ks)) refl)))))
      (simp (append_assoc, append-nil)) (omega arith) refl
  gives_scan_shape d r R g t (with_template kn) is ks q o i s k = gives_scan_closure d r R g t kn is ks q o i s k

  module _ (d t : ℕ) (is : List (Item Part)) (ks : Trees Part) (k : Known d (node t is ks nil)) where
    known_rule : row_rule (shape t) (forget_items is) (roots (forget_trees ks)) ≡ true
    unfolding obey_rules forget_trees
    known_rule = and_left _ _ k.k_obeys

    known_deep : leb t 26 ≡ true → (ltb 0 d and obey_rules (pred d) (forget_trees ks)) ≡ true
    unfolding obey_rules forget_trees when◌then◌else◌
    known_deep q = rw q at (and_left _ _ (and_right _ _ k.k_obeys))

    known_items : InItems store is
    unfolding InTrees
    known_items = k.k_in.0

    known_sound : all_of (item_sound) (forget_items is) ≡ true
    unfolding all_items forget_trees
    known_sound = and_left _ _ k.k_sound

    known_kids : leb t 26 ≡ true → Known (pred d) ks
    unfolding all_items forget_trees InTrees
    known_kids q = record { k_obeys = and_right _ _ (known_deep q); k_sound = and_left _ _ (and_right _ _ k.k_sound); k_in = k.k_in.1 }

  scans_value : (d : ℕ) → ScanReads is_value_tag d (scan_value store d)
  unfolding scan_value row_words
  scans_value zero g t is ks q w k = false≢true (and_left _ _ (known_deep zero t is ks k q))
  scans_value (suc d) g t is ks q w k = gives_as (gives_is _ (gives_word t) (gives_row_check _ _ q
      (gives_scan_shape d (scan_value store d) (scans_value d) g t (shape t) is ks (known_rule (suc d) t is ks k) w (known_items (suc d) t is ks k) (known_sound (suc d) t is ks k) (known_kids (suc d) t is ks k q)))) refl (omega arith) refl

  -- the scan of a sound program's rows gives its tree
  pub scan_flat : (is : List (Item Part)) (ks : Trees Part) → obey_rules 32 (forget_trees (node 32 is ks nil)) ≡ true → all_items (item_sound) (forget_trees (node 32 is ks nil)) ≡ true → InTrees store (node 32 is ks nil)
      → Gives c (scan_outer store) (row_words 32 is (root_count ks) ++ row_table ks) (suc (size ks)) 0 (λ u. u ≡ node_of 32 (without_spans_items is) (without_spans ks))
  unfolding scan_outer
  scan_flat is ks a b d = untagged_32 32 (scan_value store 32) (scans_value 32) is ks (record { k_obeys = a; k_sound = b; k_in = d })
