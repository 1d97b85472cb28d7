-- Keys as the code compares them, and the search among the keys of earlier entries.
use Rattle.std.specs.Prelude.{Bool, ◌&&◌, ◌||◌, ◌≡◌, ◌+◌, ◌-◌, ◌<◌, ◌≤◌, suc, ℕ, eqb, leb, ltb, drop, take}
use Rattle.std.proofs.Math.Bool.{false, true}
use mathlib.Core.List.{List, [], ◌∷◌, append-nil}
use Rattle.std.proofs.Common.{◌∙◌, arith, length-drop}
use Rattle.std.proofs.Math.Path.{ap, refl, sym}
use Rattle.std.proofs.Math.ListN.{length}
use Rattle.std.proofs.Math.Seq.{length-take-le}
use borrow.Author.Tests.{eq-eqb, le-leb, leb-true, lt-leb, ltb-true, ne_eqb}
use Rattle.payload.specs.Choice.{◌and◌, when◌then◌else◌}
use Rattle.payload.specs.Laws.Pool.{and_left, and_right, false≢true}
use Rattle.payload.specs.Pool.{is_in}
use Rattle.payload.specs.Reader.{pure}
use Rattle.payload.specs.Scan.{RowScan, scan_kids, scan_value}
use Rattle.payload.specs.Shapes.{ItemKind, Shape, is_key_tag, keys, kinds_of, no_value, one_value, pairs, shape, shapes, values, with_chunk, with_fields, with_kids, with_template}
use Rattle.payload.specs.Trees.{forget_item, forget_items, item_value, items_value, key_of, nil}
use Rattle.row_layout.specs.Laws.Layout.{all_from, shape_all}
use Rattle.slices.specs.Laws.Same.{same_long}
use Rattle.slices.specs.Same.{same}
use Rattle.utf8.specs.Utf8.{part_is_utf8}
use Rattle.scan_rows.specs.Laws.Under.{entries_done, entries_next, skip_next}
use Rattle.scan_rows.specs.Row.{count_at, item_fits, item_of, items_fit, items_of, key_fits, row_count, row_fits, row_key, tag_at, word_at}
use Rattle.scan_rows.specs.Under.{Entries, Skip, kids_under, rows_under, scan_under, shape_under}

---- a key is one row

pub leaf_shape : Shape → Bool
leaf_shape (with_kids ks no_value) = true
leaf_shape (with_kids ks one_value) = false
leaf_shape (with_kids ks values) = false
leaf_shape (with_kids ks keys) = false
leaf_shape (with_kids ks pairs) = false
leaf_shape (with_chunk ks) = false
leaf_shape (with_fields ks) = false
leaf_shape (with_template ks) = false

pub key_leaf : (t : ℕ) → is_key_tag t ≡ true → (leaf_shape (shape t) ≡ true) × (leb t 26 ≡ true)
unfolding when◌then◌else◌
key_leaf t e =
    let g = go (shape_all (λ t sh. when◌then◌else◌ (is_key_tag t) (leaf_shape sh and leb t 26) true) (unfold all_from shapes leaf_shape is_key_tag ◌and◌ in refl)
    (unfold is_key_tag ◌and◌ in refl) (unfold is_key_tag ◌and◌ in refl) high t) in
    (and_left _ _ g, and_right _ _ g)
  where
    high : (t : ℕ) → 26 < t → when◌then◌else◌ (is_key_tag t) (leaf_shape (with_kids [] no_value) and leb t 26) true ≡ true
    high t h = unfold is_key_tag ◌and◌ in (rw (ne_eqb t 1 (λ e. omega arith), lt-leb t 6 (omega arith), lt-leb t 24 (omega arith), le-leb 3 t (omega arith), le-leb 19 t (omega arith)))

    go : when◌then◌else◌ (is_key_tag t) (leaf_shape (shape t) and leb t 26) true ≡ true → (leaf_shape (shape t) and leb t 26) ≡ true
    go q = rw e at q

pub leaf_none : (store : List ℕ) (r : RowScan) (sh : Shape) (n : ℕ) → leaf_shape sh ≡ true → (scan_under store r sh n ≡ pure nil) × (shape_under sh n ≡ 0)
unfolding leaf_shape scan_under scan_kids shape_under kids_under
leaf_none store r (with_kids ks no_value) n e = (refl, refl)
leaf_none store r (with_kids ks one_value) n e = false≢true e
leaf_none store r (with_kids ks values) n e = false≢true e
leaf_none store r (with_kids ks keys) n e = false≢true e
leaf_none store r (with_kids ks pairs) n e = false≢true e
leaf_none store r (with_chunk ks) n e = false≢true e
leaf_none store r (with_fields ks) n e = false≢true e
leaf_none store r (with_template ks) n e = false≢true e

---- a key's words

number_only : Shape → Bool
number_only (with_kids [] kids) = false
number_only (with_kids (ItemKind.number k ∷ []) kids) = true
number_only (with_kids (ItemKind.number k ∷ l ∷ ks) kids) = false
number_only (with_kids (ItemKind.string ∷ ks) kids) = false
number_only (with_kids (ItemKind.native_name ∷ ks) kids) = false
number_only (with_kids (ItemKind.record_name ∷ ks) kids) = false
number_only (with_kids (ItemKind.code ∷ ks) kids) = false
number_only (with_chunk ks) = false
number_only (with_fields ks) = false
number_only (with_template ks) = false

key_number : (t : ℕ) → is_key_tag t ≡ true → (t ≡ 6 → ⊥) → number_only (shape t) ≡ true
unfolding when◌then◌else◌
key_number t e h =
    go (shape_all (λ t sh. when◌then◌else◌ (is_key_tag t) (eqb t 6 || number_only sh) true) (unfold all_from shapes number_only is_key_tag ◌and◌ in refl)
    (unfold is_key_tag ◌and◌ in refl) (unfold is_key_tag ◌and◌ in refl) high t)
  where
    high : (t : ℕ) → 26 < t → when◌then◌else◌ (is_key_tag t) (eqb t 6 || number_only (with_kids [] no_value)) true ≡ true
    high t h = unfold is_key_tag ◌and◌ in (rw (ne_eqb t 1 (λ e. omega arith), lt-leb t 6 (omega arith), lt-leb t 24 (omega arith), le-leb 3 t (omega arith), le-leb 19 t (omega arith)))

    go : when◌then◌else◌ (is_key_tag t) (eqb t 6 || number_only (shape t)) true ≡ true → number_only (shape t) ≡ true
    go q = rw (e, ne_eqb t 6 h) at q

number_key : (store rows : List ℕ) (i t : ℕ) (sh : Shape) → number_only sh ≡ true → key_of t (forget_items (items_of store rows i 1 (kinds_of sh))) ≡ t ∷ word_at rows i 1 ∷ []
unfolding number_only key_of forget_items forget_item items_of item_of kinds_of items_value item_value
number_key store rows i t (with_kids [] kids) e = false≢true e
number_key store rows i t (with_kids (ItemKind.number k ∷ []) kids) e = refl
number_key store rows i t (with_kids (ItemKind.number k ∷ l ∷ ks) kids) e = false≢true e
number_key store rows i t (with_kids (ItemKind.string ∷ ks) kids) e = false≢true e
number_key store rows i t (with_kids (ItemKind.native_name ∷ ks) kids) e = false≢true e
number_key store rows i t (with_kids (ItemKind.record_name ∷ ks) kids) e = false≢true e
number_key store rows i t (with_kids (ItemKind.code ∷ ks) kids) e = false≢true e
number_key store rows i t (with_chunk ks) e = false≢true e
number_key store rows i t (with_fields ks) e = false≢true e
number_key store rows i t (with_template ks) e = false≢true e

module _ (store rows : List ℕ) (i : ℕ) (f : key_fits store rows i ≡ true) where
  pub key_in : i < row_count rows
  unfolding key_fits
  key_in = ltb-true _ _ (and_left _ _ f)

  pub key_tagged : is_key_tag (tag_at rows i) ≡ true
  unfolding key_fits
  key_tagged = and_left _ _ (and_right (ltb i (row_count rows)) _ f)

  pub key_row_fits : row_fits store rows i ≡ true
  unfolding key_fits
  key_row_fits = and_right _ _ (and_right (ltb i (row_count rows)) _ f)

  -- with no row under it
  pub key_under : rows_under rows i ≡ 0
  unfolding rows_under
  key_under = (leaf_none store (scan_value store 0) (shape (tag_at rows i)) (count_at rows i) (key_leaf (tag_at rows i) key_tagged).0).1

  number_key_is : (tag_at rows i ≡ 6 → ⊥) → row_key store rows i ≡ tag_at rows i ∷ word_at rows i 1 ∷ []
  unfolding row_key
  number_key_is h = number_key store rows i (tag_at rows i) (shape (tag_at rows i)) (key_number (tag_at rows i) key_tagged h)

  -- a string that is a key lies in the store
  pub key_part : tag_at rows i ≡ 6 → word_at rows i 1 + word_at rows i 2 ≤ length store
  unfolding row_fits shape shapes kinds_of when◌then◌else◌ items_fit item_fits part_is_utf8
  key_part e = let g = rw e at (and_left (items_fit store rows i 1 (kinds_of (shape (tag_at rows i)))) _ key_row_fits) in leb-true _ _ (both (leb (word_at rows i 1 + word_at rows i 2) (length store)) _ (and_left _ _ g))
    where
      both : (a b : Bool) → (a && b) ≡ true → a ≡ true
      both true b e = refl
      both false b e = e

module _ (store rows : List ℕ) where
  string_key_is : (i : ℕ) → tag_at rows i ≡ 6 → row_key store rows i ≡ 6 ∷ take (word_at rows i 2) (drop (word_at rows i 1) store)
  unfolding row_key shape shapes kinds_of when◌then◌else◌ items_of item_of forget_items forget_item key_of items_value item_value
  string_key_is i e = rw e (ap (λ (l : List ℕ). 6 ∷ l) (append-nil _))

  pub tags_differ : (a b : ℕ) → (tag_at rows a ≡ tag_at rows b → ⊥) → same (row_key store rows b) (row_key store rows a) ≡ false
  unfolding row_key key_of same
  tags_differ a b h = rw (ne_eqb (tag_at rows b) (tag_at rows a) (λ e. h (sym e)))

  module _ (a b : ℕ) (fa : key_fits store rows a ≡ true) (fb : key_fits store rows b ≡ true) (e : tag_at rows a ≡ tag_at rows b) where
    pub numbers_same : (tag_at rows a ≡ 6 → ⊥) → eqb (word_at rows b 1) (word_at rows a 1) ≡ same (row_key store rows b) (row_key store rows a)
    unfolding same
    numbers_same h = rw (number_key_is store rows b fb (λ z. h (e ∙ z)), number_key_is store rows a fa h, eq-eqb (tag_at rows b) (tag_at rows a) (sym e)) (and_one (eqb (word_at rows b 1) (word_at rows a 1)))
      where
        and_one : (x : Bool) → x ≡ (x && true)
        and_one true = refl
        and_one false = refl

    pub lengths_differ : tag_at rows a ≡ 6 → (word_at rows a 2 ≡ word_at rows b 2 → ⊥) → same (row_key store rows b) (row_key store rows a) ≡ false
    unfolding same
    lengths_differ t h = rw (string_key_is b (sym e ∙ t), string_key_is a t) (same_long (take (word_at rows b 2) (drop (word_at rows b 1) store))
        (take (word_at rows a 2) (drop (word_at rows a 1) store)) (λ z. h (sym (long a (key_part store rows a fa t)) ∙ sym z ∙ long b (key_part store rows b fb (sym e ∙ t)))))
      where
        long : (i : ℕ) → word_at rows i 1 + word_at rows i 2 ≤ length store → length (take (word_at rows i 2) (drop (word_at rows i 1) store)) ≡ word_at rows i 2
        long i h = length-take-le (word_at rows i 2) (drop (word_at rows i 1) store) (rw (length-drop (word_at rows i 1) store) (omega arith))

    pub strings_same : {n v w : ℕ} → tag_at rows a ≡ 6 → n ≡ word_at rows a 2 → n ≡ word_at rows b 2 → v ≡ word_at rows a 1 → w ≡ word_at rows b 1
        → same (take n (drop w store)) (take n (drop v store)) ≡ same (row_key store rows b) (row_key store rows a)
    unfolding same
    strings_same {n} {v} {w} t en em ev ew = rw (string_key_is b (sym e ∙ t), string_key_is a t, ← en, ← em, ← ev, ← ew)

---- the search

-- no row stands under a key, so the values of its entry follow it
values_after : (store : List ℕ) {rows : List ℕ} {gap k j : ℕ} → key_fits store rows k ≡ true → Skip rows (suc gap) k j → Skip rows gap (k + 1) j
values_after store {rows} {gap} {k} f s =
    let e : rows_under rows k + (suc gap - 1) ≡ gap = omega (arith, key_under store rows k f) in
    rw e at (skip_next (omega arith) s).1

-- a key is among those of the entries from `first` on exactly where it is among those from k on; `gap` values stand between two keys
pub record Searching (store rows : List ℕ) (gap first i k : ℕ) : Type 0 where
  pub rest : (l : List (List ℕ)) → Entries store rows (suc gap) first i l
      → (m : List (List ℕ)) × Entries store rows (suc gap) k i m × (is_in (row_key store rows i) l ≡ is_in (row_key store rows i) m)

module _ {store rows : List ℕ} {gap first i : ℕ} where
  -- before the first comparison
  pub search_start : Searching store rows gap first i first
  search_start = record { rest = λ l e. (l, e, refl) }

  pub search_next : {k j : ℕ} → k < i → Searching store rows gap first i k → same (row_key store rows i) (row_key store rows k) ≡ false
      → ((j' : ℕ) → Skip rows gap (k + 1) j' → j ≡ j') → Searching store rows gap first i j
  unfolding is_in
  search_next {k} {j} h s d f = record {
    rest = λ l e. let r = s.rest l e in let n = entries_next h r.1 in
        (n.1, rw (f n.0 (values_after store n.3 n.4)) n.5, r.2 ∙ ap (is_in (row_key store rows i)) n.2 ∙ (rw d));
  }

  pub search_found : {k : ℕ} → k < i → Searching store rows gap first i k → same (row_key store rows i) (row_key store rows k) ≡ true
      → (l : List (List ℕ)) → Entries store rows (suc gap) first i l → true ≡ is_in (row_key store rows i) l
  unfolding is_in
  search_found {k} h s d l e = let r = s.rest l e in let n = entries_next h r.1 in sym (r.2 ∙ ap (is_in (row_key store rows i)) n.2 ∙ (rw d))

  pub search_end : {k : ℕ} → i ≤ k → Searching store rows gap first i k → (l : List (List ℕ)) → Entries store rows (suc gap) first i l → false ≡ is_in (row_key store rows i) l
  unfolding is_in
  search_end {k} h s l e = let r = s.rest l e in sym (r.2 ∙ ap (is_in (row_key store rows i)) (entries_done h r.1))

  -- while there are keys left to compare, the next is a key, and the values of its entry follow
  module _ {k : ℕ} (l : List (List ℕ)) (e : Entries store rows (suc gap) first i l) (s : Searching store rows gap first i k) (h : k < i) where
    pub search_key : key_fits store rows k ≡ true
    search_key = let r = s.rest l e in let n = entries_next h r.1 in n.3

    pub search_values : (j : ℕ) × Skip rows gap (k + 1) j
    search_values = let r = s.rest l e in let n = entries_next h r.1 in (n.0, values_after store n.3 n.4)

  -- said of the whole entry: its key, and the row after its values
  pub search_row : {k : ℕ} (l : List (List ℕ)) → Entries store rows (suc gap) first i l → Searching store rows gap first i k → k < i → (key_fits store rows k ≡ true) × (j : ℕ) × Skip rows (suc gap) k j
  search_row {k} l e s h = let r = s.rest l e in let n = entries_next h r.1 in (n.3, n.0, n.4)

  -- and the search goes on behind it
  pub search_next_row : {k j : ℕ} → k < i → Searching store rows gap first i k → same (row_key store rows i) (row_key store rows k) ≡ false
      → ((j' : ℕ) → Skip rows (suc gap) k j' → j ≡ j') → Searching store rows gap first i j
  unfolding is_in
  search_next_row {k} {j} h s d f = record {
    rest = λ l e. let r = s.rest l e in let n = entries_next h r.1 in
        (n.1, rw (f n.0 n.4) n.5, r.2 ∙ ap (is_in (row_key store rows i)) n.2 ∙ (rw d));
  }
