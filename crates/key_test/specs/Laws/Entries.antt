-- The rows of a set or map: a key, the rows between it and the next key, and so on. The search for a key in them finds what is in the list of keys.
use Rattle.std.specs.Prelude.{Bool, ◌&&◌, ◌||◌, ◌≡◌, length, take}
use Rattle.std.proofs.Math.Bool.{true, false, cond, and-true}
use mathlib.Core.List.{List, [], ◌∷◌, ◌++◌, append_assoc, append-nil}
use Rattle.std.proofs.Math.Path.{refl, sym, ap}
use Rattle.std.proofs.Common.{◌∙◌, add-zero, length-append, length-take, length-drop}
use Prim.Native.Nat.{ℕ, suc, ◌+◌, ◌*◌, ◌-◌, ◌≤◌}
use Rattle.std.proofs.Math.Nat.{min-eq_right, zero-add}
use native.Mathlib.Omega.{arith}
use Rattle.std.proofs.Math.Dec.{eqb}
use Rattle.std.proofs.Math.ListN.{drop}
use borrow.Author.Tests.{eqb-true, eqb-false, le-leb}
use Rattle.slices.specs.Same.{same}
use Rattle.slices.specs.Laws.Same.{same_refl, same_long}
use Rattle.payload.specs.Choice.{◌or◌}
use Rattle.payload.specs.Pool.{is_in}
use Rattle.payload.specs.Reader.{Part}
use Rattle.payload.specs.Reading.{node_key}
use Rattle.payload.specs.Rows.{root_count, row_table, row_width, row_words}
use Rattle.payload.specs.Shapes.{Shape, no_value, one_value, values, keys, pairs, with_kids, with_chunk, with_fields, with_template, shape}
use Rattle.payload.specs.Trees.{Node, Trees, nil, node, single, size}
use Rattle.row_layout.specs.Under.{count_in, rows_under}
use Rattle.key_test.specs.Told.{Told}
use Rattle.key_test.specs.Keys.{most_rows, rows_told, same_key, same_string, seen_in, stands}

---- keys compared

-- the value of a key with these words after its tag
unfoldable pub key_value : List ℕ → ℕ → ℕ → ℕ → List ℕ
key_value p t a b = cond (eqb t 6) (take b (drop a p)) (a ∷ [])

-- a row that a key may have
pub record KeyNode (p : List ℕ) (t : Node Part) : Type 0 where
  pub first : ℕ
  pub second : ℕ
  pub words : row_table (single t) ≡ t.tag ∷ first ∷ second ∷ 0 ∷ 0 ∷ []
  pub value : node_key t ≡ t.tag ∷ key_value p t.tag first second
  pub inside : t.tag ≡ 6 → first + second ≤ length p

length_part : (p : List ℕ) (o n : ℕ) → o + n ≤ length p → length (take n (drop o p)) ≡ n
length_part p o n h = simp (length-take, length-drop) (omega arith)

stands_is : (p : List ℕ) (o n : ℕ) → o + n ≤ length p → stands p o n ≡ true
stands_is p o n h = rw (le-leb n (length p) (omega arith), le-leb o (length p - n) (omega arith))

string_is : (p : List ℕ) (o n q m : ℕ) → o + n ≤ length p → q + m ≤ length p → same_string p o n q m ≡ same (take n (drop o p)) (take m (drop q p))
unfolding same_string
string_is p o n q m h k = by (eqb n m) refl
  where
    offsets :
        (r : Bool) → eqb o q ≡ r → q + n ≤ length p →
        (eqb o q || (stands p o n && (stands p q n && same (take n (drop o p)) (take n (drop q p))))) ≡ same (take n (drop o p)) (take n (drop q p))
    offsets true e l = let z : o ≡ q = eqb-true o q e in rw (e, z) (sym (same_refl (take n (drop q p))))
    offsets false e l = rw (e, stands_is p o n h, stands_is p q n l)

    by :
        (r : Bool) → eqb n m ≡ r →
        (eqb n m && (eqb o q || (stands p o n && (stands p q n && same (take n (drop o p)) (take n (drop q p))))))
        ≡ same (take n (drop o p)) (take m (drop q p))
    by true e = let z : n ≡ m = eqb-true n m e in rw (e, ← z) (offsets (eqb o q) refl (omega arith))
    by false e = rw e (sym (same_long (take n (drop o p)) (take m (drop q p)) (λ l. eqb-false n m e (sym (length_part p o n h) ∙ l ∙ length_part p q m k))))

module _ (p : List ℕ) where
  values_same :
      (t a b c d : ℕ) → (t ≡ 6 → a + b ≤ length p) → (t ≡ 6 → c + d ≤ length p) →
      cond (eqb t 6) (same_string p a b c d) (eqb a c) ≡ same (key_value p t a b) (key_value p t c d)
  unfolding key_value same
  values_same t a b c d h k = by (eqb t 6) refl
    where
      by :
          (r : Bool) → eqb t 6 ≡ r →
          cond (eqb t 6) (same_string p a b c d) (eqb a c) ≡ same (cond (eqb t 6) (take b (drop a p)) (a ∷ [])) (cond (eqb t 6) (take d (drop c p)) (c ∷ []))
      by true e = rw e (string_is p a b c d (h (eqb-true t 6 e)) (k (eqb-true t 6 e)))
      by false e = rw e (sym (and-true (eqb a c)))

  keys_same : (t u a b c d : ℕ) (r s : List ℕ) → (t ≡ 6 → a + b ≤ length p) → (u ≡ 6 → c + d ≤ length p) →
      same_key p (t ∷ a ∷ b ∷ r) (u ∷ c ∷ d ∷ s) ≡ same (t ∷ key_value p t a b) (u ∷ key_value p u c d)
  unfolding same_key same
  keys_same t u a b c d r s h k = by (eqb t u) refl
    where
      by : (x : Bool) → eqb t u ≡ x → (eqb t u && cond (eqb t 6) (same_string p a b c d) (eqb a c)) ≡ (eqb t u && same (key_value p t a b) (key_value p u c d))
      by true e = let z : t ≡ u = eqb-true t u e in rw (e, ← z) (values_same t a b c d h (λ q. k (sym z ∙ q)))
      by false e = rw e

  pub nodes_same :
      {t u : Node Part} → KeyNode p t → KeyNode p u → (r s : List ℕ) →
      same_key p (row_table (single t) ++ r) (row_table (single u) ++ s) ≡ same (node_key t) (node_key u)
  nodes_same {t} {u} g h r s =
      rw (g.words, h.words, g.value, h.value) (keys_same t.tag u.tag g.first g.second h.first h.second _ _ g.inside h.inside)

---- rows skipped

roots_le : (ts : Trees Part) → root_count ts ≤ size ts
unfolding root_count size
roots_le nil = omega arith
roots_le (node t is ks ts) = let h = roots_le ts in omega arith

count_le : (sh : Shape) (c : ℕ) → c ≤ rows_under sh c
unfolding rows_under
count_le (with_kids ks no_value) c = omega arith
count_le (with_kids ks one_value) c = omega arith
count_le (with_kids ks values) c = omega arith
count_le (with_kids ks keys) c = omega arith
count_le (with_kids ks pairs) c = omega arith
count_le (with_chunk ks) c = omega arith
count_le (with_fields ks) c = omega arith
count_le (with_template ks) c = omega arith

row_tells :
    (t a b c d n : ℕ) (r : List ℕ) → rows_under (shape t) (count_in (shape t) (a ∷ b ∷ c ∷ d ∷ [])) ≡ n → n ≤ most_rows → rows_told (t ∷ a ∷ b ∷ c ∷ d ∷ r) ≡ n
unfolding rows_told
row_tells t a b c d n r e h =
    let k : count_in (shape t) (a ∷ b ∷ c ∷ d ∷ []) ≤ most_rows = omega (arith, count_le (shape t) (count_in (shape t) (a ∷ b ∷ c ∷ d ∷ []))) in
    rw (min-eq_right k) e

-- five words a row
pub told_length : (ts : Trees Part) → Told ts → length (row_table ts) ≡ row_width * size ts
unfolding row_table size Told
told_length nil h = refl
told_length (node t is ks ts) h =
    let a = told_length ks h.1 in let b = told_length ts h.2 in let w = ap length h.0.words in
    omega (arith, length-append (row_words t is (root_count ks) ++ row_table ks) (row_table ts), length-append (row_words t is (root_count ks)) (row_table ks))

module _ (p key : List ℕ) (gap : ℕ) where
  -- one row of five words
  skip_row :
      (skip n t a b c d m : ℕ) (r : List ℕ) → rows_told (t ∷ a ∷ b ∷ c ∷ d ∷ r) ≡ m →
      seen_in p key gap (suc skip) (suc n) (t ∷ a ∷ b ∷ c ∷ d ∷ r) ≡ seen_in p key gap (skip + m) n r
  unfolding seen_in
  skip_row skip n t a b c d m r e = ap (λ (k : ℕ). seen_in p key gap (skip + k) n r) e

  pub skip_trees :
      (ts : Trees Part) → Told ts → size ts ≤ most_rows → (skip n : ℕ) (rest : List ℕ) →
      seen_in p key gap (root_count ts + skip) (size ts + n) (row_table ts ++ rest) ≡ seen_in p key gap skip n rest
  unfolding root_count size row_table Told
  skip_trees nil h k skip n rest = rw (zero-add skip, zero-add n)
  skip_trees (node t is ks ts) h k skip n rest =
      let w = h.0 in
      let e₁ : suc (root_count ts) + skip ≡ suc (root_count ts + skip) = omega arith in
      let e₂ : suc (size ks) + size ts + n ≡ suc (size ks + (size ts + n)) = omega arith in
      let e₃ : root_count ts + skip + root_count ks ≡ root_count ks + (root_count ts + skip) = omega arith in
      let l : ((row_words t is (root_count ks) ++ row_table ks) ++ row_table ts) ++ rest ≡ t ∷ w.a ∷ w.b ∷ w.c ∷ w.d ∷ (row_table ks ++ (row_table ts ++ rest)) = rw
      w.words (simp append_assoc) in
      let b : root_count ks ≤ most_rows = omega (arith, roots_le ks) in
      rw (l, e₁, e₂)
      (skip_row (root_count ts + skip) (size ks + (size ts + n)) t w.a w.b w.c w.d (root_count ks) _
      (row_tells t w.a w.b w.c w.d (root_count ks) _ w.told b)
      ∙ ap (λ (m : ℕ). seen_in p key gap m (size ks + (size ts + n)) (row_table ks ++ (row_table ts ++ rest))) e₃
      ∙ skip_trees ks h.1 (omega arith) (root_count ts + skip) (size ts + n) (row_table ts ++ rest) ∙ skip_trees ts h.2 (omega arith) skip n rest)

---- entries: a key, and what stands between it and the next key

pub record Entry : Type 0 where
  pub key : Node Part
  pub value : Trees Part

unfoldable pub entries_table : List Entry → List ℕ
entries_table [] = []
entries_table (e ∷ es) = row_table (single e.key) ++ (row_table e.value ++ entries_table es)

unfoldable pub entries_size : List Entry → ℕ
entries_size [] = 0
entries_size (e ∷ es) = suc (size e.value + entries_size es)

unfoldable pub keys_of : List Entry → List (List ℕ)
keys_of [] = []
keys_of (e ∷ es) = node_key e.key ∷ keys_of es

pub record Good (p : List ℕ) (gap : ℕ) (e : Entry) : Type 0 where
  pub key_node_lem : KeyNode p e.key
  pub value_told : Told e.value
  pub value_roots : root_count e.value ≡ gap

unfoldable pub AllGood : List ℕ → ℕ → List Entry → Type 0
AllGood p gap [] = Unit {0}
AllGood p gap (e ∷ es) = Good p gap e × AllGood p gap es

pub good_more : {p : List ℕ} {gap : ℕ} (es : List Entry) {e : Entry} → AllGood p gap es → Good p gap e → AllGood p gap (es ++ (e ∷ []))
unfolding AllGood
good_more [] h g = (g, tt)
good_more (x ∷ es) h g = (h.0, good_more es h.1 g)

pub table_more : (es : List Entry) (e : Entry) → entries_table (es ++ (e ∷ [])) ≡ entries_table es ++ (row_table (single e.key) ++ row_table e.value)
unfolding entries_table
table_more [] e = ap (λ (l : List ℕ). row_table (single e.key) ++ l) (append-nil (row_table e.value))
table_more (x ∷ es) e = rw (table_more es e) (simp append_assoc)

pub table_length : (p : List ℕ) (gap : ℕ) (es : List Entry) → AllGood p gap es → length (entries_table es) ≡ row_width * entries_size es
unfolding entries_table entries_size AllGood
table_length p gap [] h = refl
table_length p gap (e ∷ es) h =
    let a = table_length p gap es h.1 in let b = told_length e.value h.0.value_told in let w = ap length h.0.key_node_lem.words in
    omega (arith, length-append (row_table (single e.key)) (row_table e.value ++ entries_table es), length-append (row_table e.value) (entries_table es))

or_is : (a b : Bool) → (a || b) ≡ (a or b)
or_is true b = refl
or_is false b = refl

module _ (p : List ℕ) (gap : ℕ) {t : Node Part} (k : KeyNode p t) (more : List ℕ) where
  abbrev row : List ℕ
  row = row_table (single t) ++ more

  -- one key, and what stands after it
  key_row :
      (e : Entry) → Good p gap e → (n : ℕ) (rest : List ℕ) → size e.value ≤ most_rows →
      seen_in p row gap 0 (suc (size e.value + n)) (row_table (single e.key) ++ (row_table e.value ++ rest))
      ≡ (same (node_key t) (node_key e.key) or seen_in p row gap 0 n rest)
  unfolding seen_in
  key_row e g n rest h =
      let five : drop row_width (row_table (single e.key) ++ (row_table e.value ++ rest)) ≡ row_table e.value ++ rest = rw g.key_node_lem.words in
      let z : gap ≡ root_count e.value + 0 = sym (add-zero (root_count e.value) ∙ g.value_roots) in
      let s : seen_in p row gap gap (size e.value + n) (drop row_width (row_table (single e.key) ++ (row_table e.value ++ rest)))
      ≡ seen_in p row gap 0 n rest =
      ap (seen_in p row gap gap (size e.value + n)) five
      ∙ ap (λ (m : ℕ). seen_in p row gap m (size e.value + n) (row_table e.value ++ rest)) z
      ∙ skip_trees p row gap e.value g.value_told h 0 n rest in
      rw (nodes_same p k g.key_node_lem more (row_table e.value ++ rest), s) (or_is (same (node_key t) (node_key e.key)) (seen_in p row gap 0 n rest))

  pub seen_entries :
      (es : List Entry) → AllGood p gap es → entries_size es ≤ most_rows → (rest : List ℕ) →
      seen_in p row gap 0 (entries_size es) (entries_table es ++ rest) ≡ is_in (node_key t) (keys_of es)
  unfolding entries_table entries_size keys_of AllGood is_in seen_in
  seen_entries [] h b rest = refl
  seen_entries (e ∷ es) h b rest =
      let l : (row_table (single e.key) ++ (row_table e.value ++ entries_table es)) ++ rest
      ≡ row_table (single e.key) ++ (row_table e.value ++ (entries_table es ++ rest)) = simp append_assoc in
      ap (seen_in p row gap 0 (suc (size e.value + entries_size es))) l
      ∙ key_row e h.0 (entries_size es) (entries_table es ++ rest) (omega arith)
      ∙ ap (λ (x : Bool). same (node_key t) (node_key e.key) or x) (seen_entries es h.1 (omega arith) rest)
