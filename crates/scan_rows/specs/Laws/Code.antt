-- The bytes of code of a table's rows are those of the trees that it holds.
use Rattle.std.specs.Prelude.{Bool, ◌||◌, ◌≡◌, eqb, drop, get_or, length, if◌then◌else◌}
use Rattle.std.proofs.Math.Bool.{false, true}
use mathlib.Core.List.{List, [], ◌++◌, ◌∷◌, append_assoc, append-nil}
use Rattle.std.proofs.Common.{◌∙◌, ap, ap₂, sym, add_comm, add-zero, zero-add, arith, drop_at, drop-drop, get_or-drop, eq-eqb, eqb-true, ne_eqb}
use Rattle.std.proofs.Math.Path.{refl}
use Prim.Native.Nat.{◌*◌, ◌+◌, ◌-◌, ◌<◌, ◌≤◌, suc, ℕ}
use Rattle.std.proofs.lemmas.Bool.{eqb-false}
use Rattle.payload.specs.Choice.{◌and◌, when◌then◌else◌}
use Rattle.payload.specs.Laws.Pool.{and_both, and_left, and_right, false≢true}
use Rattle.payload.proofs.Laws.RoundTrip.{same_kind_eq}
use Rattle.payload.specs.Laws.Rules.{obey_rules, same_kind, same_kinds}
use Rattle.payload.proofs.Laws.SoundTables.{Kinded, kinded, row_table_width, row_width_lem}
use Rattle.payload.proofs.Laws.Takes.{scan_took}
use Rattle.payload.specs.Reader.{Part, State, ok, start}
use Rattle.payload.specs.Rows.{item_words, items_words, part_words, root_count, row_table, row_width, row_words}
use Rattle.payload.specs.Scan.{scan_outer}
use Rattle.payload.specs.Shapes.{ItemKind, kinds_of, no_value, shape, shapes, with_kids}
use Rattle.payload.specs.Sound.{is_nil}
use Rattle.payload.specs.Spans.{Span}
use Rattle.payload.specs.Trees.{Item, Node, Trees, code, forget_item, forget_items, forget_trees, kind_of, native_name, nil, node, number, record_name, single, size, span_count, span_item, span_items, string}
use Rattle.row_layout.specs.Laws.Layout.{all_from, shape_all}
use Rattle.scan_rows.specs.Code.{code_at, code_total}
use Rattle.scan_rows.specs.Row.{row_count}

no_code : List ItemKind → Bool
no_code [] = true
no_code (ItemKind.number k ∷ ks) = no_code ks
no_code (ItemKind.string ∷ ks) = no_code ks
no_code (ItemKind.native_name ∷ ks) = no_code ks
no_code (ItemKind.record_name ∷ ks) = no_code ks
no_code (ItemKind.code ∷ ks) = false

-- only a chunk row has code
code_only : (t : ℕ) → (t ≡ 32 → ⊥) → no_code (kinds_of (shape t)) ≡ true
code_only t h = go (shape_all (λ t sh. eqb t 32 || no_code (kinds_of sh)) (unfold all_from shapes kinds_of no_code ◌and◌ in refl) refl (unfold kinds_of no_code in refl) high t)
  where
    high : (t : ℕ) → 26 < t → (eqb t 32 || no_code (kinds_of (with_kids [] no_value))) ≡ true
    high t h = unfold kinds_of no_code in (or_true (eqb t 32))
      where
        or_true : (b : Bool) → (b || true) ≡ true
        or_true true = refl
        or_true false = refl

    go : (eqb t 32 || no_code (kinds_of (shape t))) ≡ true → no_code (kinds_of (shape t)) ≡ true
    go e = rw (ne_eqb t 32 h) at e

no_code_after : (k : ItemKind) (kn : List ItemKind) → no_code (k ∷ kn) ≡ true → no_code kn ≡ true
unfolding no_code
no_code_after (ItemKind.number n) kn e = e
no_code_after ItemKind.string kn e = e
no_code_after ItemKind.native_name kn e = e
no_code_after ItemKind.record_name kn e = e
no_code_after ItemKind.code kn e = false≢true e

no_span : (k : ItemKind) (kn : List ItemKind) (i : Item Part) → k ≡ kind_of (forget_item i) → no_code (k ∷ kn) ≡ true → span_item (forget_item i) ≡ 0
unfolding forget_item span_item kind_of no_code
no_span k kn (number n w) e f = refl
no_span k kn (string l) e f = refl
no_span k kn (native_name l) e f = refl
no_span k kn (record_name l) e f = refl
no_span k kn (code l ss) e f = false≢true (rw e at f)

no_spans : (kn : List ItemKind) (is : List (Item Part)) → same_kinds kn (forget_items is) ≡ true → no_code kn ≡ true → span_items (forget_items is) ≡ 0
unfolding same_kinds forget_items span_items
no_spans [] [] e f = refl
no_spans [] (i ∷ is) e f = false≢true e
no_spans (k ∷ kn) [] e f = false≢true e
no_spans (k ∷ kn) (i ∷ is) e f = rw (no_span k kn i (same_kind_eq k _ (and_left _ _ e)) f, no_spans kn is (and_right _ _ e) (no_code_after k kn f))

-- the items of a chunk row
chunk_items : (is : List (Item Part)) → same_kinds (ItemKind.code ∷ []) (forget_items is) ≡ true → (l : Part) × (ss : List Span) × (is ≡ code l ss ∷ [])
unfolding same_kinds forget_items forget_item kind_of
chunk_items [] e = false≢true e
chunk_items (code l ss ∷ []) e = (l, ss, refl)
chunk_items (number n w ∷ is) e = let q = same_kind_eq ItemKind.code (ItemKind.number n) (and_left _ _ e) in let z : ◌≡◌ {A = ℕ} 0 1 = cc in absurd (omega arith)
chunk_items (string l ∷ is) e = let q = same_kind_eq ItemKind.code ItemKind.string (and_left _ _ e) in let z : ◌≡◌ {A = ℕ} 0 1 = cc in absurd (omega arith)
chunk_items (native_name l ∷ is) e = let q = same_kind_eq ItemKind.code ItemKind.native_name (and_left _ _ e) in let z : ◌≡◌ {A = ℕ} 0 1 = cc in absurd (omega arith)
chunk_items (record_name l ∷ is) e = let q = same_kind_eq ItemKind.code ItemKind.record_name (and_left _ _ e) in let z : ◌≡◌ {A = ℕ} 0 1 = cc in absurd (omega arith)
chunk_items (code l ss ∷ i ∷ is) e = false≢true (and_right (same_kind ItemKind.code ItemKind.code) _ e)

-- the code of a row, by its words
code_of : List ℕ → ℕ
code_of ws = if eqb (get_or ws 0 0) 32 then get_or ws 2 0 else 0

row_code : (t : ℕ) (is : List (Item Part)) (n : ℕ) (ws : List ℕ) → same_kinds (kinds_of (shape t)) (forget_items is) ≡ true → code_of (row_words t is n ++ ws) ≡ span_items (forget_items is)
unfolding code_of row_words
row_code t is n ws e = go (eqb t 32) refl
  where
    go : (b : Bool) → eqb t 32 ≡ b → (if b then get_or (row_words t is n ++ ws) 2 0 else 0) ≡ span_items (forget_items is)
    go false q = sym (no_spans (kinds_of (shape t)) is e (code_only t (eqb-false t 32 q)))
    go true q = let f = rw (eqb-true t 32 q) at e in let c = chunk_items is (unfold shape kinds_of when◌then◌else◌ in f) in
        rw c.2 (unfold items_words item_words part_words forget_items forget_item span_items span_item in (sym (add-zero _)))

code_total_lem : (ts : Trees Part) (m : ℕ) (ws : List ℕ) → Kinded (forget_trees ts) → code_total (size ts + m) (row_table ts ++ ws) ≡ span_count (forget_trees ts) + code_total m ws
unfolding size row_table span_count forget_trees Kinded
code_total_lem nil m ws k = rw (zero-add m) (sym (zero-add (code_total m ws)))
code_total_lem (node t is ks ts) m ws k =
    let count : suc (size ks) + size ts + m ≡ suc (size ks + (size ts + m)) = omega arith in
    let words : ((row_words t is (root_count ks) ++ row_table ks) ++ row_table ts) ++ ws ≡ row_words t is (root_count ks) ++ (row_table ks ++ (row_table ts ++ ws)) = simp append_assoc in
    let a = code_total_lem ks (size ts + m) (row_table ts ++ ws) k.1 in
    let b = code_total_lem ts m ws k.2 in
    rw (count, words) (one (size ks + (size ts + m)) (row_table ks ++ (row_table ts ++ ws)) ∙ omega arith)
  where
    one : (j : ℕ) (vs : List ℕ) → code_total (suc j) (row_words t is (root_count ks) ++ vs) ≡ span_items (forget_items is) + code_total j vs
    one j vs = unfold code_total code_of in (ap₂ ◌+◌ (row_code t is (root_count ks) vs k.0) (ap (code_total j) (drop_at (row_words t is (root_count ks)) vs row_width (row_width_lem t is (root_count ks) k.0))))

-- after an accepted scan of all rows
pub scanned_code : (store rows : List ℕ) (n : Node Part) (s : State) → scan_outer store (start rows) ≡ ok n s → is_nil s.rest ≡ true → length rows ≡ row_width * row_count rows
    → code_total (row_count rows) rows ≡ span_count (forget_trees (single n))
unfolding single row_table obey_rules forget_trees
scanned_code store rows n s e h w =
    let g = (scan_took store).run (start rows) n s e in
    let k = g.holds in
    let rules : obey_rules 32 (forget_trees (single n)) ≡ true = and_both k.n_rule (and_both k.n_deep refl) in
    let kinds = kinded 32 (forget_trees (single n)) rules in
    let table : rows ≡ row_table (single n) = g.split ∙ ap₂ ◌++◌ k.n_words (nil_is s.rest h) in
    let long = row_table_width (single n) kinds in
    let count : row_count rows ≡ size (single n) + 0 = omega (arith, w, ap length table, long) in
    let all = code_total_lem (single n) 0 [] kinds in
    ap₂ code_total count (table ∙ sym (append-nil (row_table (single n)))) ∙ all ∙ unfold code_total in (add-zero _)
  where
    nil_is : (l : List ℕ) → is_nil l ≡ true → l ≡ []
    nil_is [] e = refl
    nil_is (x ∷ xs) e = unfold is_nil in (false≢true e)

---- the sum, row by row

-- what is left of `count` after the first i rows
pub record Covered (rows : List ℕ) (count i left : ℕ) : Type 0 where
  pub upto : i ≤ row_count rows
  pub sum : code_total (row_count rows) rows + left ≡ count + code_total (row_count rows - i) (drop (row_width * i) rows)

next_code : (rows : List ℕ) (i : ℕ) → i < row_count rows → code_total (row_count rows - i) (drop (row_width * i) rows) ≡ code_at rows i + code_total (row_count rows - (i + 1)) (drop (row_width * (i + 1)) rows)
unfolding code_total code_at
next_code rows i h =
    let e : row_count rows - i ≡ suc (row_count rows - (i + 1)) = omega arith in
    let f : row_width * i + row_width ≡ row_width * (i + 1) = omega arith in
    rw (e, get_or-drop (row_width * i) rows 0 0, get_or-drop (row_width * i) rows 2 0, drop-drop row_width (row_width * i) rows, f)

no_rows : (n : ℕ) (ws : List ℕ) → n ≡ 0 → code_total n ws ≡ 0
unfolding code_total
no_rows n ws e = rw e

module _ {rows : List ℕ} {count : ℕ} where
  -- before the first row
  pub covered_start : Covered rows count 0 count
  covered_start = let e : row_count rows - 0 ≡ row_count rows = omega arith in record { upto = omega arith; sum = rw e (add_comm (code_total (row_count rows) rows) count) }

  pub covered_next : {i left n : ℕ} → Covered rows count i left → i < row_count rows → n ≡ code_at rows i → n ≤ left → Covered rows count (i + 1) (left - n)
  covered_next {i} {left} {n} c h e l = let f = next_code rows i h in record { upto = omega arith; sum = omega (arith, c.sum) }

  pub covered_short : {i left n : ℕ} → Covered rows count i left → i < row_count rows → n ≡ code_at rows i → left < n → false ≡ eqb (code_total (row_count rows) rows) count
  covered_short {i} {left} {n} c h e l = let f = next_code rows i h in sym (ne_eqb (code_total (row_count rows) rows) count (λ z. omega (arith, c.sum)))

  pub covered_end : {i left : ℕ} → Covered rows count i left → row_count rows ≤ i → eqb left 0 ≡ eqb (code_total (row_count rows) rows) count
  covered_end {i} {left} c h = go (eqb left 0) refl
    where
      all : code_total (row_count rows) rows + left ≡ count
      all = omega (arith, c.sum, no_rows (row_count rows - i) (drop (row_width * i) rows) (omega arith))

      go : (b : Bool) → eqb left 0 ≡ b → b ≡ eqb (code_total (row_count rows) rows) count
      go true q = sym (eq-eqb (code_total (row_count rows) rows) count (omega (arith, all, eqb-true left 0 q)))
      go false q = sym (ne_eqb (code_total (row_count rows) rows) count (λ z. eqb-false left 0 q (omega (arith, all))))
