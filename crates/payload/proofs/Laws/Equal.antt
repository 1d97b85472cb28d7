-- Tables that hold a script look as the script does: programs are equal exactly where their scripts, parts by their bytes, are.
use Rattle.std.specs.Prelude.{true, List, [], ◌++◌, ◌∷◌, ◌≡◌, ◌*◌, ◌+◌, ◌/◌, ◌≤◌, suc, zero, ℕ, drop, length, replicate, take}
use Rattle.std.proofs.Common.{append_assoc, ◌∙◌, ap, ap₂, mul-zero, suc-add, zero-add, arith, length-append, length-drop, take_all}
use Rattle.std.proofs.Math.Option.{Option, none, some}
use Rattle.std.proofs.Math.Path.{refl}
use Rattle.std.proofs.lemmas.List.{drop-append-le, take-append-le}
use Rattle.payload.specs.Equal.{View, is_part, singles, view, view_one, view_row, view_rows, view_words}
use Rattle.payload.specs.Laws.Pool.{and_left, and_right, false≢true}
use Rattle.payload.proofs.Laws.RoundTrip.{same_kind_eq}
use Rattle.payload.specs.Laws.Rules.{SoundScript, same_kinds}
use Rattle.payload.proofs.Laws.ScanWritten.{InItem, InItems, InTrees, kind_bytes}
use Rattle.payload.proofs.Laws.SoundTables.{Holds, InLine, Kinded, kinded, row_table_width, row_width_lem}
use Rattle.payload.specs.Reader.{Part}
use Rattle.payload.specs.Rows.{count_words, item_words, items_spans, items_words, part_words, root_count, row_table, row_width, row_words, span_table, unused_words}
use Rattle.payload.specs.Shapes.{ItemKind, kinds_of, shape}
use Rattle.payload.specs.Sound.{Tables}
use Rattle.payload.specs.Spans.{Span}
use Rattle.payload.specs.Tables.{line_flag, line_name, line_starts, span_words, tables_of}
use Rattle.payload.specs.Trees.{Item, LineIndex, Node, Script, Trees, code, forget_item, forget_items, forget_line, forget_node, forget_script, forget_trees, item_value, kind_of}
use Rattle.payload.specs.Trees.{native_name, nil, node, number, record_name, single, size, string}

---- the view of a script

unfoldable view_items : List (Item (List ℕ)) → List (List ℕ)
view_items [] = []
view_items (i ∷ is) = item_value i ∷ view_items is

unfoldable view_trees : Trees (List ℕ) → List (List (List ℕ))
view_trees nil = []
view_trees (node t is ks ts) = ((t ∷ []) ∷ (view_items is ++ singles (count_words (shape t) (root_count ks) ++ replicate (unused_words (shape t)) 0))) ∷ (view_trees ks ++ view_trees ts)

unfoldable spans_items : List (Item (List ℕ)) → List Span
spans_items [] = []
spans_items (number k w ∷ is) = spans_items is
spans_items (string l ∷ is) = spans_items is
spans_items (native_name l ∷ is) = spans_items is
spans_items (record_name l ∷ is) = spans_items is
spans_items (code l ss ∷ is) = ss ++ spans_items is

unfoldable spans_trees : Trees (List ℕ) → List Span
spans_trees nil = []
spans_trees (node t is ks ts) = spans_items is ++ (spans_trees ks ++ spans_trees ts)

unfoldable view_line : List (List (List ℕ)) → List ℕ → Option (LineIndex (List ℕ)) → View
view_line rows spans none = record { rows = rows; spans = spans; starts = []; flag = 0; name = [] }
view_line rows spans (some x) = record { rows = rows; spans = spans; starts = x.starts; flag = 1; name = x.name }

pub view_script : Script (List ℕ) → View
view_script s = view_line (view_trees (single s.outer)) (span_words (spans_trees (single s.outer))) s.line

---- a row

view_item : (s : List ℕ) (i : Item Part) (f : List ℕ → List (List ℕ)) (ws : List ℕ) → InItem s i → view_one s (is_part (kind_of i)) f (item_words i ++ ws) ≡ item_value (forget_item i) ∷ f ws
unfolding view_one is_part kind_of item_words part_words item_value forget_item InItem
view_item s (number k w) f ws h = refl
view_item s (string l) f ws h = ap (λ (b : List ℕ). b ∷ f ws) h.its_bytes
view_item s (native_name l) f ws h = ap (λ (b : List ℕ). b ∷ f ws) h.its_bytes
view_item s (record_name l) f ws h = ap (λ (b : List ℕ). b ∷ f ws) h.its_bytes
view_item s (code l ss) f ws h = ap (λ (b : List ℕ). b ∷ f ws) h.its_bytes

view_items_lem : (s : List ℕ) (kn : List ItemKind) (is : List (Item Part)) (ws : List ℕ) → same_kinds kn (forget_items is) ≡ true → InItems s is → view_words s kn (items_words is ++ ws) ≡ view_items (forget_items is) ++ singles ws
unfolding view_words items_words view_items forget_items same_kinds InItems
view_items_lem s [] [] ws q h = refl
view_items_lem s [] (i ∷ is) ws q h = false≢true q
view_items_lem s (k ∷ kn) [] ws q h = false≢true q
view_items_lem s (k ∷ kn) (i ∷ is) ws q h = rw (same_kind_eq k _ (and_left _ _ q) ∙ kind_bytes i, append_assoc (item_words i) (items_words is) ws)
    (view_item s i (λ vs. view_words s kn vs) (items_words is ++ ws) h.0 ∙ ap (λ (b : List (List ℕ)). item_value (forget_item i) ∷ b) (view_items_lem s kn is ws (and_right _ _ q) h.1))

count_bytes_lem : (ts : Trees Part) → root_count (forget_trees ts) ≡ root_count ts
unfolding root_count forget_trees
count_bytes_lem nil = refl
count_bytes_lem (node t is ks ts) = ap suc (count_bytes_lem ts)

view_row_lem : (s : List ℕ) (t : ℕ) (is : List (Item Part)) (n : ℕ) → same_kinds (kinds_of (shape t)) (forget_items is) ≡ true → InItems s is
    → view_row s (row_words t is n) ≡ (t ∷ []) ∷ (view_items (forget_items is) ++ singles (count_words (shape t) n ++ replicate (unused_words (shape t)) 0))
unfolding view_row row_words
view_row_lem s t is n q h = ap (λ (b : List (List ℕ)). (t ∷ []) ∷ b) (view_items_lem s (kinds_of (shape t)) is _ q h)

---- the row table

empty_is : (a : List ℕ) → length a ≡ 0 → a ≡ []
empty_is [] e = refl
empty_is (x ∷ a) e = absurd (omega arith)

-- rows of a table, one run after another
view_append : (s : List ℕ) (n m : ℕ) (a b : List ℕ) → length a ≡ row_width * n → view_rows s (n + m) (a ++ b) ≡ view_rows s n a ++ view_rows s m b
unfolding view_rows
view_append s zero m a b e = rw (empty_is a (e ∙ mul-zero row_width), zero-add m)
view_append s (suc n) m a b e =
    let l : row_width ≤ length a = rw e (omega arith) in
    let k : length (drop row_width a) ≡ row_width * n = length-drop row_width a ∙ rw e (omega arith) in
    rw (suc-add n m, take-append-le row_width a b l, drop-append-le row_width a b l)
    (ap (λ (x : List (List (List ℕ))). view_row s (take row_width a) ∷ x) (view_append s n m (drop row_width a) b k))

view_one_lem : (s : List ℕ) (a : List ℕ) → length a ≡ row_width → view_rows s 1 a ≡ view_row s a ∷ []
unfolding view_rows
view_one_lem s a e = ap (λ (x : List ℕ). view_row s x ∷ []) (take_all row_width a (omega (arith, e)))

view_trees_lem : (s : List ℕ) (ts : Trees Part) → Kinded (forget_trees ts) → InTrees s ts → view_rows s (size ts) (row_table ts) ≡ view_trees (forget_trees ts)
unfolding row_table view_trees forget_trees Kinded InTrees size
view_trees_lem s nil k h = unfold view_rows in refl
view_trees_lem s (node t is ks ts) k h =
    let w = row_width_lem t is (root_count ks) k.0 in
    let one_more : suc (size ks) ≡ 1 + size ks = omega arith in
    let a = row_table_width ks k.1 in
    let l : length (row_words t is (root_count ks) ++ row_table ks) ≡ row_width * suc (size ks) = length-append (row_words t is (root_count ks)) (row_table ks) ∙ omega (arith, w, a) in
    view_append s (suc (size ks)) (size ts) (row_words t is (root_count ks) ++ row_table ks) (row_table ts) l
    ∙ ap₂ ◌++◌ (ap (λ (k : ℕ). view_rows s k (row_words t is (root_count ks) ++ row_table ks)) one_more ∙ view_append s 1 (size ks) (row_words t is (root_count ks)) (row_table ks) w ∙ ap₂ ◌++◌
    (view_one_lem s _ w) (view_trees_lem s ks k.1 h.1)) (view_trees_lem s ts k.2 h.2)
    ∙ ap (λ (x : List (List ℕ)). x ∷ (view_trees (forget_trees ks) ++ view_trees (forget_trees ts))) (view_row_lem s t is (root_count ks) k.0 h.0 ∙ rw (count_bytes_lem ks))

---- the span table

spans_items_lem : (is : List (Item Part)) → items_spans is ≡ spans_items (forget_items is)
unfolding items_spans spans_items forget_items forget_item
spans_items_lem [] = refl
spans_items_lem (number k w ∷ is) = spans_items_lem is
spans_items_lem (string l ∷ is) = spans_items_lem is
spans_items_lem (native_name l ∷ is) = spans_items_lem is
spans_items_lem (record_name l ∷ is) = spans_items_lem is
spans_items_lem (code l ss ∷ is) = ap (λ (x : List Span). ss ++ x) (spans_items_lem is)

spans_trees_lem : (ts : Trees Part) → span_table ts ≡ spans_trees (forget_trees ts)
unfolding span_table spans_trees forget_trees
spans_trees_lem nil = refl
spans_trees_lem (node t is ks ts) = ap₂ ◌++◌ (spans_items_lem is) (ap₂ ◌++◌ (spans_trees_lem ks) (spans_trees_lem ts))

---- the tables

pub single_bytes : (n : Node Part) → forget_trees (single n) ≡ single (forget_node n)
unfolding forget_trees single forget_node
single_bytes n = refl

view_tables : (s : List ℕ) (n : Node Part) (x : Option (LineIndex Part)) → Kinded (single (forget_node n)) → InTrees s (single n) → InLine s x
    → view (tables_of s (record { outer = n; line = x })) ≡ view_script (forget_script (record { outer = n; line = x }))
unfolding view tables_of view_script view_line forget_script forget_line InLine line_starts line_flag line_name
view_tables s n x k h l = go x l
  where
    sizes : length (row_table (single n)) / row_width ≡ size (single n)
    sizes = let e = row_table_width (single n) (rw (single_bytes n) k) in omega (arith, e)

    rows_is : view_rows s (length (row_table (single n)) / row_width) (row_table (single n)) ≡ view_trees (single (forget_node n))
    rows_is = rw sizes (view_trees_lem s (single n) (rw (single_bytes n) k) h ∙ ap view_trees (single_bytes n))

    spans_is : span_words (span_table (single n)) ≡ span_words (spans_trees (single (forget_node n)))
    spans_is = ap span_words (spans_trees_lem (single n) ∙ ap spans_trees (single_bytes n))

    go : (x : Option (LineIndex Part)) → InLine s x → view (tables_of s (record { outer = n; line = x })) ≡ view_script (forget_script (record { outer = n; line = x }))
    go none l = λ i. record { rows = rows_is i; spans = spans_is i; starts = []; flag = 0; name = [] }
    go (some y) l = λ i. record { rows = rows_is i; spans = spans_is i; starts = y.starts; flag = 1; name = l.its_bytes i }

-- what tables that hold a script look like
pub view_holds : (T : Tables) (u : Script Part) → Holds T u → SoundScript (forget_script u) → view T ≡ view_script (forget_script u)
unfolding forget_script
view_holds T u h e = ap view h.is_tables ∙ view_tables T.store u.outer u.line (kinded 32 (single (forget_node u.outer)) e.obeys) h.in_trees h.in_line
