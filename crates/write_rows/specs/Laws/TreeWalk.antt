-- The walk over the tables of trees gives the bytes of the trees.
use Rattle.std.specs.Prelude.{Bool, ◌≡◌, leb}
use Rattle.std.proofs.Math.Bool.{true, false}
use mathlib.Core.List.{List, [], ◌∷◌, ◌++◌, append_assoc, append-nil}
use Rattle.std.proofs.Math.Path.{refl, sym, ap, ap₂}
use Rattle.std.proofs.Common.{◌∙◌, add-zero, get_or-drop, drop-drop, lt-ltb, eqb-true}
use Prim.Native.Nat.{ℕ, zero, suc, ◌+◌, ◌-◌, ◌*◌, ◌/◌, ◌≤◌, ◌<◌, min, max}
use native.Mathlib.Omega.{arith}
use Rattle.std.proofs.Math.Dec.{eqb}
use Rattle.std.proofs.Math.ListN.{length, get_or, drop, replicate, length-append, length-replicate, length-drop}
use Rattle.std.proofs.Math.Seq.{get_or-append-add, drop_at}
use Rattle.varint.specs.Uleb128.{uleb128}
use Rattle.payload.specs.Choice.{when◌then◌else◌, ◌and◌}
use Rattle.payload.specs.Demand3.{all_of, all_items}
use Rattle.payload.proofs.Laws.Given.{length_span_words}
use Rattle.payload.specs.Laws.Pool.{and_left, and_right, false≢true}
use Rattle.payload.specs.Laws.Rules.{Root, roots, same_kinds, distinct_pairs, kids_rule, row_rule, item_sound}
use Rattle.payload.proofs.Laws.ScanWritten.{InItems, InTrees, count_roots}
use Rattle.payload.proofs.Laws.SoundTables.{row_width_lem}
use Rattle.payload.specs.Reader.{Part}
use Rattle.payload.specs.Rows.{items_words, kinds_width, kids_count_words, count_words, unused_words, row_words, items_spans, root_count, row_table, row_width, span_table}
use Rattle.payload.specs.Shapes.{ItemKind, no_value, one_value, values, keys, pairs, Shape, with_kids, with_chunk, with_fields, with_template, shape, kinds_of}
use Rattle.payload.specs.Spans.{Span}
use Rattle.payload.specs.Tables.{span_words}
use Rattle.payload.specs.Trees.{Item, key_of, forget_items, forget_trees, Trees, nil, node, span_items, span_count, size}
use Rattle.payload.specs.Writing.{write_items, write_trees, concat, write_kids, write_row, tag_byte}
use Rattle.row_layout.specs.Laws.Row.{row_word_at}
use Rattle.row_layout.specs.Layout.{kids_form, shape_form, first_form, second_form, second_word, under_form, count_word}
use Rattle.row_layout.specs.Row.{row_word}
use Rattle.write_rows.specs.Walk.{Held, row_count, items_bytes, head_bytes, rows_under, code_length, span_after, row_spans, Walked, walked, and_walk, walk_times, walk_next, walk_row, walk}
use Rattle.write_rows.specs.Laws.RowItems.{no_code, code_first, fine, fine_shape, items_written, length_items}
use Rattle.write_rows.specs.Laws.RowSpans.{spans_back, spans_drop, Coded, coded, no_spans}

---- what the rule of a row says of its items and of how many are under it

rule_kinds : (sh : Shape) (is : List (Item (List ℕ))) (rs : List Root) → row_rule sh is rs ≡ true → same_kinds (kinds_of sh) is ≡ true
unfolding row_rule kinds_of
rule_kinds (with_kids kn kk) is rs h = and_left _ _ h
rule_kinds (with_chunk kn) is rs h = and_left _ _ h
rule_kinds (with_fields kn) is rs h = and_left _ _ h
rule_kinds (with_template kn) is [] h = false≢true h
rule_kinds (with_template kn) is (r ∷ rs) h = and_left _ _ h

no_first : (kn : List ItemKind) → no_code kn ≡ true → code_first kn ≡ true
unfolding no_code code_first
no_first [] c = refl
no_first (ItemKind.number k ∷ kn) c = c
no_first (ItemKind.string ∷ kn) c = c
no_first (ItemKind.native_name ∷ kn) c = c
no_first (ItemKind.record_name ∷ kn) c = c
no_first (ItemKind.code ∷ kn) c = false≢true c

few : (sh : Shape) → fine sh ≡ true → leb (length (kinds_of sh)) 2 ≡ true
unfolding fine kinds_of
few (with_kids kn kk) h = and_left _ _ h
few (with_chunk kn) h = and_left _ _ h
few (with_fields kn) h = and_left _ _ h
few (with_template kn) h = and_left _ _ h

first : (sh : Shape) → fine sh ≡ true → code_first (kinds_of sh) ≡ true
unfolding fine kinds_of
first (with_kids kn kk) h = and_right _ _ h
first (with_chunk kn) h = and_right _ _ h
first (with_fields kn) h = and_right _ _ h
first (with_template kn) h = no_first kn (and_right _ _ h)

even : (seen : List (List ℕ)) (rs : List Root) → distinct_pairs seen rs ≡ true → 2 * (length rs / 2) ≡ length rs
unfolding distinct_pairs
even seen [] h = refl
even seen (r ∷ []) h = false≢true h
even seen (r ∷ v ∷ rs) h = let g = even (key_of r.tag r.items ∷ seen) rs (and_right _ _ (and_right _ _ h)) in omega arith

length_written : (l : List (List ℕ)) (ts : Trees Part) → length (write_trees l (forget_trees ts)) ≡ root_count ts
unfolding write_trees forget_trees root_count
length_written l nil = refl
length_written l (node t is ks ts) = ap suc (length_written l ts)

count_size : (ts : Trees Part) → root_count ts ≤ size ts
unfolding root_count size
count_size nil = omega arith
count_size (node t is ks ts) = let g = count_size ts in omega arith

span_words_append : (x y : List Span) → span_words (x ++ y) ≡ span_words x ++ span_words y
unfolding span_words
span_words_append [] y = refl
span_words_append (a ∷ x) y = ap (λ (v : List ℕ). a.start ∷ a.end ∷ v) (span_words_append x y)

---- trees

-- how many levels
unfoldable pub tall : Trees Part → ℕ
tall nil = 0
tall (node t is ks ts) = max (suc (tall ks)) (tall ts)

-- every row obeys the rule of its shape
unfoldable pub ruled : Trees Part → Bool
ruled nil = true
ruled (node t is ks ts) = row_rule (shape t) (forget_items is) (roots (forget_trees ks)) and ruled ks and ruled ts

---- one row

module _ (s : List ℕ) (l : List (List ℕ)) (R S : List ℕ) where
  abbrev H : Held
  H = record { store = s; pool = l; rows = R; spans = S }

  abbrev u : ℕ
  u = row_count R

  -- the bytes of these items
  abbrev written : List (Item Part) → List ℕ
  written is = write_items l (forget_items is)

  -- of the row i with the tag t, by the form v of what is under it: the bytes of its count, and how many are under it
  abbrev count_bytes : ℕ → ℕ → ℕ → List ℕ
  count_bytes t i v = when◌then◌else◌ (leb 2 v) (uleb128 (row_word R i (count_word t))) []

  abbrev beneath : ℕ → ℕ → ℕ → ℕ
  beneath t i v = when◌then◌else◌ (eqb v 0) 0 (when◌then◌else◌ (eqb v 1) 1 (when◌then◌else◌ (eqb v 3) (2 * min (row_word R i (count_word t)) u) (min (row_word R i (count_word t)) u)))

  module _ (t : ℕ) (is : List (Item Part)) (n i : ℕ) (rest : List ℕ) (here : drop (row_width * i) R ≡ row_words t is n ++ rest) (kinds : same_kinds (kinds_of (shape t)) (forget_items is) ≡ true)
      (ins : InItems s is) (all : all_of item_sound (forget_items is) ≡ true) where
    word_is : (k : ℕ) → k < row_width → row_word R i k ≡ get_or (row_words t is n ++ rest) k 0
    word_is k h = row_word_at R i k h ∙ (sym (get_or-drop (row_width * i) R k 0) ∙ ap (λ (v : List ℕ). get_or v k 0) here)

    tag_is : row_word R i 0 ≡ t
    unfolding row_words
    tag_is = word_is 0 (omega arith)

    after : List ℕ
    after = (count_words (shape t) n ++ replicate (unused_words (shape t)) 0) ++ rest

    word_more : (k : ℕ) → k < 4 → row_word R i (1 + k) ≡ get_or (items_words is ++ after) k 0
    unfolding row_words after
    word_more k h = let e : 1 + k ≡ suc k = omega arith in
        ap (row_word R i) e ∙ word_is (suc k) (omega arith) ∙ ap (λ (v : List ℕ). get_or v k 0) (append_assoc (items_words is) (count_words (shape t) n ++ replicate (unused_words (shape t)) 0) rest)

    wide : length (items_words is) ≡ kinds_width (kinds_of (shape t))
    wide = length_items s l [] (kinds_of (shape t)) is kinds

    -- the tag, the items, the count and the unused words are five
    five : length (items_words is) + (length (count_words (shape t) n) + unused_words (shape t)) ≡ 4
    unfolding row_words
    five =
        let count = count_words (shape t) n in
        let unused : List ℕ = replicate (unused_words (shape t)) 0 in
        omega (arith, row_width_lem t is n kinds, length-append (items_words is) (count ++ unused), length-append count unused, length-replicate {A = ℕ} (unused_words (shape t)) 0)

    code_is : Coded s (kinds_of (shape t)) is (row_word R i 1) (row_word R i 2)
    code_is = coded s (kinds_of (shape t)) is after (row_word R i 1) (row_word R i 2) (first (shape t) (fine_shape t)) kinds ins all (word_more 0 (omega arith)) (word_more 1 (omega arith))

    -- the count's word
    count_is : (c : ℕ) (cs : List ℕ) → count_words (shape t) n ≡ c ∷ cs → row_word R i (count_word t) ≡ c
    unfolding count_word
    count_is c cs e =
        let g = five in
        let h = ap length e in
        let z : kinds_width (kinds_of (shape t)) ≡ length (items_words is) + 0 = omega (arith, wide) in
        word_more (kinds_width (kinds_of (shape t))) (omega (arith, wide)) ∙ ap (λ (k : ℕ). get_or (items_words is ++ after) k 0) z
        ∙ get_or-append-add (items_words is) after 0 0 ∙ unfold after in (ap (λ (v : List ℕ). get_or ((v ++ replicate (unused_words (shape t)) 0) ++ rest) 0 0) e)

    items_are : items_bytes H i (items_spans is) ≡ written is ++ count_bytes t i (under_form t)
    unfolding items_bytes first_form second_form second_word
    items_are = rw tag_is (ap (λ (v : List ℕ). v ++ count_bytes t i (under_form t)) (items_written s l (items_spans is) (kinds_of (shape t)) is after (row_word R i) (few (shape t) (fine_shape t)) kinds ins all code_is.spanned word_more))

    -- the row's spans
    module _ (j : ℕ) (more : List Span) (rest' : List ℕ) (there : drop (2 * j) S ≡ span_words (items_spans is ++ more) ++ rest') (room : j ≤ length S / 2) where
      code_len : code_length H i ≡ span_items (forget_items is)
      unfolding code_length first_form
      code_len = rw tag_is code_is.long

      pub span_room : j + span_items (forget_items is) ≤ length S / 2
      span_room = omega (arith, code_is.many, length-drop (2 * j) S, ap length there, length-append (span_words (items_spans is ++ more)) rest', length_span_words (items_spans is ++ more), length-append (items_spans is) more)

      span_to : span_after H i j ≡ j + span_items (forget_items is)
      unfolding span_after
      span_to = rw code_len (omega (arith, span_room))

      spans_of_lem : row_spans H i j ≡ items_spans is
      unfolding row_spans
      spans_of_lem = rw (span_to, there) (spans_back (items_spans is) more rest' (2 * (j + span_items (forget_items is)) - 2 * j) (omega (arith, code_is.many)))

      pub spans_next : drop (2 * (j + span_items (forget_items is))) S ≡ span_words more ++ rest'
      spans_next =
          let e : 2 * (j + span_items (forget_items is)) ≡ 2 * j + 2 * length (items_spans is) = omega (arith, code_is.many) in
          ap (λ (k : ℕ). drop k S) e ∙ sym (drop-drop (2 * length (items_spans is)) (2 * j) S) ∙ ap (drop (2 * length (items_spans is))) there ∙ spans_drop (items_spans is) more rest'

      -- the bytes after the tag
      unfoldable pub tail : List ℕ
      tail = written is ++ count_bytes t i (under_form t)

      before_is : head_bytes H i (row_spans H i j) ≡ tag_byte t ++ when◌then◌else◌ (eqb (under_form t) 4) [] tail
      unfolding head_bytes tail
      before_is = ap (λ (v : List Span). tag_byte (row_word R i 0) ++ when◌then◌else◌ (eqb (under_form (row_word R i 0)) 4) [] (items_bytes H i v)) spans_of_lem
          ∙ ap (λ (v : List ℕ). tag_byte (row_word R i 0) ++ when◌then◌else◌ (eqb (under_form (row_word R i 0)) 4) [] v) items_are
          ∙ ap (λ (k : ℕ). tag_byte k ++ when◌then◌else◌ (eqb (under_form k) 4) [] (written is ++ count_bytes t i (under_form t))) tag_is

      module _ (f : ℕ → ℕ → ℕ → Walked) (es : List (List ℕ)) (i' j' : ℕ) where
        -- a row that is no closure
        pub row_plain : (b : ℕ) → eqb (under_form t) 4 ≡ false → rows_under R i ≡ b → f b (i + 1) (j + span_items (forget_items is)) ≡ walked (concat es) i' j' → write_row (written is) (shape t) es ≡ tail ++ concat es
            → walk_row H f i j ≡ walked (tag_byte t ++ write_row (written is) (shape t) es) i' j'
        unfolding walk_row and_walk when◌then◌else◌
        row_plain b c e g a =
            let head : head_bytes H i (row_spans H i j) ≡ tag_byte t ++ tail = before_is ∙ rw c in
            let c' : eqb (under_form (row_word R i 0)) 4 ≡ false = ap (λ (k : ℕ). eqb (under_form k) 4) tag_is ∙ c in
            let k : f (rows_under R i) (i + 1) (span_after H i j) ≡ walked (concat es) i' j' = ap₂ (λ (m n : ℕ). f m (i + 1) n) e span_to ∙ g in
            rw c' (ap₂ (λ (v : List ℕ) (w : Walked). walked (v ++ w.bytes) w.row w.span) head k
            ∙ ap (λ (v : List ℕ). walked v i' j') (append_assoc (tag_byte t) tail (concat es) ∙ ap (λ (v : List ℕ). tag_byte t ++ v) (sym a)))

        -- how many are under it, by the number of its shape
        beneath_is : (v : ℕ) → under_form t ≡ v → rows_under R i ≡ beneath t i v
        unfolding rows_under
        beneath_is v e = rw (tag_is, e)

        tail_is : (v : ℕ) → under_form t ≡ v → tail ≡ written is ++ count_bytes t i v
        unfolding tail
        tail_is v e = rw e

        -- a row with no count: so many under it
        row_bare : (v b : ℕ) → under_form t ≡ v → eqb v 4 ≡ false → leb 2 v ≡ false → rows_under R i ≡ b → f b (i + 1) (j + span_items (forget_items is)) ≡ walked (concat es) i' j'
            → write_row (written is) (shape t) es ≡ written is ++ concat es → walk_row H f i j ≡ walked (tag_byte t ++ write_row (written is) (shape t) es) i' j'
        unfolding when◌then◌else◌
        row_bare v b ev c m e g a =
            let z : tail ≡ written is = tail_is v ev ∙ ap (λ (k : Bool). written is ++ when◌then◌else◌ k (uleb128 (row_word R i (count_word t))) []) m ∙ append-nil (written is) in
            row_plain b (ap (λ (k : ℕ). eqb k 4) ev ∙ c) e g (a ∙ ap (λ (x : List ℕ). x ++ concat es) (sym z))

        -- a row with a count
        row_counted : (v b c : ℕ) → under_form t ≡ v → eqb v 4 ≡ false → leb 2 v ≡ true → row_word R i (count_word t) ≡ c → rows_under R i ≡ b
            → f b (i + 1) (j + span_items (forget_items is)) ≡ walked (concat es) i' j' → write_row (written is) (shape t) es ≡ written is ++ (uleb128 c ++ concat es)
            → walk_row H f i j ≡ walked (tag_byte t ++ write_row (written is) (shape t) es) i' j'
        unfolding when◌then◌else◌
        row_counted v b c ev q m ec e g a =
            let z : tail ≡ written is ++ uleb128 c = tail_is v ev ∙ ap (λ (k : Bool). written is ++ when◌then◌else◌ k (uleb128 (row_word R i (count_word t))) []) m ∙ ap (λ (k : ℕ). written is ++ uleb128 k) ec in
            row_plain b (ap (λ (k : ℕ). eqb k 4) ev ∙ q) e g
            (a ∙ sym (append_assoc (written is) (uleb128 c) (concat es)) ∙ ap (λ (x : List ℕ). x ++ concat es) (sym z))

      -- a closure: its function first
      row_closure : (f : ℕ → ℕ → ℕ → Walked) (e : List ℕ) (es : List (List ℕ)) (i₁ j₁ i' j' b c : ℕ) → under_form t ≡ 4 → items_spans is ≡ [] → row_word R i (count_word t) ≡ c → rows_under R i ≡ b
          → f 1 (i + 1) (j + span_items (forget_items is)) ≡ walked e i₁ j₁ → f b i₁ j₁ ≡ walked (concat es) i' j'
          → walk_row H f i j ≡ walked (tag_byte t ++ (e ++ (written is ++ (uleb128 c ++ concat es)))) i' j'
      unfolding walk_row and_walk when◌then◌else◌
      row_closure f e es i₁ j₁ i' j' b c ev bare ec eb g h =
          let head : head_bytes H i (row_spans H i j) ≡ tag_byte t ++ [] = before_is ∙ ap (λ (v : ℕ). tag_byte t ++ when◌then◌else◌ (eqb v 4) [] tail) ev in
          let c' : eqb (under_form (row_word R i 0)) 4 ≡ true = ap (λ (k : ℕ). eqb (under_form k) 4) tag_is ∙ ap (λ (v : ℕ). eqb v 4) ev in
          let own : items_bytes H i [] ≡ written is ++ uleb128 c = ap (items_bytes H i) (sym bare) ∙ items_are ∙ ap₂ (λ (v k : ℕ). written is ++ when◌then◌else◌ (leb 2 v) (uleb128 k) []) ev ec in
          let k : f 1 (i + 1) (span_after H i j) ≡ walked e i₁ j₁ = ap (f 1 (i + 1)) span_to ∙ g in
          rw c' (ap₂ (λ (v : List ℕ) (w : Walked). let y = f (rows_under R i) w.row w.span in walked (v ++ (w.bytes ++ (items_bytes H i [] ++ y.bytes))) y.row y.span) head k
          ∙ ap₂ (λ (v : List ℕ) (m : ℕ). walked ((tag_byte t ++ []) ++ (e ++ (v ++ (f m i₁ j₁).bytes))) (f m i₁ j₁).row (f m i₁ j₁).span) own eb
          ∙ ap (λ (w : Walked). walked ((tag_byte t ++ []) ++ (e ++ ((written is ++ uleb128 c) ++ w.bytes))) w.row w.span) h
          ∙ ap (λ (v : List ℕ). walked v i' j') (ap₂ (λ (x y : List ℕ). x ++ (e ++ y)) (append-nil (tag_byte t)) (append_assoc (written is) (uleb128 c) (concat es))))

  abbrev pub first_bytes : ℕ → List (Item Part) → Trees Part → List ℕ
  first_bytes t is ks = tag_byte t ++ write_row (written is) (shape t) (write_trees l (forget_trees ks))

  -- the walk over these trees, and, of its first row and the rest, each by itself
  unfoldable pub Parts : ℕ → Trees Part → ℕ → ℕ → Type 0
  Parts d nil i j = Unit {0}
  Parts d (node t is ks ts) i j =
      (walk H d 1 i j ≡ walked (first_bytes t is ks) (i + 1 + size ks) (j + span_items (forget_items is) + span_count (forget_trees ks)))
      × (walk H d (root_count ts) (i + 1 + size ks) (j + span_items (forget_items is) + span_count (forget_trees ks))
      ≡ walked (concat (write_trees l (forget_trees ts))) (i + 1 + size ks + size ts) (j + span_items (forget_items is) + span_count (forget_trees ks) + span_count (forget_trees ts)))

  pub record WalkIs (d : ℕ) (ts : Trees Part) (i j : ℕ) : Type 0 where
    pub whole : walk H d (root_count ts) i j ≡ walked (concat (write_trees l (forget_trees ts))) (i + size ts) (j + span_count (forget_trees ts))
    pub parts : Parts d ts i j

  module _ (d t : ℕ) (is : List (Item Part)) (i j : ℕ) (rest : List ℕ) (ins : InItems s is) (all : all_of item_sound (forget_items is) ≡ true)
      (more : List Span) (rest' : List ℕ) (there : drop (2 * j) S ≡ span_words (items_spans is ++ more) ++ rest')
      (room : j ≤ length S / 2) (kn : List ItemKind) (e : shape t ≡ with_template kn) (q : same_kinds (kinds_of (shape t)) (forget_items is) ≡ true) where
    no_codes : no_code kn ≡ true
    unfolding fine
    no_codes = and_right (leb (length kn) 2) _ (ap fine (sym e) ∙ fine_shape t)

    no_spans_here : items_spans is ≡ []
    unfolding kinds_of
    no_spans_here = (no_spans kn is no_codes (ap (λ (x : Shape). same_kinds (kinds_of x) (forget_items is)) (sym e) ∙ q)).0

    closure_row_lem : (ks : Trees Part) (here : drop (row_width * i) R ≡ row_words t is (root_count ks) ++ rest) → size ks ≤ u → row_rule (with_template kn) (forget_items is) (roots (forget_trees ks)) ≡ true
        → WalkIs d ks (i + 1) (j + span_items (forget_items is)) → walk_row H (walk H d) i j ≡ walked (first_bytes t is ks) (i + 1 + size ks) (j + span_items (forget_items is) + span_count (forget_trees ks))
    unfolding row_rule roots forget_trees Parts root_count size span_count write_trees count_words write_row shape_form when◌then◌else◌
    closure_row_lem nil here small r w = false≢true r
    closure_row_lem (node ft fi fk ks) here small r w =
        let v : under_form t ≡ 4 = unfold under_form in (ap shape_form e) in
        let m = span_items (forget_items is) in
        let cnt : row_word R i (count_word t) ≡ root_count ks = count_is t is (suc (root_count ks)) i rest here q ins all (root_count ks) [] (ap (λ (x : Shape). count_words x (suc (root_count ks))) e) in
        let low : min (root_count ks) u ≡ root_count ks = let g = count_size ks in omega arith in
        let b : rows_under R i ≡ root_count ks = beneath_is t is (suc (root_count ks)) i rest here q ins all j more rest' there room (walk H d) [] 0 0 4 v ∙ ap (λ (k : ℕ). min k u) cnt ∙ low in
        let fj = j + m + span_items (forget_items fi) + span_count (forget_trees fk) in
        let i₁ = i + 1 + (suc (size fk) + size ks) in
        let j₁ = j + m + ((span_items (forget_items fi) + span_count (forget_trees fk)) + span_count (forget_trees ks)) in
        let er : i + 1 + 1 + size fk + size ks ≡ i₁ = omega arith in
        let es : fj + span_count (forget_trees ks) ≡ j₁ = omega arith in
        let others = write_trees l (forget_trees ks) in
        row_closure t is (suc (root_count ks)) i rest here q ins all j more rest' there room (walk H d) (first_bytes ft fi fk) others (i + 1 + 1 + size fk) fj
        (i + 1 + 1 + size fk + size ks) (fj + span_count (forget_trees ks)) (root_count ks) (root_count ks) v no_spans_here cnt b w.parts.0 w.parts.1
        ∙ ap₂ (λ (x y : ℕ). walked (tag_byte t ++ (first_bytes ft fi fk ++ (written is ++ (uleb128 (root_count ks) ++ concat others)))) x y) er es
        ∙ ap (λ (n : ℕ). walked (tag_byte t ++ (first_bytes ft fi fk ++ (written is ++ (uleb128 n ++ concat others)))) i₁ j₁) (sym (length_written l ks))
        ∙ ap (λ (x : Shape). walked (tag_byte t ++ write_row (written is) x (first_bytes ft fi fk ∷ others)) i₁ j₁) (sym e)

  module _ (d t : ℕ) (is : List (Item Part)) (ks : Trees Part) (i j : ℕ) (rest : List ℕ) (here : drop (row_width * i) R ≡ row_words t is (root_count ks) ++ rest)
      (ins : InItems s is) (all : all_of item_sound (forget_items is) ≡ true)
      (more : List Span) (rest' : List ℕ) (there : drop (2 * j) S ≡ span_words (items_spans is ++ more) ++ rest') (room : j ≤ length S / 2) (small : size ks ≤ u) where
    abbrev i₁ : ℕ
    i₁ = i + 1 + size ks

    abbrev j₁ : ℕ
    j₁ = j + span_items (forget_items is) + span_count (forget_trees ks)

    abbrev es : List (List ℕ)
    es = write_trees l (forget_trees ks)

    least : min (root_count ks) u ≡ root_count ks
    least = let g = count_size ks in omega arith

    none_under : eqb (length (roots (forget_trees ks))) 0 ≡ true → root_count ks ≡ 0
    none_under h = sym (count_roots ks) ∙ eqb-true _ 0 h

    one_under : eqb (length (roots (forget_trees ks))) 1 ≡ true → root_count ks ≡ 1
    one_under h = sym (count_roots ks) ∙ eqb-true _ 1 h

    half : distinct_pairs [] (roots (forget_trees ks)) ≡ true → 2 * min (root_count ks / 2) u ≡ root_count ks
    half h = let g = even [] (roots (forget_trees ks)) h in let c = count_roots ks in let z = count_size ks in omega arith

    closed : (kn : List ItemKind) → shape t ≡ with_template kn → same_kinds (kinds_of (shape t)) (forget_items is) ≡ true → row_rule (with_template kn) (forget_items is) (roots (forget_trees ks)) ≡ true
        → WalkIs d ks (i + 1) (j + span_items (forget_items is)) → walk_row H (walk H d) i j ≡ walked (first_bytes t is ks) i₁ j₁
    closed kn e q r w = closure_row_lem d t is i j rest ins all more rest' there room kn e q ks here small r w

    -- a row without a count, and one with the count c, by the form v of what is under it
    bare_row : (v : ℕ) → under_form t ≡ v → eqb v 4 ≡ false → leb 2 v ≡ false → same_kinds (kinds_of (shape t)) (forget_items is) ≡ true
        → beneath t i v ≡ root_count ks → WalkIs d ks (i + 1) (j + span_items (forget_items is)) → write_row (written is) (shape t) es ≡ written is ++ concat es
        → walk_row H (walk H d) i j ≡ walked (first_bytes t is ks) i₁ j₁
    bare_row v e n m q b w =
        row_bare t is (root_count ks) i rest here q ins all j more rest' there room (walk H d) es i₁ j₁ v (root_count ks) e n m
        (beneath_is t is (root_count ks) i rest here q ins all j more rest' there room (walk H d) es i₁ j₁ v e ∙ b) w.whole

    counted_row : (v c : ℕ) → under_form t ≡ v → eqb v 4 ≡ false → leb 2 v ≡ true → same_kinds (kinds_of (shape t)) (forget_items is) ≡ true → row_word R i (count_word t) ≡ c
        → beneath t i v ≡ root_count ks → WalkIs d ks (i + 1) (j + span_items (forget_items is)) → write_row (written is) (shape t) es ≡ written is ++ (uleb128 c ++ concat es)
        → walk_row H (walk H d) i j ≡ walked (first_bytes t is ks) i₁ j₁
    counted_row v c e n m q cnt b w =
        row_counted t is (root_count ks) i rest here q ins all j more rest' there room (walk H d) es i₁ j₁ v (root_count ks) c e n m cnt
        (beneath_is t is (root_count ks) i rest here q ins all j more rest' there room (walk H d) es i₁ j₁ v e ∙ b) w.whole

    -- a row that counts the rows under it
    listed_row : (sh : Shape) → shape t ≡ sh → shape_form sh ≡ 2 → count_words sh (root_count ks) ≡ root_count ks ∷ [] → write_row (written is) sh es ≡ written is ++ (uleb128 (length es) ++ concat es)
        → same_kinds (kinds_of (shape t)) (forget_items is) ≡ true → WalkIs d ks (i + 1) (j + span_items (forget_items is)) → walk_row H (walk H d) i j ≡ walked (first_bytes t is ks) i₁ j₁
    unfolding when◌then◌else◌
    listed_row sh e f c o q w =
        let v : under_form t ≡ 2 = unfold under_form in (ap shape_form e ∙ f) in
        let cnt = count_is t is (root_count ks) i rest here q ins all (root_count ks) [] (ap (λ (x : Shape). count_words x (root_count ks)) e ∙ c) in
        counted_row 2 (root_count ks) v refl refl q cnt (ap (λ (k : ℕ). min k u) cnt ∙ least) w
        (ap (λ (x : Shape). write_row (written is) x es) e ∙ o ∙ ap (λ (n : ℕ). written is ++ (uleb128 n ++ concat es)) (length_written l ks))

    one_row : (sh : Shape) → shape t ≡ sh → same_kinds (kinds_of (shape t)) (forget_items is) ≡ true → row_rule sh (forget_items is) (roots (forget_trees ks)) ≡ true → WalkIs d ks (i + 1) (j + span_items (forget_items is))
        → walk_row H (walk H d) i j ≡ walked (first_bytes t is ks) i₁ j₁
    unfolding row_rule kids_rule shape_form kids_form write_kids count_words kids_count_words write_row when◌then◌else◌
    one_row (with_kids kn no_value) e q r w =
        let v : under_form t ≡ 0 = unfold under_form in (ap shape_form e) in
        bare_row 0 v refl refl q (sym (none_under (and_right _ _ r))) w (ap (λ (x : Shape). write_row (written is) x es) e)
    one_row (with_kids kn one_value) e q r w =
        let v : under_form t ≡ 1 = unfold under_form in (ap shape_form e) in
        bare_row 1 v refl refl q (sym (one_under (and_left _ _ (and_right _ _ r)))) w (ap (λ (x : Shape). write_row (written is) x es) e)
    one_row (with_kids kn values) e q r w = listed_row (with_kids kn values) e refl refl refl q w
    one_row (with_kids kn keys) e q r w = listed_row (with_kids kn keys) e refl refl refl q w
    one_row (with_kids kn pairs) e q r w =
        let v : under_form t ≡ 3 = unfold under_form in (ap shape_form e) in
        let cnt = count_is t is (root_count ks) i rest here q ins all (root_count ks / 2) [] (ap (λ (x : Shape). count_words x (root_count ks)) e) in
        counted_row 3 (root_count ks / 2) v refl refl q cnt (ap (λ (k : ℕ). 2 * min k u) cnt ∙ half (and_right _ _ (and_right _ _ r))) w
        (ap (λ (x : Shape). write_row (written is) x es) e ∙ ap (λ (n : ℕ). written is ++ (uleb128 (n / 2) ++ concat es)) (length_written l ks))
    one_row (with_chunk kn) e q r w =
        let v : under_form t ≡ 1 = unfold under_form in (ap shape_form e) in
        bare_row 1 v refl refl q (sym (one_under (and_left _ _ (and_right _ _ r)))) w (ap (λ (x : Shape). write_row (written is) x es) e)
    one_row (with_fields kn) e q r w = listed_row (with_fields kn) e refl refl refl q w
    one_row (with_template kn) e q r w = closed kn e q r w

  length_rows : (ts : Trees Part) → ruled ts ≡ true → length (row_table ts) ≡ row_width * size ts
  unfolding ruled row_table size
  length_rows nil h = refl
  length_rows (node t is ks ts) h =
      let r = row_width_lem t is (root_count ks) (rule_kinds (shape t) (forget_items is) (roots (forget_trees ks)) (and_left _ _ h)) in
      let a = length_rows ks (and_left _ _ (and_right _ _ h)) in
      let b = length_rows ts (and_right _ _ (and_right _ _ h)) in
      omega (arith, length-append (row_words t is (root_count ks) ++ row_table ks) (row_table ts), length-append (row_words t is (root_count ks)) (row_table ks))

  many_of : (t : ℕ) (is : List (Item Part)) → same_kinds (kinds_of (shape t)) (forget_items is) ≡ true → InItems s is → all_of item_sound (forget_items is) ≡ true → span_items (forget_items is) ≡ length (items_spans is)
  many_of t is q i h = (coded s (kinds_of (shape t)) is [] _ _ (first (shape t) (fine_shape t)) q i h refl refl).many

  length_spans : (ts : Trees Part) → ruled ts ≡ true → InTrees s ts → all_items item_sound (forget_trees ts) ≡ true → length (span_table ts) ≡ span_count (forget_trees ts)
  unfolding ruled span_table span_count forget_trees InTrees all_items
  length_spans nil h i a = refl
  length_spans (node t is ks ts) h i a =
      let m = many_of t is (rule_kinds (shape t) (forget_items is) (roots (forget_trees ks)) (and_left _ _ h)) i.0 (and_left _ _ a) in
      let x = length_spans ks (and_left _ _ (and_right _ _ h)) i.1 (and_left _ _ (and_right _ _ a)) in
      let y = length_spans ts (and_right _ _ (and_right _ _ h)) i.2 (and_right _ _ (and_right _ _ a)) in
      omega (arith, length-append (items_spans is) (span_table ks ++ span_table ts), length-append (span_table ks) (span_table ts))

  walk_none : (d i j : ℕ) → walk H d 0 i j ≡ walked [] i j
  unfolding walk walk_times
  walk_none zero i j = refl
  walk_none (suc d) i j = refl

  walk_more : (d n i j : ℕ) (b c : List ℕ) (i₁ j₁ i₂ j₂ : ℕ) → i < u → walk_row H (walk H d) i j ≡ walked b i₁ j₁
      → walk H (suc d) n i₁ j₁ ≡ walked c i₂ j₂ → walk H (suc d) (suc n) i j ≡ walked (b ++ c) i₂ j₂
  unfolding walk walk_times walk_next and_walk when◌then◌else◌
  walk_more d n i j b c i₁ j₁ i₂ j₂ h e g = rw (lt-ltb i u h) (ap (λ (w : Walked). and_walk w (walk_times (walk_next H (walk H d)) n)) e ∙ ap (λ (w : Walked). walked (b ++ w.bytes) w.row w.span) g)

  pub walks : (d : ℕ) (ts : Trees Part) (i j : ℕ) (rest rest' : List ℕ) → drop (row_width * i) R ≡ row_table ts ++ rest
      → drop (2 * j) S ≡ span_words (span_table ts) ++ rest' → j ≤ length S / 2 → i + size ts ≤ u → tall ts ≤ d
      → ruled ts ≡ true → InTrees s ts → all_items item_sound (forget_trees ts) ≡ true → WalkIs d ts i j
  unfolding row_table span_table size tall ruled InTrees all_items forget_trees root_count write_trees concat span_count Parts
  walks d nil i j rest rest' eR eS room fits deep h ins a = record {
    whole = (walk_none d i j ∙ ap₂ (walked []) (sym (add-zero i)) (sym (add-zero j)));
    parts = tt;
  }
  walks zero (node t is ks ts) i j rest rest' eR eS room fits deep h ins a = absurd (omega arith)
  walks (suc d) (node t is ks ts) i j rest rest' eR eS room fits deep h ins a =
      let kinds = rule_kinds (shape t) (forget_items is) (roots (forget_trees ks)) (and_left _ _ h) in
      let hk : ruled ks ≡ true = and_left _ _ (and_right _ _ h) in
      let ht : ruled ts ≡ true = and_right _ _ (and_right _ _ h) in
      let ak : all_items item_sound (forget_trees ks) ≡ true = and_left _ _ (and_right _ _ a) in
      let at : all_items item_sound (forget_trees ts) ≡ true = and_right _ _ (and_right _ _ a) in
      let ai : all_of item_sound (forget_items is) ≡ true = and_left _ _ a in
      let m = span_items (forget_items is) in
      let here : drop (row_width * i) R ≡ row_words t is (root_count ks) ++ (row_table ks ++ (row_table ts ++ rest)) =
      eR ∙ append_assoc (row_words t is (root_count ks) ++ row_table ks) (row_table ts) rest ∙ append_assoc (row_words t is (root_count ks)) (row_table ks) (row_table ts ++ rest) in
      let e₁ : row_width * (i + 1) ≡ row_width * i + row_width = omega arith in
      let rows₁ : drop (row_width * (i + 1)) R ≡ row_table ks ++ (row_table ts ++ rest) = ap (λ (k : ℕ). drop k R) e₁
      ∙ sym (drop-drop row_width (row_width * i) R) ∙ ap (drop row_width) here ∙ drop_at (row_words t is (root_count ks)) (row_table ks ++ (row_table ts ++ rest)) 5 (row_width_lem t is (root_count ks) kinds) in
      let lk = length_rows ks hk in
      let e₂ : row_width * (i + 1 + size ks) ≡ row_width * (i + 1) + row_width * size ks = omega arith in
      let rows₂ : drop (row_width * (i + 1 + size ks)) R ≡ row_table ts ++ rest = ap (λ (k : ℕ). drop k R) e₂
      ∙ sym (drop-drop (row_width * size ks) (row_width * (i + 1)) R) ∙ ap (drop (row_width * size ks)) rows₁ ∙ drop_at (row_table ks) (row_table ts ++ rest) (row_width * size ks) lk in
      let more = span_table ks ++ span_table ts in
      let sp = spans_next t is (root_count ks) i (row_table ks ++ (row_table ts ++ rest)) here kinds ins.0 ai j more rest' eS room in
      let sr = span_room t is (root_count ks) i (row_table ks ++ (row_table ts ++ rest)) here kinds ins.0 ai j more rest' eS room in
      let spans₁ : drop (2 * (j + m)) S ≡ span_words (span_table ks) ++ (span_words (span_table ts) ++ rest') =
      sp ∙ ap (λ (v : List ℕ). v ++ rest') (span_words_append (span_table ks) (span_table ts)) ∙ append_assoc (span_words (span_table ks)) (span_words (span_table ts)) rest' in
      let ls = length_spans ks hk ins.1 ak in
      let lw = length_span_words (span_table ks) in
      let e₃ : 2 * (j + m + span_count (forget_trees ks)) ≡ 2 * (j + m) + 2 * span_count (forget_trees ks) = omega arith in
      let lw' : length (span_words (span_table ks)) ≡ 2 * span_count (forget_trees ks) = omega arith in
      let spans₂ : drop (2 * (j + m + span_count (forget_trees ks))) S ≡ span_words (span_table ts) ++ rest' = ap (λ (k : ℕ). drop k S) e₃ ∙ sym (drop-drop (2 * span_count (forget_trees ks)) (2 * (j + m)) S)
      ∙ ap (drop (2 * span_count (forget_trees ks))) spans₁ ∙ drop_at (span_words (span_table ks)) (span_words (span_table ts) ++ rest') (2 * span_count (forget_trees ks)) lw' in
      let room₂ : j + m + span_count (forget_trees ks) ≤ length S / 2 = omega (arith, sr, length-drop (2 * (j + m)) S, ap length spans₁, length-append (span_words (span_table ks)) (span_words (span_table ts) ++ rest')) in
      let under₁ = walks d ks (i + 1) (j + m) (row_table ts ++ rest) (span_words (span_table ts) ++ rest') rows₁ spans₁ sr (omega arith) (omega arith) hk ins.1 ak in
      let row = one_row d t is ks i j (row_table ks ++ (row_table ts ++ rest)) here ins.0 ai more rest' eS room (omega arith) (shape t) refl kinds (and_left _ _ h) under₁ in
      let rest₁ = walks (suc d) ts (i + 1 + size ks) (j + m + span_count (forget_trees ks)) rest rest' rows₂ spans₂ room₂ (omega arith) (omega arith) ht ins.2 at in
      let low : i < u = omega arith in
      let er : i + 1 + size ks + size ts ≡ i + (suc (size ks) + size ts) = omega arith in
      let es : j + m + span_count (forget_trees ks) + span_count (forget_trees ts) ≡ j + ((m + span_count (forget_trees ks)) + span_count (forget_trees ts)) = omega arith in
      record {
        whole = (walk_more d (root_count ts) i j (first_bytes t is ks) (concat (write_trees l (forget_trees ts))) _ _ _ _ low row rest₁.whole ∙ ap₂ (walked (first_bytes t is ks ++ concat (write_trees l (forget_trees ts)))) er es);
        parts = (
          walk_more d 0 i j (first_bytes t is ks) [] _ _ _ _ low row (walk_none (suc d) _ _)
              ∙ ap (λ (v : List ℕ). walked v (i + 1 + size ks) (j + m + span_count (forget_trees ks))) (append-nil (first_bytes t is ks)),
          rest₁.whole,
        );
      }
