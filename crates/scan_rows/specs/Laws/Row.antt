-- The scan of a row's words, as tests of the words; what follows them is the scan of the rows under the row.
use Rattle.std.specs.Prelude.{Bool, ◌≡◌, leb, drop}
use Rattle.std.proofs.Math.Bool.{false, true}
use mathlib.Core.List.{List, [], ◌∷◌}
use Rattle.std.proofs.Common.{◌∙◌, drop_of_length-le, drop-cons}
use Rattle.std.proofs.Math.Path.{ap, refl}
use Prim.Native.Nat.{◌*◌, ◌+◌, ◌-◌, ◌<◌, ◌≤◌, suc, zero, ℕ}
use native.Mathlib.Omega.{arith}
use Rattle.std.proofs.Math.Dec.{eqb, ltb}
use Rattle.std.proofs.Math.ListN.{length}
use borrow.Author.Tests.{eqb-true, leb-true, ltb-false, ltb-true}
use Rattle.payload.specs.Choice.{◌and◌}
use Rattle.payload.specs.Moved.{start_at}
use Rattle.payload.specs.Reader.{Part, Result, ◌>>=◌, ◌>>◌, and_then, ok, pure, refused, set_place, set_rows, start, with_row}
use Rattle.payload.specs.Reading.{read_many}
use Rattle.payload.specs.Rows.{count_words, kids_count_words, kind_width, kinds_width, row_width, unused_words}
use Rattle.payload.specs.Scan.{RowScan, Test, any_row, end_row, finish_row, first_word, is_function, next_word, scan_count}
use Rattle.payload.specs.Scan.{scan_item, scan_items, scan_kids, scan_part, scan_shape, scan_string, scan_untagged, scan_value, scan_with_kids, zero_words}
use Rattle.payload.specs.Shapes.{ItemKind, Kids, Shape, keys, kinds_of, no_value, one_value, pairs, shape, shapes, values, with_chunk, with_fields, with_kids, with_template}
use Rattle.payload.specs.Sound.{part_at}
use Rattle.payload.specs.Trees.{Node, cons, forget_items, node_of}
use Rattle.row_layout.specs.Laws.Layout.{all_from, shape_all}
use Rattle.row_layout.specs.Layout.{count_word, used_words}
use Rattle.utf8.specs.Utf8.{part_is_utf8}
use Rattle.scan_rows.specs.Laws.Steps.{and_pass, made_twice, must_pass, pass, pass_and, pass_both}
use Rattle.scan_rows.specs.Row.{at_row, at_word, count_at, item_fits, item_of, items_at, items_fit, items_of, row_count, row_fits, tag_at, word_at, zeros_from}
use Rattle.scan_rows.specs.Under.{scan_under}

---- one word

module _ (rows : List ℕ) where
  pub next_word_lem : (i k : ℕ) → row_width * i + k < length rows → next_word (at_word rows i k) ≡ ok (word_at rows i k) (at_word rows i (k + 1))
  unfolding next_word first_word
  next_word_lem i k h =
      let e : suc (row_width * i + k) ≡ row_width * i + (k + 1) = omega arith in
      let f : row_width * i + k + 1 ≡ row_width * i + (k + 1) = omega arith in
      rw (drop-cons rows (row_width * i + k) 0 h) (λ t. ok (word_at rows i k) (set_rows i (set_place (f t) (start (drop (e t) rows)))))

  pub no_word : (i : ℕ) → length rows ≤ row_width * i → next_word (at_row rows i) ≡ refused 17 i
  unfolding next_word first_word
  no_word i h = rw (drop_of_length-le rows h)

  pub row_start : (i : ℕ) → at_row rows i ≡ at_word rows i 0
  row_start i = let e : row_width * i ≡ row_width * i + 0 = omega arith in λ t. set_rows i (start_at (e t) rows)

  row_end : (i k : ℕ) → k ≡ row_width → with_row (at_word rows i k) ≡ at_row rows (i + 1)
  row_end i k h = let e : row_width * i + k ≡ row_width * (i + 1) = omega arith in λ t. set_rows (i + 1) (start_at (e t) rows)

  ---- unused words

  module _ (i : ℕ) (u : i < row_count rows) where
    zeros_scanned : (n k : ℕ) → k + n ≡ row_width → zero_words n (at_word rows i k) ≡ pass (zeros_from rows i k n) i (ok tt (at_word rows i row_width))
    unfolding zero_words zeros_from pure pass ◌>>=◌ ◌>>◌ and_then
    zeros_scanned zero k h = let e : k ≡ row_width = omega arith in ap (λ (j : ℕ). ok tt (at_word rows i j)) e
    zeros_scanned (suc n) k h =
        rw (next_word_lem i k (omega arith), must_pass, and_pass, zeros_scanned n (k + 1) (omega arith), pass_and)

    finish_scanned : (n k : ℕ) (b : Bool) → k + n ≡ row_width → finish_row n b (at_word rows i k) ≡ pass (zeros_from rows i k n) i (pass b i (ok tt (at_row rows (i + 1))))
    unfolding finish_row end_row ◌>>◌ and_then
    finish_scanned n k b h = rw (zeros_scanned n k h, and_pass) (rw (must_pass b (at_word rows i row_width), and_pass) (rw (row_end i row_width refl)))

    ---- items

    module _ (store : List ℕ) where
      part_scanned : (k : ℕ) → k + 2 ≤ row_width
          → scan_part store (at_word rows i k) ≡ pass (leb (word_at rows i k + word_at rows i (k + 1)) (length store)) i (ok (part_at store (word_at rows i k) (word_at rows i (k + 1))) (at_word rows i (k + 2)))
      unfolding scan_part pure ◌>>=◌ ◌>>◌ and_then
      part_scanned k h =
          let e : k + 1 + 1 ≡ k + 2 = omega arith in
          rw (next_word_lem i k (omega arith), next_word_lem i (k + 1) (omega arith), must_pass, and_pass, e)

      string_scanned : (k : ℕ) → k + 2 ≤ row_width
          → scan_string store (at_word rows i k) ≡ pass (part_is_utf8 store (word_at rows i k) (word_at rows i (k + 1))) i (ok (part_at store (word_at rows i k) (word_at rows i (k + 1))) (at_word rows i (k + 2)))
      unfolding scan_string pure part_is_utf8 ◌>>=◌ ◌>>◌ and_then
      string_scanned k h = rw (part_scanned k h, and_pass, must_pass, and_pass, pass_both)

      item_scanned : (x : ItemKind) (k : ℕ) → k + kind_width x ≤ row_width
          → scan_item store x (at_word rows i k) ≡ pass (item_fits store x (word_at rows i k) (word_at rows i (k + 1))) i (ok (item_of store x (word_at rows i k) (word_at rows i (k + 1))) (at_word rows i (k + kind_width x)))
      unfolding scan_item item_fits item_of kind_width pure ◌>>=◌ ◌>>◌ and_then
      item_scanned (ItemKind.number n) k h = rw (next_word_lem i k (omega arith), must_pass, and_pass)
      item_scanned ItemKind.string k h = rw (string_scanned k h, and_pass)
      item_scanned ItemKind.native_name k h = rw (string_scanned k h, and_pass)
      item_scanned ItemKind.record_name k h = rw (string_scanned k h, and_pass)
      item_scanned ItemKind.code k h = rw (part_scanned k h, and_pass)

      items_scanned : (xs : List ItemKind) (k : ℕ) → k + kinds_width xs ≤ row_width
          → scan_items store xs (at_word rows i k) ≡ pass (items_fit store rows i k xs) i (ok (items_of store rows i k xs) (at_word rows i (k + kinds_width xs)))
      unfolding scan_items items_fit items_of kinds_width pure pass ◌>>=◌ and_then
      items_scanned [] k h = let e : k ≡ k + 0 = omega arith in ap (λ (j : ℕ). ok [] (at_word rows i j)) e
      items_scanned (x ∷ xs) k h =
          let e : k + kind_width x + kinds_width xs ≡ k + (kind_width x + kinds_width xs) = omega arith in
          rw (item_scanned x k (omega arith), and_pass, items_scanned xs (k + kind_width x) (omega arith), and_pass, pass_and, e)

      ---- a row after its tag

      -- a count, read where the shape has one
      count_scanned : (kids : Kids) (k : ℕ) → k + length (kids_count_words kids 0) ≤ row_width
          → (n : ℕ) × (scan_count kids (at_word rows i k) ≡ ok n (at_word rows i (k + length (kids_count_words kids 0)))) × ((r : RowScan) → scan_kids r kids n ≡ scan_kids r kids (word_at rows i k))
      unfolding scan_count kids_count_words scan_kids pure
      count_scanned no_value k h = let e : k ≡ k + 0 = omega arith in (0, ap (λ (j : ℕ). ok 0 (at_word rows i j)) e, λ r. refl)
      count_scanned one_value k h = let e : k ≡ k + 0 = omega arith in (1, ap (λ (j : ℕ). ok 1 (at_word rows i j)) e, λ r. refl)
      count_scanned values k h = (word_at rows i k, next_word_lem i k (omega arith), λ r. refl)
      count_scanned keys k h = (word_at rows i k, next_word_lem i k (omega arith), λ r. refl)
      count_scanned pairs k h = (word_at rows i k, next_word_lem i k (omega arith), λ r. refl)

      -- the tests of a row of a shape, and then x
      abbrev headed : Shape → Bool → Result (Node Part) → Result (Node Part)
      headed sh b x = pass (items_fit store rows i 1 (kinds_of sh)) i (pass (zeros_from rows i (suc (kinds_width (kinds_of sh) + length (count_words sh 0))) (unused_words sh)) i (pass b i x))

      abbrev with_under : RowScan → ℕ → Shape → Result (Node Part)
      with_under r t sh = ◌>>=◌ (scan_under store r sh (word_at rows i (1 + kinds_width (kinds_of sh)))) (λ ts. pure (node_of t (items_of store rows i 1 (kinds_of sh)) ts)) (at_row rows (i + 1))

      module _ (r : RowScan) (g : Test) (t : ℕ) where
        with_kids_scanned : (kinds : List ItemKind) (kids : Kids) → suc (kinds_width kinds + length (kids_count_words kids 0)) ≤ row_width
            → scan_with_kids store r g t kinds kids (at_word rows i 1) ≡ headed (with_kids kinds kids) (g t (forget_items (items_of store rows i 1 kinds))) (with_under r t (with_kids kinds kids))
        unfolding scan_with_kids scan_under kinds_of count_words unused_words ◌>>=◌ ◌>>◌ and_then
        with_kids_scanned kinds kids h =
            let c = count_scanned kids (1 + kinds_width kinds) (omega arith) in
            let e : 1 + kinds_width kinds + length (kids_count_words kids 0) ≡ suc (kinds_width kinds + length (kids_count_words kids 0)) = omega arith in
            let done =
            finish_scanned (row_width - suc (kinds_width kinds + length (kids_count_words kids 0))) (suc (kinds_width kinds + length (kids_count_words kids 0)))
            (g t (forget_items (items_of store rows i 1 kinds))) (omega arith) in
            rw (items_scanned kinds 1 (omega arith), and_pass, c.1, e, done, and_pass, and_pass, c.2 r)

        shape_scanned : (sh : Shape) → suc (kinds_width (kinds_of sh) + length (count_words sh 0)) ≤ row_width
            → scan_shape store r g t sh (at_word rows i 1) ≡ headed sh (g t (forget_items (items_of store rows i 1 (kinds_of sh)))) (with_under r t sh)
        unfolding scan_shape scan_under kinds_of count_words unused_words ◌>>=◌ ◌>>◌ and_then
        shape_scanned (with_kids kinds kids) h = with_kids_scanned kinds kids h
        shape_scanned (with_chunk kinds) h =
            let e : 1 + kinds_width kinds ≡ suc (kinds_width kinds + 0) = omega arith in
            let done = finish_scanned (row_width - suc (kinds_width kinds + 0)) (suc (kinds_width kinds + 0)) (g t (forget_items (items_of store rows i 1 kinds))) (omega arith) in
            rw (items_scanned kinds 1 (omega arith), and_pass, e, done, and_pass, and_pass)
        shape_scanned (with_fields kinds) h =
            let e : 1 + kinds_width kinds + 1 ≡ suc (kinds_width kinds + 1) = omega arith in
            let done = finish_scanned (row_width - suc (kinds_width kinds + 1)) (suc (kinds_width kinds + 1)) (g t (forget_items (items_of store rows i 1 kinds))) (omega arith) in
            rw (items_scanned kinds 1 (omega arith), and_pass, next_word_lem i (1 + kinds_width kinds) (omega arith), e, done, and_pass, and_pass)
        shape_scanned (with_template kinds) h =
            let e : 1 + kinds_width kinds + 1 ≡ suc (kinds_width kinds + 1) = omega arith in
            let done = finish_scanned (row_width - suc (kinds_width kinds + 1)) (suc (kinds_width kinds + 1)) (g t (forget_items (items_of store rows i 1 kinds))) (omega arith) in
            let under = made_twice (r is_function (at_row rows (i + 1))) (read_many (word_at rows i (1 + kinds_width kinds)) (r any_row)) cons (λ ts. node_of t (items_of store rows i 1 kinds) ts) in
            rw (items_scanned kinds 1 (omega arith), and_pass, next_word_lem i (1 + kinds_width kinds) (omega arith), e, done, and_pass, and_pass, under)

---- whole rows

used_low : (t : ℕ) → used_words t ≤ row_width
unfolding used_words
used_low t = leb-true _ _ (shape_all (λ t sh. leb (suc (kinds_width (kinds_of sh) + length (count_words sh 0))) row_width) (unfold all_from shapes kinds_width kind_width kinds_of count_words kids_count_words ◌and◌ in refl)
    (unfold kinds_width kind_width kinds_of count_words kids_count_words in refl) (unfold kinds_width kind_width kinds_of count_words kids_count_words in refl) (λ t h. unfold kinds_width kinds_of count_words kids_count_words in refl) t)

module _ (store rows : List ℕ) where
  -- the rows under row i, and the tree of row i with them
  unfoldable pub row_with : RowScan → ℕ → Result (Node Part)
  row_with r i = ◌>>=◌ (scan_under store r (shape (tag_at rows i)) (count_at rows i)) (λ ts. pure (node_of (tag_at rows i) (items_at store rows i) ts)) (at_row rows (i + 1))

  module _ (i : ℕ) (u : i < row_count rows) where
    pub value_scanned : (d : ℕ) (g : Test) → scan_value store (suc d) g (at_row rows i)
        ≡ pass (leb (tag_at rows i) 26) i (pass (row_fits store rows i) i (pass (g (tag_at rows i) (forget_items (items_at store rows i))) i (row_with (scan_value store d) i)))
    unfolding scan_value row_fits row_with used_words count_word unused_words ◌>>=◌ ◌>>◌ and_then
    value_scanned d g =
        let l : suc (kinds_width (kinds_of (shape (tag_at rows i))) + length (count_words (shape (tag_at rows i)) 0)) ≤ row_width = used_low (tag_at rows i) in
        rw (row_start rows i, next_word_lem rows i 0 (omega arith), must_pass, and_pass, shape_scanned rows i u store (scan_value store d) g (tag_at rows i) (shape (tag_at rows i)) l, pass_and)

    with_kids_row : (r : RowScan) (kinds : List ItemKind) (kids : Kids) → shape (tag_at rows i) ≡ with_kids kinds kids
        → scan_with_kids store r any_row (tag_at rows i) kinds kids (at_word rows i 1) ≡ pass (row_fits store rows i) i (row_with r i)
    unfolding row_fits row_with used_words count_word unused_words pass
    with_kids_row r kinds kids f =
        let l = rw f at (used_low (tag_at rows i)) in
        rw (f, with_kids_scanned rows i u store r any_row (tag_at rows i) kinds kids (unfold used_words kinds_of count_words in l), pass_and)

    -- a chunk or field row
    pub untagged_scanned : (r : RowScan) (t : ℕ) (kinds : List ItemKind) (kids : Kids) → shape t ≡ with_kids kinds kids
        → scan_untagged store r t kinds kids (at_row rows i) ≡ pass (eqb (tag_at rows i) t) i (pass (row_fits store rows i) i (row_with r i))
    unfolding scan_untagged ◌>>=◌ ◌>>◌ and_then
    untagged_scanned r t kinds kids e = rw (row_start rows i, next_word_lem rows i 0 (omega arith), must_pass, and_pass) (go (eqb (tag_at rows i) t) refl)
      where
        go : (b : Bool) → eqb (tag_at rows i) t ≡ b → pass b i (scan_with_kids store r any_row t kinds kids (at_word rows i 1)) ≡ pass b i (pass (row_fits store rows i) i (row_with r i))
        go true q = unfold pass in (rw (← (eqb-true (tag_at rows i) t q)) (with_kids_row r kinds kids (ap shape (eqb-true (tag_at rows i) t q) ∙ e)))
        go false q = unfold pass in refl

  pub value_past : (i : ℕ) → length rows ≤ row_width * i → (d : ℕ) (g : Test) → scan_value store d g (at_row rows i) ≡ refused 17 i
  unfolding scan_value ◌>>=◌ and_then
  value_past i h zero g = rw (no_word rows i h)
  value_past i h (suc d) g = rw (no_word rows i h)

  pub value_deep : (i : ℕ) (g : Test) → length rows ≡ row_width * row_count rows → scan_value store 0 g (at_row rows i) ≡ refused 17 i
  unfolding scan_value ◌>>=◌ ◌>>◌ and_then
  value_deep i g w = go (ltb i (row_count rows)) refl
    where
      go : (b : Bool) → ltb i (row_count rows) ≡ b → scan_value store 0 g (at_row rows i) ≡ refused 17 i
      go true q = rw (row_start rows i, next_word_lem rows i 0 (omega (arith, ltb-true i (row_count rows) q)), must_pass, and_pass) (unfold pass in refl)
      go false q = value_past i (omega (arith, ltb-false i (row_count rows) q)) 0 g

  pub untagged_past : (i : ℕ) → length rows ≤ row_width * i → (r : RowScan) (t : ℕ) (kinds : List ItemKind) (kids : Kids) → scan_untagged store r t kinds kids (at_row rows i) ≡ refused 17 i
  unfolding scan_untagged ◌>>=◌ and_then
  untagged_past i h r t kinds kids = rw (no_word rows i h)
