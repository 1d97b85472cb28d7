-- What each function of the scan found, from what its callees found.
use Rattle.std.specs.Prelude.{List, [], ◌∷◌, ◌≡◌, ◌+◌, ◌-◌, ◌<◌, ◌≤◌, suc, zero, ℕ, ltb, Ok, Err}
use Rattle.std.proofs.Math.Bool.{false, true}
use Rattle.std.proofs.Common.{◌∙◌}
use Rattle.std.proofs.Math.Path.{ap, refl, sym}
use native.Mathlib.Omega.{arith}
use Rattle.std.proofs.Math.Dec.{eqb}
use borrow.Author.Tests.{eqb-true, le-leb, lt-leb, ltb-true}
use Rattle.payload.specs.Choice.{◌and◌, when◌then◌else◌}
use Rattle.payload.specs.Laws.Pool.{and_left, and_right}
use Rattle.payload.specs.Reader.{Part, Reader, ◌>>=◌, and_then, ok, pure}
use Rattle.payload.specs.Reading.{read_many}
use Rattle.payload.specs.Rows.{kind_width, kinds_width}
use Rattle.payload.specs.Scan.{RowScan, any_row, scan_kids, scan_untagged, scan_value}
use Rattle.payload.specs.Shapes.{ItemKind, Kids, kinds_of, one_value, shape, values, with_kids}
use Rattle.payload.specs.Trees.{Node, Trees, cons}
use Rattle.row_layout.specs.Layout.{count_word}
use Rattle.scan_rows.specs.Found.{Scanned, WholeRows, Scan, broken}
use Rattle.scan_rows.specs.declared.BrokenRow.{BrokenRow}
use Rattle.scan_rows.specs.Laws.Found.{bad_of, found_by, next_of}
use Rattle.scan_rows.specs.Laws.Row.{value_deep, value_past}
use Rattle.scan_rows.specs.Laws.Steps.{leads_is, leads_made, leads_then}
use Rattle.scan_rows.specs.Laws.Under.{skip_add, skip_row}
use Rattle.scan_rows.specs.Laws.Value.{function_bad, function_is, untagged_bad, untagged_leads, value_leads, value_no_tag, value_unfit}
use Rattle.scan_rows.specs.Row.{at_row, count_at, head_fits, is_tagged, row_count, row_fits, tag_at, word_at}
use Rattle.scan_rows.specs.Under.{kids_under, rows_under, scan_chunk, scan_field, scan_template, scan_under, shape_under}

---- a value

module _ (store rows : List ℕ) (b : WholeRows rows) (i : ℕ) where
  pub too_deep : (d : ℕ) → d ≡ 0 → Scanned rows 1 i (Err (broken i)) (scan_value store d any_row (at_row rows i))
  too_deep d e = record { found = rw e (value_deep store rows i any_row b.whole) }

  pub past_rows : (d : ℕ) → row_count rows ≤ i → Scanned rows 1 i (Err (broken i)) (scan_value store d any_row (at_row rows i))
  past_rows d h = record { found = value_past store rows i (omega (arith, b.whole)) d any_row }

  module _ (u : i < row_count rows) where
    pub no_value_tag : (d : ℕ) {t : ℕ} → 0 < d → t ≡ tag_at rows i → 26 < t → Scanned rows 1 i (Err (broken i)) (scan_value store d any_row (at_row rows i))
    no_value_tag zero p e h = absurd (omega arith)
    no_value_tag (suc d) p e h = record { found = value_no_tag store rows i u d any_row (lt-leb (tag_at rows i) 26 (omega (arith, e))) }

    pub unfit_row : (d : ℕ) → 0 < d → row_fits store rows i ≡ false → Scanned rows 1 i (Err (broken i)) (scan_value store d any_row (at_row rows i))
    unfit_row zero p h = absurd (omega arith)
    unfit_row (suc d) p h = record { found = value_unfit store rows i u d any_row h }

    pub value_found : (d : ℕ) {t : ℕ} {r : Scan} → 0 < d → t ≡ tag_at rows i → t ≤ 26 → row_fits store rows i ≡ true
        → Scanned rows (rows_under rows i) (i + 1) r (scan_under store (scan_value store (d - 1)) (shape (tag_at rows i)) (count_at rows i) (at_row rows (i + 1))) → Scanned rows 1 i r (scan_value store d any_row (at_row rows i))
    value_found zero p e h f s = absurd (omega arith)
    value_found (suc d) p e h f s =
        let z : suc d - 1 ≡ d = omega arith in
        found_by (value_leads store rows i u d any_row (le-leb (tag_at rows i) 26 (omega (arith, e))) f refl) (λ k q. skip_row u refl q) (rw z at s)

---- a chunk or field row

module _ (store rows : List ℕ) (b : WholeRows rows) (R : RowScan) (i : ℕ) where
  pub head_tag : (t : ℕ) → head_fits store rows t i ≡ true → (i < row_count rows) × (tag_at rows i ≡ t)
  unfolding head_fits is_tagged
  head_tag t h = let a = and_left (ltb i (row_count rows) and eqb (tag_at rows i) t) (row_fits store rows i) h in (ltb-true _ _ (and_left _ _ a), eqb-true _ _ (and_right (ltb i (row_count rows)) _ a))

  shape_32 : shape 32 ≡ with_kids (ItemKind.code ∷ []) values
  unfolding shape when◌then◌else◌
  shape_32 = refl

  shape_33 : shape 33 ≡ with_kids (ItemKind.string ∷ []) one_value
  unfolding shape when◌then◌else◌
  shape_33 = refl

  head_unfit : {m : ℕ} (t : ℕ) (kinds : List ItemKind) (kids : Kids) → shape t ≡ with_kids kinds kids → head_fits store rows t i ≡ false
      → Scanned rows m i (Err (broken i)) (scan_untagged store R t kinds kids (at_row rows i))
  head_unfit t kinds kids es f = record { found = untagged_bad store rows i R t kinds kids es b.whole f }

  pub chunk_unfit : {m : ℕ} → head_fits store rows 32 i ≡ false → Scanned rows m i (Err (broken i)) (scan_chunk store R (at_row rows i))
  chunk_unfit f = head_unfit 32 (ItemKind.code ∷ []) values shape_32 f

  pub field_unfit : {m : ℕ} → head_fits store rows 33 i ≡ false → Scanned rows m i (Err (broken i)) (scan_field store R (at_row rows i))
  field_unfit f = head_unfit 33 (ItemKind.string ∷ []) one_value shape_33 f

  under_32 : tag_at rows i ≡ 32 → (scan_under store R (shape (tag_at rows i)) (count_at rows i) ≡ read_many (word_at rows i 3) (R any_row)) × (rows_under rows i ≡ word_at rows i 3)
  unfolding scan_under scan_kids rows_under shape_under kids_under shape count_word kinds_of kinds_width kind_width when◌then◌else◌
  under_32 e = (rw e, rw e)

  under_33 : tag_at rows i ≡ 33 → (scan_under store R (shape (tag_at rows i)) (count_at rows i) ≡ read_many 1 (R any_row)) × (rows_under rows i ≡ 1)
  unfolding scan_under scan_kids rows_under shape_under kids_under shape when◌then◌else◌
  under_33 e = (rw e, rw e)

  -- from the rows under it
  head_found : {n : ℕ} {r : Scan} (t : ℕ) (kinds : List ItemKind) (kids : Kids) → shape t ≡ with_kids kinds kids → head_fits store rows t i ≡ true
      → scan_under store R (shape (tag_at rows i)) (count_at rows i) ≡ read_many n (R any_row) → rows_under rows i ≡ n
      → Scanned rows n (i + 1) r (read_many n (R any_row) (at_row rows (i + 1))) → Scanned rows 1 i r (scan_untagged store R t kinds kids (at_row rows i))
  head_found {n} t kinds kids es f eu en s =
      let e : scan_under store R (shape (tag_at rows i)) (count_at rows i) (at_row rows (i + 1)) ≡ read_many n (R any_row) (at_row rows (i + 1)) = ap (λ (g : Reader (Trees Part)). g (at_row rows (i + 1))) eu in
      found_by (leads_then (untagged_leads store rows i R t kinds kids es f) (leads_is e)) (λ k q. skip_row (head_tag t f).0 (sym en) q) s

  pub chunk_found : {n : ℕ} {r : Scan} → head_fits store rows 32 i ≡ true → n ≡ word_at rows i 3 → Scanned rows n (i + 1) r (read_many n (R any_row) (at_row rows (i + 1)))
      → Scanned rows 1 i r (scan_chunk store R (at_row rows i))
  chunk_found f en s =
      let u = under_32 (head_tag 32 f).1 in
      head_found 32 (ItemKind.code ∷ []) values shape_32 f (u.0 ∙ ap (λ (m : ℕ). read_many m (R any_row)) (sym en)) (u.1 ∙ sym en) s

  pub field_found : {r : Scan} → head_fits store rows 33 i ≡ true → Scanned rows 1 (i + 1) r (read_many 1 (R any_row) (at_row rows (i + 1))) → Scanned rows 1 i r (scan_field store R (at_row rows i))
  field_found f s = let u = under_33 (head_tag 33 f).1 in head_found 33 (ItemKind.string ∷ []) one_value shape_33 f u.0 u.1 s

---- a closure's function and values

module _ (store rows : List ℕ) (b : WholeRows rows) (d n i : ℕ) where
  pub no_function : {m : ℕ} → is_tagged rows 7 i ≡ false → Scanned rows m i (Err (broken i)) (scan_template (scan_value store d) n (at_row rows i))
  unfolding ◌>>=◌ and_then
  no_function f = record { found = rw (function_bad store rows i b.whole d f) }

  pub function_unsound : {m : ℕ} {k : BrokenRow} {r : Scan} → is_tagged rows 7 i ≡ true → r ≡ Err k → Scanned rows 1 i r (scan_value store d any_row (at_row rows i))
      → Scanned rows m i (Err k) (scan_template (scan_value store d) n (at_row rows i))
  unfolding ◌>>=◌ and_then
  function_unsound f e s = record { found = rw (function_is store rows i b.whole d f, bad_of e s) }

  pub function_found : {j : ℕ} {r r' : Scan} → is_tagged rows 7 i ≡ true → r ≡ Ok j → Scanned rows 1 i r (scan_value store d any_row (at_row rows i))
      → Scanned rows n j r' (read_many n (scan_value store d any_row) (at_row rows j))
      → Scanned rows (n + 1) i r' (scan_template (scan_value store d) n (at_row rows i))
  function_found {j} f e s s' =
      let g = next_of e s in
      let z : 1 + n ≡ n + 1 = omega arith in
      found_by {n = n} {m = n + 1} {i = j} {j = i} (leads_then (leads_is (one g.0 g.1)) (leads_made (read_many n (scan_value store d any_row)) (λ ts. cons g.0 ts) (at_row rows j))) (λ k q. rw z at (skip_add g.2 q)) s'
    where
      one : (t : Node Part) → scan_value store d any_row (at_row rows i) ≡ ok t (at_row rows j)
          → scan_template (scan_value store d) n (at_row rows i) ≡ ◌>>=◌ (read_many n (scan_value store d any_row)) (λ ts. pure (cons t ts)) (at_row rows j)
      one t q = unfold ◌>>=◌ and_then in (rw (function_is store rows i b.whole d f, q))
