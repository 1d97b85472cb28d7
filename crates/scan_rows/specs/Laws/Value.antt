-- What the scan of a row comes to, by the tests of its words.
use Rattle.std.specs.Prelude.{Bool, List, ◌≡◌, leb, length}
use Rattle.std.proofs.Math.Bool.{false, true}
use Rattle.std.proofs.Common.{◌∙◌, ap, ap₂, sym, arith}
use Rattle.std.proofs.Math.Path.{refl}
use Prim.Native.Nat.{◌*◌, ◌+◌, ◌<◌, suc, zero, ℕ}
use Rattle.std.proofs.Math.Dec.{eqb, ltb}
use borrow.Author.Tests.{ltb-false, ltb-true}
use Rattle.payload.specs.Choice.{◌and◌, when◌then◌else◌}
use Rattle.payload.proofs.Laws.Keeps.{not_ok}
use Rattle.payload.specs.Laws.Pool.{and_left, and_right, false≢true}
use Rattle.payload.specs.Reader.{Part, Reader, Result, State, ◌>>=◌, and_then, ok, pure, refused}
use Rattle.payload.specs.Reading.{read_many}
use Rattle.payload.specs.Rows.{row_width}
use Rattle.payload.specs.Scan.{RowScan, Test, any_row, is_function, scan_kids, scan_untagged, scan_value}
use Rattle.payload.specs.Shapes.{ItemKind, Kids, Shape, keys, no_value, one_value, pairs, shape, values, with_chunk, with_fields, with_kids, with_template}
use Rattle.payload.specs.Trees.{Node, cons, forget_items, nil, node_of}
use Rattle.row_layout.specs.Layout.{kids_rules, shape_rules, under_rules}
use Rattle.scan_rows.specs.Found.{Scanned, Scan}
use Rattle.scan_rows.specs.Laws.Row.{row_with, untagged_past, untagged_scanned, value_deep, value_past, value_scanned}
use Rattle.scan_rows.specs.Laws.Steps.{Leads, leads_is, leads_made, leads_then, pass, pass_refused, pass_refused_twice}
use Rattle.scan_rows.specs.Laws.Under.{rows_under_is}
use Rattle.scan_rows.specs.Row.{at_row, count_at, head_fits, is_tagged, items_at, row_count, row_fits, tag_at}
use Rattle.scan_rows.specs.Under.{rows_under, scan_by, scan_under, under_by}

under_by_rules : (store : List ℕ) (r : RowScan) (sh : Shape) (n : ℕ) → scan_under store r sh n ≡ scan_by store r (shape_rules sh) n
unfolding scan_under scan_by scan_kids shape_rules kids_rules when◌then◌else◌
under_by_rules store r (with_kids kinds no_value) n = refl
under_by_rules store r (with_kids kinds one_value) n = refl
under_by_rules store r (with_kids kinds values) n = refl
under_by_rules store r (with_kids kinds keys) n = refl
under_by_rules store r (with_kids kinds pairs) n = refl
under_by_rules store r (with_chunk kinds) n = refl
under_by_rules store r (with_fields kinds) n = refl
under_by_rules store r (with_template kinds) n = refl

-- what is found under a row of a table, by its rules
pub found_under : {r : Scan} (store rows table : List ℕ) (i : ℕ) (R : RowScan) (rules : ℕ) {n : ℕ} → under_rules (tag_at table i) ≡ rules → n ≡ count_at table i
    → Scanned rows (under_by rules n) (i + 1) r (scan_by store R rules n (at_row rows (i + 1)))
    → Scanned rows (rows_under table i) (i + 1) r (scan_under store R (shape (tag_at table i)) (count_at table i) (at_row rows (i + 1)))
unfolding under_rules
found_under store rows table i R rules e en s =
    rw (rows_under_is table i, under_by_rules store R (shape (tag_at table i)) (count_at table i)) (unfold under_rules in (rw (e, ← en) s))

-- one tree
pub many_one : (r : Reader (Node Part)) (s : State) → Leads (read_many 1 r s) (r s)
unfolding read_many ◌>>=◌ and_then pure
many_one r s = record { on_ok = λ t s' e. (cons t nil, rw e refl); on_refused = λ n p e. rw e refl }

pub one_many : (r : Reader (Node Part)) (s : State) → Leads (r s) (read_many 1 r s)
unfolding read_many ◌>>=◌ and_then pure
one_many r s = go (r s)
  where
    go : (x : Result (Node Part)) → Leads x (and_then x (λ t. read_many 0 r >>= λ ts. pure (cons t ts)))
    go (ok t z) = record { on_ok = λ ts s' e. (t, (let q : z ≡ s' = cc in ap (ok t) q)); on_refused = λ n p e. (let q : ◌≡◌ {A = ℕ} 0 1 = cc in absurd (omega arith)) }
    go (refused m q) = record { on_ok = λ ts s' e. not_ok m q ts s' e; on_refused = λ n p e. (let f : m ≡ n = cc in let g : q ≡ p = cc in ap₂ refused f g) }

module _ (store rows : List ℕ) (i : ℕ) where
  row_leads : (R : RowScan) → Leads (row_with store rows R i) (scan_under store R (shape (tag_at rows i)) (count_at rows i) (at_row rows (i + 1)))
  unfolding row_with
  row_leads R = leads_made (scan_under store R (shape (tag_at rows i)) (count_at rows i)) (λ ts. node_of (tag_at rows i) (items_at store rows i) ts) (at_row rows (i + 1))

  ---- a value

  module _ (u : i < row_count rows) (d : ℕ) (g : Test) where
    pub value_leads : leb (tag_at rows i) 26 ≡ true → row_fits store rows i ≡ true → g (tag_at rows i) (forget_items (items_at store rows i)) ≡ true
        → Leads (scan_value store (suc d) g (at_row rows i)) (scan_under store (scan_value store d) (shape (tag_at rows i)) (count_at rows i) (at_row rows (i + 1)))
    unfolding pass
    value_leads a b c =
        let e : scan_value store (suc d) g (at_row rows i) ≡ row_with store rows (scan_value store d) i = value_scanned store rows i u d g ∙ rw (a, b, c) in
        leads_then (leads_is e) (row_leads (scan_value store d))

    pub value_no_tag : leb (tag_at rows i) 26 ≡ false → scan_value store (suc d) g (at_row rows i) ≡ refused 17 i
    unfolding pass
    value_no_tag a = value_scanned store rows i u d g ∙ rw a

    pub value_unfit : row_fits store rows i ≡ false → scan_value store (suc d) g (at_row rows i) ≡ refused 17 i
    unfolding pass
    value_unfit a = value_scanned store rows i u d g ∙ rw a (pass_refused (leb (tag_at rows i) 26) i)

    pub value_untested : g (tag_at rows i) (forget_items (items_at store rows i)) ≡ false → scan_value store (suc d) g (at_row rows i) ≡ refused 17 i
    unfolding pass
    value_untested a = value_scanned store rows i u d g ∙ rw a (pass_refused_twice (leb (tag_at rows i) 26) (row_fits store rows i) i)

  ---- a chunk or field row

  module _ (R : RowScan) (t : ℕ) (kinds : List ItemKind) (kids : Kids) (es : shape t ≡ with_kids kinds kids) where
    pub untagged_leads : head_fits store rows t i ≡ true → Leads (scan_untagged store R t kinds kids (at_row rows i)) (scan_under store R (shape (tag_at rows i)) (count_at rows i) (at_row rows (i + 1)))
    unfolding head_fits is_tagged pass
    untagged_leads h =
        let a = and_left (ltb i (row_count rows) and eqb (tag_at rows i) t) (row_fits store rows i) h in
        let u : i < row_count rows = ltb-true _ _ (and_left _ _ a) in
        let e : scan_untagged store R t kinds kids (at_row rows i) ≡ row_with store rows R i =
        untagged_scanned store rows i u R t kinds kids es ∙ rw (and_right (ltb i (row_count rows)) _ a, and_right (ltb i (row_count rows) and eqb (tag_at rows i) t) _ h) in
        leads_then (leads_is e) (row_leads R)

    pub untagged_bad : length rows ≡ row_width * row_count rows → head_fits store rows t i ≡ false → scan_untagged store R t kinds kids (at_row rows i) ≡ refused 17 i
    unfolding head_fits is_tagged pass ◌and◌
    untagged_bad w h = go (ltb i (row_count rows)) refl (eqb (tag_at rows i) t) refl (row_fits store rows i) refl
      where
        go : (a : Bool) → ltb i (row_count rows) ≡ a → (b : Bool) → eqb (tag_at rows i) t ≡ b → (c : Bool) → row_fits store rows i ≡ c → scan_untagged store R t kinds kids (at_row rows i) ≡ refused 17 i
        go false p b q c s = untagged_past store rows i (omega (arith, ltb-false i (row_count rows) p)) R t kinds kids
        go true p false q c s = untagged_scanned store rows i (ltb-true i (row_count rows) p) R t kinds kids es ∙ rw q
        go true p true q false s = untagged_scanned store rows i (ltb-true i (row_count rows) p) R t kinds kids es ∙ rw (q, s)
        go true p true q true s = false≢true (sym (rw (p, q, s) at h))

  ---- a function

  module _ (w : length rows ≡ row_width * row_count rows) where
    pub function_is : (d : ℕ) → is_tagged rows 7 i ≡ true → scan_value store d is_function (at_row rows i) ≡ scan_value store d any_row (at_row rows i)
    function_is zero h = value_deep store rows i is_function w ∙ sym (value_deep store rows i any_row w)
    function_is (suc d) h = value_scanned store rows i (tagged_in h) d is_function ∙ rw (is_seven h) (sym (value_scanned store rows i (tagged_in h) d any_row))
      where
        tagged_in : is_tagged rows 7 i ≡ true → i < row_count rows
        tagged_in h = unfold is_tagged in (ltb-true _ _ (and_left _ _ h))

        is_seven : is_tagged rows 7 i ≡ true → is_function (tag_at rows i) (forget_items (items_at store rows i)) ≡ true
        is_seven h = unfold is_tagged is_function in (and_right (ltb i (row_count rows)) _ h)

    pub function_bad : (d : ℕ) → is_tagged rows 7 i ≡ false → scan_value store d is_function (at_row rows i) ≡ refused 17 i
    unfolding is_tagged ◌and◌ is_function
    function_bad zero h = value_deep store rows i is_function w
    function_bad (suc d) h = go (ltb i (row_count rows)) refl
      where
        go : (a : Bool) → ltb i (row_count rows) ≡ a → scan_value store (suc d) is_function (at_row rows i) ≡ refused 17 i
        go false p = value_past store rows i (omega (arith, ltb-false i (row_count rows) p)) (suc d) is_function
        go true p = value_untested (ltb-true i (row_count rows) p) d is_function (rw p at h)
