-- The entries of a set or a map: each begins with a key that is allowed and new, and in a map a value follows.
use Rattle.std.specs.Prelude.{Bool, ◌*◌, ◌+◌, ◌-◌, ◌<◌, ◌≤◌, suc, zero, ℕ, length, Ok, Err}
use Rattle.std.proofs.Math.Bool.{false, not, true}
use mathlib.Core.List.{List, [], ◌++◌, ◌∷◌}
use Rattle.std.proofs.Common.{◌∙◌, ap, mul-suc, add-one, arith}
use Rattle.std.proofs.Math.Path.{◌≡◌, refl, sym}
use Rattle.std.proofs.Math.Dec.{eqb, ltb}
use borrow.Author.Tests.{ltb-false, ltb-true}
use Rattle.payload.specs.Choice.{◌and◌, ◌or◌, when◌then◌else◌}
use Rattle.payload.specs.Laws.Pool.{and_both, and_left, and_right, false≢true}
use Rattle.payload.specs.Pool.{is_in}
use Rattle.payload.specs.Reader.{Part, Result, State, ◌>>=◌, and_then, ok, pure, refused}
use Rattle.payload.specs.Reading.{node_key, read_many}
use Rattle.payload.specs.Rows.{row_width}
use Rattle.payload.specs.Scan.{RowScan, any_row, new_key, scan_keys, scan_pairs, scan_value}
use Rattle.payload.specs.Shapes.{is_key_tag, shape}
use Rattle.payload.specs.Trees.{Node, Trees, cons, forget_items, nil, node_of}
use Rattle.slices.specs.Same.{same}
use Rattle.scan_rows.specs.Found.{Scanned, broken}
use Rattle.scan_rows.specs.declared.BrokenRow.{BrokenRow}
use Rattle.scan_rows.specs.Laws.Found.{Sofar, sofar_bad, sofar_end, sofar_none, sofar_then}
use Rattle.scan_rows.specs.Laws.Keys.{key_in, key_leaf, key_row_fits, key_tagged, key_under, leaf_none}
use Rattle.scan_rows.specs.Laws.Row.{row_with, value_deep, value_past, value_scanned}
use Rattle.scan_rows.specs.Laws.Steps.{Leads, leads_is, leads_made, leads_then, pass}
use Rattle.scan_rows.specs.Laws.Under.{entries_more, last_first, skip_add, skip_row}
use Rattle.scan_rows.specs.Laws.Value.{one_many, value_unfit, value_untested}
use Rattle.scan_rows.specs.Row.{at_row, count_at, items_at, key_fits, row_count, row_fits, row_key, tag_at}
use Rattle.scan_rows.specs.Under.{Entries, Skip, no_entry, rows_under, scan_entries, stay}

module _ (store rows : List ℕ) (i : ℕ) where
  abbrev key_node : Node Part
  key_node = node_of (tag_at rows i) (items_at store rows i) nil

  key_of_node : node_key key_node ≡ row_key store rows i
  unfolding node_key row_key node_of
  key_of_node = refl

  -- a key is one row
  pub key_skips : key_fits store rows i ≡ true → Skip rows 1 i (i + 1)
  unfolding rows_under
  key_skips f = skip_row (key_in store rows i f) (sym (key_under store rows i f)) stay

  module _ (d : ℕ) (seen : List (List ℕ)) where
    key_scanned : key_fits store rows i ≡ true → is_in (row_key store rows i) seen ≡ false → scan_value store (suc d) (new_key seen) (at_row rows i) ≡ ok key_node (at_row rows (i + 1))
    unfolding pass row_with ◌>>=◌ and_then pure
    key_scanned f n =
        let l = key_leaf (tag_at rows i) (key_tagged store rows i f) in
        let k : new_key seen (tag_at rows i) (forget_items (items_at store rows i)) ≡ true = and_both (key_tagged store rows i f) (unfold row_key in (rw (ap not n))) in
        value_scanned store rows i (key_in store rows i f) d (new_key seen) ∙ rw (l.1, key_row_fits store rows i f, k) (rw (leaf_none store (scan_value store d) (shape (tag_at rows i)) (count_at rows i) l.0).0)

    key_old : key_fits store rows i ≡ true → is_in (row_key store rows i) seen ≡ true → scan_value store (suc d) (new_key seen) (at_row rows i) ≡ refused 17 i
    unfolding row_key ◌and◌
    key_old f n = value_untested store rows i (key_in store rows i f) d (new_key seen) (rw (key_tagged store rows i f, n))

    key_unfit : length rows ≡ row_width * row_count rows → key_fits store rows i ≡ false → scan_value store (suc d) (new_key seen) (at_row rows i) ≡ refused 17 i
    unfolding key_fits ◌and◌
    key_unfit w f = go (ltb i (row_count rows)) refl (is_key_tag (tag_at rows i)) refl (row_fits store rows i) refl
      where
        go : (a : Bool) → ltb i (row_count rows) ≡ a → (b : Bool) → is_key_tag (tag_at rows i) ≡ b → (c : Bool) → row_fits store rows i ≡ c → scan_value store (suc d) (new_key seen) (at_row rows i) ≡ refused 17 i
        go false p b q c s = value_past store rows i (omega (arith, ltb-false i (row_count rows) p)) (suc d) (new_key seen)
        go true p false q c s = value_untested store rows i (ltb-true i (row_count rows) p) d (new_key seen) (rw q)
        go true p true q false s = value_unfit store rows i (ltb-true i (row_count rows) p) d (new_key seen) s
        go true p true q true s = false≢true (sym (rw (p, q, s) at f))

---- one entry more

module _ (R : RowScan) (m : ℕ) (seen : List (List ℕ)) (s : State) where
  keys_step : {s' : State} (t : Node Part) → R (new_key seen) s ≡ ok t s' → Leads (scan_keys (suc m) seen R s) (scan_keys m (node_key t ∷ seen) R s')
  keys_step {s'} t e = leads_then (leads_is one) (leads_made (scan_keys m (node_key t ∷ seen) R) (λ ts. cons t ts) s')
    where
      one : scan_keys (suc m) seen R s ≡ ◌>>=◌ (scan_keys m (node_key t ∷ seen) R) (λ ts. pure (cons t ts)) s'
      one = unfold scan_keys ◌>>=◌ and_then in (rw e)

  pairs_step : {s' s'' : State} (t v : Node Part) → R (new_key seen) s ≡ ok t s' → R any_row s' ≡ ok v s'' → Leads (scan_pairs (suc m) seen R s) (scan_pairs m (node_key t ∷ seen) R s'')
  pairs_step {s'} {s''} t v e f = leads_then (leads_is one) (leads_made (scan_pairs m (node_key t ∷ seen) R) (λ ts. cons t (cons v ts)) s'')
    where
      one : scan_pairs (suc m) seen R s ≡ ◌>>=◌ (scan_pairs m (node_key t ∷ seen) R) (λ ts. pure (cons t (cons v ts))) s''
      one = unfold scan_pairs ◌>>=◌ and_then in (rw (e, f))

  key_stops : (width : ℕ) {n p : ℕ} → R (new_key seen) s ≡ refused n p → scan_entries width (suc m) seen R s ≡ refused n p
  unfolding scan_keys scan_pairs ◌>>=◌ and_then when◌then◌else◌
  key_stops width {n} {p} e = go (eqb width 1)
    where
      go : (b : Bool) → when◌then◌else◌ b (scan_keys (suc m) seen R) (scan_pairs (suc m) seen R) s ≡ refused n p
      go true = rw e
      go false = rw e

  pair_stops : {s' : State} {n p : ℕ} (t : Node Part) → R (new_key seen) s ≡ ok t s' → R any_row s' ≡ refused n p → scan_pairs (suc m) seen R s ≡ refused n p
  unfolding scan_pairs ◌>>=◌ and_then
  pair_stops t e f = rw (e, f)

-- a key that is allowed and new, and then the value of a map's entry
module _ (store rows : List ℕ) (d m at : ℕ) (seen : List (List ℕ)) (f : key_fits store rows at ≡ true) (n : is_in (row_key store rows at) seen ≡ false) where
  pub entry_leads : (gap : ℕ) {j : ℕ} (ts : Trees Part) → gap ≤ 1 → read_many gap (scan_value store (suc d) any_row) (at_row rows (at + 1)) ≡ ok ts (at_row rows j)
      → Leads (scan_entries (suc gap) (suc m) seen (scan_value store (suc d)) (at_row rows at)) (scan_entries (suc gap) m (row_key store rows at ∷ seen) (scan_value store (suc d)) (at_row rows j))
  unfolding when◌then◌else◌
  entry_leads zero {j} ts h e =
      let same_row : at_row rows (at + 1) ≡ at_row rows j = unfold read_many pure in (let g : ◌≡◌ {A = Result (Trees Part)} (ok nil (at_row rows (at + 1))) (ok ts (at_row rows j)) = e in cc) in
      rw (← same_row, ← (key_of_node store rows at)) (keys_step (scan_value store (suc d)) m seen (at_row rows at) (key_node store rows at) (key_scanned store rows at d seen f n))
  entry_leads (suc zero) ts h e =
      let v = (one_many (scan_value store (suc d) any_row) (at_row rows (at + 1))).on_ok ts _ e in
      rw (← (key_of_node store rows at)) (pairs_step (scan_value store (suc d)) m seen (at_row rows at) (key_node store rows at) v.0 (key_scanned store rows at d seen f n) v.1)
  entry_leads (suc (suc gap)) ts h e = absurd (omega arith)

  pub entry_value_bad : (gap : ℕ) {p : ℕ} → gap ≤ 1 → read_many gap (scan_value store (suc d) any_row) (at_row rows (at + 1)) ≡ refused 17 p
      → scan_entries (suc gap) (suc m) seen (scan_value store (suc d)) (at_row rows at) ≡ refused 17 p
  unfolding when◌then◌else◌
  entry_value_bad zero {p} h e =
      unfold read_many pure in (let g : ◌≡◌ {A = Result (Trees Part)} (ok nil (at_row rows (at + 1))) (refused 17 p) = e in let q : ◌≡◌ {A = ℕ} 0 1 = cc in absurd (omega arith))
  entry_value_bad (suc zero) {p} h e =
      pair_stops (scan_value store (suc d)) m seen (at_row rows at) (key_node store rows at) (key_scanned store rows at d seen f n)
      ((one_many (scan_value store (suc d) any_row) (at_row rows (at + 1))).on_refused 17 p e)
  entry_value_bad (suc (suc gap)) h e = absurd (omega arith)

module _ (store rows : List ℕ) (gap m at : ℕ) (seen : List (List ℕ)) (w : length rows ≡ row_width * row_count rows) where
  pub entry_deep : scan_entries (suc gap) (suc m) seen (scan_value store 0) (at_row rows at) ≡ refused 17 at
  entry_deep = key_stops (scan_value store 0) m seen (at_row rows at) (suc gap) (value_deep store rows at (new_key seen) w)

  pub entry_bad : (d : ℕ) → (key_fits store rows at and not (is_in (row_key store rows at) seen)) ≡ false → scan_entries (suc gap) (suc m) seen (scan_value store (suc d)) (at_row rows at) ≡ refused 17 at
  unfolding ◌and◌
  entry_bad d e = key_stops (scan_value store (suc d)) m seen (at_row rows at) (suc gap) (go (key_fits store rows at) refl (is_in (row_key store rows at) seen) refl)
    where
      go : (a : Bool) → key_fits store rows at ≡ a → (b : Bool) → is_in (row_key store rows at) seen ≡ b → scan_value store (suc d) (new_key seen) (at_row rows at) ≡ refused 17 at
      go false p b q = key_unfit store rows at d seen w p
      go true p true q = key_old store rows at d seen p q
      go true p false q = false≢true (sym (rw (p, q) at e))

-- the same of entries of any width
module _ (store rows : List ℕ) (width m at : ℕ) (seen : List (List ℕ)) (w : length rows ≡ row_width * row_count rows) where
  pub any_entry_deep : scan_entries width (suc m) seen (scan_value store 0) (at_row rows at) ≡ refused 17 at
  any_entry_deep = key_stops (scan_value store 0) m seen (at_row rows at) width (value_deep store rows at (new_key seen) w)

  pub any_entry_bad : (d : ℕ) → (key_fits store rows at and not (is_in (row_key store rows at) seen)) ≡ false → scan_entries width (suc m) seen (scan_value store (suc d)) (at_row rows at) ≡ refused 17 at
  unfolding ◌and◌
  any_entry_bad d e = key_stops (scan_value store (suc d)) m seen (at_row rows at) width (go (key_fits store rows at) refl (is_in (row_key store rows at) seen) refl)
    where
      go : (a : Bool) → key_fits store rows at ≡ a → (b : Bool) → is_in (row_key store rows at) seen ≡ b → scan_value store (suc d) (new_key seen) (at_row rows at) ≡ refused 17 at
      go false p b q = key_unfit store rows at d seen w p
      go true p true q = key_old store rows at d seen p q
      go true p false q = false≢true (sym (rw (p, q) at e))

---- the loop

-- after k of n entries the scan stands at row `at`; `seen` is what the definition has seen, `keys` what the rows before hold
pub record Keyed (store rows : List ℕ) (gap d n i k at : ℕ) : Type 0 where
  pub seen : List (List ℕ)
  pub its_keys : List (List ℕ)
  pub entries : Entries store rows (suc gap) i at its_keys
  pub upto : k ≤ n
  pub alike : (x : List ℕ) → is_in x seen ≡ is_in x its_keys
  pub sofar : Sofar rows (scan_entries (suc gap) n [] (scan_value store d) (at_row rows i)) (scan_entries (suc gap) (n - k) seen (scan_value store d) (at_row rows at)) (suc gap * k) i at

module _ {store rows : List ℕ} {gap d n i : ℕ} where
  pub keyed_start : Keyed store rows gap d n i 0 i
  keyed_start = let e : n - 0 ≡ n = omega arith in let f : suc gap * 0 ≡ 0 = omega arith in record { seen = []; its_keys = []; entries = no_entry; upto = omega arith; alike = λ x. refl; sofar = rw (e, f) sofar_none }

is_false : (b : Bool) → not b ≡ true → b ≡ false
is_false true e = sym e
is_false false e = refl

-- the keys of the rows before make the same test as those that the definition has seen
seen_test : {store rows : List ℕ} {gap d n i k at : ℕ} (s : Keyed store rows gap d n i k at) (b : Bool) → (key_fits store rows at and not (is_in (row_key store rows at) s.its_keys)) ≡ b
    → (key_fits store rows at and not (is_in (row_key store rows at) s.seen)) ≡ b
seen_test {store} {rows} {at = at} s b e = rw (s.alike (row_key store rows at)) e

module _ {store rows : List ℕ} {gap n i k at : ℕ} where
  pub keyed_next : (d : ℕ) {j : ℕ} (ts : Trees Part) (s : Keyed store rows gap d n i k at) → k < n → gap ≤ 1 → 0 < d → (key_fits store rows at and not (is_in (row_key store rows at) s.its_keys)) ≡ true
      → read_many gap (scan_value store d any_row) (at_row rows (at + 1)) ≡ ok ts (at_row rows j) → Skip rows gap (at + 1) j → Keyed store rows gap d n i (k + 1) j
  keyed_next zero ts s h w p g e sk = absurd (omega arith)
  keyed_next (suc d) {j} ts s h w p g e sk =
      let f = and_left _ _ g in
      let new = is_false (is_in (row_key store rows at) s.seen) (and_right (key_fits store rows at) _ (seen_test s true g)) in
      let z : n - k ≡ suc (n - (k + 1)) = omega arith in
      let wide : 1 + gap ≡ suc gap = omega arith in
      let step : Skip rows (suc gap) at j = rw wide at (skip_add (key_skips store rows at f) sk) in
      let more : suc gap * k + suc gap ≡ suc gap * (k + 1) = sym (ap (λ (x : ℕ). suc gap * x) (add-one k) ∙ mul-suc (suc gap) k) in
      let one : Leads (scan_entries (suc gap) (n - k) s.seen (scan_value store (suc d)) (at_row rows at)) (scan_entries (suc gap) (n - (k + 1)) (row_key store rows at ∷ s.seen) (scan_value store (suc d)) (at_row rows j)) =
      rw z (entry_leads store rows d (n - (k + 1)) at s.seen f new gap {j = j} ts w e) in
      record {
        seen = row_key store rows at ∷ s.seen;
        its_keys = s.its_keys ++ (row_key store rows at ∷ []);
        entries = entries_more s.entries f step;
        upto = omega arith;
        alike = λ x. unfold is_in in (ap (λ (b : Bool). same x (row_key store rows at) or b) (s.alike x)) ∙ sym (last_first x (row_key store rows at) s.its_keys);
        sofar = rw more at (sofar_then s.sofar one step);
      }

  pub keyed_value_bad : (d : ℕ) {b : BrokenRow} {x : ℕ} (s : Keyed store rows gap d n i k at) → k < n → gap ≤ 1 → 0 < d → (key_fits store rows at and not (is_in (row_key store rows at) s.its_keys)) ≡ true
      → read_many gap (scan_value store d any_row) (at_row rows (at + 1)) ≡ refused 17 b.row → Scanned rows x i (Err b) (scan_entries (suc gap) n [] (scan_value store d) (at_row rows i))
  keyed_value_bad zero s h w p g e = absurd (omega arith)
  keyed_value_bad (suc d) s h w p g e =
      let f = and_left _ _ g in
      let new = is_false (is_in (row_key store rows at) s.seen) (and_right (key_fits store rows at) _ (seen_test s true g)) in
      let z : n - k ≡ suc (n - (k + 1)) = omega arith in
      sofar_bad s.sofar (rw z (entry_value_bad store rows d (n - (k + 1)) at s.seen f new gap w e))

  pub keyed_key_bad : (d : ℕ) {x : ℕ} (s : Keyed store rows gap d n i k at) → length rows ≡ row_width * row_count rows → k < n → 0 < d → (key_fits store rows at and not (is_in (row_key store rows at) s.its_keys)) ≡ false
      → Scanned rows x i (Err (broken at)) (scan_entries (suc gap) n [] (scan_value store d) (at_row rows i))
  keyed_key_bad zero s w h p g = absurd (omega arith)
  keyed_key_bad (suc d) s w h p g = let z : n - k ≡ suc (n - (k + 1)) = omega arith in sofar_bad s.sofar (rw z (entry_bad store rows gap (n - (k + 1)) at s.seen w d (seen_test s false g)))

  pub keyed_deep : (d : ℕ) {x : ℕ} (s : Keyed store rows gap d n i k at) → length rows ≡ row_width * row_count rows → k < n → d ≡ 0
      → Scanned rows x i (Err (broken at)) (scan_entries (suc gap) n [] (scan_value store d) (at_row rows i))
  keyed_deep zero s w h p = let z : n - k ≡ suc (n - (k + 1)) = omega arith in sofar_bad s.sofar (rw z (entry_deep store rows gap (n - (k + 1)) at s.seen w))
  keyed_deep (suc d) s w h p = absurd (omega arith)

  pub keyed_end : {d : ℕ} → Keyed store rows gap d n i k at → n ≤ k → Scanned rows (suc gap * n) i (Ok at) (scan_entries (suc gap) n [] (scan_value store d) (at_row rows i))
  keyed_end {d} s h =
      let e : k ≡ n = omega (arith, s.upto) in
      let f : suc gap * k ≡ suc gap * n = ap (λ (x : ℕ). suc gap * x) e in
      rw f at (sofar_end nil s.sofar (no_entries (n - k) (omega arith) (eqb (suc gap) 1)))
    where
      no_entries : (m : ℕ) → m ≡ 0 → (b : Bool) → when◌then◌else◌ b (scan_keys m s.seen (scan_value store d)) (scan_pairs m s.seen (scan_value store d)) (at_row rows at) ≡ ok nil (at_row rows at)
      no_entries m z true = unfold when◌then◌else◌ scan_keys pure in (rw z)
      no_entries m z false = unfold when◌then◌else◌ scan_pairs pure in (rw z)
