-- Rows with those under them: one after another, and how far they reach.
use Rattle.std.specs.Prelude.{Bool, false, true, List, [], ◌++◌, ◌∷◌, ◌≡◌, refl, ◌+◌, ◌-◌, ◌<◌, ◌≤◌, suc, ℕ}
use Rattle.std.proofs.Common.{◌∙◌, ap, suc-add, zero-add, arith}
use Rattle.payload.specs.Choice.{◌or◌, when◌then◌else◌}
use Rattle.payload.specs.Pool.{is_in}
use Rattle.payload.specs.Shapes.{Shape, keys, no_value, one_value, pairs, shape, values, with_chunk, with_fields, with_kids, with_template}
use Rattle.row_layout.specs.Layout.{kids_rules, shape_rules, under_rules}
use Rattle.slices.specs.Same.{same}
use Rattle.scan_rows.specs.Row.{count_at, key_fits, row_count, row_key, tag_at}
use Rattle.scan_rows.specs.Under.{Entries, Skip, entry, kids_under, no_entry, over, rows_under, shape_under, stay, under_by}

module _ {rows : List ℕ} where
  pub skip_none : {i j : ℕ} → Skip rows 0 i j → i ≡ j
  skip_none stay = refl

  pub skip_next : {n i j : ℕ} → 0 < n → Skip rows n i j → (i < row_count rows) × Skip rows (rows_under rows i + (n - 1)) (i + 1) j
  skip_next h stay = absurd (omega arith)
  skip_next h (over {n} {i} {j} u s) = let e : suc n - 1 ≡ n = omega arith in (u, rw e s)

  pub skip_add : {a b i j k : ℕ} → Skip rows a i j → Skip rows b j k → Skip rows (a + b) i k
  skip_add {b = b} stay t = rw (zero-add b) t
  skip_add {b = b} (over {n} {i} {j} u s) t =
      let e : rows_under rows i + n + b ≡ rows_under rows i + (n + b) = omega arith in
      rw (suc-add n b) (over u (rw e at (skip_add s t)))

  -- one row has another at least
  pub skip_far : {n i j : ℕ} → Skip rows n i j → i + n ≤ j
  skip_far stay = omega arith
  skip_far (over {n} {i} {j} u s) = let h = skip_far s in omega arith

  pub skip_end : {n i j : ℕ} → Skip rows n i j → i ≤ row_count rows → j ≤ row_count rows
  skip_end stay h = h
  skip_end (over {n} {i} {j} u s) h = skip_end s (omega arith)

  -- the same of equal numbers
  pub skip_as : {a b i j k l : ℕ} → a ≡ b → i ≡ j → k ≡ l → Skip rows a i k → Skip rows b j l
  skip_as e f g s = rw (← e, ← f, ← g) s

-- a row that has one row more under it, or none
pub skip_row : {rows : List ℕ} {i j n : ℕ} → i < row_count rows → n ≡ rows_under rows i → Skip rows n (i + 1) j → Skip rows 1 i j
skip_row {rows} {i} {j} {n} u e s = let f : n ≡ rows_under rows i + 0 = omega arith in over u (rw f at s)

under_by_lem : (sh : Shape) (n : ℕ) → shape_under sh n ≡ under_by (shape_rules sh) n
unfolding shape_under kids_under under_by shape_rules kids_rules when◌then◌else◌
under_by_lem (with_kids kinds no_value) n = refl
under_by_lem (with_kids kinds one_value) n = refl
under_by_lem (with_kids kinds values) n = refl
under_by_lem (with_kids kinds keys) n = refl
under_by_lem (with_kids kinds pairs) n = refl
under_by_lem (with_chunk kinds) n = refl
under_by_lem (with_fields kinds) n = refl
under_by_lem (with_template kinds) n = refl

pub rows_under_is : (rows : List ℕ) (i : ℕ) → rows_under rows i ≡ under_by (under_rules (tag_at rows i)) (count_at rows i)
unfolding rows_under under_rules
rows_under_is rows i = under_by_lem (shape (tag_at rows i)) (count_at rows i)

-- the same by the numbers that the code has
pub under_at : (rows : List ℕ) (i : ℕ) {t u n : ℕ} → t ≡ tag_at rows i → u ≡ under_rules t → n ≡ count_at rows i → rows_under rows i ≡ under_by u n
under_at rows i et eu en = rw (en, eu, et) (rows_under_is rows i)

---- a walk over rows with so many left

pub record Left (rows : List ℕ) (count i pending at : ℕ) : Type 0 where
  pub rest : (j : ℕ) → Skip rows count i j → Skip rows pending at j

module _ {rows : List ℕ} {count i pending at : ℕ} (l : Left rows count i pending at) where
  pub left_room : (j : ℕ) → Skip rows count i j → i ≤ row_count rows → 0 < pending → (at < row_count rows) × (at + 1 + (rows_under rows at + (pending - 1)) ≤ row_count rows)
  left_room j s h p =
      let n = skip_next p (l.rest j s) in
      let e = skip_end s h in
      let f = skip_far n.1 in
      (n.0, omega arith)

  pub left_next : {n : ℕ} → 0 < pending → n ≡ rows_under rows at → Left rows count i (pending - 1 + n) (at + 1)
  left_next {n} p en = record { rest = λ j s. let e : rows_under rows at + (pending - 1) ≡ pending - 1 + n = omega arith in rw e at (skip_next p (l.rest j s)).1 }

  pub left_end : pending ≤ 0 → (j : ℕ) → Skip rows count i j → at ≡ j
  left_end h j s = let e : pending ≡ 0 = omega arith in skip_none (rw e at (l.rest j s))

---- entries

-- `gap` values stand between two keys
module _ {store rows : List ℕ} {gap : ℕ} where
  pub entries_far : {i j : ℕ} {l : List (List ℕ)} → Entries store rows (suc gap) i j l → i ≤ j
  entries_far no_entry = omega arith
  entries_far (entry f s t) = let a = skip_far s in let b = entries_far t in omega arith

  pub entries_next : {i j : ℕ} {l : List (List ℕ)} → i < j → Entries store rows (suc gap) i j l
      → (k : ℕ) × (m : List (List ℕ)) × (l ≡ row_key store rows i ∷ m) × (key_fits store rows i ≡ true) × Skip rows (suc gap) i k × Entries store rows (suc gap) k j m
  entries_next h no_entry = absurd (omega arith)
  entries_next h (entry {i} {k} {j} {l} f s t) = (k, l, refl, f, s, t)

  pub entries_done : {i j : ℕ} {l : List (List ℕ)} → j ≤ i → Entries store rows (suc gap) i j l → l ≡ []
  entries_done h no_entry = refl
  entries_done h (entry f s t) = let a = skip_far s in let b = entries_far t in absurd (omega arith)

pub entries_more : {store rows : List ℕ} {width i j k : ℕ} {l : List (List ℕ)} → Entries store rows width i j l → key_fits store rows j ≡ true → Skip rows width j k
    → Entries store rows width i k (l ++ (row_key store rows j ∷ []))
entries_more no_entry f s = entry f s no_entry
entries_more (entry g t r) f s = entry g t (entries_more r f s)

-- the last of a list may be first
pub last_first : (x y : List ℕ) (l : List (List ℕ)) → is_in x (l ++ (y ∷ [])) ≡ is_in x (y ∷ l)
unfolding is_in
last_first x y [] = refl
last_first x y (z ∷ l) = ap (λ (b : Bool). same x z or b) (last_first x y l) ∙ turn (same x z) (same x y) (is_in x l)
  where
    turn : (a b c : Bool) → (a or (b or c)) ≡ (b or (a or c))
    turn true true c = refl
    turn true false c = refl
    turn false b c = refl
