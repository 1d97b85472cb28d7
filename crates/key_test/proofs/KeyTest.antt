-- The key test on the words of a row table, by the index of a row.
use mathlib.Core.Bool.{Bool, true, false, cond, ◌&&◌}
use mathlib.Core.List.{List}
use mathlib.Core.Path.{◌≡◌, refl, sym, ap, ◌∙◌}
use Prim.Native.Nat.{ℕ, zero, suc, ◌+◌, ◌*◌, ◌-◌, ◌≤◌, ◌<◌, min}
use native.Mathlib.Omega.{arith}
use lib.Dec.{eqb}
use lib.ListN.{drop, get_or, take}
use lib.Seq.{drop-drop, get_or-drop, get_or-take}
use Rattle.payload.specs.Choice.{when◌then◌else◌}
use Rattle.payload.specs.Rows.{kind_width, kinds_width, row_width}
use Rattle.payload.specs.Shapes.{Shape, no_value, one_value, values, keys, pairs, with_kids, with_chunk, with_fields, with_template, kinds_of, shape, shapes}
use Rattle.row_layout.specs.Layout.{kids_form, shape_form}
use Rattle.row_layout.specs.Laws.Row.{row_word_at}
use Rattle.row_layout.specs.Row.{row_word}
use Rattle.row_layout.specs.Under.{count_in, rows_under}
use Rattle.key_test.specs.Keys.{tag_of, most_rows, rows_told, same_key, same_string, seen_in}
use Rattle.key_test.proofs.Tags.{none_under, one_under, counted_under}

---- strings and keys compared

-- a word of a row
in_row : (rows : List ℕ) (i k : ℕ) → k < row_width → get_or (drop (row_width * i) rows) k 0 ≡ row_word rows i k
in_row rows i k h = get_or-drop (row_width * i) rows k 0 ∙ sym (row_word_at rows i k h)

pub tag_in_row : (rows : List ℕ) (i : ℕ) → tag_of (drop (row_width * i) rows) ≡ row_word rows i 0
tag_in_row rows i = in_row rows i 0 (omega arith)

pub key_at : (p rows : List ℕ) (i : ℕ) (others : List ℕ) (j : ℕ) → same_key p (drop (row_width * i) rows) (drop (row_width * j) others) ≡
    (eqb (row_word rows i 0) (row_word others j 0) && cond (eqb (row_word rows i 0) 6)
    (same_string p (row_word rows i 1) (row_word rows i 2) (row_word others j 1) (row_word others j 2))
    (eqb (row_word rows i 1) (row_word others j 1)))
unfolding same_key
key_at p rows i others j = rw (
  in_row rows i 0 (omega arith),
  in_row rows i 1 (omega arith),
  in_row rows i 2 (omega arith),
  in_row others j 0 (omega arith),
  in_row others j 1 (omega arith),
  in_row others j 2 (omega arith),
)

---- how many rows a row tells under it

-- how many stand under a row by the form of what is under it, where n is its count
abbrev told_by : ℕ → ℕ → ℕ
told_by zero n = 0
told_by (suc zero) n = 1
told_by (suc (suc zero)) n = n
told_by (suc (suc (suc zero))) n = 2 * n
told_by (suc (suc (suc (suc f)))) n = suc n

by_form : (sh : Shape) (ws : List ℕ) → rows_under sh (min most_rows (count_in sh ws)) ≡ told_by (shape_form sh) (min most_rows (get_or ws (kinds_width (kinds_of sh)) 0))
unfolding rows_under count_in shape_form kids_form kinds_of
by_form (with_kids ks no_value) ws = refl
by_form (with_kids ks one_value) ws = refl
by_form (with_kids ks values) ws = refl
by_form (with_kids ks keys) ws = refl
by_form (with_kids ks pairs) ws = refl
by_form (with_chunk ks) ws = refl
by_form (with_fields ks) ws = refl
by_form (with_template ks) ws = refl

module _ (rows : List ℕ) (i : ℕ) where
  abbrev row : List ℕ
  row = drop (row_width * i) rows

  abbrev tag : ℕ
  tag = row_word rows i 0

  -- the j-th word after the tag
  abbrev words : List ℕ
  words = take 4 (drop 1 row)

  word_at_lem : (j : ℕ) → j < 4 → get_or words j 0 ≡ row_word rows i (1 + j)
  word_at_lem j h = get_or-take 4 (drop 1 row) j 0 h ∙ get_or-drop 1 row j 0 ∙ in_row rows i (1 + j) (omega arith)

  told_is : rows_told row ≡ told_by (shape_form (shape tag)) (min most_rows (get_or words (kinds_width (kinds_of (shape tag))) 0))
  unfolding rows_told
  told_is = rw (tag_in_row rows i) (by_form (shape tag) words)

  pub told_none : (tag ≡ 7 → ⊥) → (9 ≤ tag → tag < 17 → ⊥) → (tag ≡ 18 → ⊥) → (tag ≡ 32 → ⊥) → (tag ≡ 33 → ⊥) → rows_told row ≡ 0
  told_none a h b c d = rw (none_under tag a b c d h) at told_is

  pub told_one : 9 ≤ tag → tag < 12 → rows_told row ≡ 1
  told_one h k = rw (one_under tag h k) at told_is

  pub told_first : 12 ≤ tag → tag < 15 → rows_told row ≡ min most_rows (row_word rows i 1)
  told_first h k = let u = counted_under tag h k in rw (u.0, u.1, word_at_lem 0 (omega arith)) at told_is

  pub told_function : tag ≡ 7 → rows_told row ≡ 1
  unfolding shape shapes when◌then◌else◌ shape_form
  told_function e = rw e at told_is

  pub told_field : tag ≡ 33 → rows_told row ≡ 1
  unfolding shape shapes when◌then◌else◌ shape_form kids_form
  told_field e = rw e at told_is

  pub told_pairs : tag ≡ 15 → rows_told row ≡ 2 * min most_rows (row_word rows i 1)
  unfolding shape shapes when◌then◌else◌ shape_form kids_form kinds_of kinds_width
  told_pairs e = rw (e, word_at_lem 0 (omega arith)) at told_is

  pub told_record : tag ≡ 16 → rows_told row ≡ min most_rows (row_word rows i 3)
  unfolding shape shapes when◌then◌else◌ shape_form kinds_of kinds_width kind_width
  told_record e = rw (e, word_at_lem 2 (omega arith)) at told_is

  pub told_closure : tag ≡ 18 → rows_told row ≡ suc (min most_rows (row_word rows i 2))
  unfolding shape shapes when◌then◌else◌ shape_form kinds_of kinds_width kind_width
  told_closure e = rw (e, word_at_lem 1 (omega arith)) at told_is

  pub told_chunk : tag ≡ 32 → rows_told row ≡ min most_rows (row_word rows i 3)
  unfolding shape shapes when◌then◌else◌ shape_form kids_form kinds_of kinds_width kind_width
  told_chunk e = rw (e, word_at_lem 2 (omega arith)) at told_is

pub ruleset told = (told_none, told_function, told_field, told_one, told_first, told_pairs, told_record, told_closure, told_chunk)

---- the search, row by row

module _ (p key : List ℕ) (gap : ℕ) (rows : List ℕ) (own : ℕ) where
  abbrev pub seen_from : ℕ → ℕ → Bool
  seen_from skip i = seen_in p key gap skip (own - i) (drop (row_width * i) rows)

  pub seen_end : (skip i : ℕ) → own ≤ i → seen_from skip i ≡ false
  unfolding seen_in
  seen_end skip i h = let z : own - i ≡ 0 = omega arith in rw z

  module _ (i : ℕ) (h : i < own) where
    left : own - i ≡ suc (own - (i + 1))
    left = omega arith

    next : drop row_width (drop (row_width * i) rows) ≡ drop (row_width * (i + 1)) rows
    next = let z : row_width * i + row_width ≡ row_width * (i + 1) = omega arith in drop-drop row_width (row_width * i) rows ∙ ap (λ (k : ℕ). drop k rows) z

    pub seen_same : same_key p key (drop (row_width * i) rows) ≡ true → seen_from 0 i ≡ true
    unfolding seen_in
    seen_same e = rw (left, e)

    pub seen_other : same_key p key (drop (row_width * i) rows) ≡ false → seen_from 0 i ≡ seen_from gap (i + 1)
    unfolding seen_in
    seen_other e = rw (left, e, next)

    pub seen_skip : (skip : ℕ) → seen_from (suc skip) i ≡ seen_from (skip + rows_told (drop (row_width * i) rows)) (i + 1)
    unfolding seen_in
    seen_skip skip = go (own - i) left ∙ ap (seen_in p key gap (skip + rows_told (drop (row_width * i) rows)) (own - (i + 1))) next
      where
        go :
            (n : ℕ) → n ≡ suc (own - (i + 1)) →
            seen_in p key gap (suc skip) n (drop (row_width * i) rows)
            ≡ seen_in p key gap (skip + rows_told (drop (row_width * i) rows)) (own - (i + 1)) (drop row_width (drop (row_width * i) rows))
        go n e = rw e
