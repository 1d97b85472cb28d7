-- What stands under a row of each tag, by one test that is computed over the table of shapes.
use mathlib.Core.Bool.{Bool, true, false, ◌&&◌, ◌||◌, and-eq-true_iff}
use mathlib.Core.List.{[]}
use mathlib.Core.Path.{◌≡◌, refl}
use Prim.Native.Nat.{ℕ, ◌≤◌, ◌<◌}
use native.Mathlib.Omega.{arith}
use lib.Dec.{eqb, leb, ltb}
use lib.ListN.{get_or-eq_default}
use borrow.Author.Tests.{ne_eqb, lt-leb, le-ltb, leb-true, leb-false, ltb-true, ltb-false, eqb-true}
use Rattle.payload.specs.Choice.{when◌then◌else◌}
use Rattle.payload.specs.Rows.{kinds_width}
use Rattle.payload.specs.Shapes.{no_value, with_kids, kinds_of, shape, shapes}
use Rattle.row_layout.specs.Layout.{kids_form, shape_form}
use Rattle.key_test.specs.Laws.Tags.{by_table, every}

-- nothing
module _ (t : ℕ) (a : t ≡ 7 → ⊥) where
  low_none : t < 9 → shape_form (shape t) ≡ 0
  unfolding every shapes shape_form kids_form
  low_none h = eqb-true _ _ (simp (lt-leb 9 t h, ne_eqb t 7 a) at (by_table (λ i sh. leb 9 i || (eqb i 7 || eqb (shape_form sh) 0)) refl t (omega arith)))

  module _ (b : t ≡ 18 → ⊥) (c : t ≡ 32 → ⊥) (d : t ≡ 33 → ⊥) where
    high_in : 17 ≤ t → t ≤ 26 → shape_form (shape t) ≡ 0
    unfolding every shapes shape_form kids_form
    high_in h k = eqb-true _ _ (simp (le-ltb t 17 h, ne_eqb t 18 b) at (by_table (λ i sh. ltb i 17 || (eqb i 18 || eqb (shape_form sh) 0)) refl t k))

    high_past : 27 ≤ t → shape_form (shape t) ≡ 0
    unfolding shape shapes when◌then◌else◌ shape_form kids_form
    high_past k = rw (ne_eqb t 32 c, ne_eqb t 33 d, get_or-eq_default shapes (with_kids [] no_value) k)

    pub none_under : (9 ≤ t → t < 17 → ⊥) → shape_form (shape t) ≡ 0
    none_under h = go (leb t 26) refl (ltb t 9) refl
      where
        go : (r : Bool) → leb t 26 ≡ r → (q : Bool) → ltb t 9 ≡ q → shape_form (shape t) ≡ 0
        go false e q f = high_past (leb-false t 26 e)
        go true e true f = low_none (ltb-true t 9 f)
        go true e false f = let k = ltb-false t 9 f in high_in (omega (arith, h)) (leb-true t 26 e)

-- one row
pub one_under : (t : ℕ) → 9 ≤ t → t < 12 → shape_form (shape t) ≡ 1
unfolding every shapes shape_form kids_form
one_under t h k = eqb-true _ _ (simp (le-ltb t 9 h, lt-leb 12 t k) at (by_table (λ i sh. ltb i 9 || (leb 12 i || eqb (shape_form sh) 1)) refl t (omega arith)))

-- as many as the first word after the tag says
pub counted_under : (t : ℕ) → 12 ≤ t → t < 15 → (shape_form (shape t) ≡ 2) × (kinds_width (kinds_of (shape t)) ≡ 0)
unfolding every shapes shape_form kids_form kinds_width kinds_of
counted_under t h k =
    let both = simp (le-ltb t 12 h, lt-leb 15 t k) at (by_table (λ i sh. ltb i 12 || (leb 15 i || (eqb (shape_form sh) 2 && eqb (kinds_width (kinds_of sh)) 0))) refl t (omega arith)) in
    let f = (and-eq-true_iff _ _).0 both in
    (eqb-true _ _ f.0, eqb-true _ _ f.1)
