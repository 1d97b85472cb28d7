-- Every tag above 33 has the shape of a tag that no row has; what a test finds of all shapes holds of the shape of every tag; the second item begins at word 3 at most; which items are never code.
use Rattle.std.specs.Prelude.{Bool, true, false, List, [], ◌∷◌, ◌≡◌, ℕ, zero, suc, ◌+◌, ◌≤◌, ◌<◌, min, leb, ltb, eqb, length, get_or}
use Rattle.std.proofs.Math.Path.{refl}
use Rattle.std.proofs.Common.{sym, ap, ◌∙◌, add-zero, zero-add, arith, leb-true, leb-false, ltb-true, ltb-false, eqb-true, ne_eqb}
use Rattle.std.proofs.Math.ListN.{get_or-eq_default}
use Rattle.payload.specs.Choice.{when◌then◌else◌, ◌and◌}
use Rattle.payload.specs.Laws.Pool.{and_left, and_right}
use Rattle.payload.specs.Rows.{kind_width}
use Rattle.payload.specs.Shapes.{ItemKind, Shape, no_value, one_value, values, with_kids, shape, shapes, kinds_of}
use Rattle.row_layout.specs.Layout.{number_form, item_form, first_of, second_of, after_first, kids_form, shape_form, first_form, second_form, second_word, under_form}

pub shape_high : (t : ℕ) → 33 < t → shape t ≡ with_kids [] no_value
unfolding shape when◌then◌else◌
shape_high t h = rw (ne_eqb t 32 (λ e. omega arith), ne_eqb t 33 (λ e. omega arith)) (get_or-eq_default shapes (with_kids [] no_value) {n = t} (few t h))
  where
    few : (t : ℕ) → 33 < t → length shapes ≤ t
    few t h = unfold shapes in (omega arith)

pub shape_min : (t : ℕ) → shape (min t 34) ≡ shape t
shape_min t = go (leb t 34) refl
  where
    go : (b : Bool) → leb t 34 ≡ b → shape (min t 34) ≡ shape t
    go true q = let g = leb-true t 34 q in let e : min t 34 ≡ t = omega arith in ap shape e
    go false q = let g = leb-false t 34 q in shape_high (min t 34) (omega arith) ∙ sym (shape_high t (omega arith))

-- a test of tags and shapes, from tag k on
unfoldable pub all_from : (ℕ → Shape → Bool) → ℕ → List Shape → Bool
all_from f k [] = true
all_from f k (sh ∷ shs) = f k sh and all_from f (suc k) shs

all_at : (f : ℕ → Shape → Bool) (l : List Shape) (k t : ℕ) → all_from f k l ≡ true → t < length l → f (k + t) (get_or l t (with_kids [] no_value)) ≡ true
unfolding all_from
all_at f [] k t e h = absurd (omega arith)
all_at f (sh ∷ l) k zero e h = rw (add-zero k) (and_left _ _ e)
all_at f (sh ∷ l) k (suc t) e h = let z : suc k + t ≡ k + suc t = omega arith in rw (← z) (all_at f l (suc k) t (and_right _ _ e) (omega arith))

pub shape_all : (f : ℕ → Shape → Bool) → all_from f 0 shapes ≡ true → f 32 (with_kids (ItemKind.code ∷ []) values) ≡ true → f 33 (with_kids (ItemKind.string ∷ []) one_value) ≡ true
    → ((t : ℕ) → 26 < t → f t (with_kids [] no_value) ≡ true) → (t : ℕ) → f t (shape t) ≡ true
unfolding shape when◌then◌else◌
shape_all f a b c d t = go (eqb t 32) refl (eqb t 33) refl (ltb t 27) refl
  where
    many : length shapes ≡ 27
    many = unfold shapes in refl

    go : (x : Bool) → eqb t 32 ≡ x → (y : Bool) → eqb t 33 ≡ y → (z : Bool) → ltb t 27 ≡ z → f t (shape t) ≡ true
    go true p y q z r = rw p (rw (eqb-true t 32 p) b)
    go false p true q z r = rw (p, q) (rw (eqb-true t 33 q) c)
    go false p false q true r = rw (p, q) (rw (zero-add t) at (all_at f shapes 0 t a (omega (arith, many, ltb-true t 27 r))))
    go false p false q false r = rw (p, q) (rw (get_or-eq_default shapes (with_kids [] no_value) {n = t} (omega (arith, many, ltb-false t 27 r))) (d t (omega (arith, ltb-false t 27 r))))

---- the second item begins at word 3 at most

kind_width_low : (k : ItemKind) → kind_width k ≤ 2
unfolding kind_width
kind_width_low (ItemKind.number n) = omega arith
kind_width_low ItemKind.string = omega arith
kind_width_low ItemKind.native_name = omega arith
kind_width_low ItemKind.record_name = omega arith
kind_width_low ItemKind.code = omega arith

after_first_low : (ks : List ItemKind) → after_first ks ≤ 3
unfolding after_first
after_first_low [] = omega arith
after_first_low (k ∷ ks) = let w = kind_width_low k in omega arith

pub second_word_low : (t : ℕ) → second_word t ≤ 3
unfolding second_word
second_word_low t = after_first_low _

---- where code can stand: only as the first item of a row with rows under it

no_code : ℕ → Shape → Bool
no_code t sh = (when eqb (shape_form sh) 0 then ltb (first_of (kinds_of sh)) 7 else true) and ltb (second_of (kinds_of sh)) 7

no_code_lem : (t : ℕ) → no_code t (shape t) ≡ true
unfolding no_code all_from shapes kinds_of number_form item_form first_of second_of kids_form shape_form when◌then◌else◌ ◌and◌
no_code_lem t = shape_all no_code refl refl refl (λ k h. refl) t

pub leaf_form_low : (t : ℕ) → under_form t ≡ 0 → first_form t < 7
unfolding no_code under_form first_form when◌then◌else◌
leaf_form_low t h = ltb-true (first_of (kinds_of (shape t))) 7 (rw h at (and_left _ _ (no_code_lem t)))

pub second_form_low : (t : ℕ) → second_form t < 7
unfolding no_code second_form
second_form_low t = ltb-true (second_of (kinds_of (shape t))) 7 (and_right _ _ (no_code_lem t))
