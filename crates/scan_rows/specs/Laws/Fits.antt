-- The tests by number are those of the kinds.
use Rattle.std.specs.Prelude.{Bool, ◌&&◌, ◌||◌, List, [], ◌∷◌, ◌≡◌, length}
use Rattle.std.proofs.Math.Bool.{false, true}
use Rattle.std.proofs.Common.{◌∙◌}
use Rattle.std.proofs.Math.Path.{ap, refl, sym}
use Prim.Native.Nat.{◌%◌, ◌+◌, ◌-◌, ◌<◌, ◌^◌, ◌≤◌, suc, ℕ}
use native.Mathlib.Omega.{arith}
use Rattle.std.proofs.Math.Dec.{eqb, leb, ltb}
use borrow.Author.Tests.{eq-eqb, eqb-true, le-leb, le-ltb, leb-false, leb-true, lt-leb, lt-ltb, ltb-false, ltb-true, ne_eqb}
use Rattle.payload.specs.Choice.{◌and◌, ◌or◌, when◌then◌else◌}
use Rattle.payload.specs.Laws.Pool.{false≢true}
use Rattle.payload.specs.Numbers.{NumberKind, bool, char, f32, f64, fits_kind, fits_signed, handle, i16, i32, i64, i8, is_scalar, u16, u32, u64, u8}
use Rattle.payload.specs.Rows.{kind_width, kinds_width, row_width}
use Rattle.payload.specs.Shapes.{ItemKind, is_key_tag, kinds_of, no_value, shape, shapes, with_kids}
use Rattle.row_layout.specs.Laws.Layout.{all_from, shape_all}
use Rattle.row_layout.specs.Layout.{after_first, count_word, first_test, first_test_of, item_test, kids_rules, number_test, second_test, second_test_of, second_word, shape_rules, under_rules, used_words}
use Rattle.signed.specs.Laws.Signed.{cut_high, cut_low}
use Rattle.signed.specs.Signed.{signed_of, word_of}
use Rattle.scan_rows.specs.Fits.{number_fits, words_fit}
use Rattle.scan_rows.specs.Row.{item_fits, items_fit, key_fits, row_count, row_fits, tag_at, word_at, zeros_from}

same_test : (a b : ℕ) (t : Bool) → (t ≡ true → a ≡ b) → (a ≡ b → t ≡ true) → eqb a b ≡ t
same_test a b true f g = eq-eqb a b (f refl)
same_test a b false f g = ne_eqb a b (λ e. false≢true (g e))

or_left : (a b : Bool) → a ≡ true → (a || b) ≡ true
or_left a b e = rw e

or_right : (a b : Bool) → b ≡ true → (a || b) ≡ true
or_right true b e = refl
or_right false b e = e

or_cases : {P : Type 0} (a b : Bool) → (a ≡ true → P) → (b ≡ true → P) → (a || b) ≡ true → P
or_cases true b f g e = f refl
or_cases false b f g e = g e

-- a signed number of k bits lies at one end of the words; the facts are those of the numerals of a width
module _ (k w low high : ℕ) (l : k ≤ 64)
    (low-is : w % 2 ^ k < 2 ^ (k - 1) → w < low → w % 2 ^ k ≡ w) (is-low : w % 2 ^ k < 2 ^ (k - 1) → w % 2 ^ k ≡ w → w < low) (not-high : w % 2 ^ k < 2 ^ (k - 1) → high ≤ w → ⊥)
    (high_is : 2 ^ (k - 1) ≤ w % 2 ^ k → high ≤ w → w % 2 ^ k + (2 ^ 64 - 2 ^ k) ≡ w)
    (is-high : 2 ^ (k - 1) ≤ w % 2 ^ k → w % 2 ^ k + (2 ^ 64 - 2 ^ k) ≡ w → high ≤ w) (not_low : 2 ^ (k - 1) ≤ w % 2 ^ k → w < low → ⊥) where
  signed_fits : fits_signed k w ≡ (ltb w low || leb high w)
  unfolding fits_signed
  signed_fits = go (ltb (w % 2 ^ k) (2 ^ (k - 1))) refl
    where
      go : (b : Bool) → ltb (w % 2 ^ k) (2 ^ (k - 1)) ≡ b → eqb (word_of (signed_of k w)) w ≡ (ltb w low || leb high w)
      go true q =
          let h = ltb-true _ _ q in
          ap (λ (x : ℕ). eqb x w) (cut_low k w l h) ∙ same_test _ w (ltb w low || leb high w)
          (or_cases (ltb w low) (leb high w) (λ e. low-is h (ltb-true _ _ e)) (λ e. absurd (not-high h (leb-true _ _ e)))) (λ e. or_left (ltb w low) (leb high w) (lt-ltb _ _ (is-low h e)))
      go false q =
          let h = ltb-false _ _ q in
          ap (λ (x : ℕ). eqb x w) (cut_high k w l h) ∙ same_test _ w (ltb w low || leb high w)
          (or_cases (ltb w low) (leb high w) (λ e. absurd (not_low h (ltb-true _ _ e))) (λ e. high_is h (leb-true _ _ e))) (λ e. or_right (ltb w low) (leb high w) (le-leb _ _ (is-high h e)))

scalar_is : (a b c : Bool) → (a or (b and c)) ≡ (a || (b && c))
unfolding ◌and◌
scalar_is true b c = refl
scalar_is false true c = refl
scalar_is false false c = refl

number_is : (k : NumberKind) (w : ℕ) → w < 2 ^ 64 → number_fits (number_test k) w ≡ fits_kind k w
unfolding number_fits number_test fits_kind is_scalar when◌then◌else◌
number_is u64 w h = sym (lt-ltb w (2 ^ 64) h)
number_is u32 w h = refl
number_is u16 w h = refl
number_is u8 w h = refl
number_is i64 w h = sym (lt-ltb w (2 ^ 64) h)
number_is i32 w h = sym (signed_fits 32 w 0x8000_0000 0xffff_ffff_8000_0000 (omega arith) (λ p q. omega arith) (λ p q. omega arith) (λ p q. omega arith) (λ p q. omega arith) (λ p q. omega arith) (λ p q. omega arith))
number_is i16 w h = sym (signed_fits 16 w 0x8000 0xffff_ffff_ffff_8000 (omega arith) (λ p q. omega arith) (λ p q. omega arith) (λ p q. omega arith) (λ p q. omega arith) (λ p q. omega arith) (λ p q. omega arith))
number_is i8 w h = sym (signed_fits 8 w 0x80 0xffff_ffff_ffff_ff80 (omega arith) (λ p q. omega arith) (λ p q. omega arith) (λ p q. omega arith) (λ p q. omega arith) (λ p q. omega arith) (λ p q. omega arith))
number_is bool w h = refl
number_is char w h = sym (scalar_is (ltb w 0xd800) (leb 0xe000 w) (ltb w 0x110000))
number_is handle w h = refl
number_is f64 w h = sym (lt-ltb w (2 ^ 64) h)
number_is f32 w h = refl

number_test_low : (k : NumberKind) → number_test k ≤ 10
unfolding number_test
number_test_low u64 = omega arith
number_test_low u32 = omega arith
number_test_low u16 = omega arith
number_test_low u8 = omega arith
number_test_low i64 = omega arith
number_test_low i32 = omega arith
number_test_low i16 = omega arith
number_test_low i8 = omega arith
number_test_low bool = omega arith
number_test_low char = omega arith
number_test_low handle = omega arith
number_test_low f64 = omega arith
number_test_low f32 = omega arith

item_is : (store : List ℕ) (k : ItemKind) (a b : ℕ) → a < 2 ^ 64 → words_fit store (item_test k) a b ≡ item_fits store k a b
unfolding words_fit item_test item_fits when◌then◌else◌
item_is store (ItemKind.number k) a b h = let l = number_test_low k in rw (ne_eqb (number_test k) 11 (λ e. omega arith), ne_eqb (number_test k) 12 (λ e. omega arith)) (number_is k a h)
item_is store ItemKind.string a b h = refl
item_is store ItemKind.native_name a b h = refl
item_is store ItemKind.record_name a b h = refl
item_is store ItemKind.code a b h = refl

few_kinds : (t : ℕ) → length (kinds_of (shape t)) ≤ 2
few_kinds t = leb-true _ _ (shape_all (λ t sh. leb (length (kinds_of sh)) 2) (unfold all_from shapes kinds_of ◌and◌ in refl) (unfold kinds_of in refl) (unfold kinds_of in refl) (λ t h. unfold kinds_of in refl) t)

no_test : (store : List ℕ) (a b : ℕ) → words_fit store 0 a b ≡ true
unfolding words_fit number_fits when◌then◌else◌
no_test store a b = refl

and_true : (a b : Bool) → (a and (b and true)) ≡ (a and b)
unfolding ◌and◌
and_true true true = refl
and_true true false = refl
and_true false b = refl

-- at most two items: the first, and the second where it begins
items_are : (store rows : List ℕ) (i : ℕ) (ks : List ItemKind) → length ks ≤ 2 → word_at rows i 1 < 2 ^ 64 → word_at rows i (after_first ks) < 2 ^ 64
    → items_fit store rows i 1 ks
    ≡ (words_fit store (first_test_of ks) (word_at rows i 1) (word_at rows i 2)
    and words_fit store (second_test_of ks) (word_at rows i (after_first ks)) (word_at rows i (after_first ks + 1)))
unfolding items_fit first_test_of second_test_of after_first
items_are store rows i [] h v w = rw (no_test store (word_at rows i 1) (word_at rows i 2)) (unfold ◌and◌ in refl)
items_are store rows i (k ∷ []) h v w = rw (item_is store k (word_at rows i 1) (word_at rows i 2) v, no_test)
items_are store rows i (k ∷ l ∷ []) h v w =
    rw (item_is store k (word_at rows i 1) (word_at rows i 2) v, item_is store l (word_at rows i (1 + kind_width k)) (word_at rows i (1 + kind_width k + 1)) w) (and_true _ _)
items_are store rows i (k ∷ l ∷ m ∷ ks) h v w = absurd (omega arith)

-- where the first item is unfit, so are the items
first_decides : (store rows : List ℕ) (i : ℕ) (ks : List ItemKind) → word_at rows i 1 < 2 ^ 64 → words_fit store (first_test_of ks) (word_at rows i 1) (word_at rows i 2) ≡ false
    → items_fit store rows i 1 ks ≡ false
unfolding items_fit first_test_of ◌and◌
first_decides store rows i [] v e = false≢true (sym e ∙ no_test store (word_at rows i 1) (word_at rows i 2))
first_decides store rows i (k ∷ ks) v e = rw (sym (item_is store k (word_at rows i 1) (word_at rows i 2) v) ∙ e)

---- what the code's tests say

-- a sum tested without making it
pub leb_after : (o n e : ℕ) → o ≤ e → leb n (e - o) ≡ leb (o + n) e
leb_after o n e h = go (leb n (e - o)) refl
  where
    go : (b : Bool) → leb n (e - o) ≡ b → b ≡ leb (o + n) e
    go true q = sym (le-leb (o + n) e (omega (arith, leb-true n (e - o) q)))
    go false q = sym (lt-leb (o + n) e (omega (arith, leb-false n (e - o) q)))

module _ (rows : List ℕ) (i k : ℕ) where
  pub zeros_more : k < row_width → word_at rows i k ≡ 0 → zeros_from rows i k (row_width - k) ≡ zeros_from rows i (k + 1) (row_width - (k + 1))
  unfolding zeros_from ◌and◌
  zeros_more h e = let z : row_width - k ≡ suc (row_width - (k + 1)) = omega arith in rw z (rw (eq-eqb (word_at rows i k) 0 e))

  pub zeros_stop : k < row_width → (word_at rows i k ≡ 0 → ⊥) → zeros_from rows i k (row_width - k) ≡ false
  unfolding zeros_from ◌and◌
  zeros_stop h e = let z : row_width - k ≡ suc (row_width - (k + 1)) = omega arith in rw z (rw (ne_eqb (word_at rows i k) 0 e))

  pub zeros_end : row_width ≤ k → zeros_from rows i k (row_width - k) ≡ true
  unfolding zeros_from
  zeros_end h = let z : row_width - k ≡ 0 = omega arith in rw z

-- a row's tag is t; a and b are words of its first item, c and d those of its second, which stands at word w
module _ (store rows : List ℕ) (i : ℕ) {t : ℕ} (et : t ≡ tag_at rows i) {f a b : ℕ} (ef : f ≡ first_test t) (ea : a ≡ word_at rows i 1) (eb : b ≡ word_at rows i 2) (la : a < 2 ^ 64) where
  pub first_unfit : words_fit store f a b ≡ false → row_fits store rows i ≡ false
  unfolding row_fits first_test ◌and◌
  first_unfit x =
      let y : words_fit store (first_test (tag_at rows i)) (word_at rows i 1) (word_at rows i 2) ≡ false = rw (← et, ← ef, ← ea, ← eb) x in
      rw (first_decides store rows i (kinds_of (shape (tag_at rows i))) (rw ea at la) (unfold first_test in y))

  pub row_fits_is : {g w c d u : ℕ} → g ≡ second_test t → w ≡ second_word t → c ≡ word_at rows i w → d ≡ word_at rows i (w + 1) → c < 2 ^ 64 → u ≡ used_words t
      → row_fits store rows i ≡ ((words_fit store f a b and words_fit store g c d) and zeros_from rows i u (row_width - u))
  unfolding row_fits first_test second_test second_word
  row_fits_is eg ew ec ed lc eu =
      let one = rw ea at la in
      let two = rw (ec, ew, et) at lc in
      rw (ef, ea, eb, eg, ec, ed, ew, eu, et) (rw (items_are store rows i (kinds_of (shape (tag_at rows i))) (few_kinds (tag_at rows i)) one two))

-- a row that has a count has it at word 4 at most
pub count_low : (t : ℕ) → 2 ≤ under_rules t → count_word t ≤ 4
unfolding under_rules count_word when◌then◌else◌
count_low t h = leb-true _ _ (go (shape_all (λ t sh. when◌then◌else◌ (leb 2 (shape_rules sh)) (leb (1 + kinds_width (kinds_of sh)) 4) true)
    (unfold all_from shapes shape_rules kids_rules kinds_width kind_width kinds_of ◌and◌ in refl)
    (unfold shape_rules kids_rules kinds_width kind_width kinds_of in refl) (unfold shape_rules kids_rules kinds_width kind_width kinds_of in refl) (λ t h. unfold shape_rules kids_rules in refl) t))
  where
    go : when◌then◌else◌ (leb 2 (shape_rules (shape t))) (leb (1 + kinds_width (kinds_of (shape t))) 4) true ≡ true → leb (1 + kinds_width (kinds_of (shape t))) 4 ≡ true
    go e = rw (le-leb 2 (shape_rules (shape t)) h) at e

-- numbers and strings have nothing under them
pub none_low : (t : ℕ) → t < 7 → under_rules t ≡ 0
unfolding under_rules when◌then◌else◌
none_low t h = eqb-true _ _ (go (shape_all (λ t sh. when◌then◌else◌ (ltb t 7) (eqb (shape_rules sh) 0) true) (unfold all_from shapes shape_rules kids_rules ◌and◌ in refl) refl refl high t))
  where
    high : (t : ℕ) → 26 < t → when◌then◌else◌ (ltb t 7) (eqb (shape_rules (with_kids [] no_value)) 0) true ≡ true
    high t h = rw (le-ltb t 7 (omega arith))

    go : when◌then◌else◌ (ltb t 7) (eqb (shape_rules (shape t)) 0) true ≡ true → eqb (shape_rules (shape t)) 0 ≡ true
    go e = rw (lt-ltb t 7 h) at e

-- whether a row of the table is a key, by its tag
module _ (store rows : List ℕ) (i : ℕ) (u : i < row_count rows) {t : ℕ} (et : t ≡ tag_at rows i) where
  pub not_key_tag : is_key_tag t ≡ false → key_fits store rows i ≡ false
  unfolding key_fits ◌and◌
  not_key_tag e = rw (lt-ltb i (row_count rows) u) (rw (ap is_key_tag (sym et) ∙ e))

  pub key_tag : is_key_tag t ≡ true → key_fits store rows i ≡ row_fits store rows i
  unfolding key_fits ◌and◌
  key_tag e = rw (lt-ltb i (row_count rows) u) (rw (ap is_key_tag (sym et) ∙ e))
