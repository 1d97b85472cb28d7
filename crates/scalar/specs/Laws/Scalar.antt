-- A scalar's row, made a constant and a row again, keeps every word: floats bit by bit, NaN patterns too. Assumes nothing.
use Rattle.std.specs.Prelude.{Bool, true, false, cond, not, ◌&&◌, ◌||◌, List, [], ◌∷◌, ◌⊎◌, ◌≡◌, refl, ℕ, zero, suc, ◌%◌, ◌*◌, ◌^◌, ◌≤◌, ◌<◌, T, eqb, leb, ltb}
use Rattle.std.proofs.Common.{inl, inr, ⊎_elim, sym, ap, ◌∙◌, subst, zero-le, mod-eq_of_lt, arith, eqb-true, leb-true, ltb-true}
use Rattle.std.specs.Float.{Format, binary32, binary64}
use Rattle.std.specs.Float.Ieee.{nan_bits, of_bits, to_bits, top}
use Rattle.std.specs.Float.Ieee.Bits.{nan_bits_is, to_bits-of_bits}
use Rattle.std.proofs.lemmas.Bool.{eqb-false}
use Rattle.signed.specs.Laws.Signed.{word_signed}
use Rattle.payload.specs.Choice.{when◌then◌else◌}
use Rattle.payload.proofs.Laws.Numbers.{scalar_small}
use Rattle.payload.specs.Numbers.{NumberKind, cut_signed, fits_kind, fits_signed}
use Rattle.payload.specs.Shapes.{ItemKind, kinds_of, shape, shapes}
use Rattle.scalar.specs.declared.Scalar.{Scalar}
use Rattle.scalar.specs.declared.Constant.{Constant}
use Rattle.scalar.specs.declared.Constant.TheVariants.{NanBits, Other, SNanBits, Value}
use Rattle.scalar.specs.Scalar.{FitsWords, const_of, is_scalar_tag, row, row_of, words_of}

---- the fourteen tags

-- a property of t, from that of n, where t is n, and where it is above
from : (P : ℕ → Type 0) (n t : ℕ) → n ≤ t → P n → (suc n ≤ t → P t) → P t
from P n t l p q = go (eqb t n) refl
  where
    go : (e : Bool) → eqb t n ≡ e → P t
    go true e = subst P (sym (eqb-true t n e)) p
    go false e = let d = eqb-false t n e in q (omega arith)

tag_range : (t : ℕ) → is_scalar_tag t ≡ true → (t ≤ 5) ⊎ ((19 ≤ t) × (t ≤ 26))
unfolding is_scalar_tag
tag_range t e = go (leb t 5) refl (leb 19 t) refl e
  where
    go : (x : Bool) → leb t 5 ≡ x → (y : Bool) → leb 19 t ≡ y → (x || (y && leb t 26)) ≡ true → (t ≤ 5) ⊎ ((19 ≤ t) × (t ≤ 26))
    go true p y q r = inl (leb-true t 5 p)
    go false p true q r = inr (leb-true 19 t q, leb-true t 26 r)
    go false p false q r = let z : ◌≡◌ {A = ℕ} 0 1 = cc in absurd (omega arith)

pub each_scalar_tag : (P : ℕ → Type 0) → P 0 → P 1 → P 2 → P 3 → P 4 → P 5 → P 19 → P 20 → P 21 → P 22 → P 23 → P 24 → P 25 → P 26
    → (t : ℕ) → is_scalar_tag t ≡ true → P t
each_scalar_tag P p0 p1 p2 p3 p4 p5 p19 p20 p21 p22 p23 p24 p25 p26 t e =
    ⊎_elim
    (λ h. from P 0 t zero-le p0 (λ l0. from P 1 t l0 p1 (λ l1. from P 2 t l1 p2 (λ l2. from P 3 t l2 p3 (λ l3. from P 4 t l3 p4 (λ l4. from P 5 t l4 p5 (λ l5. absurd (omega arith))))))))
    (λ h. from P 19 t h.0 p19 (λ l19. from P 20 t l19 p20 (λ l20. from P 21 t l20 p21 (λ l21. from P 22 t l21 p22 (λ l22.
    from P 23 t l22 p23 (λ l23. from P 24 t l23 p24 (λ l24. from P 25 t l24 p25 (λ l25. from P 26 t l25 p26 (λ l26. absurd (omega arith))))))))))
    (tag_range t e)

---- the row of each

one_word : (t : ℕ) {n a b : ℕ} → n ≡ a → b ≡ 0 → row t n 0 ≡ row t a b
one_word t e z = cc

-- a pattern that is no NaN's is kept by the float
kept : (f : Format) (n : ℕ) → n < 2 * top f → nan_bits f n ≡ false → to_bits f (of_bits f n) ≡ n
kept f n l h = to_bits-of_bits f n l (subst (λ (t : Bool). T (not t)) (sym (sym (nan_bits_is f n) ∙ h)) tt)

-- a property of the constant of a pattern, whether it is a NaN's or not
by_nan : (f : Format) (n : ℕ) (P : Constant → Type 0) {x y : Constant} → P x → (nan_bits f n ≡ false → P y) → P (cond (nan_bits f n) x y)
by_nan f n P {x} {y} p q = go (nan_bits f n) refl
  where
    go : (t : Bool) → nan_bits f n ≡ t → P (cond t x y)
    go true e = p
    go false e = q e

bit : (a : ℕ) → a < 2 → cond (not (eqb a 0)) 1 0 ≡ a
bit zero h = refl
bit (suc zero) h = refl
bit (suc (suc a)) h = absurd (omega arith)

-- a word that fits a signed kind is kept by the cut
signed : (k a : ℕ) → fits_signed k a ≡ true → cut_signed k a ≡ a
unfolding fits_signed
signed k a e = eqb-true (cut_signed k a) a e

small : (m a : ℕ) → ltb a m ≡ true → a % m ≡ a
small m a e = mod-eq_of_lt (ltb-true a m e)

pub scalar_row : (t a b : ℕ) → is_scalar_tag t ≡ true → FitsWords (kinds_of (shape t)) (a ∷ b ∷ []) → row_of (const_of t a b) ≡ row t a b
unfolding shape shapes kinds_of when◌then◌else◌ fits_kind row_of words_of const_of
scalar_row t a b = each_scalar_tag (λ t. FitsWords (kinds_of (shape t)) (a ∷ b ∷ []) → row_of (const_of t a b) ≡ row t a b)
    (λ h. one_word 0 (sym h.0) h.1.0)
    (λ h. one_word 1 (word_signed a (ltb-true a (2 ^ 64) h.0)) h.1.0)
    (λ h. by_nan binary64 a (λ c. row_of c ≡ row 2 a b) (one_word 2 refl h.1.0) (λ e. one_word 2 (kept binary64 a (ltb-true a (2 ^ 64) h.0) e) h.1.0))
    (λ h. one_word 3 (bit a (ltb-true a 2 h.0)) h.1.0)
    (λ h. one_word 4 (small (2 ^ 8) a h.0) h.1.0)
    (λ h. one_word 5 (mod-eq_of_lt (scalar_small a h.0)) h.1.0)
    (λ h. one_word 19 refl h.1.0)
    (λ h. one_word 20 (signed 32 a h.0) h.1.0)
    (λ h. one_word 21 (small (2 ^ 32) a h.0) h.1.0)
    (λ h. one_word 22 (small (2 ^ 16) a h.0) h.1.0)
    (λ h. one_word 23 (signed 16 a h.0) h.1.0)
    (λ h. one_word 24 (signed 8 a h.0) h.1.0)
    (λ h. rw (small (2 ^ 32) a h.0) (by_nan binary32 a (λ c. row_of c ≡ row 25 a b) (one_word 25 refl h.1.0) (λ e. one_word 25 (kept binary32 a (ltb-true a (2 ^ 32) h.0) e) h.1.0)))
    (λ h. let l = leb-true a 5 h.0 in ap (λ (k : ℕ). row 26 k b) (mod-eq_of_lt (omega arith)))
    t

-- a row of one number, by its kind
pub number_row : (t : ℕ) (k : NumberKind) (a : ℕ) → is_scalar_tag t ≡ true → kinds_of (shape t) ≡ ItemKind.number k ∷ [] → fits_kind k a ≡ true
    → row_of (const_of t a 0) ≡ row t a 0
number_row t k a e is f = scalar_row t a 0 e (subst (λ (ks : List ItemKind). FitsWords ks (a ∷ 0 ∷ [])) (sym is) (f, (refl, tt)))

---- the constant of a scalar's tag is a scalar, or a NaN's bits

abbrev NotOther : Constant → Type 0
NotOther c = c ≡ Other → ⊥

value : {s : Scalar} → NotOther (Value s)
value e = let z : ◌≡◌ {A = ℕ} 0 1 = cc in omega arith

nan64 : {n : ℕ} → NotOther (NanBits n)
nan64 e = let z : ◌≡◌ {A = ℕ} 0 1 = cc in omega arith

nan32 : {n : ℕ} → NotOther (SNanBits n)
nan32 e = let z : ◌≡◌ {A = ℕ} 0 1 = cc in omega arith

pub scalar_constant : (t a b : ℕ) → is_scalar_tag t ≡ true → const_of t a b ≡ Other → ⊥
unfolding const_of
scalar_constant t a b = each_scalar_tag (λ t. NotOther (const_of t a b))
    value value (by_nan binary64 a NotOther nan64 (λ e. value)) value value value
    value value value value value value (by_nan binary32 (a % 2 ^ 32) NotOther nan32 (λ e. value)) value
    t
