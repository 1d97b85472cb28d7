-- What signed operations give, over plain numbers: `v >> 63` is 0 or -1, `x ^ -1` is -(x + 1), and `!v` of a negative v is how far it is below -1.
-- Assumes nothing.
use mathlib.Core.Path.{◌≡◌, refl, sym, ap, ◌∙◌, subst}
use mathlib.Core.Bool.{Bool, true, false, cond}
use Prim.Native.Nat.{ℕ, zero, suc, ◌+◌, ◌-◌, ◌*◌, ◌^◌, ◌<◌}
use native.Mathlib.Omega.{arith}
use native.Mathlib.Nat.{div-eq_of_lt, mod-eq_of_lt}
use borrow.Author.Tests.{ltb-true}
use lib.Bits.{bit_and, bit_xor, xor_add_and, and_mask, xor_zero_r}
use lib.Dec.{T, eqb, ltb}
use lib.IntN.{ℤ, pos, negsuc, nat_abs, ◌-ℤ◌}
use lib.Signed.{mag, non_neg, shr_z, lt_z}
use mir.Syntax.{w64}
use mir.Val.{Fits, SFits, to_z, of_z}
use mir.Facts.{to_z_pos, to_z-neg, to_z-of_z, sfits_lit}

-- 1 for a negative number, else 0
abbrev pub below : ℤ → ℕ
below (pos n) = 0
below (negsuc n) = 1

-- -1 for a negative number, else 0
abbrev pub sign : ℤ → ℤ
sign (pos n) = pos 0
sign (negsuc n) = negsuc 0

pub shift_is : (v : ℤ) → SFits w64 v → shr_z (to_z w64 (of_z w64 v)) (2 ^ 63) ≡ sign v
shift_is v h = ap (λ (z : ℤ). shr_z z (2 ^ 63)) (to_z-of_z h) ∙ go v h.sfits
  where
    go : (v : ℤ) → mag v < 2 ^ 63 → shr_z v (2 ^ 63) ≡ sign v
    go (pos n) l = ap pos (div-eq_of_lt l)
    go (negsuc n) l = ap negsuc (div-eq_of_lt l)

-- every bit turned over
pub xor_ones : (a : ℕ) → a < 2 ^ 64 → bit_xor a (2 ^ 64 - 1) ≡ 2 ^ 64 - 1 - a
xor_ones a h =
    let s : bit_xor a (2 ^ 64 - 1) + bit_and a (2 ^ 64 - 1) * 2 ≡ a + (2 ^ 64 - 1) = xor_add_and a (2 ^ 64 - 1) in
    let m : bit_and a (2 ^ 64 - 1) ≡ a = and_mask a 64 ∙ mod-eq_of_lt h in
    turn (bit_xor a (2 ^ 64 - 1)) (bit_and a (2 ^ 64 - 1)) s m
  where
    turn : (x y : ℕ) → x + y * 2 ≡ a + (2 ^ 64 - 1) → y ≡ a → x ≡ 2 ^ 64 - 1 - a
    turn x y s m = omega arith

-- `v ^ (v >> 63)`
pub fold_is : (v : ℤ) → SFits w64 v → to_z w64 (bit_xor (of_z w64 v) (of_z w64 (shr_z (to_z w64 (of_z w64 v)) (2 ^ 63)))) ≡ pos (mag v)
fold_is v h = ap (λ (z : ℤ). to_z w64 (bit_xor (of_z w64 v) (of_z w64 z))) (shift_is v h) ∙ go v h.sfits
  where
    go : (v : ℤ) → mag v < 2 ^ 63 → to_z w64 (bit_xor (of_z w64 v) (of_z w64 (sign v))) ≡ pos (mag v)
    go (pos n) l = ap (to_z w64) (xor_zero_r n) ∙ to_z_pos w64 l
    go (negsuc n) l =
        let e : 2 ^ 64 - 1 - (2 ^ 64 - suc n) ≡ n = omega arith in
        ap (to_z w64) (xor_ones (2 ^ 64 - suc n) (omega arith) ∙ e) ∙ to_z_pos w64 l

-- `0 - (v >> 63)`
pub minus_is : (v : ℤ) → SFits w64 v → pos 0 -ℤ to_z w64 (of_z w64 (shr_z (to_z w64 (of_z w64 v)) (2 ^ 63))) ≡ pos (below v)
minus_is v h = ap (λ (z : ℤ). pos 0 -ℤ to_z w64 (of_z w64 z)) (shift_is v h) ∙ go v
  where
    go : (v : ℤ) → pos 0 -ℤ to_z w64 (of_z w64 (sign v)) ≡ pos (below v)
    go (pos n) = refl
    go (negsuc n) = refl

pub bit_is : (v : ℤ) → SFits w64 v → to_z w64 (of_z w64 (pos 0 -ℤ to_z w64 (of_z w64 (shr_z (to_z w64 (of_z w64 v)) (2 ^ 63))))) ≡ pos (below v)
bit_is v h = ap (λ (z : ℤ). to_z w64 (of_z w64 z)) (minus_is v h) ∙ go v
  where
    go : (v : ℤ) → to_z w64 (of_z w64 (pos (below v))) ≡ pos (below v)
    go (pos n) = refl
    go (negsuc n) = refl

-- `0 - b` for a bit b, and `h ^ (0 - b)`
pub minus_bit : (b : ℕ) → b < 2 → SFits w64 (pos 0 -ℤ to_z w64 b)
minus_bit zero l = sfits_lit tt
minus_bit (suc zero) l = sfits_lit tt
minus_bit (suc (suc b)) l = absurd (omega arith)

pub unfold_is : (h b : ℕ) → h < 2 ^ 63 → b < 2 → to_z w64 (bit_xor h (of_z w64 (pos 0 -ℤ to_z w64 b))) ≡ cond (eqb b 0) (pos h) (negsuc h)
unfold_is h zero l m = ap (to_z w64) (xor_zero_r h) ∙ to_z_pos w64 l
unfold_is h (suc zero) l m =
    let e : 2 ^ 64 - 1 - h ≡ 2 ^ 64 - suc h = omega arith in
    ap (to_z w64) (xor_ones h (omega arith) ∙ e) ∙ to_z-neg w64 h l
unfold_is h (suc (suc b)) l m = absurd (omega arith)

-- ---- a number whose sign was tested

-- the code's test of a sign, as one of the number itself
pub tested : {t : Bool} (v : ℤ) → SFits w64 v → lt_z (to_z w64 (of_z w64 v)) (pos 0) ≡ t → lt_z v (pos 0) ≡ t
tested v h e = ap (λ (z : ℤ). lt_z z (pos 0)) (sym (to_z-of_z h)) ∙ e

-- no natural number is negative, and no negative one is not
pub no_less {ℓ} : {X : Type ℓ} (n : ℕ) → ltb n 0 ≡ true → X
no_less n e = absurd (omega (arith, ltb-true n 0 e))

pub true_false {ℓ} : {X : Type ℓ} → true ≡ false → X
true_false e = let z : ◌≡◌ {A = ℕ} 0 1 = cc in absurd (omega arith)

-- `!v` of a negative number, and a number that is not negative
pub not_value : (v : ℤ) → SFits w64 v → lt_z v (pos 0) ≡ true → to_z w64 (2 ^ 64 - 1 - of_z w64 v) ≡ pos (mag v)
not_value (pos n) h e = no_less n e
not_value (negsuc n) h e = let d : 2 ^ 64 - 1 - (2 ^ 64 - suc n) ≡ n = omega (arith, h.sfits) in ap (to_z w64) d ∙ to_z_pos w64 h.sfits

pub own_value : (v : ℤ) → SFits w64 v → lt_z v (pos 0) ≡ false → to_z w64 (of_z w64 v) ≡ pos (mag v)
own_value (pos n) h e = to_z_pos w64 h.sfits
own_value (negsuc n) h e = true_false e

-- each of the two can be cast
pub casts : {z : ℤ} (n : ℕ) → z ≡ pos n → n < 2 ^ 63 → T (non_neg z) × Fits w64 (nat_abs z)
casts n e h = subst (λ (x : ℤ). T (non_neg x) × Fits w64 (nat_abs x)) (sym e) (tt, omega arith)
