-- `signed::zigzag` meets its contract: `v ^ sign` is how far v is above 0 or below -1, and `0 - sign` is 1 where v is negative. Assumes nothing.
use mathlib.Core.Path.{◌≡◌, sym, ap₂, ◌∙◌, subst, subst₂}
use Prim.Native.Nat.{◌+◌, ◌*◌, ◌<◌}
use native.Mathlib.Omega.{arith}
use lib.Dec.{T}
use lib.IntN.{ℤ, pos, negsuc, nat_abs}
use lib.Signed.{mag, non_neg}
use mir.Syntax.{w64}
use mir.Val.{Fits, SFits}
use Rattle.signed.specs.Signed.{zigzag_of}
use Rattle.signed.proofs.Signs.{below, fold_is, minus_is, bit_is}
use Rattle.signed.proofs.zigzag.Goals as goal

below_two : (v : ℤ) → below v < 2
below_two (pos n) = omega arith
below_two (negsuc n) = omega arith

value : (v : ℤ) → mag v * 2 + below v ≡ zigzag_of v
value (pos n) = omega arith
value (negsuc n) = omega arith

pub overflow_cast-result : goal.overflow_cast-result
overflow_cast-result c =
    let h = c.ranges.v in
    subst (λ (z : ℤ). T (non_neg z) × Fits w64 (nat_abs z)) (sym (fold_is c.args.v h)) (tt, omega (arith, h.sfits))

pub overflow_mul-result : goal.overflow_mul-result
overflow_mul-result c = let h = c.ranges.v in subst (λ (z : ℤ). Fits w64 (nat_abs z * 2)) (sym (fold_is c.args.v h)) (omega (arith, h.sfits))

pub overflow_sub-result : goal.overflow_sub-result
overflow_sub-result c =
    let v = c.args.v in
    subst (λ (z : ℤ). SFits w64 z) (sym (minus_is v c.ranges.v)) (omega (arith, below_two v))

pub overflow_cast-result-2 : goal.overflow_cast-result-2
overflow_cast-result-2 c =
    let v = c.args.v in
    subst (λ (z : ℤ). T (non_neg z) × Fits w64 (nat_abs z)) (sym (bit_is v c.ranges.v)) (tt, omega (arith, below_two v))

pub overflow_add-result : goal.overflow_add-result
overflow_add-result c =
    let v = c.args.v in
    let h = c.ranges.v in
    subst₂ (λ (y z : ℤ). Fits w64 (nat_abs y * 2 + nat_abs z)) (sym (fold_is v h)) (sym (bit_is v h)) (omega (arith, below_two v, h.sfits))

pub returns : goal.returns
returns c =
    let v = c.args.v in
    let h = c.ranges.v in
    ap₂ (λ (y z : ℤ). nat_abs y * 2 + nat_abs z) (fold_is v h) (bit_is v h) ∙ value v
