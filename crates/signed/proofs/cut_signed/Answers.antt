-- `signed::cut_signed` meets its contract: `modulus` is 2 ^ bits, and the two cases are those of the definition. Assumes nothing.
use mathlib.Core.Path.{◌≡◌, sym, ◌∙◌, subst}
use Prim.Native.Nat.{ℕ, ◌+◌, ◌-◌, ◌*◌, ◌/◌, ◌%◌, ◌^◌, ◌≤◌, ◌<◌}
use native.Mathlib.Omega.{arith}
use native.Mathlib.Nat.{mod-lt, one-mul}
use lib.Pow.{pow_pos, pow_mono, shl_exact}
use Rattle.signed.specs.Signed.{word_of, signed_of}
use Rattle.signed.specs.Laws.Signed.{pow_half, cut_low, cut_high}
use Rattle.signed.proofs.cut_signed.Goals.{Start}
use Rattle.signed.proofs.cut_signed.Goals as goal

-- over any modulus m that is 2 ^ k
module _ (u k : ℕ) (one : 1 ≤ k) (most : k < 64) {m : ℕ} (e : 2 ^ k ≡ m) where
  some : 1 ≤ m
  some = subst (λ (m : ℕ). 1 ≤ m) e (pow_pos k)

  low : u % m < m / 2 → u % m ≡ word_of (signed_of k u)
  low = subst (λ (m : ℕ). u % m < m / 2 → u % m ≡ word_of (signed_of k u)) e (λ h. sym (cut_low k u (omega arith) (omega (arith, pow_half k one))))

  high_is : u % m + (2 ^ 64 - 1 - (m - 1)) ≡ u % m + (2 ^ 64 - m)
  high_is = omega (arith, some)

  high_fits : u % m + (2 ^ 64 - 1 - (m - 1)) < 2 ^ 64
  high_fits =
      let p : m ≤ 2 ^ 64 = subst (λ (m : ℕ). m ≤ 2 ^ 64) e (pow_mono {j = 64} (omega arith)) in
      omega (arith, some, mod-lt u some)

  high : m / 2 ≤ u % m → u % m + (2 ^ 64 - 1 - (m - 1)) ≡ word_of (signed_of k u)
  high h =
      high_is
      ∙ subst (λ (m : ℕ). m / 2 ≤ u % m → u % m + (2 ^ 64 - m) ≡ word_of (signed_of k u)) e
      (λ h. sym (cut_high k u (omega arith) (omega (arith, pow_half k one)))) h

-- that of the code
modulus_is : (c : Start) → 2 ^ c.args.bits ≡ (1 * 2 ^ c.args.bits) % 2 ^ 64
modulus_is c = sym (shl_exact 1 c.args.bits 64 (omega arith) (omega (arith, c.requires.1)) ∙ one-mul (2 ^ c.args.bits))

pub nonzero_rem-low : goal.nonzero_rem-low
nonzero_rem-low c = some c.args.u _ c.requires.0 c.requires.1 (modulus_is c)

pub returns-then-low-modulus : goal.returns-then-low-modulus
returns-then-low-modulus c =
    low c.args.u _ c.requires.0 c.requires.1 (modulus_is c.before) c.if-low-modulus.true

pub overflow_sub-result : goal.overflow_sub-result
overflow_sub-result c =
    some c.args.u _ c.requires.0 c.requires.1 (modulus_is c.before)

pub overflow_add-result : goal.overflow_add-result
overflow_add-result c =
    record { fits = high_fits c.args.u _ c.requires.0 c.requires.1 (modulus_is c.before) }

pub returns : goal.returns
returns c =
    high c.args.u _ c.requires.0 c.requires.1 (modulus_is c.before) c.if-low-modulus.false
