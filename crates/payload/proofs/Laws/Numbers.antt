-- The numbers of a payload: what was written of a kind is read of that kind.
use Rattle.std.specs.Prelude.{Bool, cond, false, true, ◌≡◌, ltb, negsuc, pos, ℤ}
use Rattle.std.proofs.Common.{append-nil, ⊎_elim, ◌∙◌, ap, subst, sym, mod-eq_of_lt, sub-add_cancel, arith}
use Rattle.std.proofs.Math.Path.{refl}
use Prim.Native.Nat.{◌%◌, ◌*◌, ◌-◌, ◌<◌, ◌^◌, ◌≤◌, suc, zero, ℕ}
use Rattle.std.proofs.Math.Nat.{add-mul-mod_self_right, mod-mod}
use Rattle.std.proofs.Math.Dec.{leb}
use Rattle.std.proofs.Math.Pow.{high_ones}
use Rattle.std.specs.Int.Signed.{mag}
use borrow.Author.Tests.{eq-eqb, eqb-true, leb-true, ltb-true}
use Rattle.slices.specs.Laws.LittleEndian.{from_le_bytes_to_le_bytes, length_to_le_bytes}
use Rattle.slices.specs.LittleEndian.{to_le_bytes}
use Rattle.signed.specs.Laws.Signed.{cut_high, cut_low, signed_high, signed_low, word_trip, zigzag_range}
use Rattle.varint.specs.Laws.Uleb128.{below_or}
use Rattle.signed.specs.Signed.{signed_of, word_of}
use Rattle.varint.specs.Uleb128.{uleb128}
use Rattle.payload.specs.Choice.{◌or◌, when◌then◌else◌}
use Rattle.payload.specs.Laws.Gives.{Gives, gives_as, gives_bind, gives_body, gives_byte, gives_here, gives_is, gives_must, gives_pure, gives_then}
use Rattle.payload.specs.Laws.Pool.{and_right}
use Rattle.payload.specs.Laws.Varint.{gives_varint}
use Rattle.payload.specs.Numbers.{NumberKind, bool, char, cut_signed, cut_tested, cut_to, cut_to_signed, f32, f64, fits_kind, fits_signed, handle, i16, i32, i64, i8, is_scalar}
use Rattle.payload.specs.Numbers.{read_float, read_number, u16, u32, u64, u8, write_number, zigzag_word}
use Rattle.payload.specs.declared.Capacities.{Capacities}

or_cases : {C : Type 0} (a b : Bool) → (a or b) ≡ true → (a ≡ true → C) → (b ≡ true → C) → C
or_cases true b e f g = f refl
or_cases false b e f g = g e

pub scalar_small : (w : ℕ) → is_scalar w ≡ true → w < 2 ^ 32
unfolding is_scalar
scalar_small w e = or_cases (ltb w 0xd800) _ e (λ q. let l = ltb-true w 0xd800 q in omega arith) (λ q. let l = ltb-true w 0x110000 (and_right _ _ q) in omega arith)

pub word_small : (z : ℤ) → word_of z < 2 ^ 64
word_small (pos n) = omega arith
word_small (negsuc n) = omega arith

signed_small : (k w : ℕ) → fits_signed k w ≡ true → w < 2 ^ 64
unfolding fits_signed
signed_small k w e = subst (λ (x : ℕ). x < 2 ^ 64) (eqb-true (cut_signed k w) w e) (word_small (signed_of k w))

-- the low bits stay when a word is cut to them, so cutting it again changes nothing
cut_keeps : (k u : ℕ) → k ≤ 64 → cut_signed k u % 2 ^ k ≡ u % 2 ^ k
cut_keeps k u h = ⊎_elim low high (below_or (u % 2 ^ k) (2 ^ (k - 1)))
  where
    low : u % 2 ^ k < 2 ^ (k - 1) → cut_signed k u % 2 ^ k ≡ u % 2 ^ k
    low l = rw (cut_low k u h l) (mod-mod u (2 ^ k))

    above : 2 ^ 64 - 2 ^ k ≡ (2 ^ (64 - k) - 1) * 2 ^ k
    above = ap (λ (n : ℕ). 2 ^ n - 2 ^ k) (sym (sub-add_cancel h)) ∙ high_ones (64 - k) k

    high : 2 ^ (k - 1) ≤ u % 2 ^ k → cut_signed k u % 2 ^ k ≡ u % 2 ^ k
    high l = rw (cut_high k u h l, above, add-mul-mod_self_right (u % 2 ^ k) (2 ^ (64 - k) - 1) (2 ^ k)) (mod-mod u (2 ^ k))

pub cut_fits : (k u : ℕ) → k ≤ 64 → fits_signed k (cut_signed k u) ≡ true
unfolding fits_signed
cut_fits k u h = eq-eqb _ _ (ap (λ (x : ℕ). word_of (cond (ltb x (2 ^ (k - 1))) (pos x) (negsuc (2 ^ k - suc x)))) (cut_keeps k u h))

-- a word's zigzag fits
pub zigzag_small : (w : ℕ) → zigzag_word w < 2 ^ 64
zigzag_small w = zigzag_range (signed_of 64 w) (⊎_elim low high (below_or (w % 2 ^ 64) (2 ^ 63)))
  where
    low : w % 2 ^ 64 < 2 ^ 63 → mag (signed_of 64 w) < 2 ^ 63
    low h = rw (signed_low 64 w h) h

    high : 2 ^ 63 ≤ w % 2 ^ 64 → mag (signed_of 64 w) < 2 ^ 63
    high h = rw (signed_high 64 w h) (omega arith)

module _ {c : Capacities} where
  pub gives_cut : (m w : ℕ) → w < m → m ≤ 2 ^ 64 → Gives c (cut_to m) (uleb128 w) 0 0 (λ a. a ≡ w)
  unfolding cut_to
  gives_cut m w h k = gives_as (gives_is _ (gives_varint w (omega arith)) (gives_pure _ (λ a. a ≡ w) (mod-eq_of_lt h))) (simp append-nil) refl refl

  gives_tested : (m : ℕ) (t : ℕ → Bool) (n w : ℕ) → w < m → m ≤ 2 ^ 64 → t w ≡ true → Gives c (cut_tested m t n) (uleb128 w) 0 0 (λ a. a ≡ w)
  unfolding cut_tested
  gives_tested m t n w h k e = gives_bind gives_here (λ p u. gives_as (gives_is _ (gives_cut m w h k) (gives_then (gives_must _ n p e) (gives_pure w (λ a. a ≡ w) refl))) (simp append-nil) refl refl)

  gives_signed : (k w : ℕ) → fits_signed k w ≡ true → Gives c (cut_to_signed k) (uleb128 (zigzag_word w)) 0 0 (λ a. a ≡ w)
  unfolding cut_to_signed fits_signed
  gives_signed k w e = gives_as (gives_is _ (gives_varint (zigzag_word w) (zigzag_small w))
      (gives_pure _ (λ a. a ≡ w) (ap (cut_signed k) (word_trip w (signed_small k w e)) ∙ eqb-true (cut_signed k w) w e))) (simp append-nil) refl refl

  gives_float : (n w : ℕ) → w < 256 ^ n → Gives c (read_float n) (to_le_bytes n w) 0 0 (λ a. a ≡ w)
  unfolding read_float
  gives_float n w h = gives_as (gives_bind (rw (length_to_le_bytes n w) at (gives_body {c = c} (to_le_bytes n w))) (λ l e. gives_pure _ (λ a. a ≡ w) (rw e (from_le_bytes_to_le_bytes n w h)))) (simp append-nil) refl refl

  pub gives_number : (k : NumberKind) (w : ℕ) → fits_kind k w ≡ true → Gives c (read_number k) (write_number k w) 0 0 (λ a. a ≡ w)
  unfolding read_number write_number fits_kind when◌then◌else◌
  gives_number u64 w e = gives_varint w (ltb-true w (2 ^ 64) e)
  gives_number u32 w e = gives_cut (2 ^ 32) w (ltb-true w (2 ^ 32) e) (omega arith)
  gives_number u16 w e = gives_cut (2 ^ 16) w (ltb-true w (2 ^ 16) e) (omega arith)
  gives_number u8 w e = gives_byte w
  gives_number i64 w e = gives_as (gives_is _ (gives_varint (zigzag_word w) (zigzag_small w)) (gives_pure _ (λ a. a ≡ w) (word_trip w (ltb-true w (2 ^ 64) e)))) (simp append-nil) refl refl
  gives_number i32 w e = gives_signed 32 w e
  gives_number i16 w e = gives_signed 16 w e
  gives_number i8 w e = gives_signed 8 w e
  gives_number bool zero e = gives_is _ (gives_byte 0) (gives_pure _ (λ a. a ≡ 0) refl)
  gives_number bool (suc zero) e = gives_is _ (gives_byte 1) (gives_pure _ (λ a. a ≡ 1) refl)
  gives_number bool (suc (suc w)) e = let l = ltb-true (suc (suc w)) 2 e in absurd (omega arith)
  gives_number char w e = gives_tested (2 ^ 32) is_scalar 6 w (scalar_small w e) (omega arith) e
  gives_number handle w e = let l = leb-true w 5 e in gives_tested (2 ^ 8) (λ v. leb v 5) 12 w (omega arith) (omega arith) e
  gives_number f64 w e = gives_float 8 w (ltb-true w (2 ^ 64) e)
  gives_number f32 w e = gives_float 4 w (ltb-true w (2 ^ 32) e)
