-- The high bits of a word tell which of its bytes are ASCII: all where they are 0, and those below the lowest one set.
use mathlib.Core.Path.{◌≡◌, refl, sym, ap, ◌∙◌, subst}
use mathlib.Core.Bool.{Bool, true, ◌&&◌}
use mathlib.Core.Logic.{⊎_elim}
use mathlib.Core.List.{List}
use Prim.Native.Nat.{ℕ, zero, suc, ◌+◌, ◌*◌, ◌^◌, ◌/◌, ◌%◌, ◌≤◌, ◌<◌}
use native.Mathlib.Nat.{eq-or-lt_of_le, zero-mod, mod-one}
use native.Mathlib.Numerals.{add-one}
use native.Mathlib.Omega.{arith}
use lib.Bits.{bit_and, and_block, and_high, and_le_r}
use lib.Count.{count_trailing_zeros, under}
use lib.ListN.{length, get_or, take, drop, replicate}
use lib.Pow.{mod-pow-add, mod-mod-pow}
use borrow.Author.Tests.{eqb-true}
use lib.Dec.{eqb}
use Rattle.slices.specs.LittleEndian.{from_le_bytes}
use Rattle.slices.specs.Laws.LittleEndian.{Bytes, bytes_first}
use Rattle.utf8.specs.Skips.{Ascii, high_bits}
use Rattle.utf8.specs.Laws.Utf8.{le_or_lt}
use Rattle.utf8.proofs.Runs.{run_and}

-- a byte whose bit 7 is clear is ASCII
bit_clear : (b : ℕ) → b < 256 → bit_and b 128 ≡ 0 → b < 128
bit_clear b h e =
    ⊎_elim (λ l. omega arith)
    (λ g. let q : b / 128 ≡ 1 = omega arith in
    absurd (omega (arith, and_high b 1 7, ap (λ (n : ℕ). n % 2) q)))
    (le_or_lt b 127)

-- the lowest byte of a number and the mask's, and n more
mask_step : (n b f m : ℕ) → b < 256 → bit_and (b + 256 * f) (128 + 256 * m) % 2 ^ (8 * suc n) ≡ 0 → (bit_and f m % 2 ^ (8 * n) ≡ 0) × (b < 128)
mask_step n b f m h e =
    let x : b + 256 * f ≡ f * 2 ^ 8 + b = omega arith in
    let y : 128 + 256 * m ≡ m * 2 ^ 8 + 128 = omega arith in
    let q : 8 * suc n ≡ 8 * n + 8 = omega arith in
    let w : ℕ = bit_and f m * 2 ^ 8 + bit_and b 128 in
    let z : bit_and (b + 256 * f) (128 + 256 * m) ≡ w = rw (x, y) (and_block 8 f m b 128 h (omega arith)) in
    let l = and_le_r b 128 in
    let d : w / 2 ^ 8 ≡ bit_and f m = omega arith in
    let p : w % 2 ^ (8 * n + 8) ≡ bit_and f m % 2 ^ (8 * n) * 2 ^ 8 + w % 2 ^ 8 = rw d at (mod-pow-add w (8 * n) 8) in
    let r : w % 2 ^ (8 * n + 8) ≡ 0 = rw (z, q) at e in
    (omega arith, bit_clear b h (omega arith))

-- the first n of N bytes
first_bytes : (n N : ℕ) (s : List ℕ) (i : ℕ) → n ≤ N → i + N ≤ length s → Bytes s
    → bit_and (from_le_bytes (take N (drop i s))) (from_le_bytes (replicate N 128)) % 2 ^ (8 * n) ≡ 0 → Ascii s i (i + n)
unfolding from_le_bytes
first_bytes zero N s i l h small e k a b = absurd (omega arith)
first_bytes (suc n) zero s i l h small e k a b = absurd (omega arith)
first_bytes (suc n) (suc N) s i l h small e k a b =
    let m = from_le_bytes (replicate N 128) in
    let r = mask_step n (get_or s i 0) (from_le_bytes (take N (drop (i + 1) s))) m (small i) (rw (bytes_first s i (i + 1) N (omega arith) refl) at e) in
    ⊎_elim (λ q. subst (λ (j : ℕ). get_or s j 0 < 128) q r.1)
    (λ q. first_bytes n N s (i + 1) (omega arith) (omega arith) small r.0 k (omega arith) (omega arith))
    (eq-or-lt_of_le a)

-- a number has its trailing zeros
low_zeros : (d t n : ℕ) → n % 2 ≡ d → n / 2 % 2 ^ t ≡ 0 → n % 2 ^ under d t ≡ 0
low_zeros zero t n e h = ap (λ (k : ℕ). n % 2 ^ k) (sym (add-one t)) ∙ mod-pow-add n t 1 ∙ omega arith
low_zeros (suc d) t n e h = mod-one n

trailing_mod : (k n : ℕ) → n % 2 ^ count_trailing_zeros k n ≡ 0
unfolding count_trailing_zeros
trailing_mod zero n = mod-one n
trailing_mod (suc k) n = low_zeros (n % 2) (count_trailing_zeros k (n / 2)) n refl (trailing_mod k (n / 2))

whole_bytes : (m t : ℕ) → m % 2 ^ t ≡ 0 → m % 2 ^ (8 * (t / 8)) ≡ 0
whole_bytes m t e =
    let q : t % 8 + 8 * (t / 8) ≡ t = omega arith in
    let p : ℕ = 2 ^ (8 * (t / 8)) in
    sym (mod-mod-pow m (t % 8) (8 * (t / 8))) ∙ ap (λ (k : ℕ). m % 2 ^ k % p) q ∙ ap (λ (k : ℕ). k % p) e ∙ zero-mod p

module _ (s : List ℕ) (i : ℕ) (h : i + 8 ≤ length s) (small : Bytes s) where
  pub word_ascii : high_bits s i ≡ 0 → Ascii s i (i + 8)
  unfolding from_le_bytes
  word_ascii e = first_bytes 8 8 s i (omega arith) h small (ap (λ (n : ℕ). n % 2 ^ 64) e)

  pub test_ascii : (r : ℕ) → r ≡ high_bits s i → eqb r 0 ≡ true → Ascii s i (i + 8)
  test_ascii r e t = word_ascii (sym e ∙ eqb-true r 0 t)

  -- those below the lowest high bit
  pub prefix_ascii : (n : ℕ) → n ≤ 8 → n ≡ count_trailing_zeros 64 (high_bits s i) / 8 → Ascii s i (i + n)
  unfolding from_le_bytes
  prefix_ascii n l e =
      let m = high_bits s i in
      first_bytes n 8 s i l h small (ap (λ (k : ℕ). m % 2 ^ (8 * k)) e ∙ whole_bytes m _ (trailing_mod 64 m))

-- two tests of runs, end to end
pub ascii_and : (s : List ℕ) (f i j : ℕ) (p q : Bool) → (p ≡ true → Ascii s f i) → (q ≡ true → Ascii s i j) → p && q ≡ true → Ascii s f j
ascii_and s = run_and (λ k. get_or s k 0 < 0x80)
