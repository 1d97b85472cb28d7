-- Zigzag is exact both ways, and so is a 64-bit signed number modulo 2 ^ 64. Assumes nothing.
use Rattle.std.specs.Prelude.{◌≡◌, ◌⊎◌, ℕ, suc, ◌+◌, ◌-◌, ◌*◌, ◌/◌, ◌%◌, ◌^◌, ◌≤◌, ◌<◌, ℤ, pos, negsuc}
use Rattle.std.proofs.Common.{ap, ◌∙◌, inl, inr, ⊎_elim, arith, mod-lt, pow-suc, eq-zero-or-pos, lit≤, pow_pos, pow_mono, lt-ltb, le-ltb, eq-eqb, ne_eqb}
use Rattle.std.specs.Int.Signed.{mag}
use Rattle.signed.specs.Signed.{zigzag_of, unzigzag_of, word_of, signed_of}

-- ---- zigzag

pub unzigzag_even : (u : ℕ) → u % 2 ≡ 0 → unzigzag_of u ≡ pos (u / 2)
unzigzag_even u e = simp (eq-eqb (u % 2) 0 e)

pub unzigzag_odd : (u : ℕ) → u % 2 ≡ 1 → unzigzag_of u ≡ negsuc (u / 2)
unzigzag_odd u e = simp (ne_eqb (u % 2) 0 (omega arith))

pub even_or_odd : (u : ℕ) → (u % 2 ≡ 0) ⊎ (u % 2 ≡ 1)
even_or_odd u = ⊎_elim inl (λ h. inr (omega arith)) (eq-zero-or-pos (u % 2))

pub unzigzag_zigzag : (z : ℤ) → unzigzag_of (zigzag_of z) ≡ z
unzigzag_zigzag (pos n) = unzigzag_even (2 * n) (omega arith) ∙ ap pos (omega arith)
unzigzag_zigzag (negsuc n) = unzigzag_odd (2 * n + 1) (omega arith) ∙ ap negsuc (omega arith)

pub zigzag_unzigzag : (u : ℕ) → zigzag_of (unzigzag_of u) ≡ u
zigzag_unzigzag u =
    ⊎_elim
    (λ (e : u % 2 ≡ 0). ap zigzag_of (unzigzag_even u e) ∙ omega arith)
    (λ (e : u % 2 ≡ 1). ap zigzag_of (unzigzag_odd u e) ∙ omega arith)
    (even_or_odd u)

-- the range of an i64 and that of a u64
pub zigzag_range : (z : ℤ) → mag z < 2 ^ 63 → zigzag_of z < 2 ^ 64
zigzag_range (pos n) h = omega arith
zigzag_range (negsuc n) h = omega arith

pub unzigzag_range : (u : ℕ) → u < 2 ^ 64 → mag (unzigzag_of u) < 2 ^ 63
unzigzag_range u h =
    ⊎_elim (λ (e : u % 2 ≡ 0). rw (unzigzag_even u e) (omega arith)) (λ (e : u % 2 ≡ 1). rw (unzigzag_odd u e) (omega arith)) (even_or_odd u)

-- ---- modulo 2 ^ 64

-- the highest of the k low bits is clear, or set
halves : (k u : ℕ) → (u % 2 ^ k < 2 ^ (k - 1)) ⊎ (2 ^ (k - 1) ≤ u % 2 ^ k)
halves k u = ⊎_elim (λ e. inr (omega arith)) (λ h. inl (omega arith)) (eq-zero-or-pos (2 ^ (k - 1) - u % 2 ^ k))

pub signed_low : (k u : ℕ) → u % 2 ^ k < 2 ^ (k - 1) → signed_of k u ≡ pos (u % 2 ^ k)
signed_low k u h = simp (lt-ltb (u % 2 ^ k) (2 ^ (k - 1)) h)

pub signed_high : (k u : ℕ) → 2 ^ (k - 1) ≤ u % 2 ^ k → signed_of k u ≡ negsuc (2 ^ k - suc (u % 2 ^ k))
signed_high k u h = simp (le-ltb (u % 2 ^ k) (2 ^ (k - 1)) h)

pub signed_word : (z : ℤ) → mag z < 2 ^ 63 → signed_of 64 (word_of z) ≡ z
signed_word (pos n) h =
    let e : n % 2 ^ 64 % 2 ^ 64 ≡ n = omega arith in
    signed_low 64 (n % 2 ^ 64) (omega arith) ∙ ap pos e
signed_word (negsuc n) h =
    let u : ℕ = 2 ^ 64 - suc (n % 2 ^ 64) in
    let e : 2 ^ 64 - suc (u % 2 ^ 64) ≡ n = omega arith in
    signed_high 64 u (omega arith) ∙ ap negsuc e

pub pow_half : (k : ℕ) → 1 ≤ k → 2 ^ k ≡ 2 * 2 ^ (k - 1)
pow_half k h = let e : k ≡ suc (k - 1) = omega arith in ap (λ (j : ℕ). 2 ^ j) e ∙ omega (arith, pow-suc 2 (k - 1))

-- the range of k signed bits, and that of a word
pub signed_range : (k u : ℕ) → 1 ≤ k → mag (signed_of k u) < 2 ^ (k - 1)
signed_range k u h =
    ⊎_elim
    (λ (l : u % 2 ^ k < 2 ^ (k - 1)). rw (signed_low k u l) l)
    (λ (l : 2 ^ (k - 1) ≤ u % 2 ^ k). rw (signed_high k u l) (omega (arith, pow_half k h, pow_pos (k - 1))))
    (halves k u)

pub word_range : (z : ℤ) → word_of z < 2 ^ 64
word_range (pos n) = omega arith
word_range (negsuc n) = omega arith

-- the word of a number that was cut to k signed bits
module _ (k u : ℕ) (hk : k ≤ 64) where
  pub cut_low : u % 2 ^ k < 2 ^ (k - 1) → word_of (signed_of k u) ≡ u % 2 ^ k
  cut_low h =
      let p : 2 ^ k ≤ 2 ^ 64 = pow_mono {j = 64} hk in
      ap word_of (signed_low k u h) ∙ omega (arith, mod-lt u (pow_pos k))

  pub cut_high : 2 ^ (k - 1) ≤ u % 2 ^ k → word_of (signed_of k u) ≡ u % 2 ^ k + (2 ^ 64 - 2 ^ k)
  cut_high h =
      let p : 2 ^ k ≤ 2 ^ 64 = pow_mono {j = 64} hk in
      ap word_of (signed_high k u h) ∙ omega (arith, mod-lt u (pow_pos k))

pub word_signed : (u : ℕ) → u < 2 ^ 64 → word_of (signed_of 64 u) ≡ u
word_signed u h =
    ⊎_elim
    (λ (l : u % 2 ^ 64 < 2 ^ 63). cut_low 64 u (lit≤ tt) l ∙ omega arith)
    (λ (l : 2 ^ 63 ≤ u % 2 ^ 64). cut_high 64 u (lit≤ tt) l ∙ omega arith)
    (halves 64 u)

-- ---- a row's word, written by zigzag and read back

pub word_trip : (w : ℕ) → w < 2 ^ 64 → word_of (unzigzag_of (zigzag_of (signed_of 64 w))) ≡ w
word_trip w h = ap word_of (unzigzag_zigzag (signed_of 64 w)) ∙ word_signed w h

-- the words of the two signs, read
pub word_even : (u : ℕ) → u < 2 ^ 64 → u % 2 ≡ 0 → word_of (unzigzag_of u) ≡ u / 2
word_even u h e = ap word_of (unzigzag_even u e) ∙ omega arith

pub word_odd : (u : ℕ) → u < 2 ^ 64 → u % 2 ≡ 1 → word_of (unzigzag_of u) ≡ 2 ^ 64 - 1 - u / 2
word_odd u h e = ap word_of (unzigzag_odd u e) ∙ omega arith
