-- An entry of a table of digits, by a shift of the word that has it.
use Rattle.std.specs.Prelude.{List, ◌++◌, ◌≡◌, refl, length, get_or}
use Rattle.std.proofs.Common.{sym, ◌∙◌, div-one, shr-shr, get_or-append-add}
use Rattle.std.proofs.Math.Path.{ap}
use Prim.Native.Nat.{ℕ, zero, suc, ◌+◌, ◌-◌, ◌*◌, ◌/◌, ◌%◌, ◌^◌, ◌≤◌, ◌<◌, min}
use native.Mathlib.Omega.{arith}
use Rattle.std.proofs.Math.ListN.{get_or-append}
use Rattle.row_layout.specs.Digits.{digits, entries}

digits_length : (n w : ℕ) → length (digits n w) ≡ n
unfolding digits
digits_length zero w = refl
digits_length (suc n) w = ap suc (digits_length n (w / 16))

digit_at : (n w k : ℕ) → k < n → get_or (digits n w) k 0 ≡ w / 2 ^ (4 * k) % 16
unfolding digits
digit_at zero w k h = absurd (omega arith)
digit_at (suc n) w zero h = ap (λ (x : ℕ). x % 16) (sym (div-one w))
digit_at (suc n) w (suc k) h =
    let e : 4 + 4 * k ≡ 4 * suc k = omega arith in
    digit_at n (w / 16) k (omega arith) ∙ ap (λ (x : ℕ). x % 16) (shr-shr w 4 (4 * k)) ∙ ap (λ (x : ℕ). w / 2 ^ x % 16) e

-- past the digits of a word
digits_past : (n w : ℕ) (l : List ℕ) (k : ℕ) → n ≤ k → get_or (digits n w ++ l) k 0 ≡ get_or l (k - n) 0
digits_past n w l k h =
    let e : k ≡ length (digits n w) + (k - n) = omega (arith, digits_length n w) in
    ap (λ (x : ℕ). get_or (digits n w ++ l) x 0) e ∙ get_or-append-add (digits n w) l (k - n) 0

-- among them
digits_first : (n w : ℕ) (l : List ℕ) (k : ℕ) → k < n → get_or (digits n w ++ l) k 0 ≡ w / 2 ^ (4 * k) % 16
digits_first n w l k h = get_or-append (digits n w) l 0 k (omega (arith, digits_length n w)) ∙ digit_at n w k h

module _ (low middle high t : ℕ) where
  pub entry_low : t < 16 → get_or (entries low middle high) (min t 34) 0 ≡ low / 2 ^ (4 * t) % 16
  unfolding entries
  entry_low h = let e : min t 34 ≡ t = omega arith in rw e (digits_first 16 low (digits 16 middle ++ digits 3 high) t h)

  pub entry_middle : 16 ≤ t → t < 32 → get_or (entries low middle high) (min t 34) 0 ≡ middle / 2 ^ (4 * (t - 16)) % 16
  unfolding entries
  entry_middle a b =
      let e : min t 34 ≡ t = omega arith in
      rw e (digits_past 16 low (digits 16 middle ++ digits 3 high) t a ∙ digits_first 16 middle (digits 3 high) (t - 16) (omega arith))

  pub entry_high : 32 ≤ t → t < 35 → get_or (entries low middle high) (min t 34) 0 ≡ high / 2 ^ (4 * (t - 32)) % 16
  unfolding entries
  entry_high a b =
      let e : min t 34 ≡ t = omega arith in
      let d : t - 16 - 16 ≡ t - 32 = omega arith in
      rw e (digits_past 16 low (digits 16 middle ++ digits 3 high) t (omega arith) ∙ digits_past 16 middle (digits 3 high) (t - 16) (omega arith)
      ∙ digit_at 3 high (t - 16 - 16) (omega arith) ∙ ap (λ (x : ℕ). high / 2 ^ (4 * x) % 16) d)

-- a tag that no row has
pub entry_none : (low middle high t : ℕ) → 34 ≤ t → get_or (entries low middle high) (min t 34) 0 ≡ high / 2 ^ 8 % 16
entry_none low middle high t h = let e : min t 34 ≡ 34 = omega arith in rw e (entry_high low middle high 34 (omega arith) (omega arith))
