-- Laws of `decimal`, and that the fewest decimal digits that hold a number are it.
use Rattle.std.specs.Prelude.{◌≡◌, refl, List, [], ◌∷◌, ◌++◌, ◌⊎◌, ℕ, zero, suc, ◌+◌, ◌-◌, ◌/◌, ◌%◌, ◌^◌, ◌≤◌, ◌<◌}
use Rattle.std.proofs.Common.{sym, ap, ◌∙◌, inl, inr, ⊎_elim, arith, pow-suc, lt-ltb, le-ltb}
use Rattle.std.proofs.Math.Nat.{one-le-pow, pow-le-pow_right}
use Rattle.io.specs.Digits.{last_digits, IsDigitCount}
use Rattle.varint.specs.Laws.Uleb128.{below_or}
use Rattle.listing.specs.Listing.{decimal, decimal_digits}

digits_small : (k n : ℕ) → n < 10 → decimal_digits k n ≡ (48 + n) ∷ []
unfolding decimal_digits
digits_small zero n h = refl
digits_small (suc k) n h = simp (lt-ltb n 10 h)

digits_large : (k n : ℕ) → 10 ≤ n → decimal_digits (suc k) n ≡ decimal_digits k (n / 10) ++ ((48 + n % 10) ∷ [])
unfolding decimal_digits
digits_large k n h = simp (le-ltb n 10 h)

-- any count of digits from n on gives the same
digits_enough : (j k n : ℕ) → n ≤ j → n ≤ k → decimal_digits j n ≡ decimal_digits k n
digits_enough zero k n h l = digits_small zero n (omega arith) ∙ sym (digits_small k n (omega arith))
digits_enough (suc j) zero n h l = digits_small (suc j) n (omega arith) ∙ sym (digits_small zero n (omega arith))
digits_enough (suc j) (suc k) n h l = go (λ (p : 10 ≤ n). digits_enough j k (n / 10) (omega arith) (omega arith)) (below_or n 10)
  where
    go : (10 ≤ n → decimal_digits j (n / 10) ≡ decimal_digits k (n / 10)) → (n < 10) ⊎ (10 ≤ n) → decimal_digits (suc j) n ≡ decimal_digits (suc k) n
    go rest (inl p) = digits_small (suc j) n p ∙ sym (digits_small (suc k) n p)
    go rest (inr p) =
        digits_large j n p
        ∙ ap (λ (r : List ℕ). r ++ ((48 + n % 10) ∷ [])) (rest p)
        ∙ sym (digits_large k n p)

pub decimal_small : (n : ℕ) → n < 10 → decimal n ≡ (48 + n) ∷ []
unfolding decimal
decimal_small n h = digits_small n n h

pub decimal_large : (n : ℕ) → 10 ≤ n → decimal n ≡ decimal (n / 10) ++ ((48 + n % 10) ∷ [])
unfolding decimal
decimal_large zero h = absurd (omega arith)
decimal_large (suc n) h =
    digits_large n (suc n) h
    ∙ ap (λ (r : List ℕ). r ++ ((48 + suc n % 10) ∷ [])) (digits_enough n (suc n / 10) (suc n / 10) (omega arith) (omega arith))

-- the fewest digits of the kit's `decimal` are those of the definition
last_digit : (k n : ℕ) → last_digits 10 (suc k) n ≡ last_digits 10 k (n / 10) ++ ((48 + n % 10) ∷ [])
last_digit k n = simp (lt-ltb (n % 10) 10 (omega arith))

pub fewest_decimal : (k n : ℕ) → IsDigitCount 10 1 n k → last_digits 10 k n ≡ decimal n
fewest_decimal zero n f = absurd (omega (arith, f.0))
fewest_decimal (suc zero) n f =
    let h : n < 10 = f.1 in
    let e : n % 10 ≡ n = omega arith in
    last_digit 0 n ∙ rw e (sym (decimal_small n h))
fewest_decimal (suc (suc k)) n f =
    let some = one-le-pow k 10 (omega arith) in
    let e : suc (suc k) - 1 ≡ suc k = omega arith in
    let e' : suc k - 1 ≡ k = omega arith in
    let least : 10 ^ suc k ≤ n = rw e at (f.2 (omega arith)) in
    let low = pow-suc 10 k in
    let high = pow-suc 10 (suc k) in
    let rest = fewest_decimal (suc k) (n / 10) (omega arith, omega (arith, f.1), λ h. rw e' (omega arith)) in
    last_digit (suc k) n ∙ ap (λ (l : List ℕ). l ++ ((48 + n % 10) ∷ [])) rest ∙ sym (decimal_large n (omega arith))

-- as many digits as hold a number are no fewer than its fewest
pub fewest_at_most : (most n k : ℕ) → 1 ≤ most → n < 10 ^ most → IsDigitCount 10 1 n k → k ≤ most
fewest_at_most most n k some h f = ⊎_elim over (λ l. l) (below_or most k)
  where
    over : most < k → k ≤ most
    over l =
        let least : 10 ^ (k - 1) ≤ n = f.2 (omega arith) in
        let more : 10 ^ most ≤ 10 ^ (k - 1) = pow-le-pow_right (omega arith) (omega arith) in
        absurd (omega arith)
