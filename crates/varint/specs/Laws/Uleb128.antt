-- Laws of `uleb128`: what a proof cites in the place of the definition's text. Assumes nothing.
use Rattle.std.specs.Prelude.{◌≡◌, refl, List, [], ◌∷◌, Bool, true, false, ◌⊎◌, ℕ, zero, suc, ◌+◌, ◌-◌, ◌*◌, ◌/◌, ◌%◌, ◌^◌, ◌≤◌, ◌<◌, ltb, length, get_or}
use Rattle.std.proofs.Common.{sym, ap, ◌∙◌, inl, inr, arith, mul-suc, mul_comm, le_antisymm, lt_of_lt_of_le, pow-suc, lt-ltb, le-ltb, ltb-true, ltb-false, pow-add, pow_pos, pow_mono}
use Rattle.std.specs.Int.Count.{count_leading_zeros}
use Rattle.std.proofs.lemmas.Nat.{leading_length}
use Rattle.varint.specs.Uleb128.{groups, uleb128}

-- one number is below another, or not
pub below_or : (a b : ℕ) → (a < b) ⊎ (b ≤ a)
below_or a b = go (ltb a b) refl
  where
    go : (t : Bool) → ltb a b ≡ t → (a < b) ⊎ (b ≤ a)
    go true e = inl (ltb-true a b e)
    go false e = inr (ltb-false a b e)

groups_small : (k n : ℕ) → n < 128 → groups k n ≡ n ∷ []
unfolding groups
groups_small zero n h = refl
groups_small (suc k) n h = simp (lt-ltb n 128 h)

groups_large : (k n : ℕ) → 128 ≤ n → groups (suc k) n ≡ (n % 128 + 128) ∷ groups k (n / 128)
unfolding groups
groups_large k n h = simp (le-ltb n 128 h)

-- any count of groups from n on gives the same
groups_enough : (j k n : ℕ) → n ≤ j → n ≤ k → groups j n ≡ groups k n
groups_enough zero k n h l = groups_small zero n (omega arith) ∙ sym (groups_small k n (omega arith))
groups_enough (suc j) zero n h l = groups_small (suc j) n (omega arith) ∙ sym (groups_small zero n (omega arith))
groups_enough (suc j) (suc k) n h l = go (λ (p : 128 ≤ n). groups_enough j k (n / 128) (omega arith) (omega arith)) (below_or n 128)
  where
    go : (128 ≤ n → groups j (n / 128) ≡ groups k (n / 128)) → (n < 128) ⊎ (128 ≤ n) → groups (suc j) n ≡ groups (suc k) n
    go rest (inl p) = groups_small (suc j) n p ∙ sym (groups_small (suc k) n p)
    go rest (inr p) =
        groups_large j n p
        ∙ ap (λ (r : List ℕ). (n % 128 + 128) ∷ r) (rest p)
        ∙ sym (groups_large k n p)

-- a number of one group
pub uleb_small : (n : ℕ) → n < 128 → uleb128 n ≡ n ∷ []
unfolding uleb128
uleb_small n h = groups_small n n h

-- a longer one: its low group with bit 7 set, and then the rest's
pub uleb_large : (n : ℕ) → 128 ≤ n → uleb128 n ≡ (n % 128 + 128) ∷ uleb128 (n / 128)
unfolding uleb128
uleb_large zero h = absurd (omega arith)
uleb_large (suc n) h =
    groups_large n (suc n) h
    ∙ ap (λ (r : List ℕ). (suc n % 128 + 128) ∷ r) (groups_enough n (suc n / 128) (suc n / 128) (omega arith) (omega arith))

-- induction on a number's groups
pub by_groups : (P : ℕ → Type 0) → ((n : ℕ) → n < 128 → P n) → ((n : ℕ) → 128 ≤ n → P (n / 128) → P n) → (n : ℕ) → P n
by_groups P one more n = go n n (omega arith)
  where
    pick : (m : ℕ) → (128 ≤ m → P (m / 128)) → (m < 128) ⊎ (128 ≤ m) → P m
    pick m rest (inl h) = one m h
    pick m rest (inr h) = more m h (rest h)

    go : (f m : ℕ) → m ≤ f → P m
    go zero m h = one m (omega arith)
    go (suc f) m h = pick m (λ l. go f (m / 128) (omega arith)) (below_or m 128)

-- at least one byte
pub uleb_some : (n : ℕ) → 1 ≤ length (uleb128 n)
uleb_some n = by_groups (λ (m : ℕ). 1 ≤ length (uleb128 m)) (λ m h. rw (uleb_small m h) (omega arith)) (λ m h l. rw (uleb_large m h) (omega arith)) n

-- each of its bytes is one
pub uleb_bytes : (n i : ℕ) → get_or (uleb128 n) i 0 < 256
uleb_bytes n i = by_groups (λ (m : ℕ). (i : ℕ) → get_or (uleb128 m) i 0 < 256) (λ m h i. rw (uleb_small m h) (one m h i)) (λ m h l i. rw (uleb_large m h) (more m l i)) n i
  where
    one : (m : ℕ) → m < 128 → (i : ℕ) → get_or (m ∷ []) i 0 < 256
    one m h zero = omega arith
    one m h (suc i) = omega arith

    more : (m : ℕ) → ((i : ℕ) → get_or (uleb128 (m / 128)) i 0 < 256) → (i : ℕ) → get_or ((m % 128 + 128) ∷ uleb128 (m / 128)) i 0 < 256
    more m l zero = omega arith
    more m l (suc i) = l i

-- ---- the length, by the number's length in bits

pub pow_seven : (k : ℕ) → 2 ^ (7 * suc k) ≡ 128 * 2 ^ (7 * k)
pow_seven k = ap (λ (x : ℕ). 2 ^ x) (mul-suc 7 k) ∙ pow-add 2 (7 * k) 7 ∙ mul_comm (2 ^ (7 * k)) 128

-- k + 1 groups hold every number below 2 ^ (7 (k + 1))
pub uleb_at_most : (k n : ℕ) → n < 2 ^ (7 * suc k) → length (uleb128 n) ≤ suc k
uleb_at_most zero n h = rw (uleb_small n h) (omega arith)
uleb_at_most (suc k) n h = go (λ (l : n / 128 < 2 ^ (7 * suc k)). uleb_at_most k (n / 128) l) (below_or n 128)
  where
    go : (n / 128 < 2 ^ (7 * suc k) → length (uleb128 (n / 128)) ≤ suc k) → (n < 128) ⊎ (128 ≤ n) → length (uleb128 n) ≤ suc (suc k)
    go rest (inl p) = rw (uleb_small n p) (omega arith)
    go rest (inr p) = rw (uleb_large n p) (let l = rest (omega (arith, pow_seven (suc k))) in omega arith)

-- and no fewer groups hold one that is not below 2 ^ (7 k)
pub uleb_at_least : (k n : ℕ) → 2 ^ (7 * k) ≤ n → suc k ≤ length (uleb128 n)
uleb_at_least zero n h = uleb_some n
uleb_at_least (suc k) n h =
    let p : 128 ≤ n = omega (arith, pow_seven k, pow_pos (7 * k)) in
    let l = uleb_at_least k (n / 128) (omega (arith, pow_seven k)) in
    rw (uleb_large n p) (omega arith)

-- a number of m bits, with seven bits to a group, and one group for 0
pub uleb_length : (n m k : ℕ) → n < 2 ^ m → 2 ^ m ≤ 2 * n + 1 → m ≤ 7 * suc k → 7 * k ≤ m - 1 → length (uleb128 n) ≡ suc k
uleb_length n m k h l above below = le_antisymm (uleb_at_most k n (lt_of_lt_of_le h (pow_mono above))) (least k below)
  where
    least : (j : ℕ) → 7 * j ≤ m - 1 → suc j ≤ length (uleb128 n)
    least zero b = uleb_some n
    least (suc j) b =
        let q : 2 ^ suc (7 * suc j) ≤ 2 ^ m = pow_mono (omega arith) in
        uleb_at_least (suc j) n (omega (arith, pow-suc 2 (7 * suc j)))

-- the same from the count of leading zeros: seven bits to each of r groups, none of them idle
pub uleb_width : (n r : ℕ) → n < 2 ^ 64 → 1 ≤ r → 64 - count_leading_zeros 64 n ≤ 7 * r → 7 * (r - 1) ≤ 64 - count_leading_zeros 64 n - 1 → r ≡ length (uleb128 n)
uleb_width n r h one above below =
    let s = leading_length 64 n h in
    let m : s.0 ≡ 64 - count_leading_zeros 64 n = omega (arith, s.1) in
    let e = uleb_length n s.0 (r - 1) s.2 s.3 (omega arith) (omega arith) in
    omega arith
