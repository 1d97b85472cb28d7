-- What was written is read back, and what is read in its shortest length was written. Assumes nothing.
use Rattle.std.specs.Prelude.{◌≡◌, refl, ◌⊎◌, drop}
use Rattle.std.proofs.Math.Path.{sym, ap, subst}
use Rattle.std.proofs.Common.{◌∙◌, inl, inr, mod-eq_of_lt, mul_assoc, mul-le-mul_left, length-drop, pow_mono, drop_at, drop-drop, get_or-drop}
use mathlib.Core.List.{List, [], ◌∷◌, ◌++◌, append_assoc}
use Rattle.std.proofs.Math.Logic.{⊎_elim}
use Prim.Native.Nat.{ℕ, zero, suc, ◌+◌, ◌-◌, ◌*◌, ◌/◌, ◌%◌, ◌^◌, ◌≤◌, ◌<◌}
use native.Mathlib.Omega.{arith}
use Rattle.std.proofs.Math.ListN.{length, get_or}
use Rattle.varint.specs.Varint.{Varint}
use Rattle.varint.specs.Varint.{Number, Refused}
use Rattle.varint.specs.Uleb128.{uleb128}
use Rattle.varint.specs.Varint.{under, scan, cut, varint_of}
use Rattle.varint.specs.Laws.Uleb128.{below_or, uleb_small, uleb_large, uleb_some, uleb_at_most, pow_seven}
use Rattle.varint.specs.Laws.Varint.{scan_none, scan_end, scan_last, scan_more}

never {ℓ} : {A : Type ℓ} {w p n next : ℕ} → Refused w p ≡ Number n next → A
never e = let z : ◌≡◌ {A = ℕ} 0 1 = cc in absurd (omega arith)

-- a number of more than one byte
many : (n : ℕ) → 1 < length (uleb128 n) → 128 ≤ n
many n h = ⊎_elim (λ p. let u = ap length (uleb_small n p) in omega arith) (λ p. p) (below_or n 128)

-- The last of the bytes read, the one at j, has bit 7 clear, and the number is its place's weight times it, and less than that weight more.
record Top (bytes : List ℕ) (k v j : ℕ) : Type 0 where
  within : j < k
  ended : get_or bytes j 0 < 128
  below : v < 2 ^ (7 * j) * suc (get_or bytes j 0)
  least : 2 ^ (7 * j) * get_or bytes j 0 ≤ v

-- a number read from fewer than ten bytes, or whose tenth byte is at most 1, is below 2 ^ 64
top_fits : (bytes : List ℕ) (v j : ℕ) → Top bytes 10 v j → (j ≡ 9 → get_or bytes 9 0 < 2) → v < 2 ^ 64
top_fits bytes v j t tenth = ⊎_elim short long (below_or j 9)
  where
    short : j < 9 → v < 2 ^ 64
    short h =
        let x : ℕ = 2 ^ (7 * j) in
        let p : 2 ^ (7 * suc j) ≤ 2 ^ 63 = pow_mono {j = 63} (omega arith) in
        let q : x * suc (get_or bytes j 0) ≤ x * 128 = mul-le-mul_left x t.ended in
        omega (arith, t.below, pow_seven j)

    long : 9 ≤ j → v < 2 ^ 64
    long h =
        let e : j ≡ 9 = omega (arith, t.within) in
        let b : v < 2 ^ 63 * suc (get_or bytes 9 0) = subst (λ (k : ℕ). v < 2 ^ (7 * k) * suc (get_or bytes k 0)) e t.below in
        omega (arith, tenth e)

module _ (first : ℕ) where
  -- ---- written, then read

  scan_uleb : (k n : ℕ) (post : List ℕ) (at : ℕ) → length (uleb128 n) ≤ k → scan first k (uleb128 n ++ post) at ≡ Number n (at + length (uleb128 n))
  scan_uleb zero n post at h = absurd (omega (arith, uleb_some n))
  scan_uleb (suc k) n post at h = go (λ l. scan_uleb k (n / 128) post (at + 1) l) (below_or n 128)
    where
      go : (length (uleb128 (n / 128)) ≤ k → scan first k (uleb128 (n / 128) ++ post) (at + 1) ≡ Number (n / 128) (at + 1 + length (uleb128 (n / 128))))
          → (n < 128) ⊎ (128 ≤ n) → scan first (suc k) (uleb128 n ++ post) at ≡ Number n (at + length (uleb128 n))
      go rest (inl p) = rw (uleb_small n p) (scan_last first k n post at p)
      go rest (inr p) =
          let u = ap length (uleb_large n p) in
          let low : (n % 128 + 128) % 128 ≡ n % 128 = omega arith in
          let value : n % 128 + 128 * (n / 128) ≡ n = omega arith in
          let place : at + 1 + length (uleb128 (n / 128)) ≡ at + length (uleb128 n) = omega arith in
          ap (λ (l : List ℕ). scan first (suc k) (l ++ post) at) (uleb_large n p)
          ∙ scan_more first k (n % 128 + 128) (uleb128 (n / 128) ++ post) at (omega arith)
          ∙ simp (low, rest (omega arith), value, place)

  -- ---- read, then what stood there

  -- how a number was read: by one byte, or by a byte with bit 7 set and a number after it
  Last : (b at n next : ℕ) → Type 0
  Last b at n next = (b < 128) × (n ≡ b) × (next ≡ at + 1)

  More : (k b : ℕ) (bytes : List ℕ) (at n next : ℕ) → Type 0
  More k b bytes at n next = (m : ℕ) × (128 ≤ b) × (scan first k bytes (at + 1) ≡ Number m next) × (n ≡ b % 128 + 128 * m)

  was_read : (k b : ℕ) (bytes : List ℕ) (at n next : ℕ) → scan first (suc k) (b ∷ bytes) at ≡ Number n next → Last b at n next ⊎ More k b bytes at n next
  unfolding Last More
  was_read k b bytes at n next e = go (below_or b 128)
    where
      rest : (x : Varint) → 128 ≤ b → scan first k bytes (at + 1) ≡ x → under (b % 128) x ≡ Number n next → More k b bytes at n next
      rest (Number m p) h q r = (m, h, (cc), (cc))
      rest (Refused w p) h q r = never r

      go : (b < 128) ⊎ (128 ≤ b) → Last b at n next ⊎ More k b bytes at n next
      go (inl h) = let r : Number b (at + 1) ≡ Number n next = sym (scan_last first k b bytes at h) ∙ e in inl (h, (cc), (cc))
      go (inr h) = inr (rest (scan first k bytes (at + 1)) h refl (sym (scan_more first k b bytes at h) ∙ e))

  -- a number that is read has at least one byte
  scan_after : (k : ℕ) (bytes : List ℕ) (at n next : ℕ) → scan first k bytes at ≡ Number n next → at < next
  unfolding Last More
  scan_after zero bytes at n next e = never (sym (scan_none first bytes at) ∙ e)
  scan_after (suc k) [] at n next e = never (sym (scan_end first k at) ∙ e)
  scan_after (suc k) (b ∷ bytes) at n next e =
      ⊎_elim (λ w. omega (arith, w.2)) (λ w. let l = scan_after k bytes (at + 1) w.0 next w.2 in omega arith) (was_read k b bytes at n next e)

  scan_is_uleb : (k : ℕ) (bytes : List ℕ) (at n next : ℕ) → ((i : ℕ) → get_or bytes i 0 < 256) → scan first k bytes at ≡ Number n next → next ≡ at + length (uleb128 n)
      → bytes ≡ uleb128 n ++ drop (length (uleb128 n)) bytes
  unfolding Last More
  scan_is_uleb zero bytes at n next small e l = never (sym (scan_none first bytes at) ∙ e)
  scan_is_uleb (suc k) [] at n next small e l = never (sym (scan_end first k at) ∙ e)
  scan_is_uleb (suc k) (b ∷ bytes) at n next small e l =
      ⊎_elim
      (λ (w : Last b at n next). let p : n < 128 = omega (arith, w.0, w.1) in rw (uleb_small n p) (ap (λ (x : ℕ). x ∷ bytes) (sym w.1)))
      (λ (w : More k b bytes at n next).
      let m : ℕ = w.0 in
      let after = scan_after k bytes (at + 1) m next w.2 in
      let long : 128 ≤ n = many n (omega arith) in
      let u = ap length (uleb_large n long) in
      let high : n / 128 ≡ m = omega (arith, w.3) in
      let low : n % 128 + 128 ≡ b = omega (arith, w.1, w.3, small 0) in
      let v = ap (λ (x : ℕ). length (uleb128 x)) high in
      let tail = scan_is_uleb k bytes (at + 1) m next (λ i. small (suc i)) w.2 (omega arith) in
      rw (uleb_large n long, high, low) (ap (λ (r : List ℕ). b ∷ r) tail))
      (was_read k b bytes at n next e)

  scan_top : (k : ℕ) (bytes : List ℕ) (at v next j : ℕ) → scan first k bytes at ≡ Number v next → next ≡ at + suc j → Top bytes k v j
  unfolding Last More
  scan_top zero bytes at v next j e l = never (sym (scan_none first bytes at) ∙ e)
  scan_top (suc k) [] at v next j e l = never (sym (scan_end first k at) ∙ e)
  scan_top (suc k) (b ∷ bytes) at v next zero e l =
      ⊎_elim
      (λ (w : Last b at v next). record { within = omega arith; ended = w.0; below = omega (arith, w.1); least = omega (arith, w.1) })
      (λ (w : More k b bytes at v next). let p = scan_after k bytes (at + 1) w.0 next w.2 in absurd (omega arith))
      (was_read k b bytes at v next e)
  scan_top (suc k) (b ∷ bytes) at v next (suc j) e l =
      ⊎_elim
      (λ (w : Last b at v next). absurd (omega (arith, w.2)))
      (λ (w : More k b bytes at v next).
      let t = scan_top k bytes (at + 1) w.0 next j w.2 (omega arith) in
      let m : ℕ = w.0 in
      let x : ℕ = 2 ^ (7 * j) * suc (get_or bytes j 0) in
      let h : m < x = t.below in
      let g : v < 128 * x = omega (arith, w.3) in
      let y : ℕ = 2 ^ (7 * j) * get_or bytes j 0 in
      let a : 128 * y ≤ v = omega (arith, w.3, t.least) in
      let weight : (d : ℕ) → 128 * (2 ^ (7 * j) * d) ≡ 2 ^ (7 * suc j) * d = λ d. sym (mul_assoc 128 (2 ^ (7 * j)) d) ∙ ap (λ (k : ℕ). k * d) (sym (pow_seven j)) in
      record {
        within = omega (arith, t.within);
        ended = t.ended;
        below = subst (λ (k : ℕ). v < k) (weight (suc (get_or bytes j 0))) g;
        least = subst (λ (k : ℕ). k ≤ v) (weight (get_or bytes j 0)) a;
      })
      (was_read k b bytes at v next e)

  -- ---- where a number that is read ends

  scan_within : (k : ℕ) (bytes : List ℕ) (at n next : ℕ) → scan first k bytes at ≡ Number n next → (next ≤ at + length bytes) × (next ≤ at + k)
  unfolding Last More
  scan_within zero bytes at n next e = never (sym (scan_none first bytes at) ∙ e)
  scan_within (suc k) [] at n next e = never (sym (scan_end first k at) ∙ e)
  scan_within (suc k) (b ∷ bytes) at n next e =
      ⊎_elim
      (λ (w : Last b at n next). (omega (arith, w.2), omega (arith, w.2)))
      (λ (w : More k b bytes at n next). let l = scan_within k bytes (at + 1) w.0 next w.2 in (omega arith, omega arith))
      (was_read k b bytes at n next e)

  -- ---- what is refused, and where

  Refuses : (w p : ℕ) → Type 0
  Refuses w p = ((w ≡ 1) ⊎ (w ≡ 2)) × (p ≡ first)

  scan_refused : (k : ℕ) (bytes : List ℕ) (at w p : ℕ) → scan first k bytes at ≡ Refused w p → Refuses w p
  unfolding Refuses
  scan_refused zero bytes at w p e = let r = sym (scan_none first bytes at) ∙ e in (inr (cc), (cc))
  scan_refused (suc k) [] at w p e = let r = sym (scan_end first k at) ∙ e in (inl (cc), (cc))
  scan_refused (suc k) (b ∷ bytes) at w p e = ⊎_elim last (λ h. scan_refused k bytes (at + 1) w p (rest h (scan first k bytes (at + 1)) refl)) (below_or b 128)
    where
      last : b < 128 → Refuses w p
      last h = never (sym (sym (scan_last first k b bytes at h) ∙ e))

      rest : 128 ≤ b → (x : Varint) → scan first k bytes (at + 1) ≡ x → scan first k bytes (at + 1) ≡ Refused w p
      rest h (Number n next) q = never (sym (ap (under (b % 128)) (sym q) ∙ sym (scan_more first k b bytes at h) ∙ e))
      rest h (Refused v o) q = q ∙ (ap (under (b % 128)) (sym q) ∙ sym (scan_more first k b bytes at h) ∙ e)

-- where the shortest ULEB128 of a 64-bit number stands at a place, that number is read there, and the place after it
pub reads_uleb : (s : List ℕ) (at n : ℕ) (post : List ℕ) → n < 2 ^ 64 → drop at s ≡ uleb128 n ++ post → varint_of s at ≡ Number n (at + length (uleb128 n))
unfolding varint_of
reads_uleb s at n post h e =
    ap cut (ap (λ (l : List ℕ). scan at 10 l at) e ∙ scan_uleb at 10 n post at (uleb_at_most 9 n (omega arith)))
    ∙ ap (λ (k : ℕ). Number k (at + length (uleb128 n))) (mod-eq_of_lt h)

pub round_trip : (s pre : List ℕ) (n : ℕ) (post : List ℕ) (at : ℕ) → n < 2 ^ 64 → s ≡ pre ++ uleb128 n ++ post → length pre ≡ at → varint_of s at ≡ Number n (at + length (uleb128 n))
round_trip s pre n post at h e l = reads_uleb s at n post h (ap (drop at) e ∙ ap (drop at) (append_assoc pre (uleb128 n) post) ∙ drop_at pre (uleb128 n ++ post) at l)

-- Where a number is read in as many bytes as its shortest ULEB128 has, those bytes are it: unless they are ten and the tenth has bits above 63, which
-- were dropped, as in nine FF and 03.
pub was_uleb : (s : List ℕ) (at n next : ℕ) → ((i : ℕ) → get_or s i 0 < 256) → varint_of s at ≡ Number n next → next ≡ at + length (uleb128 n) → (next ≡ at + 10 → get_or s (at + 9) 0 < 2)
    → drop at s ≡ uleb128 n ++ drop next s
unfolding varint_of
was_uleb s at n next small e l tenth = go (scan at 10 (drop at s) at) refl e
  where
    go : (x : Varint) → scan at 10 (drop at s) at ≡ x → cut x ≡ Number n next → drop at s ≡ uleb128 n ++ drop next s
    go (Refused w p) q r = never r
    go (Number v p) q r =
        let same : p ≡ next = cc in
        let low : v % 2 ^ 64 ≡ n = cc in
        let some = uleb_some n in
        let q' : scan at 10 (drop at s) at ≡ Number v next = q ∙ ap (Number v) same in
        let t = scan_top at 10 (drop at s) at v next (length (uleb128 n) - 1) q' (omega arith) in
        let fits : v < 2 ^ 64 = top_fits (drop at s) v (length (uleb128 n) - 1) t (λ j. rw (get_or-drop at s 9 0) (tenth (omega arith))) in
        let whole : v ≡ n = sym (mod-eq_of_lt fits) ∙ low in
        let b = scan_is_uleb at 10 (drop at s) at n next (λ i. rw (get_or-drop at s i 0) (small (at + i))) (q' ∙ ap (λ (k : ℕ). Number k next) whole) l in
        b ∙ ap (λ (r : List ℕ). uleb128 n ++ r) (drop-drop (length (uleb128 n)) at s ∙ ap (λ (k : ℕ). drop k s) (sym l))

-- and the tenth byte of a number below 2 ^ 64 is at most 1
pub tenth_of_uleb : (s : List ℕ) (at n : ℕ) (post : List ℕ) → n < 2 ^ 64 → drop at s ≡ uleb128 n ++ post → length (uleb128 n) ≡ 10 → get_or s (at + 9) 0 < 2
tenth_of_uleb s at n post h e l =
    let q : scan at 10 (drop at s) at ≡ Number n (at + 10) =
    ap (λ (b : List ℕ). scan at 10 b at) e ∙ scan_uleb at 10 n post at (omega arith) ∙ ap (λ (k : ℕ). Number n (at + k)) l in
    let t = scan_top at 10 (drop at s) at n (at + 10) 9 q (omega arith) in
    let g : 2 ^ 63 * get_or (drop at s) 9 0 ≤ n = t.least in
    omega (arith, get_or-drop at s 9 0)

pub record Within (s : List ℕ) (at n next : ℕ) : Type 0 where
  pub after : at < next
  pub inside : next ≤ length s
  pub short : next ≤ at + 10
  pub fits : n < 2 ^ 64

-- after the place it began at, within the list, and at most ten bytes on
pub reads_within : (s : List ℕ) (at n next : ℕ) → varint_of s at ≡ Number n next → Within s at n next
unfolding varint_of
reads_within s at n next e = go (scan at 10 (drop at s) at) refl e
  where
    go : (x : Varint) → scan at 10 (drop at s) at ≡ x → cut x ≡ Number n next → Within s at n next
    go (Refused w p) q r = never r
    go (Number v p) q r =
        let same : p ≡ next = cc in
        let low : v % 2 ^ 64 ≡ n = cc in
        let a = scan_after at 10 (drop at s) at v p q in
        let b = scan_within at 10 (drop at s) at v p q in
        record { after = omega arith; inside = omega (arith, length-drop at s); short = omega arith; fits = omega arith }

-- a refusal is 1 or 2, and its place is the varint's first byte
pub refused_at : (s : List ℕ) (at w p : ℕ) → varint_of s at ≡ Refused w p → ((w ≡ 1) ⊎ (w ≡ 2)) × (p ≡ at)
unfolding varint_of Refuses
refused_at s at w p e = go (scan at 10 (drop at s) at) refl e
  where
    go : (x : Varint) → scan at 10 (drop at s) at ≡ x → cut x ≡ Refused w p → ((w ≡ 1) ⊎ (w ≡ 2)) × (p ≡ at)
    go (Refused v o) q r = scan_refused at 10 (drop at s) at w p (q ∙ r)
    go (Number v next) q r = never (sym r)
