-- Bytes that can each stand after the one before are whole characters, up to one that may have only begun.
use Rattle.std.specs.Prelude.{◌≡◌, refl, true, ◌⊎◌, List, ℕ, zero, suc, ◌+◌, ◌-◌, ◌≤◌, ◌<◌, leb, length, get_or, drop}
use Rattle.std.proofs.Common.{◌∙◌, subst, arith}
use Rattle.std.proofs.Math.Bool.{and-eq-true_iff, or-false}
use Rattle.std.proofs.Math.Logic.{inl, inr, ⊎_elim}
use borrow.Author.Tests.{le-leb, lt-leb, leb-true}
use Rattle.utf8.specs.Utf8.{is_tail, is_one, is_two, is_utf8}
use Rattle.utf8.specs.Pairs.{begins_two, begins_short, can_follow, FollowsAt, Follows, whole_end}
use Rattle.utf8.specs.Laws.Utf8.{le_or_lt, same_drop, utf8_ascii, utf8_two}

module _ (a : ℕ) where
  -- what begins a character and is not ASCII begins a UTF8-2
  short_two : 0x80 ≤ a → begins_short a ≡ true → begins_two a ≡ true
  unfolding begins_short is_one
  short_two h e = simp (lt-leb a 0x7F (omega arith)) at e

  short_range : 0x80 ≤ a → begins_short a ≡ true → (0xC2 ≤ a) × (a ≤ 0xDF)
  short_range h e =
      let p = (and-eq-true_iff _ _).0 (short_two h e) in
      (leb-true 0xC2 a p.0, leb-true a 0xDF p.1)

  -- what stands after a byte that begins no UTF8-2, and after one that does
  after_none : (b : ℕ) → a < 0xC2 → can_follow a b ≡ true → begins_short b ≡ true
  unfolding can_follow is_two
  after_none b h e = simp (lt-leb 0xC2 a h) at e

  after_two : (b : ℕ) → (0xC2 ≤ a) × (a ≤ 0xDF) → can_follow a b ≡ true → is_tail b ≡ true
  unfolding can_follow is_two
  after_two b h e = simp (le-leb 0xC2 a h.0, le-leb a 0xDF h.1, or-false) at e

tail_below : (b : ℕ) → is_tail b ≡ true → b < 0xC0
tail_below b e = omega (arith, leb-true b 0xBF ((and-eq-true_iff (leb 0x80 b) (leb b 0xBF)).0 e).1)

module _ (s : List ℕ) (from : ℕ) where
  -- whole characters stand from index `from` up to j
  abbrev Same : ℕ → Type 0
  Same j = is_utf8 (drop from s) ≡ is_utf8 (drop j s)

  -- they stand up to a UTF8-2 that ends at index i, or to a character that begins there
  abbrev Reached : ℕ → Type 0
  Reached i = ((is_tail (get_or s i 0) ≡ true) × Same (i + 1)) ⊎ ((begins_short (get_or s i 0) ≡ true) × Same i)

  step_begun : (i : ℕ) → i + 1 < length s → FollowsAt s i → begins_short (get_or s i 0) ≡ true → Same i → Reached (i + 1)
  unfolding is_two
  step_begun i h e b u =
      ⊎_elim (λ l. inr (after_none (get_or s i 0) _ (omega arith) e, u ∙ utf8_ascii s i (omega arith) (omega arith)))
      (λ g. let two = short_two (get_or s i 0) g b in
      let tail = after_two (get_or s i 0) _ (short_range (get_or s i 0) g b) e in
      inl (tail, u ∙ utf8_two s i (omega arith) (simp (two, tail)) ∙ same_drop s (i + 2) (i + 1 + 1) (omega arith)))
      (le_or_lt (get_or s i 0) 0x7F)

  step : (i : ℕ) → i + 1 < length s → FollowsAt s i → Reached i → Reached (i + 1)
  step i h e r =
      ⊎_elim (λ t. inr (after_none (get_or s i 0) _ (omega (arith, tail_below (get_or s i 0) t.0)) e, t.1)) (λ b. step_begun i h e b.0 b.1) r

  module _ (b : begins_short (get_or s from 0) ≡ true) where
    reach : (n i : ℕ) → from + n ≡ i → i < length s → Follows s from i → Reached i
    reach zero i e h f =
        let z : from ≡ i = omega arith in
        subst Reached z (inr (b, refl))
    reach (suc n) i e h f =
        let j : ℕ = from + n in
        let z : j + 1 ≡ i = omega arith in
        subst Reached z (step j (omega arith) (f j (omega arith) (omega arith)) (reach n j refl (omega arith) (λ k p q. f k p (omega arith))))

    pub utf8_pairs : (i : ℕ) → from ≤ i → i < length s → Follows s from i → Same (whole_end s i)
    utf8_pairs i l h f =
        ⊎_elim (λ t. simp (le-leb (get_or s i 0) 0xBF (omega (arith, tail_below (get_or s i 0) t.0))) t.1)
        (λ r. ⊎_elim (λ a. simp (le-leb (get_or s i 0) 0xBF (omega arith)) (r.1 ∙ utf8_ascii s i h (omega arith)))
        (λ g. simp (lt-leb (get_or s i 0) 0xBF (omega (arith, short_range (get_or s i 0) g r.0))) r.1)
        (le_or_lt (get_or s i 0) 0x7F))
        (reach (i - from) i (omega arith) h f)
