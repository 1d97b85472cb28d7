-- Laws of the test: how wide a character is by its first byte, and how `is_utf8` goes on at an index of a list.
use Rattle.std.specs.Prelude.{◌≡◌, refl, Bool, false, cond, not, ◌&&◌, ◌⊎◌, List, [], ◌∷◌, ℕ, zero, suc, ◌+◌, ◌-◌, ◌≤◌, ◌<◌, length, get_or, take, drop, leb, eqb}
use Rattle.std.proofs.Common.{sym, ap, ◌∙◌, true≢false, inl, inr, add-zero, not-suc-le-zero, eq-zero-or-pos, arith, length-drop, drop_of_length-le, get_or-drop, drop-drop}
use Rattle.std.proofs.Math.Bool.{true, or-false, and-false, and-eq-true_iff}
use Rattle.std.proofs.Math.Logic.{⊎_elim}
use Rattle.std.proofs.Math.ListN.{get_or-eq_default}
use borrow.Author.Tests.{le-leb, lt-leb, ne_eqb, leb-true, eqb-false, not-true}
use Rattle.utf8.specs.Skips.{Ascii}
use Rattle.utf8.specs.Utf8.{within, is_tail, is_one, is_two, is_three, is_four, char_of, char_at, passes, is_utf8, part_is_utf8}

pub le_or_lt : (a b : ℕ) → (a ≤ b) ⊎ (b < a)
le_or_lt a b = ⊎_elim (λ e. inl (omega arith)) (λ l. inr (omega arith)) (eq-zero-or-pos (a - b))

module _ (a b c d : ℕ) where
  -- where a stands before or past the first bytes of a rule
  past_one : 0x80 ≤ a → is_one a ≡ false
  unfolding is_one
  past_one h = lt-leb a 0x7F (omega arith)

  before_two : a < 0xC2 → is_two a b ≡ false
  unfolding is_two
  before_two h = simp (lt-leb 0xC2 a (omega arith))

  past_two : 0xE0 ≤ a → is_two a b ≡ false
  unfolding is_two
  past_two h = simp (lt-leb a 0xDF (omega arith), and-false)

  before_three : a < 0xE0 → is_three a b c ≡ false
  unfolding is_three
  before_three h = simp (ne_eqb a 0xE0 (λ e. omega arith), lt-leb 0xE1 a (omega arith), ne_eqb a 0xED (λ e. omega arith), lt-leb 0xEE a (omega arith))

  past_three : 0xF0 ≤ a → is_three a b c ≡ false
  unfolding is_three
  past_three h = simp (ne_eqb a 0xE0 (λ e. omega arith), lt-leb a 0xEC (omega arith), ne_eqb a 0xED (λ e. omega arith), lt-leb a 0xEF (omega arith), and-false)

  before_four : a < 0xF0 → is_four a b c d ≡ false
  unfolding is_four
  before_four h = simp (ne_eqb a 0xF0 (λ e. omega arith), lt-leb 0xF1 a (omega arith), ne_eqb a 0xF4 (λ e. omega arith))

  -- the one rule that can hold
  pub char_one : a < 0x80 → char_of a b c d ≡ 1
  unfolding char_of is_one
  char_one h = simp (le-leb a 0x7F (omega arith))

  pub char_none : 0x80 ≤ a → a < 0xC2 → char_of a b c d ≡ 0
  unfolding char_of
  char_none h l = simp (past_one h, before_two l, before_three (omega arith), before_four (omega arith))

  pub char_two : 0xC2 ≤ a → a < 0xE0 → (t : Bool) → is_tail b ≡ t → char_of a b c d ≡ cond t 2 0
  unfolding char_of is_two
  char_two h l t e = simp (past_one (omega arith), le-leb 0xC2 a h, le-leb a 0xDF (omega arith), e, before_three l, before_four (omega arith))

  pub char_is_two : is_two a b ≡ true → char_of a b c d ≡ 2
  unfolding is_two
  char_is_two e =
      let p = (and-eq-true_iff (within 0xC2 0xDF a) (is_tail b)).0 e in
      let q = (and-eq-true_iff (leb 0xC2 a) (leb a 0xDF)).0 p.0 in
      char_two (leb-true 0xC2 a q.0) (omega (arith, leb-true a 0xDF q.1)) true p.1

  pub char_three : 0xE0 ≤ a → a < 0xF0 → (t : Bool) → is_three a b c ≡ t → char_of a b c d ≡ cond t 3 0
  unfolding char_of
  char_three h l t e = simp (past_one (omega arith), past_two h, e, before_four l)

  pub char_is_three : is_three a b c ≡ true → char_of a b c d ≡ 3
  char_is_three e =
      ⊎_elim (λ h. ⊎_elim (λ l. absurd (true≢false (sym e ∙ past_three l))) (λ l. char_three h l true e) (le_or_lt 0xF0 a))
      (λ l. absurd (true≢false (sym e ∙ before_three l)))
      (le_or_lt 0xE0 a)

  pub char_four : 0xF0 ≤ a → (t : Bool) → is_four a b c d ≡ t → char_of a b c d ≡ cond t 4 0
  unfolding char_of
  char_four h t e = simp (past_one (omega arith), past_two (omega arith), past_three h, e)

  pub char_is_four : is_four a b c d ≡ true → char_of a b c d ≡ 4
  char_is_four e = ⊎_elim (λ h. char_four h true e) (λ l. absurd (true≢false (sym e ∙ before_four l))) (le_or_lt 0xF0 a)

  -- UTF8-3 and UTF8-4 by their first byte
  pub three_E0 : a ≡ 0xE0 → within 0xA0 0xBF b && is_tail c ≡ is_three a b c
  unfolding is_three
  three_E0 e = simp (e, or-false)

  pub three_ED : a ≡ 0xED → within 0x80 0x9F b && is_tail c ≡ is_three a b c
  unfolding is_three
  three_ED e = simp (e, or-false)

  pub three_rest : 0xE0 ≤ a → a ≤ 0xEF → (a ≡ 0xE0 → ⊥) → (a ≡ 0xED → ⊥) → is_tail b && is_tail c ≡ is_three a b c
  unfolding is_three
  three_rest h l n m =
      ⊎_elim (λ k. simp (ne_eqb a 0xE0 n, ne_eqb a 0xED m, le-leb 0xE1 a (omega arith), le-leb a 0xEC k, lt-leb 0xEE a (omega arith), or-false))
      (λ k. simp (ne_eqb a 0xE0 n, ne_eqb a 0xED m, lt-leb a 0xEC k, le-leb 0xE1 a (omega arith), le-leb 0xEE a (omega arith), le-leb a 0xEF l, or-false))
      (le_or_lt a 0xEC)

  pub three_plain : within 0xE1 0xEF a && not (eqb a 0xED) && is_tail b && is_tail c ≡ true → is_three a b c ≡ true
  three_plain e =
      let p = (and-eq-true_iff (within 0xE1 0xEF a && not (eqb a 0xED) && is_tail b) (is_tail c)).0 e in
      let q = (and-eq-true_iff (within 0xE1 0xEF a && not (eqb a 0xED)) (is_tail b)).0 p.0 in
      let r = (and-eq-true_iff (within 0xE1 0xEF a) (not (eqb a 0xED))).0 q.0 in
      let u = (and-eq-true_iff (leb 0xE1 a) (leb a 0xEF)).0 r.0 in
      let h = leb-true 0xE1 a u.0 in
      sym (three_rest (omega arith) (leb-true a 0xEF u.1) (λ z. omega arith) (eqb-false a 0xED (not-true _ r.1))) ∙ simp (q.1, p.1)

  pub four_F0 : a ≡ 0xF0 → within 0x90 0xBF b && is_tail c && is_tail d ≡ is_four a b c d
  unfolding is_four
  four_F0 e = simp (e, or-false)

  pub four_F1 : 0xF0 ≤ a → (a ≡ 0xF0 → ⊥) → a < 0xF4 → is_tail b && is_tail c && is_tail d ≡ is_four a b c d
  unfolding is_four
  four_F1 h n l = simp (ne_eqb a 0xF0 n, ne_eqb a 0xF4 (λ e. omega arith), le-leb 0xF1 a (omega arith), le-leb a 0xF3 (omega arith), or-false)

  pub four_F4 : a ≡ 0xF4 → within 0x80 0x8F b && is_tail c && is_tail d ≡ is_four a b c d
  unfolding is_four
  four_F4 e = simp (e, or-false)

  pub four_none : 0xF4 ≤ a → (a ≡ 0xF4 → ⊥) → false ≡ is_four a b c d
  unfolding is_four
  four_none h n = simp (ne_eqb a 0xF4 n, ne_eqb a 0xF0 (λ e. omega arith), lt-leb a 0xF3 (omega arith), and-false)

-- at the front of a list
passes_drop : (k : ℕ) (l : List ℕ) → passes k l ≡ is_utf8 (drop k l)
unfolding passes
passes_drop zero l = refl
passes_drop (suc k) [] = refl
passes_drop (suc k) (a ∷ r) = passes_drop k r

-- what `passes` goes on with, after a first byte at which a character of n bytes stands
abbrev rest : List ℕ → ℕ → Bool
rest r n = elim n [ zero ↦ false | suc w ↦ passes w r ]

pub head_step : (l : List ℕ) (w : ℕ) → 0 < length l → char_at l 0 ≡ suc w → is_utf8 l ≡ is_utf8 (drop (suc w) l)
unfolding passes
head_step [] w h e = absurd (not-suc-le-zero h)
head_step (a ∷ r) w h e = ap (rest r) e ∙ passes_drop w r

pub head_bad : (l : List ℕ) → 0 < length l → char_at l 0 ≡ 0 → is_utf8 l ≡ false
unfolding passes
head_bad [] h e = absurd (not-suc-le-zero h)
head_bad (a ∷ r) h e = ap (rest r) e

-- at an index of a list
at_drop : (s : List ℕ) (i : ℕ) → char_at (drop i s) 0 ≡ char_at s i
at_drop s i = simp (get_or-drop, add-zero)

some_drop : (s : List ℕ) (i : ℕ) → i < length s → 0 < length (drop i s)
some_drop s i h = omega (arith, length-drop i s)

module _ (s : List ℕ) (i : ℕ) (h : i < length s) where
  pub utf8_bad : char_at s i ≡ 0 → is_utf8 (drop i s) ≡ false
  utf8_bad e = head_bad (drop i s) (some_drop s i h) (at_drop s i ∙ e)

  step_suc : (w : ℕ) → char_at s i ≡ suc w → is_utf8 (drop i s) ≡ is_utf8 (drop (i + suc w) s)
  step_suc w e = head_step (drop i s) w (some_drop s i h) (at_drop s i ∙ e) ∙ ap is_utf8 (drop-drop (suc w) i s)

  pub utf8_step : (w : ℕ) → char_at s i ≡ w → (w ≡ 0 → ⊥) → is_utf8 (drop i s) ≡ is_utf8 (drop (i + w) s)
  utf8_step zero e n = absurd (n refl)
  utf8_step (suc w) e n = step_suc w e

  pub utf8_ascii : get_or s i 0 < 0x80 → is_utf8 (drop i s) ≡ is_utf8 (drop (i + 1) s)
  utf8_ascii l = step_suc 0 (char_one (get_or s i 0) (get_or s (i + 1) 0) (get_or s (i + 2) 0) (get_or s (i + 3) 0) l)

  pub utf8_two : is_two (get_or s i 0) (get_or s (i + 1) 0) ≡ true → is_utf8 (drop i s) ≡ is_utf8 (drop (i + 2) s)
  utf8_two e = step_suc 1 (char_is_two (get_or s i 0) (get_or s (i + 1) 0) (get_or s (i + 2) 0) (get_or s (i + 3) 0) e)

  pub utf8_three : is_three (get_or s i 0) (get_or s (i + 1) 0) (get_or s (i + 2) 0) ≡ true → is_utf8 (drop i s) ≡ is_utf8 (drop (i + 3) s)
  utf8_three e = step_suc 2 (char_is_three (get_or s i 0) (get_or s (i + 1) 0) (get_or s (i + 2) 0) (get_or s (i + 3) 0) e)

  pub utf8_four : is_four (get_or s i 0) (get_or s (i + 1) 0) (get_or s (i + 2) 0) (get_or s (i + 3) 0) ≡ true → is_utf8 (drop i s) ≡ is_utf8 (drop (i + 4) s)
  utf8_four e = step_suc 3 (char_is_four (get_or s i 0) (get_or s (i + 1) 0) (get_or s (i + 2) 0) (get_or s (i + 3) 0) e)

pub utf8_end : (s : List ℕ) (i : ℕ) → length s ≤ i → is_utf8 (drop i s) ≡ true
unfolding passes
utf8_end s i h = rw (drop_of_length-le s h)

-- over a run of ASCII
pub same_drop : (s : List ℕ) (m n : ℕ) → m ≡ n → is_utf8 (drop m s) ≡ is_utf8 (drop n s)
same_drop s m n e = ap (λ (k : ℕ). is_utf8 (drop k s)) e

ascii_count : (s : List ℕ) (i n : ℕ) → i + n ≤ length s → Ascii s i (i + n) → is_utf8 (drop i s) ≡ is_utf8 (drop (i + n) s)
ascii_count s i zero h l = same_drop s i (i + zero) (omega arith)
ascii_count s i (suc n) h l =
    utf8_ascii s i (omega arith) (l i (omega arith) (omega arith))
    ∙ ascii_count s (i + 1) n (omega arith) (λ k a b. l k (omega arith) (omega arith))
    ∙ same_drop s (i + 1 + n) (i + suc n) (omega arith)

pub utf8_run : (s : List ℕ) (i j : ℕ) → i ≤ j → j ≤ length s → Ascii s i j → is_utf8 (drop i s) ≡ is_utf8 (drop j s)
utf8_run s i j a h l = ascii_count s i (j - i) (omega arith) (λ k p q. l k p (omega arith)) ∙ same_drop s (i + (j - i)) j (omega arith)

-- a character ends within the list: past the end stands 0, which is no tail
cond_le : (t : Bool) (m n k : ℕ) → m ≤ k → n ≤ k → cond t m n ≤ k
cond_le true m n k p q = p
cond_le false m n k p q = q

module _ (a b c : ℕ) where
  le_one : char_of a 0 0 0 ≤ 1
  unfolding char_of is_two is_three is_four
  le_one = simp and-false (cond_le (is_one a) 1 0 1 (omega arith) (omega arith))

  le_two : char_of a b 0 0 ≤ 2
  unfolding char_of is_three is_four
  le_two = simp and-false (cond_le (is_one a) 1 _ 2 (omega arith) (cond_le (is_two a b) 2 0 2 (omega arith) (omega arith)))

  le_three : char_of a b c 0 ≤ 3
  unfolding char_of is_four
  le_three =
      simp and-false
      (cond_le (is_one a) 1 _ 3 (omega arith) (cond_le (is_two a b) 2 _ 3 (omega arith) (cond_le (is_three a b c) 3 0 3 (omega arith) (omega arith))))

pub le_four : (a b c d : ℕ) → char_of a b c d ≤ 4
unfolding char_of
le_four a b c d =
    cond_le (is_one a) 1 _ 4 (omega arith)
    (cond_le (is_two a b) 2 _ 4 (omega arith)
    (cond_le (is_three a b c) 3 _ 4 (omega arith)
    (cond_le (is_four a b c d) 4 0 4 (omega arith) (omega arith))))

module _ (s : List ℕ) (i : ℕ) (h : i < length s) where
  past : (k : ℕ) → length s ≤ k → get_or s k 0 ≡ 0
  past k l = get_or-eq_default s 0 l

  pub char_fits : i + char_at s i ≤ length s
  char_fits =
      ⊎_elim (λ p. omega (arith, le_four (get_or s i 0) (get_or s (i + 1) 0) (get_or s (i + 2) 0) (get_or s (i + 3) 0)))
      (λ p. rw (past (i + 3) (omega arith))
      (⊎_elim (λ q. omega (arith, le_three (get_or s i 0) (get_or s (i + 1) 0) (get_or s (i + 2) 0)))
      (λ q. rw (past (i + 2) (omega arith))
      (⊎_elim (λ r. omega (arith, le_two (get_or s i 0) (get_or s (i + 1) 0) 0))
      (λ r. rw (past (i + 1) (omega arith)) (omega (arith, le_one (get_or s i 0) 0 0)))
      (le_or_lt (i + 2) (length s))))
      (le_or_lt (i + 3) (length s))))
      (le_or_lt (i + 4) (length s))

-- a part, and whether it lies in the list
module _ (s : List ℕ) (i len : ℕ) where
  pub part_inside : i + len ≤ length s → part_is_utf8 s i len ≡ is_utf8 (take len (drop i s))
  unfolding part_is_utf8
  part_inside h = simp (le-leb (i + len) (length s) h)

  pub part_outside : length s < i + len → part_is_utf8 s i len ≡ false
  unfolding part_is_utf8
  part_outside h = simp (lt-leb (i + len) (length s) h)
