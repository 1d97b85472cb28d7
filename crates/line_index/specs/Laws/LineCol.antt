-- Laws of the rising prefix and of the count of starts not above an offset, at an index of the starts, and of the two answers.
use Rattle.std.specs.Prelude.{◌≡◌, refl, List, [], ◌∷◌, ℕ, zero, suc, ◌+◌, ◌-◌, ◌%◌, ◌^◌, ◌≤◌, ◌<◌, length, get_or, drop}
use Rattle.std.proofs.Common.{subst, ⊎_elim, not-suc-le-zero, eq-zero-or-pos, add-one, arith, drop_of_length-le, lt-ltb, le-ltb, le-leb}
use Rattle.std.proofs.Math.Seq.{drop-cons}
use Rattle.std.proofs.lemmas.Bool.{lt-leb}
use Rattle.refusal.specs.Answer.{accepted, refused}
use Rattle.line_index.specs.LineCol.{rising_above, rising_prefix, not_above, line_at, column_at, line_col}
use Rattle.line_index.specs.Rises.{Rises}

module _ (l : List ℕ) (i : ℕ) (h : i < length l) where
  pub rise_more : (p : ℕ) → p < get_or l i 0 → rising_above p (drop i l) ≡ suc (rising_above (get_or l i 0) (drop (i + 1) l))
  unfolding rising_above
  rise_more p a = rw (add-one i, drop-cons l i 0 h) (simp (lt-ltb p (get_or l i 0) a))

  pub rise_stop : (p : ℕ) → get_or l i 0 ≤ p → rising_above p (drop i l) ≡ 0
  unfolding rising_above
  rise_stop p a = rw (drop-cons l i 0 h) (simp (le-ltb p (get_or l i 0) a))

  pub above_no : (o : ℕ) → get_or l i 0 ≤ o → not_above o (drop i l) ≡ suc (not_above o (drop (i + 1) l))
  unfolding not_above
  above_no o a = rw (add-one i, drop-cons l i 0 h) (simp (le-leb (get_or l i 0) o a))

  pub above_yes : (o : ℕ) → o < get_or l i 0 → not_above o (drop i l) ≡ not_above o (drop (i + 1) l)
  unfolding not_above
  above_yes o a = rw (add-one i, drop-cons l i 0 h) (simp (lt-leb (get_or l i 0) o a))

module _ (l : List ℕ) (i : ℕ) (h : length l ≤ i) where
  pub rise_end : (p : ℕ) → rising_above p (drop i l) ≡ 0
  unfolding rising_above
  rise_end p = rw (drop_of_length-le l h)

  pub above_end : (o : ℕ) → not_above o (drop i l) ≡ 0
  unfolding not_above
  above_end o = rw (drop_of_length-le l h)

pub rise_none : (l : List ℕ) → length l ≡ 0 → rising_prefix l ≡ 0
unfolding rising_prefix
rise_none [] h = refl
rise_none (a ∷ l) h = absurd (omega arith)

rise_first : (l : List ℕ) → 0 < length l → rising_prefix l ≡ 1 + rising_above (get_or l 0 0) (drop 1 l)
unfolding rising_prefix
rise_first [] h = absurd (not-suc-le-zero h)
rise_first (a ∷ l) h = omega arith

-- the starts rise up to index b
pub rise_run : (l : List ℕ) (b : ℕ) → b < length l → Rises l 0 b → rising_prefix l ≡ b + 1 + rising_above (get_or l b 0) (drop (b + 1) l)
rise_run l zero h r = rise_first l h
rise_run l (suc b) h r =
    let e : b + 1 ≡ suc b = add-one b in
    let q : get_or l b 0 < get_or l (suc b) 0 = subst (λ (k : ℕ). get_or l b 0 < get_or l k 0) e (r b (omega arith) (omega arith)) in
    let m : rising_above (get_or l b 0) (drop (b + 1) l) ≡ suc (rising_above (get_or l (suc b) 0) (drop (suc b + 1) l)) = rw e (rise_more l (suc b) h (get_or l b 0) q) in
    omega (arith, rise_run l b (omega arith) (λ k z a. r k z (omega arith)))

module _ (l : List ℕ) (offset : ℕ) where
  pub not_rising : rising_prefix l < length l → line_col l offset ≡ refused 20 (rising_prefix l)
  unfolding line_col
  not_rising h = simp (lt-ltb (rising_prefix l) (length l) h)

  pub rising : length l ≤ rising_prefix l → line_col l offset ≡ accepted (record { line = line_at l (offset % 2 ^ 32); column = column_at l (offset % 2 ^ 32) })
  unfolding line_col
  rising h = simp (le-ltb (rising_prefix l) (length l) h)

-- two runs of rising starts, end to end
pub rises_on : (l : List ℕ) (h i j : ℕ) → Rises l h i → Rises l i j → Rises l h j
rises_on l h i j p q k a b = ⊎_elim (λ c. q k (omega arith) b) (λ c. p k a (omega arith)) (eq-zero-or-pos (i - k))
