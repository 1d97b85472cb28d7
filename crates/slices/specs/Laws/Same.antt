-- Laws of `same`.
use Rattle.std.specs.Prelude.{◌≡◌, refl, Bool, true, false, ◌&&◌, List, [], ◌∷◌, ◌++◌, ℕ, ◌+◌, ◌≤◌, ◌<◌, eqb, length, get_or, take, drop}
use Rattle.std.proofs.Common.{sym, ap, ◌∙◌, add-one, arith, length-drop, take-add, take-suc, take_all, take-take, length-take-le, eq-eqb, ne_eqb, eqb-true}
use Rattle.std.proofs.lemmas.Bool.{false≢true}
use Rattle.std.proofs.Math.Bool.{and-eq-true_iff, and_assoc, and-true}
use Rattle.std.proofs.Math.ListN.{drop_of_length-le}
use Rattle.std.proofs.Math.Seq.{drop-cons}
use Rattle.slices.specs.Same.{same}
use Rattle.slices.specs.LittleEndian.{from_le_bytes}
use Rattle.slices.specs.Laws.LittleEndian.{Bytes, part_bytes, from_le_bytes_injective}

-- the test and equality
pub same_refl : (s : List ℕ) → same s s ≡ true
unfolding same
same_refl [] = refl
same_refl (a ∷ s) = simp (eq-eqb a a refl, same_refl s)

pub same_eq : (s t : List ℕ) → same s t ≡ true → s ≡ t
unfolding same
same_eq [] [] e = refl
same_eq [] (b ∷ t) e = absurd (false≢true e)
same_eq (a ∷ s) [] e = absurd (false≢true e)
same_eq (a ∷ s) (b ∷ t) e =
    let p : a ≡ b = eqb-true a b ((and-eq-true_iff (eqb a b) (same s t)).0 e).0 in
    let q : s ≡ t = same_eq s t ((and-eq-true_iff (eqb a b) (same s t)).0 e).1 in
    cc

pub same_no : (s t : List ℕ) → (s ≡ t → ⊥) → same s t ≡ false
same_no s t n = by (same s t) refl
  where
    by : (r : Bool) → same s t ≡ r → same s t ≡ false
    by true e = absurd (n (same_eq s t e))
    by false e = e

pub same_long : (s t : List ℕ) → (length s ≡ length t → ⊥) → same s t ≡ false
same_long s t n = same_no s t (λ e. n (ap length e))

-- any test of equality is `same`
pub same_iff : (s t : List ℕ) (r : Bool) → (r ≡ true → s ≡ t) → (s ≡ t → r ≡ true) → r ≡ same s t
same_iff s t true p q = let e : s ≡ t = p refl in sym (rw e (same_refl t))
same_iff s t false p q = sym (same_no s t (λ e. false≢true (q e)))

-- strings of one length as numbers
pub same_number : (s t : List ℕ) → length s ≡ length t → Bytes s → Bytes t → eqb (from_le_bytes s) (from_le_bytes t) ≡ same s t
same_number s t l h k =
    same_iff s t (eqb (from_le_bytes s) (from_le_bytes t))
    (λ e. from_le_bytes_injective s t l h k (eqb-true (from_le_bytes s) (from_le_bytes t) e))
    (λ e. eq-eqb (from_le_bytes s) (from_le_bytes t) (ap from_le_bytes e))

-- part by part
pub same_append : (s t u v : List ℕ) → length s ≡ length t → same (s ++ u) (t ++ v) ≡ (same s t && same u v)
unfolding same
same_append [] [] u v l = refl
same_append [] (b ∷ t) u v l = absurd (omega arith)
same_append (a ∷ s) [] u v l = absurd (omega arith)
same_append (a ∷ s) (b ∷ t) u v l = rw (same_append s t u v (omega arith)) (sym (and_assoc (eqb a b) (same s t) (same u v)))

-- one byte more
pub same_snoc : (s t : List ℕ) (n : ℕ) → n < length s → n < length t → same (take (n + 1) s) (take (n + 1) t) ≡ (same (take n s) (take n t) && eqb (get_or s n 0) (get_or t n 0))
unfolding same
same_snoc s t n h k =
    rw (add-one n, take-suc s n 0 h, take-suc t n 0 k)
    (same_append (take n s) (take n t) (get_or s n 0 ∷ []) (get_or t n 0 ∷ []) (length-take-le n s (omega arith) ∙ sym (length-take-le n t (omega arith)))
    ∙ ap (λ (r : Bool). same (take n s) (take n t) && r) (and-true (eqb (get_or s n 0) (get_or t n 0))))

length_part : (s : List ℕ) (i n : ℕ) → i + n ≤ length s → length (take n (drop i s)) ≡ n
length_part s i n h = length-take-le n (drop i s) (simp length-drop (omega arith))

module _ (a b : List ℕ) where
  -- a byte that agrees, and one that does not
  pub same_step : (i : ℕ) → i < length a → i < length b → get_or a i 0 ≡ get_or b i 0 → same (drop i a) (drop i b) ≡ same (drop (i + 1) a) (drop (i + 1) b)
  unfolding same
  same_step i h k e = rw (add-one i, drop-cons a i 0 h, drop-cons b i 0 k) (simp (eq-eqb (get_or a i 0) (get_or b i 0) e))

  pub same_differ : (i : ℕ) → i < length a → i < length b → (get_or a i 0 ≡ get_or b i 0 → ⊥) → same (drop i a) (drop i b) ≡ false
  unfolding same
  same_differ i h k n = rw (drop-cons a i 0 h, drop-cons b i 0 k) (simp (ne_eqb (get_or a i 0) (get_or b i 0) n))

  pub same_end : (i : ℕ) → length a ≤ i → length b ≤ i → same (drop i a) (drop i b) ≡ true
  unfolding same
  same_end i h k = rw (drop_of_length-le a h, drop_of_length-le b k)

  -- n bytes from i on as a number
  pub same_word : (i n : ℕ) → i + n ≤ length a → i + n ≤ length b → Bytes a → Bytes b
      → eqb (from_le_bytes (take n (drop i a))) (from_le_bytes (take n (drop i b))) ≡ same (take n (drop i a)) (take n (drop i b))
  same_word i n h k p q =
      same_number (take n (drop i a)) (take n (drop i b)) (length_part a i n h ∙ sym (length_part b i n k)) (part_bytes a i n p) (part_bytes b i n q)

  -- a part that differs
  pub same_part_no : (i n : ℕ) → same (take n (drop i a)) (take n (drop i b)) ≡ false → same a b ≡ false
  same_part_no i n e = same_no a b (λ f. false≢true (sym e ∙ rw f (same_refl (take n (drop i b)))))

  take_less : (i k : ℕ) → i ≤ k → take k a ≡ take k b → take i a ≡ take i b
  take_less i k h e = sym (take-take i k a h) ∙ ap (take i) e ∙ take-take i k b h

  -- n bytes more that agree
  pub take_same : (i n : ℕ) → take i a ≡ take i b → same (take n (drop i a)) (take n (drop i b)) ≡ true → take (i + n) a ≡ take (i + n) b
  take_same i n e f = let g = same_eq (take n (drop i a)) (take n (drop i b)) f in rw (take-add i n a, take-add i n b, e, g)

  -- the last n bytes decide, where those before them agree
  pub same_last : (i n k : ℕ) → i ≤ k → i + n ≡ length a → length a ≡ length b → take k a ≡ take k b → same (take n (drop i a)) (take n (drop i b)) ≡ same a b
  same_last i n k h l m e =
      same_iff a b (same (take n (drop i a)) (take n (drop i b)))
      (λ f. sym (take_all (i + n) a (omega arith)) ∙ take_same i n (take_less i k h e) f ∙ take_all (i + n) b (omega arith))
      (λ f. rw f (same_refl (take n (drop i b))))
