-- Laws of the line starts at an index of the text, and of the four answers.
use Rattle.std.specs.Prelude.{◌≡◌, drop}
use Rattle.std.proofs.Math.Path.{ap}
use Rattle.std.proofs.Common.{◌∙◌, add-one, drop_of_length-le}
use mathlib.Core.List.{List, [], ◌∷◌, ◌++◌}
use Prim.Native.Nat.{ℕ, suc, ◌+◌, ◌-◌, ◌≤◌, ◌<◌}
use native.Mathlib.Omega.{arith}
use Rattle.std.proofs.Math.ListN.{length, get_or, length-append}
use Rattle.std.proofs.Math.Seq.{drop-cons, get_or-append_seam}
use borrow.Author.Tests.{lt-ltb, le-ltb, le-leb, lt-leb, eq-eqb, ne_eqb}
use Rattle.payload.specs.Tables.{size_limit}
use Rattle.refusal.specs.Answer.{accepted, refused}
use Rattle.line_index.specs.LineIndex.{after_newlines, line_starts, capacity, line_index}

module _ (t : List ℕ) (i : ℕ) (h : i < length t) where
  pub newline : get_or t i 0 ≡ 0x0A → after_newlines i (drop i t) ≡ (i + 1) ∷ after_newlines (i + 1) (drop (i + 1) t)
  unfolding after_newlines
  newline e = rw (add-one i, drop-cons t i 0 h) (simp (eq-eqb (get_or t i 0) 0x0A e, add-one))

  pub no_newline : (get_or t i 0 ≡ 0x0A → ⊥) → after_newlines i (drop i t) ≡ after_newlines (i + 1) (drop (i + 1) t)
  unfolding after_newlines
  no_newline n = rw (add-one i, drop-cons t i 0 h) (simp (ne_eqb (get_or t i 0) 0x0A n, add-one))

pub text_end : (t : List ℕ) (i : ℕ) → length t ≤ i → after_newlines i (drop i t) ≡ []
unfolding after_newlines
text_end t i h = rw (drop_of_length-le t h)

module _ (t : List ℕ) (words : ℕ) where
  pub too_long : size_limit < length t → line_index t words ≡ refused 16 0
  unfolding line_index
  too_long h = simp (lt-ltb size_limit (length t) h)

  pub no_room : length t ≤ size_limit → capacity words ≡ 0 → line_index t words ≡ refused 24 0
  unfolding line_index
  no_room h e = simp (le-ltb size_limit (length t) h, e, lt-leb (length (line_starts t)) 0 (omega arith))

  pub made : length t ≤ size_limit → (n : ℕ) → n ≤ capacity words → length (line_starts t) ≡ n → line_index t words ≡ accepted (record { count = n })
  unfolding line_index
  made h n l e = simp (le-ltb size_limit (length t) h, e, le-leb n (capacity words) l)

  -- the starts in the table are as many as it takes, and one more follows, after the 0A at i
  pub full : length t ≤ size_limit → (i : ℕ) (s r : List ℕ) → capacity words ≡ length s → line_starts t ≡ s ++ (i + 1) ∷ r
      → line_index t words ≡ refused 24 i
  unfolding line_index
  full h i s r c e =
      let a : length (line_starts t) ≡ length s + suc (length r) = ap length e ∙ length-append s ((i + 1) ∷ r) in
      let g : get_or (line_starts t) (length s) 0 ≡ i + 1 = ap (λ (x : List ℕ). get_or x (length s) 0) e ∙ get_or-append_seam s (i + 1) r 0 in
      let b : i + 1 - 1 ≡ i = omega arith in
      simp (le-ltb size_limit (length t) h, c, lt-leb (length (line_starts t)) (length s) (omega arith), g, b)
