-- Laws of spans: their maximal runs one after another, and how often a span is repeated at the front of a table.
use Rattle.std.specs.Prelude.{◌≡◌, ℕ, zero, suc, ◌+◌, ◌-◌, ◌*◌, ◌/◌, ◌<◌, ◌≤◌, Bool, true, false, cond, ◌&&◌, List, [], ◌∷◌, ◌++◌, length, drop, take, slice_index}
use Rattle.std.proofs.Math.Path.{refl, sym, ap}
use Rattle.std.proofs.Common.{◌∙◌, add-one, length-drop, drop-cons, eqb-true}
use native.Mathlib.Omega.{arith}
use Rattle.std.proofs.Math.Seq.{drop-nil}
use Rattle.payload.specs.Choice.{when◌then◌else◌}
use Rattle.payload.specs.Laws.Pool.{and_left, and_right}
use Rattle.payload.specs.Sound.{spans_of}
use Rattle.payload.specs.Spans.{Span, Run, same_span, join, runs_of}
use Rattle.std.proofs.lemmas.List.{take_all, get_or-drop}
use Rattle.write_code.specs.Runs.{Positions, span, leading_trues, repeated}

---- runs

pub same_span_eq : (a b : Span) → same_span a b ≡ true → a ≡ b
unfolding same_span
same_span_eq a b e = λ i. record { start = eqb-true a.start b.start (and_left _ _ e) i; end = eqb-true a.end b.end (and_right _ _ e) i }

-- the first run, and the runs after it
pub runs_first : (s : Span) (l : List Span) → runs_of (s ∷ l) ≡ record { span = s; count = suc (repeated s l) } ∷ runs_of (drop (repeated s l) l)
unfolding runs_of join repeated when◌then◌else◌
runs_first s [] = refl
runs_first s (t ∷ l) = ap (join s) (runs_first t l) ∙ go (runs_first t l) (same_span s t) refl
  where
    go : runs_of (t ∷ l) ≡ record { span = t; count = suc (repeated t l) } ∷ runs_of (drop (repeated t l) l) → (b : Bool) → same_span s t ≡ b
        → when◌then◌else◌ b (record { span = s; count = suc (suc (repeated t l)) } ∷ runs_of (drop (repeated t l) l))
        (record { span = s; count = 1 } ∷ record { span = t; count = suc (repeated t l) } ∷ runs_of (drop (repeated t l) l))
        ≡ record { span = s; count = suc (when◌then◌else◌ b (suc (repeated s l)) 0) } ∷ runs_of (drop (when◌then◌else◌ b (suc (repeated s l)) 0) (t ∷ l))
    go f true e = ap (λ (u : Span). record { span = s; count = suc (suc (repeated u l)) } ∷ runs_of (drop (repeated u l) l)) (sym (same_span_eq s t e))
    go f false e = ap (λ (rs : List Run). record { span = s; count = 1 } ∷ rs) (sym f)

-- a span in front of others is repeated, or another begins
module _ (s t : Span) (l : List Span) where
  pub repeated_same : same_span s t ≡ true → repeated s (t ∷ l) ≡ suc (repeated s l)
  unfolding repeated when◌then◌else◌
  repeated_same e = rw e

  pub repeated_other : same_span s t ≡ false → repeated s (t ∷ l) ≡ 0
  unfolding repeated when◌then◌else◌
  repeated_other e = rw e

-- a run that ends among the first, and one that does not
repeated_some : (s : Span) (l m : List Span) → repeated s l < length l → repeated s (l ++ m) ≡ repeated s l
unfolding repeated when◌then◌else◌
repeated_some s [] m h = absurd (omega arith)
repeated_some s (t ∷ l) m h = go (repeated_some s l m) (same_span s t) h
  where
    go : (repeated s l < length l → repeated s (l ++ m) ≡ repeated s l) → (b : Bool) → when◌then◌else◌ b (suc (repeated s l)) 0 < suc (length l)
        → when◌then◌else◌ b (suc (repeated s (l ++ m))) 0 ≡ when◌then◌else◌ b (suc (repeated s l)) 0
    go f true g = ap suc (f (omega arith))
    go f false g = refl

repeated_all : (s : Span) (l m : List Span) → length l ≤ repeated s l → repeated s (l ++ m) ≡ length l + repeated s m
unfolding repeated when◌then◌else◌
repeated_all s [] m h = omega arith
repeated_all s (t ∷ l) m h = go (repeated_all s l m) (same_span s t) h
  where
    go : (length l ≤ repeated s l → repeated s (l ++ m) ≡ length l + repeated s m) → (b : Bool) → suc (length l) ≤ when◌then◌else◌ b (suc (repeated s l)) 0
        → when◌then◌else◌ b (suc (repeated s (l ++ m))) 0 ≡ suc (length l) + repeated s m
    go f true g = omega (arith, f (omega arith))
    go f false g = absurd (omega arith)

pub repeated_few : (s : Span) (l : List Span) → repeated s l ≤ length l
unfolding repeated when◌then◌else◌
repeated_few s [] = omega arith
repeated_few s (t ∷ l) = go (same_span s t) (repeated_few s l)
  where
    go : (b : Bool) → repeated s l ≤ length l → when◌then◌else◌ b (suc (repeated s l)) 0 ≤ suc (length l)
    go true h = omega arith
    go false h = omega arith

-- the sum that counts four tests
pub trues_sum : (p q r s : Bool) → cond p 1 0 + cond (p && q) 1 0 + cond ((p && q) && r) 1 0 + cond (((p && q) && r) && s) 1 0 ≡ leading_trues (p ∷ q ∷ r ∷ s ∷ [])
unfolding leading_trues when◌then◌else◌
trues_sum false q r s = refl
trues_sum true false r s = refl
trues_sum true true false s = refl
trues_sum true true true false = refl
trues_sum true true true true = refl

---- in the table

-- span k of a table
abbrev pub span_at : List ℕ → ℕ → Span
span_at ws k = span (slice_index ws (2 * k)) (slice_index ws (2 * k + 1))

pub spans_none : (ws : List ℕ) → length ws < 2 → spans_of ws ≡ []
unfolding spans_of
spans_none [] h = refl
spans_none (x ∷ []) h = refl
spans_none (x ∷ y ∷ ws) h = absurd (omega arith)

-- past the last span, and in a table that has none
pub spans_end : (ws : List ℕ) (k : ℕ) → length ws / 2 ≤ k → spans_of (drop (2 * k) ws) ≡ []
spans_end ws k h = spans_none (drop (2 * k) ws) (omega (arith, length-drop (2 * k) ws))

pub counted_none : (ws : List ℕ) → length ws / 2 ≡ 0 → 0 ≡ length (runs_of (spans_of ws))
unfolding runs_of
counted_none ws h = rw (spans_none ws (omega arith))

pub length_spans : (ws : List ℕ) → length (spans_of ws) ≡ length ws / 2
unfolding spans_of
length_spans [] = omega arith
length_spans (x ∷ []) = omega arith
length_spans (x ∷ y ∷ ws) = omega (arith, length_spans ws)

pub drop_spans : (n : ℕ) (ws : List ℕ) → drop n (spans_of ws) ≡ spans_of (drop (2 * n) ws)
unfolding spans_of
drop_spans zero ws = refl
drop_spans (suc n) [] = ap spans_of (sym (drop-nil (2 * suc n)))
drop_spans (suc n) (x ∷ []) = let e : 2 * suc n ≡ suc (suc (2 * n)) = omega arith in rw (e, drop-nil (suc (2 * n)))
drop_spans (suc n) (x ∷ y ∷ ws) = let e : 2 * suc n ≡ suc (suc (2 * n)) = omega arith in rw e (drop_spans n ws)

two : (ws : List ℕ) (k : ℕ) → 2 * k + 1 < length ws → drop (2 * k) ws ≡ slice_index ws (2 * k) ∷ slice_index ws (2 * k + 1) ∷ drop (2 * (k + 1)) ws
two ws k h =
    let e : 2 * (k + 1) ≡ suc (suc (2 * k)) = omega arith in
    drop-cons ws (2 * k) 0 (omega arith) ∙ ap (λ (l : List ℕ). slice_index ws (2 * k) ∷ l) (drop-cons ws (suc (2 * k)) 0 (omega arith) ∙ rw (add-one (2 * k), e))

spans_next : (ws : List ℕ) (k : ℕ) → k < length ws / 2 → spans_of (drop (2 * k) ws) ≡ span_at ws k ∷ spans_of (drop (2 * (k + 1)) ws)
unfolding spans_of
spans_next ws k h = rw (two ws k (omega arith))

-- the words from one on, as a part of the table
pub words_from : (n : ℕ) (ws : List ℕ) → take (length ws - n) (drop n ws) ≡ drop n ws
words_from n ws = take_all (length ws - n) (drop n ws) (omega (arith, length-drop n ws))

pub positions_from : (n : ℕ) (ws : List ℕ) → Positions ws → Positions (drop n ws)
positions_from n ws h = λ k. rw (get_or-drop n ws k 0) (h (n + k))

pub span_in_front : (ws : List ℕ) → 2 ≤ length ws → spans_of ws ≡ span_at ws 0 ∷ spans_of (drop 2 ws)
span_in_front ws h = spans_next ws 0 (omega arith)

pub repeated_words : (s : Span) (ws : List ℕ) → 2 * repeated s (spans_of ws) ≤ length ws
repeated_words s ws = omega (arith, repeated_few s (spans_of ws), length_spans ws)

-- the first run of a table, and the spans after it
pub run_in_front : (ws after : List ℕ) (s : Span) (n : ℕ) → spans_of ws ≡ s ∷ spans_of after → n ≡ repeated s (spans_of after)
    → runs_of (spans_of ws) ≡ record { span = s; count = 1 + n } ∷ runs_of (spans_of (drop (2 * n) after))
run_in_front ws after s n e h =
    let c : suc n ≡ 1 + n = omega arith in
    rw (e, runs_first s (spans_of after), ← h, drop_spans n after, c)

---- how often a span is repeated at the front of a table

-- as far as span k
pub record Repeats (s : Span) (ws : List ℕ) (k : ℕ) : Type 0 where
  pub within : k ≤ length ws / 2
  pub is : repeated s (spans_of ws) ≡ k + repeated s (spans_of (drop (2 * k) ws))

module _ (s : Span) (ws : List ℕ) where
  pub repeats_none : Repeats s ws 0
  repeats_none = record { within = omega arith; is = omega arith }

  module _ (k : ℕ) (t : Repeats s ws k) where
    module _ (h : k < length ws / 2) where
      pub repeats_next : same_span s (span_at ws k) ≡ true → Repeats s ws (k + 1)
      repeats_next e =
          let f : repeated s (spans_of (drop (2 * k) ws)) ≡ suc (repeated s (spans_of (drop (2 * (k + 1)) ws))) = rw (spans_next ws k h) (repeated_same s (span_at ws k) _ e) in
          record { within = omega arith; is = omega (arith, t.is) }

      pub repeats_ends : same_span s (span_at ws k) ≡ false → k ≡ repeated s (spans_of ws)
      repeats_ends e =
          let f : repeated s (spans_of (drop (2 * k) ws)) ≡ 0 = rw (spans_next ws k h) (repeated_other s (span_at ws k) _ e) in
          omega (arith, t.is)

    pub repeats_all : length ws / 2 ≤ k → length ws / 2 ≡ repeated s (spans_of ws)
    repeats_all h = omega (arith, t.is, repeated_few s (spans_of (drop (2 * k) ws)), length_spans (drop (2 * k) ws), length-drop (2 * k) ws)

  -- the first four spans
  abbrev pub four : List Span
  four = span_at ws 0 ∷ span_at ws 1 ∷ span_at ws 2 ∷ span_at ws 3 ∷ []

  spans_four : 8 ≤ length ws → spans_of ws ≡ four ++ spans_of (drop (2 * 4) ws)
  spans_four h = spans_next ws 0 (omega arith) ∙ rw (spans_next ws 1 (omega arith), spans_next ws 2 (omega arith), spans_next ws 3 (omega arith))

  -- the tests that are true before the first false one are the spans at the front that are s
  pub trues_four : {p₁ p₂ p₃ p₄ : Bool} → p₁ ≡ same_span s (span_at ws 0) → p₂ ≡ same_span s (span_at ws 1) → p₃ ≡ same_span s (span_at ws 2) → p₄ ≡ same_span s (span_at ws 3)
      → leading_trues (p₁ ∷ p₂ ∷ p₃ ∷ p₄ ∷ []) ≡ repeated s four
  unfolding repeated leading_trues
  trues_four e₁ e₂ e₃ e₄ = rw (e₁, e₂, e₃, e₄)

  module _ (n : ℕ) (h : 8 ≤ length ws) (e : n ≡ repeated s four) where
    pub repeats_short : n < 4 → n ≡ repeated s (spans_of ws)
    repeats_short g = e ∙ sym (rw (spans_four h) (repeated_some s four _ (omega arith)))

    pub repeats_four : n ≡ 4 → Repeats s ws n
    repeats_four g =
        let r : repeated s (spans_of ws) ≡ 4 + repeated s (spans_of (drop (2 * 4) ws)) = rw (spans_four h) (repeated_all s four _ (omega arith)) in
        rw g (record { within = omega arith; is = r })
