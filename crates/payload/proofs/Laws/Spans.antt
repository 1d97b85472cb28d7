-- Spans, written as maximal runs of equal spans with signed deltas, and read back.
use Rattle.std.specs.Prelude.{Bool, cond, false, true, ◌≡◌, ◌+◌, ◌-◌, ◌<◌, ◌^◌, ◌≤◌, suc, zero, ℕ, ltb, ◌+ℤ◌, ◌-ℤ◌, negsuc, ℤ, length}
use mathlib.Core.List.{List, [], ◌∷◌, append_assoc, append-nil}
use Rattle.std.proofs.Common.{◌∙◌, ap, sym, arith}
use Rattle.std.proofs.Math.Path.{refl}
use Rattle.std.proofs.Math.IntN.{+ℤ_comm, +ℤ_idr, -ℤ-+ℤ_cancel, pos, sub_ℕ}
use Rattle.std.specs.Int.Signed.{mag}
use borrow.Author.Tests.{eq-eqb, eqb-true, le-ltb, lt-ltb, ltb-true}
use Rattle.signed.specs.Laws.Signed.{unzigzag_zigzag, zigzag_range}
use Rattle.signed.specs.Position.{in_range}
use Rattle.signed.specs.Signed.{unzigzag_of, word_of, zigzag_of}
use Rattle.payload.specs.Choice.{◌and◌, when◌then◌else◌}
use Rattle.payload.specs.Laws.Gives.{Gives, gives_as, gives_bind, gives_body, gives_by, gives_here, gives_is, gives_must, gives_pure, gives_spans, gives_then}
use Rattle.payload.specs.Laws.Pool.{and_both, and_left, and_right}
use Rattle.payload.specs.Laws.Varint.{gives_varint}
use Rattle.payload.specs.declared.Capacities.{Capacities}
use Rattle.payload.specs.Spans.{Run, Span, expand, join, read_code, read_position, read_runs, runs_of, same_span, small_spans, total, write_code, write_delta, write_deltas, write_runs}

same_span_eq_lem : (a b : Span) → same_span a b ≡ true → a ≡ b
unfolding same_span
same_span_eq_lem a b e = λ i. record { start = eqb-true a.start b.start (and_left _ _ e) i; end = eqb-true a.end b.end (and_right _ _ e) i }

unfoldable pub small_runs : List Run → Bool
small_runs [] = true
small_runs (r ∷ rs) = ltb r.span.start (2 ^ 63) and ltb r.span.end (2 ^ 63) and small_runs rs

-- laws of the runs
expand_join : (s : Span) (rs : List Run) → expand (join s rs) ≡ s ∷ expand rs
unfolding expand join when◌then◌else◌
expand_join s [] = refl
expand_join s (r ∷ rs) = go (same_span s r.span) refl
  where
    go : (t : Bool) → same_span s r.span ≡ t → expand (when◌then◌else◌ t (record { span = s; count = suc r.count } ∷ rs) (record { span = s; count = 1 } ∷ r ∷ rs)) ≡ s ∷ expand (r ∷ rs)
    go true q = rw (same_span_eq_lem s r.span q)
    go false q = refl

pub expand_runs : (ss : List Span) → expand (runs_of ss) ≡ ss
unfolding expand runs_of
expand_runs [] = refl
expand_runs (s ∷ ss) = expand_join s (runs_of ss) ∙ rw (expand_runs ss)

total_join : (s : Span) (rs : List Run) → total (join s rs) ≡ suc (total rs)
unfolding total join when◌then◌else◌
total_join s [] = refl
total_join s (r ∷ rs) = go (same_span s r.span)
  where
    go : (t : Bool) → total (when◌then◌else◌ t (record { span = s; count = suc r.count } ∷ rs) (record { span = s; count = 1 } ∷ r ∷ rs)) ≡ suc (r.count + total rs)
    go true = omega arith
    go false = omega arith

pub total_runs : (ss : List Span) → total (runs_of ss) ≡ length ss
unfolding total runs_of
total_runs [] = refl
total_runs (s ∷ ss) = total_join s (runs_of ss) ∙ ap suc (total_runs ss)

count_join : (s : Span) (rs : List Run) → length (join s rs) ≤ suc (length rs)
unfolding join when◌then◌else◌
count_join s [] = omega arith
count_join s (r ∷ rs) = go (same_span s r.span)
  where
    go : (t : Bool) → length (when◌then◌else◌ t (record { span = s; count = suc r.count } ∷ rs) (record { span = s; count = 1 } ∷ r ∷ rs)) ≤ suc (suc (length rs))
    go true = omega arith
    go false = omega arith

pub count_runs : (ss : List Span) → length (runs_of ss) ≤ length ss
unfolding runs_of
count_runs [] = omega arith
count_runs (s ∷ ss) = let a = count_join s (runs_of ss) in let b = count_runs ss in omega arith

small_join : (s : Span) (rs : List Run) → (ltb s.start (2 ^ 63) and ltb s.end (2 ^ 63)) ≡ true → small_runs rs ≡ true → small_runs (join s rs) ≡ true
unfolding join when◌then◌else◌ small_runs
small_join s [] e f = and_both (and_left _ _ e) (and_both (and_right _ _ e) refl)
small_join s (r ∷ rs) e f = go (same_span s r.span)
  where
    go : (t : Bool) → small_runs (when◌then◌else◌ t (record { span = s; count = suc r.count } ∷ rs) (record { span = s; count = 1 } ∷ r ∷ rs)) ≡ true
    go true = and_both (and_left _ _ e) (and_both (and_right _ _ e) (and_right _ _ (and_right _ _ f)))
    go false = and_both (and_left _ _ e) (and_both (and_right _ _ e) f)

pub small_runs_lem : (ss : List Span) → small_spans ss ≡ true → small_runs (runs_of ss) ≡ true
unfolding runs_of small_spans small_runs
small_runs_lem [] e = refl
small_runs_lem (s ∷ ss) e = small_join s (runs_of ss) (and_both (and_left _ _ e) (and_left _ _ (and_right _ _ e))) (small_runs_lem ss (and_right _ _ (and_right _ _ e)))

-- laws of the deltas
sub_small : (m n k : ℕ) → m < k → n < k → mag (sub_ℕ m n) < k
sub_small m n k h l = go (ltb m n) refl
  where
    go : (t : Bool) → ltb m n ≡ t → mag (cond t (negsuc (n - suc m)) (pos (m - n))) < k
    go true q = let w = ltb-true m n q in omega arith
    go false q = omega arith

difference : (new old : ℕ) → pos new -ℤ pos old ≡ sub_ℕ new old
difference new zero = +ℤ_idr (pos new) ∙ sym (rw (le-ltb new 0 (omega arith)) (ap pos (omega arith)))
difference new (suc old) = refl

delta_small : (old new : ℕ) → old < 2 ^ 63 → new < 2 ^ 63 → zigzag_of (pos new -ℤ pos old) < 2 ^ 64
delta_small old new h k = zigzag_range (pos new -ℤ pos old) (rw (difference new old) (sub_small new old (2 ^ 63) k h))

delta_moves : (old new : ℕ) → pos old +ℤ unzigzag_of (zigzag_of (pos new -ℤ pos old)) ≡ pos new
delta_moves old new =
    ap (λ (z : ℤ). pos old +ℤ z) (unzigzag_zigzag (pos new -ℤ pos old))
    ∙ +ℤ_comm (pos old) (pos new -ℤ pos old)
    ∙ -ℤ-+ℤ_cancel (pos new) (pos old)

delta_within : (old new : ℕ) → new < 2 ^ 63 → in_range (pos old +ℤ unzigzag_of (zigzag_of (pos new -ℤ pos old))) ≡ true
delta_within old new k = ap in_range (delta_moves old new) ∙ lt-ltb new (2 ^ 63) k

pub word_back : (n : ℕ) → n < 2 ^ 63 → word_of (pos n) ≡ n
word_back n h = omega arith

module _ {c : Capacities} where
  pub gives_position : (old new : ℕ) → old < 2 ^ 63 → new < 2 ^ 63 → Gives c (read_position (pos old)) (write_delta old new) 0 0 (λ a. a ≡ pos new)
  unfolding read_position write_delta
  gives_position old new h k = gives_bind gives_here (λ p u. gives_by (append-nil _) refl refl
      (gives_is _ (gives_varint (zigzag_of (pos new -ℤ pos old)) (delta_small old new h k))
      (gives_then (gives_must _ 8 p (delta_within old new k)) (gives_pure _ (λ a. a ≡ pos new) (delta_moves old new)))))

  pub gives_runs : (rs : List Run) (p : Span) → p.start < 2 ^ 63 → p.end < 2 ^ 63 → small_runs rs ≡ true → total rs < 2 ^ 64
      → Gives c (read_runs (length rs) (pos p.start) (pos p.end)) (write_deltas p rs) 0 0 (λ a. a ≡ rs)
  unfolding read_runs write_deltas small_runs total
  gives_runs [] p h k e t = gives_pure [] (λ a. a ≡ []) refl
  gives_runs (r ∷ rs) p h k e t =
      let hs : r.span.start < 2 ^ 63 = ltb-true _ _ (and_left _ _ e) in
      let he : r.span.end < 2 ^ 63 = ltb-true _ _ (and_left _ _ (and_right _ _ e)) in
      gives_as (gives_is _ (gives_position p.start r.span.start h hs)
      (gives_is _ (gives_position p.end r.span.end k he)
      (gives_is _ (gives_varint r.count (omega arith))
      (gives_is _ (gives_runs rs r.span hs he (and_right _ _ (and_right _ _ e)) (omega arith))
      (gives_pure _ (λ a. a ≡ r ∷ rs) (rw (word_back r.span.start hs, word_back r.span.end he))))))) (simp (append_assoc, append-nil)) refl refl

  pub gives_code : (b : List ℕ) (ss : List Span) → length ss ≡ length b → length b < 2 ^ 64 → small_spans ss ≡ true
      → Gives c (read_code c.spans) (write_code b ss) 0 (length b) (λ a. (a.part.bytes ≡ b) × (a.spans ≡ ss))
  unfolding read_code write_code write_runs
  gives_code b ss e h s =
      gives_as
      (gives_is _ (gives_varint (length b) h)
      (gives_bind (gives_body b) (λ l el.
      gives_then (gives_spans (length b))
      (gives_is _ (gives_varint (length (runs_of ss)) (omega (arith, count_runs ss)))
      (gives_is _ (gives_runs (runs_of ss) (record { start = 0; end = 0 }) (omega arith) (omega arith) (small_runs_lem ss s) (omega (arith, total_runs ss)))
      (gives_bind gives_here (λ p u.
      gives_then (gives_must _ 7 p (eq-eqb _ _ (total_runs ss ∙ e)))
      (gives_pure _ (λ a. (a.part.bytes ≡ b) × (a.spans ≡ ss)) (el, expand_runs ss)))))))))
      (simp (append_assoc, append-nil)) refl (omega arith)
