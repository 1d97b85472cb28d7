-- Spans stored in a table one after another, and run after run.
use Rattle.std.specs.Prelude.{Bool, true, false, List, [], ◌∷◌, ◌++◌, ◌≡◌, refl, ℕ, suc, ◌+◌, ◌-◌, ◌*◌, ◌≤◌, ltb, min, length, replicate}
use Rattle.std.proofs.Common.{arith, sym, ap, ◌∙◌, append-nil}
use Rattle.std.proofs.Math.ListN.{set, length-replicate, replicate-append-replicate}
use Rattle.std.proofs.Math.Seq.{set_comm, set-set}
use borrow.Author.Tests.{ltb-true, ltb-false}
use Rattle.slices.specs.Put.{put}
use Rattle.slices.specs.Laws.Put.{put_put, put_last, put_cons}
use Rattle.payload.specs.Spans.{Span, Run, expand, total}
use Rattle.payload.specs.Tables.{span_words}
use Rattle.read_code.specs.Laws.Spans.{expand_append, length_expand, span_words_append, length_span_words_lem}

-- spans from span number `from` on, and more of them right after
pub spans_more :
    (xs : List ℕ) (from : ℕ) (a b : List Span) (next : ℕ) → next ≡ from + length a →
    put (put xs (2 * from) (span_words a)) (2 * next) (span_words b) ≡ put xs (2 * from) (span_words (a ++ b))
spans_more xs from a b next e =
    let k : 2 * next ≡ 2 * from + length (span_words a) = omega (arith, length_span_words_lem a) in
    rw (k, put_put) (ap (put xs (2 * from)) (sym (span_words_append a b)))

-- one span
pub span_stored : (xs : List ℕ) (i : ℕ) (s : Span) → set (set xs i s.start) (i + 1) s.end ≡ put xs i (span_words (s ∷ []))
unfolding span_words
span_stored xs i s = put_last (set xs i s.start) (i + 1) s.end ∙ put_cons xs i s.start (s.end ∷ [])

-- one span more of a run of equal ones
pub span_after : (xs ys : List ℕ) (from k : ℕ) (s : Span) → ys ≡ put xs (2 * from) (span_words (replicate k s)) →
    put ys (2 * (from + k)) (span_words (s ∷ [])) ≡ put xs (2 * from) (span_words (replicate (k + 1) s))
span_after xs ys from k s e =
    ap (λ (l : List ℕ). put l (2 * (from + k)) (span_words (s ∷ []))) e
    ∙ spans_more xs from (replicate k s) (s ∷ []) (from + k) (omega (arith, length-replicate k s))
    ∙ ap (λ (l : List Span). put xs (2 * from) (span_words l)) (replicate-append-replicate k 1 s)

-- a span stored twice
span_twice : (xs : List ℕ) (i : ℕ) (s : Span) → put (put xs i (span_words (s ∷ []))) i (span_words (s ∷ [])) ≡ put xs i (span_words (s ∷ []))
unfolding span_words put
span_twice xs i s =
    let a = s.start in
    let b = s.end in
    rw (set_comm (set xs i a) (suc i) i b a (λ e. omega (arith, e)), set-set xs i a a, set-set (set xs i a) (suc i) b b)

-- the last one of a run of equal spans, stored again
span_again : (xs ys : List ℕ) (from k : ℕ) (s : Span) → ys ≡ put xs (2 * from) (span_words (replicate (k + 1) s)) →
    put ys (2 * (from + k)) (span_words (s ∷ [])) ≡ put xs (2 * from) (span_words (replicate (k + 1) s))
span_again xs ys from k s e =
    let last = span_after xs _ from k s refl in
    ap (λ (l : List ℕ). put l (2 * (from + k)) (span_words (s ∷ []))) (e ∙ sym last)
    ∙ span_twice (put xs (2 * from) (span_words (replicate k s))) (2 * (from + k)) s
    ∙ last

-- the next one of n equal spans, or the last one again where all are stored
pub span_next :
    (xs ys : List ℕ) (from n k place : ℕ) (s : Span) → 1 ≤ n → place + 1 ≡ from + min (k + 1) n → ys ≡ put xs (2 * from) (span_words (replicate (min k n) s)) →
    put ys (2 * place) (span_words (s ∷ [])) ≡ put xs (2 * from) (span_words (replicate (min (k + 1) n) s))
span_next xs ys from n k place s some p e = go (ltb k n) refl
  where
    go : (t : Bool) → ltb k n ≡ t → put ys (2 * place) (span_words (s ∷ [])) ≡ put xs (2 * from) (span_words (replicate (min (k + 1) n) s))
    go true t =
        let less = ltb-true k n t in
        let before : min k n ≡ k = omega arith in
        let next : min (k + 1) n ≡ k + 1 = omega arith in
        let at : place ≡ from + k = omega arith in
        rw (next, at) (span_after xs ys from k s (rw before at e))
    go false t =
        let all = ltb-false k n t in
        let before : min k n ≡ n - 1 + 1 = omega arith in
        let next : min (k + 1) n ≡ n - 1 + 1 = omega arith in
        let at : place ≡ from + (n - 1) = omega arith in
        rw (next, at) (span_again xs ys from (n - 1) s (rw before at e))

-- one run more
pub spans_of_run :
    (xs : List ℕ) (used : ℕ) (rs : List Run) (r : Run) (from : ℕ) → from ≡ used + total rs →
    put (put xs (2 * used) (span_words (expand rs))) (2 * from) (span_words (replicate r.count r.span))
    ≡ put xs (2 * used) (span_words (expand (rs ++ (r ∷ []))))
unfolding expand
spans_of_run xs used rs r from e =
    spans_more xs used (expand rs) (replicate r.count r.span) from (omega (arith, length_expand rs))
    ∙ ap (λ (l : List Span). put xs (2 * used) (span_words l))
    (sym (expand_append rs (r ∷ []) ∙ ap (λ (l : List Span). expand rs ++ l) (append-nil (replicate r.count r.span))))
