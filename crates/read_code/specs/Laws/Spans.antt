-- Runs and their spans, joined.
use Rattle.std.specs.Prelude.{List, [], ◌∷◌, ◌++◌, ◌≡◌, refl, ◌+◌, ◌*◌, length}
use Rattle.std.proofs.Common.{append_assoc, arith, length-append}
use Rattle.std.proofs.lemmas.List.{length-replicate}
use Rattle.payload.specs.Spans.{Span, Run, expand, total}
use Rattle.payload.specs.Tables.{span_words}

pub total_append : (a b : List Run) → total (a ++ b) ≡ total a + total b
unfolding total
total_append [] b = omega arith
total_append (r ∷ a) b = let h = total_append a b in omega arith

pub expand_append : (a b : List Run) → expand (a ++ b) ≡ expand a ++ expand b
unfolding expand
expand_append [] b = refl
expand_append (r ∷ a) b = rw (expand_append a b, append_assoc)

pub length_expand : (rs : List Run) → length (expand rs) ≡ total rs
unfolding expand total
length_expand [] = refl
length_expand (r ∷ rs) = rw (length-append, length-replicate, length_expand rs)

pub span_words_append : (a b : List Span) → span_words (a ++ b) ≡ span_words a ++ span_words b
unfolding span_words
span_words_append [] b = refl
span_words_append (s ∷ a) b = rw (span_words_append a b)

pub length_span_words_lem : (ss : List Span) → length (span_words ss) ≡ 2 * length ss
unfolding span_words
length_span_words_lem [] = refl
length_span_words_lem (s ∷ ss) = let h = length_span_words_lem ss in omega arith
