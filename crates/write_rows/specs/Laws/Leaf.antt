-- A row with nothing under it: its bytes are its tag and its items, and do not depend on the spans; the walk of it is one row further.
use Rattle.std.specs.Prelude.{◌≡◌, refl, ℕ, ◌+◌, ◌/◌, ◌≤◌, ◌<◌, length}
use mathlib.Core.List.{List, [], append-nil}
use Rattle.std.proofs.Common.{arith, ne_eqb}
use Rattle.std.proofs.Math.Path.{ap}
use Rattle.payload.specs.Choice.{when◌then◌else◌}
use Rattle.payload.specs.Spans.{Span}
use Rattle.payload.specs.Writing.{tag_byte}
use Rattle.emit.specs.Emits.{Emits}
use Rattle.emit.specs.Laws.Emitter.{emits_as, emits_none, emits_then}
use Rattle.emit.specs.declared.Emitter.{Emitter}
use Rattle.pool_index.specs.Strings.{pool_strings}
use Rattle.row_layout.specs.Laws.Layout.{leaf_form_low, second_form_low}
use Rattle.row_layout.specs.Layout.{first_form, second_form, second_word, under_form}
use Rattle.row_layout.specs.Row.{row_word}
use Rattle.write_rows.specs.Laws.Walk.{reached_as, walk_none}
use Rattle.write_rows.specs.Reached.{Reached}
use Rattle.write_rows.specs.Walk.{held, tag_at, item_bytes, both_items, items_bytes, head_bytes, rows_under, row_spans, span_after, code_length, walked, and_walk, walk_row, walk}

-- an item that is no code has no spans
item_plain : (s : List ℕ) (l : List (List ℕ)) (ss : List Span) (k a b : ℕ) → k < 7 → item_bytes s l [] k a b ≡ item_bytes s l ss k a b
unfolding item_bytes when◌then◌else◌
item_plain s l ss k a b h = rw (ne_eqb k 7 (λ e. omega arith))

module _ (s pl rs t : List ℕ) (i : ℕ) (under : under_form (tag_at rs i) ≡ 0) where
  -- the tag and the items make the row
  pub leaf_emitted : {e e₁ e₂ : Emitter} {tag : ℕ} → tag ≡ tag_at rs i → Emits e e₁ (tag_byte tag) → Emits e₁ e₂ (both_items (held s pl rs t) i []) → Emits e e₂ (head_bytes (held s pl rs t) i [])
  unfolding head_bytes items_bytes when◌then◌else◌
  leaf_emitted {e₂ = e₂} et x y = rw under (emits_then (emits_as (ap tag_byte et) x) (emits_then y (emits_none e₂)))

  head_plain : (ss : List Span) → head_bytes (held s pl rs t) i [] ≡ head_bytes (held s pl rs t) i ss
  unfolding head_bytes items_bytes when◌then◌else◌
  head_plain ss =
      let a = item_plain s (pool_strings s pl) ss (first_form (row_word rs i 0)) (row_word rs i 1) (row_word rs i 2) (leaf_form_low (row_word rs i 0) under) in
      let b = item_plain s (pool_strings s pl) ss (second_form (row_word rs i 0)) (row_word rs i (second_word (row_word rs i 0))) (row_word rs i (second_word (row_word rs i 0) + 1)) (second_form_low (row_word rs i 0)) in
      rw (under, a, b)

  span_same : (j : ℕ) → j ≤ length t / 2 → span_after (held s pl rs t) i j ≡ j
  unfolding span_after code_length when◌then◌else◌
  span_same j h = let f = leaf_form_low (row_word rs i 0) under in rw (ne_eqb (first_form (row_word rs i 0)) 7 (λ e. omega arith)) (omega arith)

  walk_leaf : (d j : ℕ) → j ≤ length t / 2 → walked (head_bytes (held s pl rs t) i []) (i + 1) j ≡ walk_row (held s pl rs t) (walk (held s pl rs t) d) i j
  unfolding walk_row rows_under and_walk when◌then◌else◌
  walk_leaf d j h =
      rw (under, walk_none (held s pl rs t) d (i + 1) (span_after (held s pl rs t) i j), span_same j h, append-nil)
      (ap (λ (b : List ℕ). walked b (i + 1) j) (head_plain (row_spans (held s pl rs t) i j)))

-- what the writing of such a row has reached
pub leaf_reached : (s pl rs t : List ℕ) (d i j : ℕ) {e e' : Emitter} {rows : List ℕ} → rows ≡ rs → under_form (tag_at rows i) ≡ 0 → j ≤ length t / 2
    → Emits e e' (head_bytes (held s pl rows t) i []) → Reached e e' (length t / 2) (i + 1) j (walk_row (held s pl rs t) (walk (held s pl rs t) d) i j)
leaf_reached s pl rs t d i j same under h g =
    let under' = rw same at under in
    reached_as (walk_leaf s pl rs t i under' d j h) (record { wrote = rw same at g; row = refl; span = refl; within = h })
