-- Laws of the walk: one stretch after another, a row's items, the loop over rows, and a row with those under it.
use Rattle.std.specs.Prelude.{Bool, true, false, List, [], ◌++◌, ◌≡◌, ℕ, zero, suc, ◌+◌, ◌-◌, ◌*◌, ◌/◌, ◌^◌, ◌≤◌, ◌<◌, eqb, ltb, get_or, take, drop}
use Rattle.std.proofs.Math.Path.{refl, ap, ap₂}
use Rattle.std.proofs.Common.{sym, ◌∙◌, subst, length-take, get_or-take, get_or-drop}
use native.Mathlib.Omega.{arith}
use Rattle.std.proofs.Math.ListN.{length, get_or-eq_default}
use borrow.Author.Tests.{ne_eqb, lt-ltb, le-ltb, ltb-true, ltb-false}
use Rattle.payload.specs.Choice.{when◌then◌else◌}
use Rattle.payload.specs.Sound.{spans_of}
use Rattle.payload.specs.Spans.{Span}
use Rattle.emit.specs.Emits.{Emits}
use Rattle.emit.specs.Laws.Emitter.{EmitsRest, emits_as, emits_none, emits_then, rest_start, rest_next, rest_end}
use Rattle.emit.specs.declared.Emitter.{Emitter}
use Rattle.row_layout.specs.Layout.{first_form, second_form, second_word, under_form}
use Rattle.row_layout.specs.Row.{row_word}
use Rattle.write_code.specs.Runs.{Positions}
use Rattle.write_rows.specs.Reached.{Writable, Reached}
use Rattle.write_rows.specs.Walk.{Held, held, row_count, tag_at, item_bytes, both_items, items_bytes, head_bytes, rows_under, row_spans, span_after, head_walk, Walked, walked, and_walk, walk_times, walk_row, walk_next, walk}
use Rattle.write_rows.specs.declared.Place.{Place}

---- a part of the span table

-- its words are positions where those of the table are
pub positions_part : (ws : List ℕ) (n a : ℕ) → Positions ws → Positions (take n (drop a ws))
positions_part ws n a h k = go (ltb k n) refl
  where
    go : (t : Bool) → ltb k n ≡ t → get_or (take n (drop a ws)) k 0 < 2 ^ 63
    go true q = let e : get_or (take n (drop a ws)) k 0 ≡ get_or ws (a + k) 0 = get_or-take n (drop a ws) k 0 (ltb-true k n q) ∙ get_or-drop a ws k 0 in omega (arith, h (a + k))
    go false q = let e = get_or-eq_default (take n (drop a ws)) 0 {n = k} (omega (arith, length-take n (drop a ws), ltb-false k n q)) in omega arith

-- it can be written with the same store and pool
pub writable_part : {store pool ws : List ℕ} (n a : ℕ) → Writable store pool ws → Writable store pool (take n (drop a ws))
writable_part {ws = ws} n a h = record { once = h.once; small = positions_part ws n a h.small }

---- one stretch after another

module _ {many : ℕ} where
  pub reached_then : {e e' e'' : Emitter} {i j i' j' : ℕ} {w : Walked} (f : ℕ → ℕ → Walked) → Reached e e' many i j w → Reached e' e'' many i' j' (f i j) → Reached e e'' many i' j' (and_walk w f)
  unfolding and_walk
  reached_then {i = i} {j = j} {w = w} f a b =
      let to : f i j ≡ f w.row w.span = ap₂ f a.row a.span in
      record {
        wrote = emits_then a.wrote (emits_as (ap (λ (v : Walked). v.bytes) to) b.wrote);
        row = b.row ∙ ap (λ (v : Walked). v.row) to;
        span = b.span ∙ ap (λ (v : Walked). v.span) to;
        within = b.within;
      }

  pub reached_as : {e e' : Emitter} {i j : ℕ} {w v : Walked} → w ≡ v → Reached e e' many i j w → Reached e e' many i j v
  reached_as {e} {e'} {i} {j} q g = subst (λ (x : Walked). Reached e e' many i j x) q g

  pub reached_none : (e : Emitter) {i j : ℕ} → j ≤ many → Reached e e many i j (walked [] i j)
  reached_none e g = record { wrote = emits_none e; row = refl; span = refl; within = g }

---- a row's items

pub item_as : (s : List ℕ) (l : List (List ℕ)) (ss : List Span) {k k' a a' b b' : ℕ} → k ≡ k' → a ≡ a' → b ≡ b' → item_bytes s l ss k a b ≡ item_bytes s l ss k' a' b'
item_as s l ss p q r = λ i. item_bytes s l ss (p i) (q i) (r i)

-- a number's bytes need neither store nor pool nor spans, nor a second word
pub item_number : (s : List ℕ) (l : List (List ℕ)) (ss : List Span) (k a b : ℕ) → k < 6 → item_bytes [] [] [] k a 0 ≡ item_bytes s l ss k a b
unfolding item_bytes when◌then◌else◌
item_number s l ss k a b h = rw (ne_eqb k 6 (λ e. omega arith), ne_eqb k 7 (λ e. omega arith))

-- the first, and the second
pub both_emitted : (H : Held) (i : ℕ) (ss : List Span) {e e₁ e₂ : Emitter} {tag f a b g w c d : ℕ} → tag ≡ tag_at H.rows i
    → f ≡ first_form tag → a ≡ row_word H.rows i 1 → b ≡ row_word H.rows i 2 → Emits e e₁ (item_bytes H.store H.pool ss f a b)
    → g ≡ second_form tag → w ≡ second_word tag → c ≡ row_word H.rows i w → d ≡ row_word H.rows i (w + 1) → Emits e₁ e₂ (item_bytes H.store H.pool ss g c d)
    → Emits e e₂ (both_items H i ss)
both_emitted H i ss et ef ea eb x eg ew ec ed y =
    let word = ew ∙ ap second_word et in
    emits_then (emits_as (item_as H.store H.pool ss (ef ∙ ap first_form et) ea eb) x)
    (emits_as (item_as H.store H.pool ss (eg ∙ ap second_form et) (ec ∙ ap (row_word H.rows i) word) (ed ∙ ap (λ (n : ℕ). row_word H.rows i (n + 1)) word)) y)

-- where there is no second
pub one_emitted : (H : Held) (i : ℕ) (ss : List Span) {e e₁ : Emitter} {tag f a b g : ℕ} → tag ≡ tag_at H.rows i
    → f ≡ first_form tag → a ≡ row_word H.rows i 1 → b ≡ row_word H.rows i 2 → Emits e e₁ (item_bytes H.store H.pool ss f a b)
    → g ≡ second_form tag → g ≡ 0 → Emits e e₁ (both_items H i ss)
unfolding item_bytes when◌then◌else◌
one_emitted H i ss {e₁ = e₁} {g = g} et ef ea eb x eg n = both_emitted H i ss et ef ea eb x eg refl refl refl (emits_as (none g _ _ n) (emits_none e₁))
  where
    none : (k a b : ℕ) → k ≡ 0 → [] ≡ item_bytes H.store H.pool ss k a b
    none k a b q = rw q

---- the loop: what is left to walk from here makes the whole

pub record Loop (many : ℕ) (F : ℕ → ℕ → Walked) (e e' : Emitter) (s h : Place) (count k : ℕ) : Type 0 where
  pub going : EmitsRest e e' (walk_times F count s.row s.span).bytes (walk_times F (count - k) h.row h.span).bytes
  pub row : (walk_times F count s.row s.span).row ≡ (walk_times F (count - k) h.row h.span).row
  pub span : (walk_times F count s.row s.span).span ≡ (walk_times F (count - k) h.row h.span).span
  pub within : h.span ≤ many

times_past : (H : Held) (f : ℕ → ℕ → ℕ → Walked) (n i j : ℕ) → row_count H.rows ≤ i → walk_times (walk_next H f) n i j ≡ walked [] i j
unfolding walk_times walk_next and_walk when◌then◌else◌
times_past H f zero i j h = refl
times_past H f (suc n) i j h = rw (le-ltb i (row_count H.rows) h) (times_past H f n i j h)

module _ {many : ℕ} (H : Held) (f : ℕ → ℕ → ℕ → Walked) where
  pub loop_start : (e : Emitter) {s : Place} (count : ℕ) → s.span ≤ many → Loop many (walk_next H f) e e s s count 0
  loop_start e count g = let q : count - 0 ≡ count = omega arith in (record { going = rw q (rest_start e _); row = rw q; span = rw q; within = g })

  pub loop_next : {a e e' : Emitter} {s h h' : Place} {count k : ℕ} → Loop many (walk_next H f) a e s h count k → k < count → h.row < row_count H.rows
      → Reached e e' many h'.row h'.span (walk_row H f h.row h.span) → Loop many (walk_next H f) a e' s h' count (k + 1)
  loop_next {h = h} {h' = h'} {count = count} {k = k} l c u g =
      let z : count - k ≡ suc (count - (k + 1)) = omega arith in
      let v = walk_times (walk_next H f) (count - (k + 1)) in
      let one : walk_next H f h.row h.span ≡ walk_row H f h.row h.span = is_row h.row h.span u in
      let w = walk_row H f h.row h.span in
      let all : walk_times (walk_next H f) (count - k) h.row h.span ≡ and_walk w v = ap (λ (n : ℕ). walk_times (walk_next H f) n h.row h.span) z ∙ more (count - (k + 1)) h.row h.span ∙ ap (λ (x : Walked). and_walk x v) one in
      let to : v w.row w.span ≡ v h'.row h'.span = ap₂ v (sym g.row) (sym g.span) in
      record {
        going = rest_next l.going (ap (λ (x : Walked). x.bytes) all ∙ bytes_of w v ∙ ap (λ (x : Walked). w.bytes ++ x.bytes) to) g.wrote;
        row = l.row ∙ ap (λ (x : Walked). x.row) all ∙ row_of_lem w v ∙ ap (λ (x : Walked). x.row) to;
        span = l.span ∙ ap (λ (x : Walked). x.span) all ∙ span_of w v ∙ ap (λ (x : Walked). x.span) to;
        within = g.within;
      }
    where
      is_row : (i j : ℕ) → i < row_count H.rows → walk_next H f i j ≡ walk_row H f i j
      is_row i j u = unfold walk_next in (rw (lt-ltb i (row_count H.rows) u) (unfold when◌then◌else◌ in refl))

      more : (n i j : ℕ) → walk_times (walk_next H f) (suc n) i j ≡ and_walk (walk_next H f i j) (walk_times (walk_next H f) n)
      more n i j = unfold walk_times in refl

      bytes_of : (w : Walked) (v : ℕ → ℕ → Walked) → (and_walk w v).bytes ≡ w.bytes ++ (v w.row w.span).bytes
      bytes_of w v = unfold and_walk in refl

      row_of_lem : (w : Walked) (v : ℕ → ℕ → Walked) → (and_walk w v).row ≡ (v w.row w.span).row
      row_of_lem w v = unfold and_walk in refl

      span_of : (w : Walked) (v : ℕ → ℕ → Walked) → (and_walk w v).span ≡ (v w.row w.span).span
      span_of w v = unfold and_walk in refl

  loop_stop : {e e' : Emitter} {s h : Place} {count k : ℕ} → Loop many (walk_next H f) e e' s h count k → walk_times (walk_next H f) (count - k) h.row h.span ≡ walked [] h.row h.span
      → Reached e e' many h.row h.span (walk_times (walk_next H f) count s.row s.span)
  loop_stop l q = record {
    wrote = rest_end l.going (ap (λ (x : Walked). x.bytes) q);
    row = sym (l.row ∙ ap (λ (x : Walked). x.row) q);
    span = sym (l.span ∙ ap (λ (x : Walked). x.span) q);
    within = l.within;
  }

  pub loop_end : {e e' : Emitter} {s h : Place} {count k : ℕ} → Loop many (walk_next H f) e e' s h count k → count ≤ k → Reached e e' many h.row h.span (walk_times (walk_next H f) count s.row s.span)
  unfolding walk_times
  loop_end {count = count} {k = k} l g = let z : count - k ≡ 0 = omega arith in loop_stop l (rw z)

  pub loop_past : {e e' : Emitter} {s h : Place} {count k : ℕ} → Loop many (walk_next H f) e e' s h count k → row_count H.rows ≤ h.row → Reached e e' many h.row h.span (walk_times (walk_next H f) count s.row s.span)
  loop_past {h = h} {count = count} {k = k} l g = loop_stop l (times_past H f (count - k) h.row h.span g)

pub walk_none : (H : Held) (d i j : ℕ) → walk H d 0 i j ≡ walked [] i j
unfolding walk walk_times
walk_none H zero i j = refl
walk_none H (suc d) i j = refl

---- a row

pub record Between (low high k : ℕ) : Type 0 where
  pub above : low ≤ k
  pub below : k ≤ high

-- the span after those of a row does not stand before them, nor past the last span
pub after_within : (H : Held) (i j r : ℕ) → r ≡ span_after H i j → j ≤ length H.spans / 2 → Between j (length H.spans / 2) r
unfolding span_after
after_within H i j r e h = record { above = omega arith; below = omega arith }

-- its bytes, with the spans that its code has
pub head_reached : (H : Held) (i j : ℕ) {e e' : Emitter} {j' : ℕ} → j' ≡ span_after H i j → j' ≤ length H.spans / 2
    → Emits e e' (head_bytes H i (spans_of (take (2 * j' - 2 * j) (drop (2 * j) H.spans)))) → Reached e e' (length H.spans / 2) (i + 1) j' (head_walk H i j)
unfolding row_spans
head_reached H i j es h g = record {
  wrote = emits_as (ap (λ (k : ℕ). head_bytes H i (spans_of (take (2 * k - 2 * j) (drop (2 * j) H.spans)))) es) g;
  row = refl;
  span = es;
  within = h;
}

-- the row i of a table that is the walk's, from the span j on, with those under it
module _ (s pl rs t : List ℕ) (i j : ℕ) {rows : List ℕ} (same : rows ≡ rs) where
  pub row_reached : (f : ℕ → ℕ → ℕ → Walked) {e e' e'' : Emitter} {i₁ j₁ i₂ j₂ n : ℕ} {test : Bool} → test ≡ eqb (under_form (tag_at rows i)) 4 → test ≡ false → n ≡ rows_under rows i
      → Reached e e' (length t / 2) i₁ j₁ (head_walk (held s pl rows t) i j) → Reached e' e'' (length t / 2) i₂ j₂ (f n i₁ j₁) → Reached e e'' (length t / 2) i₂ j₂ (walk_row (held s pl rs t) f i j)
  unfolding walk_row when◌then◌else◌
  row_reached f {n = n} et ef en a b =
      let et' = rw same at et in
      let en' = rw same at en in
      rw (← et', ef, ← en') (reached_then (f n) (rw same at a) b)

  pub closure_reached : (f : ℕ → ℕ → ℕ → Walked) {e e₁ e₂ e₃ e₄ : Emitter} {i₁ j₁ i₂ j₂ i₃ j₃ n : ℕ} {test : Bool}
      → test ≡ eqb (under_form (tag_at rows i)) 4 → test ≡ true → n ≡ rows_under rows i
      → Reached e e₁ (length t / 2) i₁ j₁ (head_walk (held s pl rows t) i j) → Reached e₁ e₂ (length t / 2) i₂ j₂ (f 1 i₁ j₁) → Emits e₂ e₃ (items_bytes (held s pl rows t) i [])
      → Reached e₃ e₄ (length t / 2) i₃ j₃ (f n i₂ j₂) → Reached e e₄ (length t / 2) i₃ j₃ (walk_row (held s pl rs t) f i j)
  unfolding walk_row when◌then◌else◌
  closure_reached f {e₂ = e₂} {e₃ = e₃} {i₂ = i₂} {j₂ = j₂} {n = n} et ey en a b c d =
      let et' = rw same at et in
      let en' = rw same at en in
      let items : ℕ → ℕ → Walked = walked (items_bytes (held s pl rs t) i []) in
      let mid : Reached e₂ e₃ (length t / 2) i₂ j₂ (items i₂ j₂) = record { wrote = rw same at c; row = refl; span = refl; within = b.within } in
      rw (← et', ey, ← en')
      (reached_then (λ i j. and_walk (f 1 i j) (λ i' j'. and_walk (items i' j') (f n))) (rw same at a) (reached_then (λ i j. and_walk (items i j) (f n)) b (reached_then (f n) mid d)))

  -- a row with nothing under it
  pub row_none : (d : ℕ) {e e' : Emitter} {i₁ j₁ n : ℕ} {test : Bool} → test ≡ eqb (under_form (tag_at rows i)) 4 → test ≡ false → n ≡ rows_under rows i → n ≡ 0
      → Reached e e' (length t / 2) i₁ j₁ (head_walk (held s pl rows t) i j) → Reached e e' (length t / 2) i₁ j₁ (walk_row (held s pl rs t) (walk (held s pl rs t) d) i j)
  row_none d {e' = e'} {i₁ = i₁} {j₁ = j₁} et ef en z a =
      row_reached (walk (held s pl rs t) d) et ef en a
      (reached_as (sym (ap (λ (k : ℕ). walk (held s pl rs t) d k i₁ j₁) z ∙ walk_none (held s pl rs t) d i₁ j₁)) (reached_none e' a.within))
