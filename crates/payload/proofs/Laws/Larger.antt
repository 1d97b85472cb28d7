-- In tables at least as large an answer other than 21 to 24 stays, and an accepted reading leaves the same.
use Rattle.std.specs.Prelude.{Bool, List, ◌⊎◌, ◌/◌, ◌<◌, ◌≤◌, min, ℕ, leb, ltb, length}
use Rattle.std.proofs.Math.Bool.{false, true}
use Rattle.std.proofs.Common.{⊎_elim, ◌∙◌, sym, add-zero, arith, lit≤, le-leb, leb-true, lt-ltb, ltb-true}
use Rattle.std.proofs.Math.Path.{◌≡◌, ap, refl}
use Rattle.payload.specs.Choice.{when◌then◌else◌}
use Rattle.payload.specs.House.{checked, house}
use Rattle.payload.proofs.Laws.Further.{Like, Room, alike, equal, freed, further, lacks}
use Rattle.payload.proofs.Laws.Moved.{still}
use Rattle.payload.specs.Moved.{moved_by}
use Rattle.payload.specs.Names.{is_listed}
use Rattle.payload.specs.Reader.{Result, State, refused, start}
use Rattle.payload.specs.Reading.{Payload, read_payload}
use Rattle.payload.specs.declared.Capacities.{Capacities}
use Rattle.payload.specs.Rows.{row_width}
use Rattle.payload.specs.Tables.{capacities_of, limits, reading, size_limit}

-- d has at least the room of c
pub record Larger (c d : Capacities) : Type 0 where
  pub more_rows : c.rows ≤ d.rows
  pub more_spans : c.spans ≤ d.spans
  pub more_strings : c.strings ≤ d.strings
  pub more_starts : c.starts ≤ d.starts

-- no refusal from 21 to 24
pub record HasRoom (x : Result Payload) : Type 0 where
  pub has_room : (n p : ℕ) → x ≡ refused n p → (n < 21) ⊎ (24 < n)

abbrev Full : ℕ → Type 0
Full n = (21 ≤ n) × (n ≤ 24)

ltb_room : (n k a b : ℕ) → Full n → a ≤ b → Room Full n (ltb k a) (ltb k b)
ltb_room n k a b f h = go (ltb k a) refl
  where
    go : (t : Bool) → ltb k a ≡ t → Room Full n t (ltb k b)
    go false e = lacks refl f
    go true e = let l = ltb-true k a e in equal (sym (lt-ltb k b (omega arith)))

leb_room : (n k a b : ℕ) → Full n → a ≤ b → Room Full n (leb k a) (leb k b)
leb_room n k a b f h = go (leb k a) refl
  where
    go : (t : Bool) → leb k a ≡ t → Room Full n t (leb k b)
    go false e = lacks refl f
    go true e = let l = leb-true k a e in equal (sym (le-leb k b (omega arith)))

module _ (c d : Capacities) (h : Larger c d) where
  -- from any state
  pub larger_payload : (listed : List ℕ → Bool) (s : State) → HasRoom (read_payload c listed s) → read_payload d listed s ≡ read_payload c listed s
  larger_payload listed s g = go _ _ g (rw (add-zero s.place, add-zero s.rows, add-zero s.spans) at ((further 0 0 0 Full c d (record {
    for_rows = λ k. rw (add-zero k) (ltb_room 22 k _ _ (lit≤ tt, lit≤ tt) h.more_rows);
    for_spans = λ k. rw (add-zero k) (leb_room 23 k _ _ (lit≤ tt, lit≤ tt) h.more_spans);
    for_strings = λ k. ltb_room 21 k _ _ (lit≤ tt, lit≤ tt) h.more_strings;
    for_starts = λ k. ltb_room 24 k _ _ (lit≤ tt, lit≤ tt) h.more_starts;
  }) listed).run s))
    where
      go : (x y : Result Payload) → HasRoom x → Like 0 0 0 Full (moved_by 0) x y → y ≡ x
      go x y g (alike e) = e ∙ still x
      go x y g (freed n q f e) = ⊎_elim (λ l. absurd (omega (arith, f.0))) (λ l. absurd (omega (arith, f.1))) (g.has_room n q e)

  pub larger_reading : (names p : List ℕ) → HasRoom (reading c names p) → reading d names p ≡ reading c names p
  unfolding reading
  larger_reading names p g = go (ltb size_limit (length p)) g
    where
      go : (t : Bool) → HasRoom (when◌then◌else◌ t (refused 16 0) (read_payload c (is_listed names) (start p)))
          → ◌≡◌ {A = Result Payload} (when◌then◌else◌ t (refused 16 0) (read_payload d (is_listed names) (start p))) (when◌then◌else◌ t (refused 16 0) (read_payload c (is_listed names) (start p)))
      go true g = unfold when◌then◌else◌ in refl
      go false g = unfold when◌then◌else◌ in (larger_payload (is_listed names) (start p) g)

  pub larger_house : (names p : List ℕ) → HasRoom (house c names p) → house d names p ≡ house c names p
  unfolding house checked
  larger_house names p g = ap (checked p) (larger_reading names p (record { has_room = λ n q e. g.has_room n q (ap (checked p) e) }))

---- loans at least as long in each table

min_more : (a b n : ℕ) → a ≤ b → min a n ≤ min b n
min_more a b n h = omega arith

pub larger_loans : (rows spans starts pool rows' spans' starts' pool' : ℕ) → rows ≤ rows' → spans ≤ spans' → starts ≤ starts' → pool ≤ pool'
    → Larger (capacities_of rows spans starts pool) (capacities_of rows' spans' starts' pool')
unfolding capacities_of
larger_loans rows spans starts pool rows' spans' starts' pool' hr hs ht hp = record {
  more_rows = min_more (rows / row_width) (rows' / row_width) limits.rows (omega arith);
  more_spans = min_more (spans / 2) (spans' / 2) limits.spans (omega arith);
  more_strings = min_more (pool / 2) (pool' / 2) limits.strings (omega arith);
  more_starts = min_more starts starts' limits.starts ht;
}
