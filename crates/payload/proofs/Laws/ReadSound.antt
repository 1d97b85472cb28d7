-- What an accepted reading leaves is sound, but for positions of spans above 2^63 - 1.
use Rattle.std.specs.Prelude.{Bool, true, ◌≡◌, refl, pos, ℤ, drop, length}
use mathlib.Core.List.{List, [], ◌++◌, ◌∷◌}
use Rattle.std.proofs.Math.Option.{Option, none, some}
use Rattle.std.proofs.Math.Path.{ap}
use Prim.Native.Nat.{◌%◌, ◌*◌, ◌+◌, ◌^◌, ◌≤◌, suc, zero, ℕ}
use Rattle.std.proofs.Common.{mod-lt, lit<, length-append}
use native.Mathlib.Omega.{arith}
use borrow.Author.Tests.{eqb-true, lt-ltb, ltb-true}
use Rattle.slices.specs.Laws.LittleEndian.{Bytes}
use Rattle.signed.specs.Signed.{word_of}
use Rattle.payload.specs.Demand3.{Listed, all_items, all_of, item_listed}
use Rattle.payload.proofs.Laws.Equal.{single_bytes}
use Rattle.payload.proofs.Laws.Given.{length_span_words}
use Rattle.payload.proofs.Laws.Keeps.{Keeps, Plain, Step, keeps_at, keeps_bind, keeps_body, keeps_byte, keeps_check, keeps_free, keeps_pure, keeps_value, keeps_varint}
use Rattle.payload.proofs.Laws.Kept.{NodeIs, TextIn, TextsIn, are_as, item_held, item_read, kept_chunk, kept_index, kept_position, node_tag}
use Rattle.payload.specs.Laws.Pool.{and_both, and_left, and_right}
use Rattle.payload.proofs.Laws.ReadBack.{all_items_lem}
use Rattle.payload.specs.Laws.Rules.{SoundScript, is_tag, item_sound, line_rule, obey_rules}
use Rattle.payload.proofs.Laws.ScanWritten.{InTrees}
use Rattle.payload.proofs.Laws.SoundTables.{InLine, obeyed_width}
use Rattle.payload.specs.Reader.{Part, Reader, State, ok, start}
use Rattle.payload.specs.Reading.{Payload, read_flagged, read_line_index, read_payload, read_pool, read_starts, read_string, read_strings}
use Rattle.payload.specs.declared.Capacities.{Capacities}
use Rattle.payload.specs.Rows.{items_spans, row_table, row_width, span_table}
use Rattle.payload.specs.Shapes.{depth_limit}
use Rattle.payload.specs.Sound.{all_starts}
use Rattle.payload.specs.Spans.{small_spans}
use Rattle.payload.specs.Tables.{span_words}
use Rattle.payload.specs.Trees.{Item, LineIndex, Trees, code, forget_item, forget_items, forget_line, forget_node, forget_script, forget_trees, native_name, nil, node, number}
use Rattle.payload.specs.Trees.{record_name, single, size, span_count, span_item, span_items, start_count, string}

-- positions are at most 2^63 - 1
unfoldable pub item_small : Item (List ℕ) → Bool
item_small (number k w) = true
item_small (string b) = true
item_small (native_name b) = true
item_small (record_name b) = true
item_small (code b ss) = small_spans ss

-- A read that left u and stopped at s.
pub record ReadIs (c : Capacities) (p : List ℕ) (listed : List ℕ → Bool) (u : Payload) (s : State) : Type 0 where
  pub outer_tag : u.script.outer.tag ≡ 32
  pub stands : InTrees p (single u.script.outer)
  pub line_stands : InLine p u.script.line
  pub pool_stands : TextsIn p u.pool
  pub in_list : Listed listed (forget_script u.script)
  pub obeys : obey_rules depth_limit (single (forget_script u.script).outer) ≡ true
  pub items : all_items item_read (single (forget_script u.script).outer) ≡ true
  pub line : line_rule (forget_script u.script).line ≡ true
  pub rows_are : s.rows ≡ size (single u.script.outer)
  pub rows_fit : size (single u.script.outer) ≤ c.rows
  pub spans_are : s.spans ≡ span_count (single (forget_script u.script).outer)
  pub spans_fit : span_count (single (forget_script u.script).outer) ≤ c.spans
  pub starts_fit : start_count (forget_line u.script.line) ≤ c.starts
  pub strings_fit : length u.pool ≤ c.strings
  pub place_is : s.rest ≡ drop s.place p
  pub place_in : s.place ≤ length p

module _ (c : Capacities) (p : List ℕ) where
  abbrev K : {A : Type 0} → Reader A → (A → ℕ → ℕ → Type 0) → Type 0
  K r P = Keeps c p r P

  ---- the pool

  kept_string : K read_string (Plain c p (TextIn p))
  unfolding read_string
  kept_string = keeps_free c p (keeps_varint c p) (λ n w. keeps_at c p (λ q. keeps_free c p (keeps_body c p n) (λ l z. keeps_check c p _ 3 q _ (λ e.
      keeps_value c p l (TextIn p) (record { text_stands = z.0; text_utf8 = e })))))

  -- strings after k that were read
  abbrev StringsAre : ℕ → ℕ → List Part → Type 0
  StringsAre most k ls = TextsIn p ls × (k + length ls ≤ most)

  kept_strings : (most n k : ℕ) → k ≤ most → K (read_strings most n k) (Plain c p (StringsAre most k))
  unfolding read_strings TextsIn
  kept_strings most zero k h = keeps_value c p [] (StringsAre most k) (tt, omega arith)
  kept_strings most (suc n) k h = keeps_at c p (λ q. keeps_check c p _ 21 q _ (λ e. keeps_free c p kept_string (λ b z.
      keeps_free c p (kept_strings most n (suc k) (ltb-true k most e)) (λ bs y. keeps_value c p (b ∷ bs) (StringsAre most k) ((z, y.0), omega (arith, y.1))))))

  kept_pool : K (read_pool c.strings) (Plain c p (StringsAre c.strings 0))
  unfolding read_pool
  kept_pool = keeps_free c p (keeps_varint c p) (λ n w. kept_strings c.strings n 0 (omega arith))

  ---- the line index

  -- starts after k that were read
  abbrev StartsAre : ℕ → ℕ → List ℕ → Type 0
  StartsAre most k ss = (all_starts ss ≡ true) × (k + length ss ≤ most)

  kept_starts : (most n k : ℕ) (sum : ℤ) → k ≤ most → K (read_starts most n k sum) (Plain c p (StartsAre most k))
  unfolding read_starts all_starts
  kept_starts most zero k sum h = keeps_value c p [] (StartsAre most k) (refl, omega arith)
  kept_starts most (suc n) k sum h = keeps_at c p (λ q. keeps_check c p _ 24 q _ (λ e. keeps_free c p (kept_position c p sum) (λ sum' z.
      keeps_free c p (kept_starts most n (suc k) sum' (ltb-true k most e)) (λ ss y.
      keeps_value c p (word_of sum' % 2 ^ 32 ∷ ss) (StartsAre most k) (and_both (lt-ltb _ _ (mod-lt (word_of sum') (lit< tt))) y.0, omega (arith, y.1))))))

  record LineIs (x : Option (LineIndex Part)) : Type 0 where
    line_in : InLine p x
    line_rule_lem : line_rule (forget_line x) ≡ true
    line_starts_lem : start_count (forget_line x) ≤ c.starts

  module _ (listed : List ℕ → Bool) (small : Bytes p) where
    kept_flagged : (pool : List Part) → TextsIn p pool → (f : ℕ) → K (read_flagged (record { capacities = c; pool = pool; listed = listed }) f) (Plain c p LineIs)
    unfolding read_flagged InLine line_rule start_count forget_line
    kept_flagged pool h zero = keeps_value c p none LineIs (record { line_in = tt; line_rule_lem = refl; line_starts_lem = omega arith })
    kept_flagged pool h (suc f) = keeps_free c p (kept_index c p listed small pool h) (λ l z. keeps_free c p (keeps_varint c p) (λ n w. keeps_free c p (kept_starts c.starts n 0 (pos 0) (omega arith)) (λ ss y.
        keeps_value c p (some (record { name = l; starts = ss })) LineIs (record { line_in = z.text_stands; line_rule_lem = and_both z.text_utf8 y.0; line_starts_lem = omega (arith, y.1) }))))

    kept_line : (pool : List Part) → TextsIn p pool → K (read_line_index (record { capacities = c; pool = pool; listed = listed })) (Plain c p LineIs)
    unfolding read_line_index
    kept_line pool h = keeps_at c p (λ q. keeps_free c p (keeps_byte c p) (λ f w. keeps_check c p _ 13 q _ (λ e. kept_flagged pool h f)))

    ---- the whole payload

    record PayloadIs (u : Payload) (k m : ℕ) : Type 0 where
      outer_is : NodeIs c p listed (is_tag 32) 32 u.script.outer k m
      line_is : LineIs u.script.line
      pool_is : StringsAre c.strings 0 u.pool

    kept_payload : K (read_payload c listed) PayloadIs
    unfolding read_payload
    kept_payload = keeps_free c p kept_pool (λ pool z. keeps_bind c p (kept_chunk c p listed small pool z.0) (λ outer k m y. keeps_free c p (kept_line pool z.0) (λ line x.
        keeps_pure c p (record { pool = pool; script = record { outer = outer; line = line } }) (λ u k' m'. PayloadIs u (k + k') (m + m'))
        (record { outer_is = are_as c p listed y (omega arith) (omega arith); line_is = x; pool_is = z }))))

    read_step : (u : Payload) (s : State) → Step c p (start p) s (PayloadIs u) → ReadIs c p listed u s
    unfolding single forget_script forget_node forget_trees Listed
    read_step u s w =
        let o = w.holds.outer_is in
        let held = o.trees_held in
        let rows : s.rows ≡ size (single u.script.outer) = omega (arith, w.by_rows, o.trees_rows) in
        let spans : s.spans ≡ span_count (single (forget_script u.script).outer) = omega (arith, w.by_spans, o.trees_spans) in
        record {
          outer_tag = eqb-true _ _ (node_tag c p listed (is_tag 32) 32 u.script.outer w.k w.m o);
          stands = o.trees_in;
          line_stands = w.holds.line_is.line_in;
          pool_stands = w.holds.pool_is.0;
          in_list = all_items_lem (item_held listed) (item_held listed) (item_listed listed) (λ i a b. unfold item_held in (and_right _ _ a)) (forget_trees (single u.script.outer)) held held;
          obeys = o.trees_obey;
          items = all_items_lem (item_held listed) (item_held listed) item_read (λ i a b. unfold item_held in (and_left _ _ a)) (forget_trees (single u.script.outer)) held held;
          line = w.holds.line_is.line_rule_lem;
          rows_are = rows;
          rows_fit = omega (arith, w.inv.inv_rows);
          spans_are = spans;
          spans_fit = omega (arith, w.inv.inv_spans);
          starts_fit = w.holds.line_is.line_starts_lem;
          strings_fit = omega (arith, w.holds.pool_is.1);
          place_is = w.inv.inv_rest;
          place_in = w.inv.inv_place;
        }

-- every accepted read, of bytes
pub read_is : (c : Capacities) (p : List ℕ) (listed : List ℕ → Bool) → Bytes p → (u : Payload) (s : State) → read_payload c listed (start p) ≡ ok u s → ReadIs c p listed u s
read_is c p listed small u s e = read_step c p listed small u s ((kept_payload c p listed small).run (start p) u s
    (record { inv_rest = refl; inv_place = omega arith; inv_rows = omega arith; inv_spans = omega arith }) e)

---- the counts of an accepted read are those of the words that it leaves

items_spans_lem : (is : List (Item Part)) → all_of item_read (forget_items is) ≡ true → length (items_spans is) ≡ span_items (forget_items is)
unfolding all_of forget_items forget_item item_read items_spans span_items span_item
items_spans_lem [] h = refl
items_spans_lem (number k w ∷ is) h = omega (arith, items_spans_lem is (and_right _ _ h))
items_spans_lem (string b ∷ is) h = omega (arith, items_spans_lem is (and_right _ _ h))
items_spans_lem (native_name b ∷ is) h = omega (arith, items_spans_lem is (and_right _ _ h))
items_spans_lem (record_name b ∷ is) h = omega (arith, items_spans_lem is (and_right _ _ h))
items_spans_lem (code b ss ∷ is) h = omega (arith, length-append ss (items_spans is), items_spans_lem is (and_right _ _ h), eqb-true (length ss) (length b.bytes) (and_left _ _ h))

-- one span for each byte of code that was read
trees_spans : (ts : Trees Part) → all_items item_read (forget_trees ts) ≡ true → length (span_table ts) ≡ span_count (forget_trees ts)
unfolding all_items forget_trees span_table span_count
trees_spans nil h = refl
trees_spans (node t is ks ts) h = omega (
  arith,
  length-append (items_spans is) (span_table ks ++ span_table ts),
  length-append (span_table ks) (span_table ts),
  items_spans_lem is (and_left _ _ h),
  trees_spans ks (and_left _ _ (and_right _ _ h)),
  trees_spans ts (and_right _ _ (and_right _ _ h)),
)

module _ {c : Capacities} {p : List ℕ} {listed : List ℕ → Bool} {u : Payload} {s : State} (r : ReadIs c p listed u s) where
  pub rows_counted : row_width * s.rows ≡ length (row_table (single u.script.outer))
  unfolding forget_script
  rows_counted = omega (arith, r.rows_are, obeyed_width depth_limit (single u.script.outer) (rw (single_bytes u.script.outer) r.obeys))

  pub spans_counted : 2 * s.spans ≡ length (span_words (span_table (single u.script.outer)))
  unfolding forget_script
  spans_counted =
      let e = single_bytes u.script.outer in
      omega (arith, r.spans_are, length_span_words (span_table (single u.script.outer)), trees_spans (single u.script.outer) (rw e r.items), ap span_count e)

---- soundness

sound_item : (i : Item (List ℕ)) → item_read i ≡ true → item_small i ≡ true → item_sound i ≡ true
unfolding item_read item_small item_sound
sound_item (number k w) h s = h
sound_item (string b) h s = h
sound_item (native_name b) h s = h
sound_item (record_name b) h s = h
sound_item (code b ss) h s = and_both h s

-- what was read is a sound program if its positions are small
pub read_sound : (c : Capacities) (p : List ℕ) (listed : List ℕ → Bool) → Bytes p → (u : Payload) (s : State) → read_payload c listed (start p) ≡ ok u s
    → all_items item_small (single (forget_script u.script).outer) ≡ true → SoundScript (forget_script u.script)
unfolding forget_script forget_node
read_sound c p listed small u s e h = let r = read_is c p listed small u s e in
    record { outer_is_chunk = r.outer_tag; obeys = r.obeys; items_sound = all_items_lem item_read item_small item_sound sound_item _ r.items h; line_sound_lem = r.line }
