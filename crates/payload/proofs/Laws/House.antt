-- The house check over the definitions: it passes exactly the writings of sound scripts that fit and whose natives are listed.
use Rattle.std.specs.Prelude.{Bool, false, ◌≡◌, ltb}
use Rattle.std.proofs.Math.Bool.{true}
use mathlib.Core.List.{List, [], ◌++◌, ◌∷◌, append_assoc, append-nil, map}
use Rattle.std.proofs.Common.{◌∙◌, arith, length-append, eq-eqb, eqb-true, le-ltb, ltb-false, ltb-true}
use Rattle.std.proofs.Math.Path.{ap, refl, sym}
use Prim.Native.Nat.{◌+◌, ◌<◌, ◌^◌, ◌≤◌, suc, zero, ℕ}
use Rattle.std.proofs.Math.Nat.{zero-add}
use Rattle.std.proofs.Math.ListN.{length}
use Rattle.std.proofs.Math.Seq.{drop-length}
use Rattle.slices.specs.Laws.LittleEndian.{Bytes}
use Rattle.slices.specs.Laws.Same.{same_eq, same_refl}
use Rattle.varint.specs.Uleb128.{uleb128}
use Rattle.payload.specs.Choice.{when◌then◌else◌}
use Rattle.payload.specs.Demand3.{Fits, Listed, all_items, all_of, item_listed}
use Rattle.payload.specs.House.{all_named, checked, house, house_written, is_ok}
use Rattle.payload.proofs.Laws.Equal.{single_bytes}
use Rattle.payload.proofs.Laws.Given.{small_span_table, spans_of_words}
use Rattle.payload.specs.Laws.Gives.{after}
use Rattle.payload.proofs.Laws.Keeps.{invert, not_ok}
use Rattle.payload.proofs.Laws.Kept.{item_read}
use Rattle.payload.specs.Laws.Named.{all_named_lem, named_all}
use Rattle.payload.specs.Laws.Pool.{and_both, and_left, and_right, false≢true}
use Rattle.payload.proofs.Laws.ReadBack.{few_strings, gives_payload, pool_back}
use Rattle.payload.proofs.Laws.ReadSound.{read_is}
use Rattle.payload.specs.Laws.Rules.{Named, Small, SoundScript, item_sound, line_rule, obey_rules}
use Rattle.payload.proofs.Laws.SoundTables.{Holds, holds_sound, sound_holds, sound_script_lem}
use Rattle.payload.specs.Laws.Varint.{gives_varint}
use Rattle.payload.specs.Names.{is_listed}
use Rattle.payload.specs.Numbers.{varint}
use Rattle.payload.specs.Reader.{Part, Result, State, ◌>>=◌, ◌>>◌, here, must, ok, pure, refused, start}
use Rattle.payload.specs.Reading.{Payload, read_chunk, read_line_index, read_payload, read_pool, read_string, read_strings}
use Rattle.payload.specs.declared.Capacities.{Capacities}
use Rattle.payload.specs.Rows.{items_spans, span_table}
use Rattle.payload.specs.Sound.{Tables, is_nil, script_of, spans_of}
use Rattle.payload.specs.Spans.{Span, small_spans}
use Rattle.payload.specs.Tables.{limits, reading, size_limit, span_words, tables_of}
use Rattle.payload.specs.Trees.{Item, Script, Trees, code, forget_item, forget_items, forget_line, forget_node, forget_script, forget_trees, native_name, nil, node, number, record_name, single, size, span_count, start_count, string}
use Rattle.payload.specs.Writing.{concat, pool_of, write_line_index, write_strings, write_trees, writing}

---- the reading of a writing

-- p is the writing of a sound script that fits and whose natives are listed
pub record IsWriting (c : Capacities) (listed : List ℕ → Bool) (p : List ℕ) (s : Script (List ℕ)) : Type 0 where
  pub sound : SoundScript s
  pub named : Named s
  pub in_list : Listed listed s
  pub fits : Fits c s
  pub its_writing : writing s ≡ p
  pub within : length p ≤ size_limit

must_true : (b : Bool) (n p : ℕ) (s : State) (u : Unit {0}) (s' : State) → must b n p s ≡ ok u s' → b ≡ true
unfolding must
must_true true n p s u s' e = refl
must_true false n p s u s' e = not_ok n p u s' e

-- n strings are read only where there is room for them
strings_few : (most n k : ℕ) → k ≤ most → (s : State) (ls : List Part) (s' : State) → read_strings most n k s ≡ ok ls s' → k + n ≤ most
unfolding read_strings ◌>>=◌ ◌>>◌
strings_few most zero k h s ls s' e = omega arith
strings_few most (suc n) k h s ls s' e =
    let x = invert (here s) _ ls s' e in
    let y = invert (must (ltb k most) 21 x.0 x.1) _ ls s' x.3 in
    let z = invert (read_string y.1) _ ls s' y.3 in
    let w = invert (read_strings most n (suc k) z.1) _ ls s' z.3 in
    let l = ltb-true k most (must_true (ltb k most) 21 x.0 x.1 y.0 y.1 y.2) in
    let r = strings_few most n (suc k) l z.1 w.0 w.1 w.2 in
    omega arith

module _ (c : Capacities) (small : Small c) (listed : List ℕ → Bool) (p : List ℕ) where
  pub read_back : (s : Script (List ℕ)) → IsWriting c listed p s
      → (u : Payload) × (z : State) × (read_payload c listed (start p) ≡ ok u z) × (z.rest ≡ []) × (z.place ≡ length p) × (forget_script u.script ≡ s)
  unfolding after
  read_back s h =
      let short : length (writing s) < 2 ^ 64 = let q = ap length h.its_writing in omega (arith, h.within) in
      let g = (gives_payload c small listed s h.sound h.named h.in_list h.fits short).run (start p) [] (sym (append-nil (writing s) ∙ h.its_writing))
      (omega (arith, h.fits.fit_rows)) (omega (arith, h.fits.fit_spans)) in
      let l : length (writing s) ≡ length p = ap length h.its_writing in
      (g.0, after (length (writing s)) (size (single s.outer)) (span_count (single s.outer)) (start p), g.1, rw l (drop-length p), zero-add (length (writing s)) ∙ l, g.2)

  -- the pool that was read has the strings of the writing's pool
  pub read_strings_lem : (u : Payload) (z : State) → read_payload c listed (start p) ≡ ok u z → IsWriting c listed p (forget_script u.script) → map (λ (x : Part). x.bytes) u.pool ≡ pool_of (forget_script u.script)
  unfolding read_payload ◌>>=◌ pure
  read_strings_lem u z e w =
      let s = forget_script u.script in
      let x = invert (read_pool c.strings (start p)) _ u z e in
      let y = invert (read_chunk (record { capacities = c; pool = x.0; listed = listed }) x.1) _ u z x.3 in
      let v = invert (read_line_index (record { capacities = c; pool = x.0; listed = listed }) y.1) _ u z y.3 in
      let short : length (writing s) < 2 ^ 64 = let q = ap length w.its_writing in omega (arith, w.within) in
      let more = concat (write_trees (pool_of s) (single s.outer)) ++ write_line_index (pool_of s) s.line in
      let g = (pool_back c small listed s w.sound w.named w.in_list w.fits short).run (start p) more (unfold writing in sym w.its_writing) (omega arith) (omega arith) in
      let a : g.0 ≡ x.0 = cc (g.1, x.2) in
      let b : x.0 ≡ u.pool = cc v.3 in
      ap (map (λ (x : Part). x.bytes)) (sym b) ∙ ap (map (λ (x : Part). x.bytes)) (sym a) ∙ g.2

  -- the pool's count is the writing's
  pool_fits : (s : Script (List ℕ)) (u : Payload) (z : State) → writing s ≡ p → length p ≤ size_limit → read_payload c listed (start p) ≡ ok u z → length (pool_of s) ≤ c.strings
  unfolding read_payload read_pool ◌>>=◌
  pool_fits s u z w h e = let x = invert (read_pool c.strings (start p)) _ u z e in go x.0 x.1 x.2
    where
      N : ℕ
      N = length (pool_of s)

      more : List ℕ
      more = write_strings (pool_of s) ++ (concat (write_trees (pool_of s) (single s.outer)) ++ write_line_index (pool_of s) s.line)

      begins : p ≡ uleb128 N ++ more
      begins = unfold writing in (sym w ∙ append_assoc (uleb128 N) (write_strings (pool_of s)) _)

      small_N : N < 2 ^ 64
      small_N = let a : length (uleb128 N ++ more) ≡ length (uleb128 N) + (length (write_strings (pool_of s)) + length (concat (write_trees (pool_of s) (single s.outer)) ++ write_line_index (pool_of s) s.line)) = simp length-append in
          let b = ap length begins in let f = few_strings (pool_of s) in omega arith

      counted : (n : ℕ) (s₀ : State) → varint (start p) ≡ ok n s₀ → n ≡ N
      counted n s₀ q = let g = (gives_varint {c = c} N small_N).run (start p) more begins (omega arith) (omega arith) in
          let same-n : n ≡ g.0 = cc g.1 in same-n ∙ g.2

      go : (ls : List Part) (s₁ : State) → read_pool c.strings (start p) ≡ ok ls s₁ → N ≤ c.strings
      go ls s₁ x = let y = invert (varint (start p)) _ ls s₁ x in
          let k = counted y.0 y.1 y.2 in
          let f = strings_few c.strings y.0 0 (omega arith) y.1 ls s₁ y.3 in omega arith

---- what a passing check has

pub ok_true : {A : Type 0} (x : Result A) → is_ok x ≡ true → (a : A) × (s : State) × (x ≡ ok a s)
unfolding is_ok
ok_true (ok a s) e = (a, s, refl)
ok_true (refused n p) e = false≢true e

pub is_ok_lem : {A : Type 0} (x : Result A) (a : A) (s : State) → x ≡ ok a s → is_ok x ≡ true
unfolding is_ok
is_ok_lem x a s e = rw e

pub checked_ok : (p : List ℕ) (x : Result Payload) → is_ok (checked p x) ≡ true → (u : Payload) × (s : State) × (x ≡ ok u s) × (house_written p u s ≡ true)
unfolding checked is_ok when◌then◌else◌
checked_ok p (ok u s) e = (u, s, refl, go (house_written p u s) e)
  where
    go : (t : Bool) → is_ok (when◌then◌else◌ {A = Result Payload} t (ok u s) (refused 19 0)) ≡ true → t ≡ true
    go true e = refl
    go false e = false≢true e
checked_ok p (refused n q) e = false≢true e

-- a passing check leaves what the read gives
pub check_passed : (p : List ℕ) (x : Result Payload) → is_ok (checked p x) ≡ true → checked p x ≡ x
unfolding checked is_ok when◌then◌else◌
check_passed p (refused n q) e = refl
check_passed p (ok u s) e = go (house_written p u s) e
  where
    go : (t : Bool) → is_ok (when◌then◌else◌ {A = Result Payload} t (ok u s) (refused 19 0)) ≡ true → when◌then◌else◌ t (ok u s) (refused 19 0) ≡ ok u s
    go true e = refl
    go false e = false≢true e

pub reading_ok : (c : Capacities) (names p : List ℕ) (u : Payload) (s : State) → reading c names p ≡ ok u s → (length p ≤ size_limit) × (read_payload c (is_listed names) (start p) ≡ ok u s)
unfolding reading when◌then◌else◌
reading_ok c names p u s e = go (ltb size_limit (length p)) refl e
  where
    go : (t : Bool) → ltb size_limit (length p) ≡ t → when◌then◌else◌ t (refused 16 0) (read_payload c (is_listed names) (start p)) ≡ ok u s → (length p ≤ size_limit) × (read_payload c (is_listed names) (start p) ≡ ok u s)
    go true q e = not_ok 16 0 u s e
    go false q e = (ltb-false size_limit (length p) q, e)

pub reading_short : (c : Capacities) (names p : List ℕ) → length p ≤ size_limit → reading c names p ≡ read_payload c (is_listed names) (start p)
unfolding reading when◌then◌else◌
reading_short c names p h = rw (le-ltb size_limit (length p) h)

-- an accepted read whose tables are sound gives the script that they hold
pub read_holds : (c : Capacities) (p : List ℕ) (listed : List ℕ → Bool) → Bytes p → (u : Payload) (s : State) → read_payload c listed (start p) ≡ ok u s → Holds (tables_of p u.script) u.script
unfolding tables_of
read_holds c p listed b u s e = let r = read_is c p listed b u s e in record { is_tables = refl; in_trees = r.stands; in_line = r.line_stands }

-- the positions of a span table are those of the rows' code
small_left : (a b : List Span) → small_spans (a ++ b) ≡ true → small_spans a ≡ true
unfolding small_spans
small_left [] b e = refl
small_left (s ∷ a) b e = and_both (and_left _ _ e) (and_both (and_left _ _ (and_right _ _ e)) (small_left a b (and_right _ _ (and_right _ _ e))))

small_right : (a b : List Span) → small_spans (a ++ b) ≡ true → small_spans b ≡ true
unfolding small_spans
small_right [] b e = e
small_right (s ∷ a) b e = small_right a b (and_right _ _ (and_right _ _ e))

small_items : (is : List (Item Part)) → all_of item_read (forget_items is) ≡ true → small_spans (items_spans is) ≡ true → all_of item_sound (forget_items is) ≡ true
unfolding all_of forget_items forget_item items_spans item_read item_sound
small_items [] a e = refl
small_items (number k w ∷ is) a e = and_both (and_left _ _ a) (small_items is (and_right _ _ a) e)
small_items (string b ∷ is) a e = and_both (and_left _ _ a) (small_items is (and_right _ _ a) e)
small_items (native_name b ∷ is) a e = and_both (and_left _ _ a) (small_items is (and_right _ _ a) e)
small_items (record_name b ∷ is) a e = and_both (and_left _ _ a) (small_items is (and_right _ _ a) e)
small_items (code b ss ∷ is) a e = and_both (and_both (and_left _ _ a) (small_left ss (items_spans is) e)) (small_items is (and_right _ _ a) (small_right ss (items_spans is) e))

pub small_trees : (ts : Trees Part) → all_items item_read (forget_trees ts) ≡ true → small_spans (span_table ts) ≡ true → all_items item_sound (forget_trees ts) ≡ true
unfolding all_items forget_trees span_table
small_trees nil a e = refl
small_trees (node t is ks ts) a e =
    let r = small_right (items_spans is) (span_table ks ++ span_table ts) e in
    and_both (small_items is (and_left _ _ a) (small_left (items_spans is) (span_table ks ++ span_table ts) e))
    (and_both (small_trees ks (and_left _ _ (and_right _ _ a)) (small_left (span_table ks) (span_table ts) r)) (small_trees ts (and_right _ _ (and_right _ _ a)) (small_right (span_table ks) (span_table ts) r)))

-- an accepted read is sound where its tables are: only positions can fail
sound_again : (p : List ℕ) (u v : Script Part) (z : State) → u.outer.tag ≡ 32 → obey_rules 32 (single (forget_script u).outer) ≡ true → all_items item_read (single (forget_script u).outer) ≡ true
    → line_rule (forget_script u).line ≡ true → script_of (tables_of p u) ≡ ok v z → SoundScript (forget_script u)
unfolding forget_script forget_node
sound_again p u v z t o i l e =
    let h = sound_holds (tables_of p u) v z e in
    let a = sound_script_lem (tables_of p u) v z e in
    let w : span_words (span_table (single u.outer)) ≡ span_words (span_table (single v.outer)) = unfold tables_of in (ap (λ (T : Tables). T.spans) h.is_tables) in
    let q : span_table (single u.outer) ≡ span_table (single v.outer) = sym (spans_of_words _) ∙ ap spans_of w ∙ spans_of_words _ in
    let s : small_spans (span_table (single u.outer)) ≡ true = rw q (small_span_table (single v.outer) (rw (single_bytes v.outer) a.items_sound)) in
    record { outer_is_chunk = t; obeys = o; items_sound = rw (← single_bytes u.outer) (small_trees (single u.outer) (rw (single_bytes u.outer) i) s); line_sound_lem = l }

pub named_is : (s : Script (List ℕ)) → all_named s ≡ true → Named s
unfolding all_named Named
named_is s e = all_named_lem (pool_of s) (single s.outer) (eqb-true _ _ e)

pub is_named : (s : Script (List ℕ)) → Named s → all_named s ≡ true
unfolding all_named Named
is_named s e = eq-eqb _ _ (named_all (pool_of s) (single s.outer) e)

-- the places of parts do not count
pub size_forget : (ts : Trees Part) → size (forget_trees ts) ≡ size ts
unfolding size forget_trees
size_forget nil = refl
size_forget (node t is ks ts) = rw (size_forget ks, size_forget ts)

module _ (c : Capacities) (small : Small c) (names p : List ℕ) (bytes : Bytes p) where
  -- what a passing check read is a script with the payload as its writing
  pub house_reads : is_ok (house c names p) ≡ true → (u : Payload) × (s : State) × (reading c names p ≡ ok u s) × IsWriting c (is_listed names) p (forget_script u.script) × (z : State) × (script_of
      (tables_of p u.script) ≡ ok u.script z)
  unfolding house house_written forget_script
  house_reads e = let x = checked_ok p (reading c names p) e in go x.0 x.1 x.2 x.3
    where
      go : (u : Payload) (s : State) → reading c names p ≡ ok u s → house_written p u s ≡ true
          → (u : Payload) × (s : State) × (reading c names p ≡ ok u s) × IsWriting c (is_listed names) p (forget_script u.script) × (z : State) × (script_of (tables_of p u.script) ≡ ok u.script z)
      go u s q t =
          let k = reading_ok c names p u s q in
          let r = read_is c p (is_listed names) bytes u s k.1 in
          let h = read_holds c p (is_listed names) bytes u s k.1 in
          let y = ok_true (script_of (tables_of p u.script)) (and_left _ _ (and_right _ _ t)) in
          let a = sound_again p u.script y.0 y.1 r.outer_tag r.obeys r.items r.line y.2 in
          let w = same_eq _ _ (and_right _ _ (and_right _ _ (and_right _ _ t))) in
          let g = holds_sound (tables_of p u.script) u.script h a in (
            u,
            s,
            q,
            record {
              sound = a;
              named = named_is _ (and_left _ _ (and_right _ _ (and_right _ _ t)));
              in_list = r.in_list;
              fits = record { fit_rows = rows_fit' u r.rows_fit; fit_spans = r.spans_fit; fit_strings = pool_fits c small (is_listed names) p _ u s w k.0 k.1; fit_starts = starts_fit' u r.starts_fit };
              its_writing = w;
              within = k.0;
            },
            g.0,
            g.1,
          )
        where
          rows_fit' : (u : Payload) → size (single u.script.outer) ≤ c.rows → size (single (forget_script u.script).outer) ≤ c.rows
          rows_fit' u h = rw (← single_bytes u.script.outer, size_forget (single u.script.outer)) h

          starts_fit' : (u : Payload) → start_count (forget_line u.script.line) ≤ c.starts → start_count (forget_script u.script).line ≤ c.starts
          starts_fit' u h = h

  house_true : (u : Payload) (z : State) (s : Script (List ℕ)) → z.rest ≡ [] → is_ok (script_of (tables_of p u.script)) ≡ true → forget_script u.script ≡ s → Named s → writing s ≡ p → house_written p u z ≡ true
  unfolding house_written is_nil
  house_true u z s r a q n w = rw (r, q, w) (and_both refl (and_both a (and_both (is_named s n) (same_refl p))))

  pub house_passes : (s : Script (List ℕ)) → IsWriting c (is_listed names) p s → is_ok (house c names p) ≡ true
  unfolding house checked when◌then◌else◌ is_ok
  house_passes s h =
      let r = read_back c small (is_listed names) p s h in
      let u = r.0 in
      let z = r.1 in
      let e = reading_short c names p h.within ∙ r.2 in
      let same-script : forget_script u.script ≡ s = r.5 in
      let holds = read_holds c p (is_listed names) bytes u z r.2 in
      let g = holds_sound (tables_of p u.script) u.script holds (rw same-script h.sound) in
      let t = house_true u z s r.3 (is_ok_lem _ _ _ g.1) same-script h.named h.its_writing in
      rw (e, t)

---- two sound scripts with one writing are one

pub record Bounded (s : Script (List ℕ)) : Type 0 where
  pub bound_rows : size (single s.outer) ≤ limits.rows
  pub bound_spans : span_count (single s.outer) ≤ limits.spans
  pub bound_starts : start_count s.line ≤ limits.starts
  pub bound_writing : length (writing s) ≤ size_limit

any_item : (i : Item (List ℕ)) → item_listed (λ b. true) i ≡ true
unfolding item_listed
any_item (number k w) = refl
any_item (string b) = refl
any_item (native_name b) = refl
any_item (record_name b) = refl
any_item (code b ss) = refl

any_items : (is : List (Item (List ℕ))) → all_of (item_listed (λ b. true)) is ≡ true
unfolding all_of
any_items [] = refl
any_items (i ∷ is) = and_both (any_item i) (any_items is)

any_trees : (ts : Trees (List ℕ)) → all_items (item_listed (λ b. true)) ts ≡ true
unfolding all_items
any_trees nil = refl
any_trees (node t is ks ts) = and_both (any_items is) (and_both (any_trees ks) (any_trees ts))

-- room for whatever a writing within the size limit holds
abbrev most : Capacities
most = record { rows = limits.rows; spans = limits.spans; strings = size_limit; starts = limits.starts }

small_most : Small most
small_most = record { small_rows = omega arith; small_spans_lem = omega arith; small_strings = omega arith; small_starts = omega arith }

few_pooled : (s : Script (List ℕ)) → length (pool_of s) ≤ length (writing s)
unfolding writing
few_pooled s = let a : length (writing s) ≡ length (uleb128 (length (pool_of s))) + length (write_strings (pool_of s)) + (length (concat (write_trees (pool_of s) (single s.outer))) + length
    (write_line_index (pool_of s) s.line)) = simp length-append in
    let f = few_strings (pool_of s) in omega arith

by_writing : (s : Script (List ℕ)) (p : List ℕ) → SoundScript s → Named s → Bounded s → writing s ≡ p → IsWriting most (λ b. true) p s
unfolding Listed
by_writing s p a b d e = record {
  sound = a;
  named = b;
  in_list = any_trees (single s.outer);
  fits = record { fit_rows = d.bound_rows; fit_spans = d.bound_spans; fit_strings = omega (arith, few_pooled s, d.bound_writing); fit_starts = d.bound_starts };
  its_writing = e;
  within = let q = ap length e in omega (arith, d.bound_writing);
}

pub one_script : (s s' : Script (List ℕ)) → SoundScript s → Named s → Bounded s → SoundScript s' → Named s' → Bounded s' → writing s ≡ writing s' → s ≡ s'
one_script s s' a b d a' b' d' e =
    let r = read_back most small_most (λ b. true) (writing s') s (by_writing s (writing s') a b d e) in
    let r' = read_back most small_most (λ b. true) (writing s') s' (by_writing s' (writing s') a' b' d' refl) in
    let q : r.0 ≡ r'.0 = cc (r.2, r'.2) in
    sym r.5 ∙ ap (λ (u : Payload). forget_script u.script) q ∙ r'.5
