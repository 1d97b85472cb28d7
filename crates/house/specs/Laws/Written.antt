-- What the tests of the house check say of a payload that was read.
use Rattle.std.specs.Prelude.{Bool, false, ◌≡◌, ◌*◌, ◌+◌, ◌/◌, ◌<◌, ◌^◌, ◌≤◌, suc, zero, ℕ, ltb, get_or}
use Rattle.std.specs.Prelude as std
use Rattle.std.specs.Option.{option_eq}
use Rattle.std.proofs.Math.Bool.{true}
use mathlib.Core.List.{List, [], ◌++◌, ◌∷◌}
use Rattle.std.proofs.Math.Option.{Option, none, some}
use Rattle.std.proofs.Common.{None, Some, eqb, not, eqb-true, eq-eqb, ◌∙◌, ap₂, subst, arith, take_at, length-take-le}
use Rattle.std.proofs.Math.Path.{ap, refl, sym}
use Rattle.std.proofs.Math.ListN.{drop, length, take}
use Rattle.std.proofs.Math.Seq.{drop-length}
use Rattle.slices.specs.Laws.LittleEndian.{Bytes}
use Rattle.slices.specs.Laws.Same.{same_refl}
use Rattle.slices.specs.Zeros.{pad_to}
use Rattle.payload.specs.Choice.{◌and◌, when◌then◌else◌}
use Rattle.payload.specs.House.{checked, house, house_written, is_ok}
use Rattle.payload.proofs.Laws.Demand3.{small_capacities}
use Rattle.payload.proofs.Laws.Equal.{single_bytes}
use Rattle.payload.proofs.Laws.Given.{small_span_table}
use Rattle.payload.proofs.Laws.House.{IsWriting, house_reads, is_named, is_ok_lem, read_back, read_holds, read_strings_lem, reading_ok, small_trees}
use Rattle.payload.proofs.Laws.Kept.{TextsIn}
use Rattle.payload.specs.Laws.Pool.{and_both, false≢true}
use Rattle.payload.proofs.Laws.ReadSound.{ReadIs, read_is, rows_counted, spans_counted}
use Rattle.payload.specs.Laws.Rules.{SoundScript}
use Rattle.payload.proofs.Laws.SoundTables.{holds_sound}
use Rattle.payload.specs.Answers.{flag_of, length_of, offset_of, program_of}
use Rattle.payload.specs.Laws.Tables.{flag_of_line, length_of_line, length_parts_words, offset_of_line}
use Rattle.payload.specs.Names.{is_listed}
use Rattle.payload.specs.Reader.{Part, Result, State, ok, refused, start}
use Rattle.payload.specs.Reading.{Payload, read_payload}
use Rattle.payload.specs.declared.Capacities.{Capacities}
use Rattle.payload.specs.Rows.{part_words, row_table, row_width, span_table}
use Rattle.payload.specs.Sound.{Tables, is_nil, script_of, tables}
use Rattle.payload.specs.Spans.{Span, small_spans}
use Rattle.payload.specs.Tables.{capacities_of, counts_of, line_flag, line_name, line_starts, parts_words, read_answer, reading, size_limit, span_words, tables_of, used_pool, used_rows, used_spans, used_starts}
use Rattle.payload.specs.Trees.{LineIndex, Script, forget_line, forget_node, forget_script, single, start_count}
use Rattle.payload.specs.Write.{held_tables, interned_parts}
use Rattle.payload.specs.Writing.{gathered, pool_of}
use Rattle.payload.specs.declared.Counts.{Counts}
use Rattle.payload.specs.declared.Program.{Program}
use Rattle.refusal.specs.Answer as read
use Rattle.pool_index.specs.Laws.Distinct.{interned_distinct}
use Rattle.pool_index.specs.Strings.{bytes_at, distinct, pool_strings}
use Rattle.gather.specs.Gather.{name_parts, rows_parts}
use Rattle.gather.specs.Laws.Entries.{part_plain}
use Rattle.gather.specs.Laws.SoundProgram.{strings_found}
use Rattle.gather.specs.Laws.Parts.{bytes_of}
use Rattle.pool_check.specs.Distinct.{PartsIn}
use Rattle.pool_check.specs.Order.{Met, meet_all, Meets}
use Rattle.pool_check.specs.Laws.PoolEntries.{Entries, gathered_entries}
use Rattle.pool_check.specs.Laws.PoolOrder.{Rising, interned_order, order_interned, pool_rises}
use Rattle.pool_check.specs.Laws.PoolRead.{read_pool_interned}
use Rattle.house.specs.Written.{AcceptedRead, all_positions, is_writing, pool_words}

---- the words of spans

pub positions_are : (ss : List Span) → all_positions (span_words ss) ≡ small_spans ss
unfolding all_positions span_words small_spans
positions_are [] = refl
positions_are (x ∷ ss) = ap (λ (b : Bool). ltb x.start (2 ^ 63) and ltb x.end (2 ^ 63) and b) (positions_are ss)

---- the words of a pool

strings_read : (p : List ℕ) → length p ≤ size_limit → (xs : List Part) → TextsIn p xs → pool_strings p (parts_words xs) ≡ bytes_of xs
unfolding pool_strings parts_words part_words bytes_at TextsIn
strings_read p short [] h = refl
strings_read p short (x ∷ xs) h =
    let stands = h.0.text_stands in
    ap₂ (λ (b : List ℕ) (l : List (List ℕ)). b ∷ l) (part_plain p x.offset (length x.bytes) stands.in_store short ∙ stands.its_bytes) (strings_read p short xs h.1)

words_within : (p : List ℕ) (xs : List Part) → TextsIn p xs → (k : ℕ) → k < length xs → get_or (parts_words xs) (2 * k) 0 + get_or (parts_words xs) (2 * k + 1) 0 ≤ length p
unfolding parts_words part_words TextsIn
words_within p [] h k l = absurd (omega arith)
words_within p (x ∷ xs) h zero l = h.0.text_stands.in_store
words_within p (x ∷ xs) h (suc k) l =
    let a : 2 * suc k ≡ suc (suc (2 * k)) = omega arith in
    let b : suc (suc (2 * k)) + 1 ≡ suc (suc (2 * k + 1)) = omega arith in
    rw (a, b) (words_within p xs h.1 k (omega arith))

---- what an accepted read left

accepted_ok : (n : Counts) (x : Result Payload) → read.accepted n ≡ read_answer x → (u : Payload) × (s : State) × (x ≡ ok u s) × (n ≡ counts_of u s)
unfolding read_answer
accepted_ok n (ok u s) e = (u, s, refl, cc)
accepted_ok n (refused m q) e = let z : ◌≡◌ {A = ℕ} 0 1 = cc in absurd (omega arith)

-- the used words of a table that a read left, with zeros behind them
used_words_lem : (table : List ℕ) (used : Result Payload → List ℕ) (n : ℕ) {x y : Result Payload} → table ≡ pad_to (length table) (used x) → x ≡ y → length (used y) ≡ n → take n table ≡ used y
used_words_lem table used n {x} {y} left e l = ap (take n) (left ∙ ap (λ (z : Result Payload). pad_to (length table) (used z)) e) ∙ take_at (used y) _ n l

start_count_lem : (u : Payload) → start_count (forget_line u.script.line) ≡ length (line_starts u.script.line)
start_count_lem u = go u.script.line
  where
    go : (x : Option (LineIndex Part)) → start_count (forget_line x) ≡ length (line_starts x)
    go none = unfold start_count forget_line line_starts in refl
    go (some x) = unfold start_count forget_line line_starts in refl

pub record WasRead (names p rows spans starts pool : List ℕ) (n : Counts) : Type 0 where
  pub u : Payload
  pub s : State
  pub is : reading (capacities_of (length rows) (length spans) (length starts) (length pool)) names p ≡ ok u s
  pub short : length p ≤ size_limit
  pub payload_read : read_payload (capacities_of (length rows) (length spans) (length starts) (length pool)) (is_listed names) (start p) ≡ ok u s
  pub has : ReadIs (capacities_of (length rows) (length spans) (length starts) (length pool)) p (is_listed names) u s
  pub consumed : n.consumed ≡ s.place
  pub strings : n.strings ≡ length u.pool
  pub tables_are : held_tables p (program_of n) rows spans starts ≡ tables_of p u.script
  pub pool_is : take (2 * n.strings) pool ≡ parts_words u.pool
  pub rows_fit : row_width * n.rows ≤ length rows
  pub spans_fit : 2 * n.spans ≤ length spans
  pub starts_fit : n.starts ≤ length starts
  pub strings_fit : 2 * n.strings ≤ length pool

module _ {names p rows spans starts pool : List ℕ} {n : Counts} (h : AcceptedRead names p rows spans starts pool n) (bytes : Bytes p) where
  abbrev c : Capacities
  c = capacities_of (length rows) (length spans) (length starts) (length pool)

  pub was_read : WasRead names p rows spans starts pool n
  unfolding capacities_of used_rows used_spans used_starts used_pool held_tables tables_of forget_script
  was_read =
      let a = accepted_ok n (reading c names p) h.left.answer in
      let u = a.0 in
      let s = a.1 in
      let e = a.2 in
      let k = reading_ok c names p u s e in
      let f = read_is c p (is_listed names) bytes u s k.1 in
      let ts = single u.script.outer in
      let rows-n : n.rows ≡ s.rows = ap (λ (m : Counts). m.rows) a.3 in
      let spans-n : n.spans ≡ s.spans = ap (λ (m : Counts). m.spans) a.3 in
      let starts-n : n.starts ≡ length (line_starts u.script.line) = ap (λ (m : Counts). m.starts) a.3 in
      let strings-n : n.strings ≡ length u.pool = ap (λ (m : Counts). m.strings) a.3 in
      let flag-n : flag_of n.name ≡ line_flag u.script.line = ap (λ (m : Counts). flag_of m.name) a.3 ∙ flag_of_line u.script.line in
      let offset-n : offset_of n.name ≡ (line_name u.script.line).offset = ap (λ (m : Counts). offset_of m.name) a.3 ∙ offset_of_line u.script.line in
      let length-n : length_of n.name ≡ length (line_name u.script.line).bytes = ap (λ (m : Counts). length_of m.name) a.3 ∙ length_of_line u.script.line in
      let r : take (row_width * n.rows) rows ≡ row_table ts = used_words_lem rows used_rows (row_width * n.rows) h.left.rows_are e (omega (arith, rows_counted f)) in
      let q : take (2 * n.spans) spans ≡ span_words (span_table ts) = used_words_lem spans used_spans (2 * n.spans) h.left.spans_are e (omega (arith, spans_counted f)) in
      let t : take n.starts starts ≡ line_starts u.script.line = used_words_lem starts used_starts n.starts h.left.starts_are e (sym starts-n) in
      let v : take (2 * n.strings) pool ≡ parts_words u.pool = used_words_lem pool used_pool (2 * n.strings) h.left.pool_is e (omega (arith, length_parts_words u.pool)) in
      record {
        u = u;
        s = s;
        is = e;
        short = k.0;
        payload_read = k.1;
        has = f;
        consumed = ap (λ (m : Counts). m.consumed) a.3;
        strings = strings-n;
        tables_are = λ i. tables p (r i) (q i) (t i) (flag-n i) (offset-n i) (length-n i);
        pool_is = v;
        rows_fit = omega (arith, f.rows_are, f.rows_fit);
        spans_fit = omega (arith, f.spans_are, f.spans_fit);
        starts_fit = omega (arith, f.starts_fit, start_count_lem u);
        strings_fit = omega (arith, f.strings_fit);
      }

-- the spans that were read are the used words of their table
pub spans_are : {names p rows spans starts pool : List ℕ} {n : Counts} (w : WasRead names p rows spans starts pool n) → take (2 * n.spans) spans ≡ span_words (span_table (single w.u.script.outer))
unfolding held_tables tables_of
spans_are w = ap (λ (U : Tables). U.spans) w.tables_are

---- what the tests say

not_false : (b : Bool) → false ≡ not b → b ≡ true
not_false true e = refl
not_false false e = false≢true e

module _ {names p rows spans starts pool : List ℕ} {n : Counts} (w : WasRead names p rows spans starts pool n) (bytes : Bytes p) where
  abbrev caps : Capacities
  caps = capacities_of (length rows) (length spans) (length starts) (length pool)

  abbrev passes : Bool
  passes = is_ok (house caps names p)

  -- what passes is the writing of the program that was read
  writing_read : passes ≡ true → IsWriting caps (is_listed names) p (forget_script w.u.script)
  writing_read e =
      let y = house_reads caps (small_capacities _ _ _ _) names p bytes e in
      let q : y.0 ≡ w.u = cc (y.2, w.is) in
      subst (λ (v : Payload). IsWriting caps (is_listed names) p (forget_script v.script)) q y.3

  -- a test that what passes meets, and that this payload does not
  refutes : (passes ≡ true → ⊥) → false ≡ passes
  refutes f = go passes refl
    where
      go : (t : Bool) → passes ≡ t → false ≡ passes
      go true q = absurd (f q)
      go false q = sym q

  pub not_consumed : (n.consumed ≡ length p → ⊥) → false ≡ passes
  not_consumed f = refutes (λ e.
      let r = read_back caps (small_capacities _ _ _ _) (is_listed names) p _ (writing_read e) in
      let q : r.1 ≡ w.s = cc (r.2, w.payload_read) in
      f (w.consumed ∙ ap (λ (z : State). z.place) (sym q) ∙ r.4))

  -- the pool that was read is the one that gathering gives
  pool_of_passed : passes ≡ true → interned_parts [] (gathered w.u.script) ≡ w.u.pool
  pool_of_passed e = read_pool_interned caps (small_capacities _ _ _ _) (is_listed names) p w.u w.s w.payload_read (writing_read e)

  pool_entries : Entries w.u.pool (gathered w.u.script)
  pool_entries = gathered_entries caps (is_listed names) (start p) w.u w.s w.payload_read

  pool_rising : Rising 0 w.u.pool
  pool_rising = pool_rises caps (is_listed names) (start p) w.u w.s w.payload_read

  -- the strings of the pool table are those that were read
  table_strings : pool_strings p (take (2 * n.strings) pool) ≡ bytes_of w.u.pool
  table_strings = ap (pool_strings p) w.pool_is ∙ strings_read p w.short w.u.pool w.has.pool_stands

  -- its entries are parts of the payload
  pub pool_parts : PartsIn p (take (2 * n.strings) pool)
  unfolding capacities_of
  pool_parts =
      let count : length (take (2 * n.strings) pool) ≡ 2 * length w.u.pool = ap length w.pool_is ∙ length_parts_words w.u.pool in
      record {
        short = w.short;
        few = omega (arith, w.has.strings_fit);
        within = λ k l. rw w.pool_is (words_within p w.u.pool w.has.pool_stands k (omega arith));
      }

  once_passed : passes ≡ true → distinct (bytes_of w.u.pool) ≡ true
  once_passed e = rw (read_strings_lem caps (small_capacities _ _ _ _) (is_listed names) p w.u w.s w.payload_read (writing_read e)) (unfold pool_of in (interned_distinct _ [] (unfold distinct in refl)))

  pub not_once : false ≡ distinct (pool_strings p (take (2 * n.strings) pool)) → false ≡ passes
  not_once f = refutes (λ e. false≢true (f ∙ ap distinct table_strings ∙ once_passed e))

  all_read : n.consumed ≡ length p → is_nil w.s.rest ≡ true
  unfolding is_nil
  all_read e = let q : w.s.place ≡ length p = sym w.consumed ∙ e in ap is_nil (w.has.place_is ∙ ap (λ (k : ℕ). drop k p) q ∙ drop-length p)

  -- the tables are lent to their last used words
  module _ {T : Tables} {g : Program} (gives : g ≡ program_of n) (held : T ≡ held_tables p g rows spans starts) where
    tables_read : T ≡ tables_of p w.u.script
    tables_read = held ∙ ap (λ (x : Program). held_tables p x rows spans starts) gives ∙ w.tables_are

    store_read : T.store ≡ p
    unfolding tables_of
    store_read = ap (λ (U : Tables). U.store) tables_read

    spans_read : T.spans ≡ span_words (span_table (single w.u.script.outer))
    unfolding tables_of
    spans_read = ap (λ (U : Tables). U.spans) tables_read

    pub store_short : length T.store ≤ size_limit
    store_short = rw store_read w.short

    pub not_positions : false ≡ all_positions T.spans → false ≡ passes
    unfolding forget_script
    not_positions f = refutes (λ e.
        let a = small_span_table (single w.u.script.outer) (rw (single_bytes w.u.script.outer) (writing_read e).sound.items_sound) in
        false≢true (f ∙ ap all_positions spans_read ∙ positions_are _ ∙ a))

    -- the tables are sound, and hold the script that was read
    sound_tables : all_positions T.spans ≡ true → (z : State) × (script_of T ≡ ok w.u.script z)
    unfolding forget_script forget_node
    sound_tables e =
        let u = w.u.script in
        let small : small_spans (span_table (single u.outer)) ≡ true = sym (positions_are _) ∙ ap all_positions (sym spans_read) ∙ e in
        let sound : SoundScript (forget_script u) = record {
          outer_is_chunk = w.has.outer_tag;
          obeys = w.has.obeys;
          items_sound = rw (← single_bytes u.outer) (small_trees (single u.outer) (rw (single_bytes u.outer) w.has.items) small);
          line_sound_lem = w.has.line;
        } in
        let g = holds_sound (tables_of p u) u (read_holds caps p (is_listed names) bytes w.u w.s w.payload_read) sound in
        (g.0, ap script_of tables_read ∙ g.1)

    pub is_sound : all_positions T.spans ≡ true → is_ok (script_of T) ≡ true
    is_sound e = let g = sound_tables e in is_ok_lem _ _ _ g.1

    module _ (a : all_positions T.spans ≡ true) where
      -- the strings that rows and name give
      abbrev found : List Part
      found = rows_parts T.store (length T.rows / row_width) T.rows ++ name_parts T.store T.flag T.name_offset T.name_length

      found_is : found ≡ gathered w.u.script
      found_is = let g = sound_tables a in strings_found T w.u.script g.0 g.1

      met_is : {r : ℕ} → Met (take (2 * n.strings) pool) 0 found r → r ≡ meet_all (parts_words w.u.pool) 0 (gathered w.u.script)
      met_is m = m.is ∙ ap₂ (λ (l : List ℕ) (xs : List Part). meet_all l 0 xs) w.pool_is found_is

      pub not_met : {r : ℕ} → Met (take (2 * n.strings) pool) 0 found r → (r ≡ n.strings → ⊥) → false ≡ passes
      not_met m ne = refutes (λ e. ne (met_is m ∙ interned_order w.u.pool pool_rising (once_passed e) (gathered w.u.script) pool_entries (pool_of_passed e) ∙ sym w.strings))

      -- a string comes too early
      pub none_met : Meets (take (2 * n.strings) pool) 0 found None → false ≡ passes
      none_met m = not_met m (λ e. omega (arith, length-take-le (2 * n.strings) pool w.strings_fit))

      -- as the code tests it: the entries met are those of the pool, or they are not
      pub all_met : (m : std.Option ℕ) → Meets (take (2 * n.strings) pool) 0 found m → false ≡ not (option_eq eqb m (Some n.strings)) → Met (take (2 * n.strings) pool) 0 found n.strings
      all_met None m e = false≢true e
      all_met (Some r) m e = rw (eqb-true _ _ (not_false _ e)) at m.0

      pub others_met : (m : std.Option ℕ) → Meets (take (2 * n.strings) pool) 0 found m → true ≡ not (option_eq eqb m (Some n.strings)) → false ≡ passes
      others_met None m e = none_met m
      others_met (Some r) m e = not_met m.0 (λ q. false≢true (sym (e ∙ ap not (eq-eqb _ _ q))))

      -- strings that differ and are first used in the pool's order: the pool table is the one that gathering gives
      pub table_gathered : {r : ℕ} → Met (take (2 * n.strings) pool) 0 found r → r ≡ n.strings → distinct (pool_strings p (take (2 * n.strings) pool)) ≡ true → take (2 * n.strings) pool ≡ pool_words (script_of T)
      unfolding pool_words
      table_gathered m f d =
          let g = sound_tables a in
          let once : distinct (bytes_of w.u.pool) ≡ true = ap distinct (sym table_strings) ∙ d in
          let i = order_interned w.u.pool pool_rising once (gathered w.u.script) pool_entries (sym (met_is m) ∙ f ∙ w.strings) in
          w.pool_is ∙ ap parts_words (sym i) ∙ ap pool_words (sym g.1)

      to_passes : n.consumed ≡ length p → is_writing (script_of T) p ≡ true → passes ≡ true
      unfolding is_writing house_written house checked when◌then◌else◌ is_ok
      to_passes k e =
          let g = sound_tables a in
          let d : is_writing (ok w.u.script g.0) p ≡ true = ap (λ (x : Result (Script Part)). is_writing x p) (sym g.1) ∙ e in
          let sound : is_ok (script_of (tables_of p w.u.script)) ≡ true = ap (λ (U : Tables). is_ok (script_of U)) (sym tables_read) ∙ is_sound a in
          let t : house_written p w.u w.s ≡ true = and_both (all_read k) (and_both sound d) in
          rw (w.is, t)

      to_writing : passes ≡ true → is_writing (script_of T) p ≡ true
      unfolding is_writing
      to_writing e =
          let g = sound_tables a in
          let i = writing_read e in
          rw g.1 (and_both (is_named _ i.named) (rw i.its_writing (same_refl p)))

      pub writing_is : n.consumed ≡ length p → is_writing (script_of T) T.store ≡ passes
      writing_is k = ap (is_writing (script_of T)) store_read ∙ go (is_writing (script_of T) p) refl passes refl
        where
          go : (b : Bool) → is_writing (script_of T) p ≡ b → (t : Bool) → passes ≡ t → is_writing (script_of T) p ≡ passes
          go true q t r = q ∙ sym (to_passes k q)
          go false q true r = to_writing r ∙ sym r
          go false q false r = q ∙ sym r
