-- The capacities of the lent tables, and the reading of a payload from that of its parts.
use mathlib.Core.List.{List, [], ◌++◌}
use Rattle.std.specs.Prelude.{Result, Ok, Err, cond, drop}
use Rattle.std.specs.Result.{is_ok}
use Rattle.std.proofs.Common.{take-append-drop}
use Rattle.refusal.specs.Answer.{answer_of}
use Rattle.refusal.specs.declared.Refusal.{Refusal}
use Rattle.payload.specs.declared.Counts.{Counts}
use mathlib.Core.Path.{◌≡◌, refl, sym, ap, ◌∙◌}
use Prim.Native.Nat.{ℕ, ◌*◌, ◌≤◌, ◌<◌}
use native.Mathlib.Omega.{arith}
use lib.ListN.{length, take}
use lib.Seq.{length-take-le}
use borrow.Author.Tests.{le-ltb, lt-ltb}
use Rattle.payload.specs.Answers.{read_fields}
use Rattle.payload.specs.Choice.{when◌then◌else◌}
use Rattle.payload.proofs.Laws.Contracts.{fields_are}
use Rattle.payload.specs.Reader.{Part, and_then, refused, start, ◌>>=◌}
use Rattle.payload.specs.Reader as reader
use Rattle.payload.specs.Reading.{Payload, read_payload, read_pool}
use Rattle.payload.specs.declared.Capacities.{Capacities}
use Rattle.payload.specs.Tables.{Leaves, capacities_of, fields_of, limits, parts_words, reading, size_limit, used_pool}
use Rattle.payload.specs.Answers.{Read}
use Rattle.refusal.specs.Answer as read
use Rattle.slices.specs.Zeros.{pad_to, zero_from, zeros}
use Rattle.slices.specs.Laws.LittleEndian.{Bytes}
use Rattle.slices.specs.Laws.Put.{length_put}
use Rattle.slices.specs.Laws.Zeros.{pad_to_nil, zero_from_pad_to}
use Rattle.read_items.specs.Context.{PoolFits, context_of, parts_of, plain_words}
use Rattle.read_items.specs.Laws.Context.{words_plain}
use Rattle.cursor.specs.Advances.{Advances}
use Rattle.cursor.specs.Reads.{Answer, result_of, state_at}
use Rattle.cursor.specs.declared.Cursor.{Cursor}
use Rattle.read_pool.specs.Laws.PoolRead.{read_at_begin}
use Rattle.read_pool.specs.Laws.PoolTable.{words_stored}
use Rattle.read_pool.specs.PoolRead.{Accepted}
use Rattle.deserialize.specs.Room.{HasRoom}
use Rattle.deserialize.specs.Script.{ScriptLeaves, read_script}
use Rattle.deserialize.proofs.Script.{pool_used, refused_leaves, script_pool}

---- capacities

module _ {capacities : Capacities} (rows spans starts pool : ℕ) (e : capacities ≡ capacities_of rows spans starts pool) where
  pub strings_fit : 2 * capacities.strings ≤ pool
  unfolding capacities_of
  strings_fit = omega (arith, ap (λ (c : Capacities). c.strings) e)

  pub strings_few : capacities.strings ≤ limits.strings
  unfolding capacities_of
  strings_few = omega (arith, ap (λ (c : Capacities). c.strings) e)

-- each table has room for its capacity
pub has_room : {capacities : Capacities} {rows spans starts : List ℕ} (pool : ℕ) →
    capacities ≡ capacities_of (length rows) (length spans) (length starts) pool → HasRoom capacities rows spans starts
unfolding capacities_of
has_room pool e =
    let r = ap (λ (c : Capacities). c.rows) e in
    let s = ap (λ (c : Capacities). c.spans) e in
    let t = ap (λ (c : Capacities). c.starts) e in
    record { rows_fit = omega arith; spans_fit = omega arith; starts_fit = omega arith; few_rows = omega arith; few_spans = omega arith }

---- the pool table after the pool was read: its strings are lent to what is read next

module _ {c c' : Cursor} {p pool pool' : List ℕ} {most n : ℕ} (over : c.payload.now ≡ p) (a : Accepted c c' pool pool' most n) (room : 2 * most ≤ length pool) where
  pub pool_room : 2 * n ≤ length pool'
  pool_room = omega (arith, a.fits, ap length a.stored, length_put pool 0 (parts_words a.parts))

  module _ (small : length p ≤ size_limit) where
    pub pool_plain : plain_words (take (2 * n) pool') ≡ take (2 * n) pool'
    pool_plain = words_plain p (take (2 * n) pool') n (omega arith) (length-take-le (2 * n) pool' pool_room) (rw over at a.strings_inside)

    pub pool_inside : PoolFits c'.payload.now (take (2 * n) pool')
    pool_inside = rw (pool_plain, a.is.payload) a.strings_inside

---- the definition's steps

pub too_large : (c : Capacities) (names p : List ℕ) → size_limit < length p → reading c names p ≡ refused 16 0
unfolding reading when◌then◌else◌
too_large c names p h = rw (lt-ltb size_limit (length p) h)

-- a pool that stands at the payload's begin
pub pool_at_begin : {c c' : Cursor} {p : List ℕ} (most : ℕ) {x : Answer (List Part)} → c.payload.now ≡ p → c.at ≡ 0 → Advances c c' (read_pool most) x
    → read_pool most (start p) ≡ result_of p 0 0 x
pool_at_begin most over begin x = rw over at (read_at_begin most begin x)

module _ (c : Capacities) (names p : List ℕ) (h : length p ≤ size_limit) where
  pub no_pool_read : {n q : ℕ} → read_pool c.strings (start p) ≡ refused n q → reading c names p ≡ refused n q
  unfolding reading when◌then◌else◌ read_payload ◌>>=◌ and_then
  no_pool_read e = rw (le-ltb size_limit (length p) h, e)

  -- the pool table was lent up to its used words
  module _ {cursor cursor' : Cursor} {pool pool₁ : List ℕ} {n : ℕ} (over : cursor.payload.now ≡ p) (begin : cursor.at ≡ 0)
      (room : 2 * c.strings ≤ length pool) (a : Accepted cursor cursor' pool pool₁ c.strings n) where
    -- the words of the strings that were read
    words_again : parts_words (context_of c p names (take (2 * n) pool₁)).pool ≡ take (2 * n) pool₁
    unfolding context_of
    words_again =
        let strings : parts_of p (take (2 * n) pool₁) ≡ a.parts = rw over at a.strings in
        let words : take (2 * n) pool₁ ≡ parts_words a.parts = rw a.stored (words_stored pool a.parts n a.each (omega (arith, a.fits))) in
        rw (pool_plain over a room h, strings) (sym words)

    script_after_pool : reading c names p ≡ read_script (context_of c p names (take (2 * n) pool₁)) (state_at p cursor'.at 0 0)
    unfolding reading when◌then◌else◌ read_payload read_script context_of ◌>>=◌ and_then
    script_after_pool =
        let strings = rw over at a.strings in
        rw (pool_plain over a room h, le-ltb size_limit (length p) h, pool_at_begin c.strings over begin a.is, strings)

    pub payload_leaves : Bytes p → {rows spans starts rows' spans' starts' pool' : List ℕ} {r : Read}
        → ScriptLeaves (read_script (context_of c cursor'.payload.now names (take (2 * n) pool₁)) (state_at cursor'.payload.now cursor'.at 0 0)) rows spans starts rows' spans' starts' r
        → pool' ≡ pad_to (length pool) (pool_used r (take (2 * n) pool₁))
        → Leaves (reading c names p) rows spans starts pool rows' spans' starts' pool' r
    payload_leaves bytes {r = r} g z =
        let f = rw (a.is.payload, over) at g in
        let script = script_pool (context_of c p names (take (2 * n) pool₁)) (state_at p cursor'.at 0 0) in
        rw script_after_pool (record {
          answer = f.answer;
          fields = ap read_fields f.answer ∙ fields_are c names p bytes _ script_after_pool;
          rows_are = f.rows_are;
          spans_are = f.spans_are;
          starts_are = f.starts_are;
          pool_is = z ∙ ap (pad_to (length pool)) (ap (pool_used r) (sym words_again) ∙ rw f.answer (sym script));
        })

    -- behind the strings that an answer uses, all or none, there are zeros
    pub pool_padded :
        (r : Result Counts Refusal) {strings pool' : List ℕ} {used : ℕ} → strings ≡ take (2 * n) pool₁ → used ≡ cond (is_ok r) (2 * n) 0 →
        pool' ≡ zero_from used (strings ++ drop (2 * n) pool₁) → pool' ≡ pad_to (length pool) (pool_used (answer_of r) (take (2 * n) pool₁))
    pool_padded r same u z = z ∙ rw (same, take-append-drop) (padded r u)
      where
        strings_long : length (take (2 * n) pool₁) ≡ 2 * n
        strings_long = length-take-le (2 * n) pool₁ (pool_room over a room)

        table_long : length pool₁ ≡ length pool
        table_long = ap length a.stored ∙ length_put pool 0 (parts_words a.parts)

        padded : (r : Result Counts Refusal) {used : ℕ} → used ≡ cond (is_ok r) (2 * n) 0 → zero_from used pool₁ ≡ pad_to (length pool) (pool_used (answer_of r) (take (2 * n) pool₁))
        padded (Ok counts) u = rw u (zero_from_pad_to pool₁ (take (2 * n) pool₁) (2 * n) (length pool) (sym strings_long) refl table_long)
        padded (Err e) u = rw u (zero_from_pad_to pool₁ [] 0 (length pool) refl refl table_long)

-- a refusal: every word of every table is 0
pub refused_payload :
    {x : reader.Result Payload} {n q : ℕ} {rows spans starts pool rows' spans' starts' pool' : List ℕ} → x ≡ refused n q →
    rows' ≡ zeros (length rows) → spans' ≡ zeros (length spans) → starts' ≡ zeros (length starts) → pool' ≡ zeros (length pool) →
    Leaves x rows spans starts pool rows' spans' starts' pool' (read.refused n q)
unfolding fields_of used_pool
refused_payload {rows = rows} {spans} {starts} {pool} e a b c d =
    let f = refused_leaves {rows = rows} {spans = spans} {starts = starts} e a b c in
    record {
      answer = f.answer;
      fields = rw e refl;
      rows_are = f.rows_are;
      spans_are = f.spans_are;
      starts_are = f.starts_are;
      pool_is = rw e (d ∙ sym (pad_to_nil (length pool)));
    }
