-- What is read after the pool, from its two parts: the outer chunk and the line index.
use mathlib.Core.List.{List, []}
use mathlib.Core.Option.{Option}
use mathlib.Core.Path.{◌≡◌, refl, sym, ◌∙◌}
use Prim.Native.Nat.{ℕ, ◌*◌, ◌/◌, ◌≤◌}
use native.Mathlib.Omega.{arith}
use lib.ListN.{length}
use Rattle.slices.specs.Put.{put}
use Rattle.slices.specs.Zeros.{pad_to, zero_from, zeros}
use Rattle.slices.specs.Laws.Zeros.{pad_to_nil, zero_from_put}
use Rattle.payload.specs.Reader.{Part, Result, ok, refused, and_then, pure, ◌>>=◌}
use Rattle.payload.specs.Reader as reader
use Rattle.payload.specs.Reading.{Context, Payload, read_chunk, read_line_index}
use Rattle.payload.specs.Rows.{row_width}
use Rattle.payload.specs.Tables.{line_starts, parts_words, read_answer, used_pool, used_rows, used_spans, used_starts}
use Rattle.payload.specs.Trees.{LineIndex, Node}
use Rattle.payload.specs.Answers.{Read}
use Rattle.refusal.specs.Answer as read
use Rattle.read_items.specs.Context.{context_of, plain_words}
use Rattle.read_items.specs.Laws.Context.{length_parts_of, length_plain_words, same_context}
use Rattle.cursor.specs.Reads.{state_at, stopped}
use Rattle.cursor.specs.declared.Cursor.{Cursor}
use Rattle.read_lines.specs.LinesRead.{Accepted, InContext}
use Rattle.read_lines.specs.declared.Lines.{Lines}
use Rattle.read_values.specs.Did.{Ran, context, one_tree, rows_in, spans_in}
use Rattle.payload.specs.declared.Capacities.{Capacities}
use Rattle.read_values.specs.declared.State.{State}
use Rattle.deserialize.specs.Room.{HasRoom}
use Rattle.deserialize.specs.Script.{ScriptLeaves, read_script}

---- the definition's steps

-- the words of the pool's strings that an answer uses: all, or none after a refusal
abbrev pub pool_used : Read → List ℕ → List ℕ
pool_used (read.accepted counts) pool = pool
pool_used (read.refused n q) pool = []

module _ (e : Context) (s : reader.State) where
  pub script_ok : {outer : Node Part} {line : Option (LineIndex Part)} {s₁ s₂ : reader.State} → read_chunk e s ≡ ok outer s₁ → read_line_index e s₁ ≡ ok line s₂
      → read_script e s ≡ ok (record { pool = e.pool; script = record { outer = outer; line = line } }) s₂
  unfolding read_script ◌>>=◌ and_then pure
  script_ok f g = rw (f, g)

  pub script_no_chunk : {n q : ℕ} → read_chunk e s ≡ refused n q → read_script e s ≡ refused n q
  unfolding read_script ◌>>=◌ and_then
  script_no_chunk f = rw f

  pub script_no_lines :
      {outer : Node Part} {s₁ : reader.State} {n q : ℕ} → read_chunk e s ≡ ok outer s₁ → read_line_index e s₁ ≡ refused n q → read_script e s ≡ refused n q
  unfolding read_script ◌>>=◌ and_then
  script_no_lines f g = rw (f, g)

  -- the strings that an accepted read has are those of the pool
  pub script_pool : used_pool (read_script e s) ≡ pool_used (read_answer (read_script e s)) (parts_words e.pool)
  unfolding read_script ◌>>=◌ and_then pure used_pool read_answer
  script_pool = by_chunk (read_chunk e s)
    where
      by_lines : (outer : Node Part) (x : Result (Option (LineIndex Part))) →
          let y : Result Payload = and_then x (λ line. pure (record { pool = e.pool; script = record { outer = outer; line = line } })) in
          used_pool y ≡ pool_used (read_answer y) (parts_words e.pool)
      by_lines outer (ok line z) = refl
      by_lines outer (refused n q) = refl

      by_chunk : (x : Result (Node Part)) →
          let y : Result Payload = and_then x (λ outer z. and_then (read_line_index e z) (λ line. pure (record { pool = e.pool; script = record { outer = outer; line = line } }))) in
          used_pool y ≡ pool_used (read_answer y) (parts_words e.pool)
      by_chunk (ok outer z) = by_lines outer (read_line_index e z)
      by_chunk (refused n q) = refl

---- a refusal: every word of every table is 0

pub refused_leaves :
    {x : Result Payload} {n q : ℕ} {rows spans starts rows' spans' starts' : List ℕ} → x ≡ refused n q →
    rows' ≡ zeros (length rows) → spans' ≡ zeros (length spans) → starts' ≡ zeros (length starts) →
    ScriptLeaves x rows spans starts rows' spans' starts' (read.refused n q)
unfolding read_answer used_rows used_spans used_starts
refused_leaves {rows = rows} {spans} {starts} e a b c = rw e (record {
  answer = refl;
  rows_are = a ∙ sym (pad_to_nil (length rows));
  spans_are = b ∙ sym (pad_to_nil (length spans));
  starts_are = c ∙ sym (pad_to_nil (length starts));
})

-- the same of tables that hold those words at the end
pub leaves_in :
    {x : Result Payload} {rows spans starts a b c rows' spans' starts' : List ℕ} {r : Read} → ScriptLeaves x rows spans starts a b c r →
    rows' ≡ a → spans' ≡ b → starts' ≡ c → ScriptLeaves x rows spans starts rows' spans' starts' r
leaves_in f a b c = rw (a, b, c) f

---- the outer chunk, then the line index

-- the words of a table behind those stored at its begin are cleared
stored_cleared :
    (table used : List ℕ) (n : ℕ) {table' table'' : List ℕ} → n ≡ length used → n ≤ length table → table' ≡ put table 0 used → table'' ≡ zero_from n table' →
    table'' ≡ pad_to (length table) used
stored_cleared table used n e h s z = rw (s, e) at z ∙ zero_from_put table used (omega arith)

module _ (names : List ℕ) {capacities : Capacities} {p pool rows rows₁ spans spans₁ : List ℕ} (at : ℕ) {s : State} {outer : Node Part}
    (ran : Ran one_tree capacities p rows rows₁ spans spans₁ 0 0 s outer (read_chunk (context capacities p names pool) (state_at p at 0 0)))
    {c c' : Cursor} (e : c.payload.now ≡ p) (at_is : c.at ≡ s.at) where
  pub no_lines_read : {n q : ℕ} → InContext c c' pool capacities.starts read_line_index (stopped n q)
      → read_script (context capacities p names pool) (state_at p at 0 0) ≡ refused n q
  no_lines_read g =
      script_no_lines (context capacities p names pool) (state_at p at 0 0) ran.is ((rw (e, at_is) at (g.reads capacities names refl).reads).is s.rows s.spans)

  module _ {starts : List ℕ} (room : HasRoom capacities rows spans starts) where
    pub accepted_leaves :
        {starts₁ rows' spans' starts' : List ℕ} {l : Lines} →
        Accepted c c' pool starts starts₁ capacities.starts read_line_index l →
        rows' ≡ zero_from (row_width * s.rows) rows₁ → spans' ≡ zero_from (2 * s.spans) spans₁ → starts' ≡ zero_from l.starts starts₁ →
        ScriptLeaves (read_script (context capacities p names pool) (state_at p at 0 0)) rows spans starts rows' spans' starts'
        (read.accepted
        (record {
          consumed = c'.at;
          rows = s.rows;
          spans = s.spans;
          starts = l.starts;
          strings = length pool / 2;
          name = l.name;
        }))
    unfolding context_of read_answer used_rows used_spans used_starts
    accepted_leaves {l = l} g a b d =
        let lines = rw (e, at_is) at (g.is.reads capacities names refl).reads in
        rw (script_ok (context capacities p names pool) (state_at p at 0 0) ran.is (lines.is s.rows s.spans))
        (record {
          answer = rw g.name_is (cc (length_parts_of p (plain_words pool), length_plain_words pool, g.each));
          rows_are = stored_cleared rows (rows_in one_tree outer) (row_width * s.rows) (omega (arith, ran.size)) (omega (arith, ran.used, room.rows_fit)) ran.wrote a;
          spans_are = stored_cleared spans (spans_in one_tree outer) (2 * s.spans) (omega (arith, ran.spanned)) (omega (arith, ran.covered, room.spans_fit)) ran.filled b;
          starts_are = stored_cleared starts (line_starts g.line) _ g.each (omega (arith, g.fits)) g.stored d;
        })

---- hints

-- they make no difference
pub same_leaves : (capacities : Capacities) (p names a b : List ℕ) (at : ℕ) {rows spans starts rows' spans' starts' : List ℕ} {r : Read} → plain_words a ≡ plain_words b
    → ScriptLeaves (read_script (context capacities p names a) (state_at p at 0 0)) rows spans starts rows' spans' starts' r
    → ScriptLeaves (read_script (context capacities p names b) (state_at p at 0 0)) rows spans starts rows' spans' starts' r
same_leaves capacities p names a b at e f = rw (same_context capacities p names a b e) at f
