-- The strings of what is read after the pool are those of the pool table.
use Rattle.std.specs.Prelude.{List, [], ◌≡◌, ℕ, ◌*◌, ◌/◌, length}
use Rattle.std.proofs.Math.Option.{Option}
use Rattle.std.proofs.Math.Path.{refl}
use Rattle.std.proofs.Common.{sym, ap, ◌∙◌}
use Rattle.refusal.specs.Answer as read
use Rattle.payload.specs.Answers.{Read}
use Rattle.payload.specs.Reader.{Part, Result, State, ok, refused, and_then, pure, ◌>>=◌}
use Rattle.payload.specs.Reading.{Context, Payload, read_chunk, read_line_index}
use Rattle.payload.specs.Tables.{parts_words, read_answer, used_pool}
use Rattle.payload.specs.Trees.{LineIndex, Node}
use Rattle.payload.specs.declared.Capacities.{Capacities}
use Rattle.read_items.specs.Context.{PoolFits, context_of, parts_of, plain_words}
use Rattle.read_items.specs.Laws.Context.{length_plain_words, parts_words_parts_of}
use Rattle.read_values.specs.Did.{context}
use Rattle.deserialize.specs.Script.{ScriptLeaves, read_script}

-- the words of the pool's strings that an answer uses: all, or none after a refusal
abbrev pub pool_used : Read → List ℕ → List ℕ
pool_used (read.accepted counts) pool = pool
pool_used (read.refused n q) pool = []

-- what is read in any context uses the strings of its pool
module _ (e : Context) (s : State) where
  pub strings_used : used_pool (read_script e s) ≡ pool_used (read_answer (read_script e s)) (parts_words e.pool)
  unfolding read_script ◌>>=◌ and_then pure used_pool read_answer
  strings_used = by_chunk (read_chunk e s)
    where
      by_lines : (outer : Node Part) (x : Result (Option (LineIndex Part))) →
          let y : Result Payload = and_then x (λ line. pure (record { pool = e.pool; script = record { outer = outer; line = line } })) in
          used_pool y ≡ pool_used (read_answer y) (parts_words e.pool)
      by_lines outer (ok line z) = refl
      by_lines outer (refused n q) = refl

      by_chunk : (x : Result (Node Part)) →
          let y : Result Payload = and_then x (λ outer z. and_then (read_line_index e z) (λ line. pure (record { pool = e.pool; script = record { outer = outer; line = line } }))) in
          used_pool y ≡ pool_used (read_answer y) (parts_words e.pool)
      by_chunk (ok outer z) = by_lines outer (read_line_index e z)
      by_chunk (refused n q) = refl

-- where the pool is that of a table which lies in the payload, they are the words of the table, whatever hints it has
pub strings_are : (capacities : Capacities) (p names pool : List ℕ) (s : State) {rows spans starts rows' spans' starts' : List ℕ} {r : Read} → length pool ≡ 2 * (length pool / 2) → PoolFits p pool
    → ScriptLeaves (read_script (context capacities p names pool) s) rows spans starts rows' spans' starts' r → used_pool (read_script (context capacities p names pool) s) ≡ pool_used r (plain_words pool)
unfolding context_of
strings_are capacities p names pool s {r = r} whole inside f =
    let words : parts_words (parts_of p (plain_words pool)) ≡ plain_words pool = parts_words_parts_of p (plain_words pool) (length pool / 2) (length_plain_words pool ∙ whole) inside in
    strings_used (context capacities p names pool) s ∙ ap (λ (l : List ℕ). pool_used (read_answer (read_script (context capacities p names pool) s)) l) words
    ∙ ap (λ (a : Read). pool_used a (plain_words pool)) (sym f.answer)
