-- What the functions of the walk are asked, and what they did.
use Rattle.std.specs.Prelude.{true, List, ◌≡◌, ℕ, ◌≤◌}
use Rattle.emit.specs.Emits.{Emits}
use Rattle.emit.specs.declared.Emitter.{Emitter}
use Rattle.pool_index.specs.Strings.{pool_strings, distinct}
use Rattle.write_code.specs.Runs.{Positions}
use Rattle.write_rows.specs.Walk.{Walked}

-- tables that can be written: no string stands twice in the pool, and spans are positions
pub record Writable (store pool spans : List ℕ) : Type 0 where
  pub once : distinct (pool_strings store pool) ≡ true
  pub small : Positions spans

-- the bytes of w were emitted on the way to the row i and the span j, which are those after w; the spans are so many
pub record Reached (e e' : Emitter) (many i j : ℕ) (w : Walked) : Type 0 where
  pub wrote : Emits e e' w.bytes
  pub row : i ≡ w.row
  pub span : j ≡ w.span
  pub within : j ≤ many
