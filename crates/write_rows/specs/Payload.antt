-- The payload of the tables of a program: pool, rows, line index.
use Rattle.std.specs.Prelude.{List, [], ◌∷◌, ◌++◌, ◌≡◌, ℕ, ◌+◌, ◌*◌, eqb, length, drop}
use Rattle.varint.specs.Uleb128.{uleb128}
use Rattle.payload.specs.Choice.{when◌then◌else◌}
use Rattle.payload.specs.Pool.{index_of}
use Rattle.payload.specs.Shapes.{depth_limit}
use Rattle.payload.specs.Writing.{write_starts}
use Rattle.pool_index.specs.Strings.{write_pool}
use Rattle.write_rows.specs.Walk.{Held, walk}

-- the line index: flag, and where that is not 0, name, count, starts
unfoldable pub line_bytes : List (List ℕ) → ℕ → List ℕ → List ℕ → List ℕ
line_bytes pool flag name starts = when eqb flag 0 then 0 ∷ [] else 1 ∷ (uleb128 (index_of name pool) ++ (uleb128 (length starts) ++ write_starts 0 starts))

-- as many levels as values stand in values, a row or two each, and the outer chunk
abbrev pub walk_depth : ℕ
walk_depth = 2 * depth_limit + 1

unfoldable pub payload_bytes : Held → ℕ → List ℕ → List ℕ → List ℕ
payload_bytes H flag name starts = write_pool H.pool ++ ((walk H walk_depth 1 0 0).bytes ++ line_bytes H.pool flag name starts)

-- an output that has the bytes in front, and its length
pub record WrittenOut (b o o' : List ℕ) (r : ℕ) : Type 0 where
  pub length_is : r ≡ length b
  pub output_is : o' ≡ b ++ drop (length b) o
