-- `write_rows::Writing::write_index` meets its contract: the index is written where it is found, and has one byte where there are few strings.
use mathlib.Core.Bool.{Bool, true, false}
use mathlib.Core.List.{List, [], ◌∷◌}
use mathlib.Core.Path.{◌≡◌, sym, ap}
use Prim.Native.Nat.{ℕ, suc, ◌≤◌, ◌<◌}
use native.Mathlib.Omega.{arith}
use lib.ListN.{length}
use Rattle.slices.specs.Same.{same}
use Rattle.varint.specs.Laws.Uleb128.{uleb_small}
use Rattle.varint.specs.Uleb128.{uleb128}
use Rattle.payload.specs.Choice.{when◌then◌else◌}
use Rattle.payload.specs.Pool.{index_of}
use Rattle.emit.specs.Laws.Emitter.{emits_measured}
use Rattle.pool_index.specs.Laws.Strings.{length_strings}
use Rattle.pool_index.specs.Strings.{bytes_at, pool_strings}
use Rattle.write_rows.proofs.Writing.write_index.Goals as goal

index_le : (x : List ℕ) (l : List (List ℕ)) → index_of x l ≤ length l
unfolding index_of when◌then◌else◌
index_le x [] = omega arith
index_le x (y ∷ l) = go (same x y) (index_le x l)
  where
    go : (t : Bool) → index_of x l ≤ length l → when◌then◌else◌ t 0 (suc (index_of x l)) ≤ suc (length l)
    go true h = omega arith
    go false h = omega arith

-- an index among few strings has one byte
one_byte : (store pool x : List ℕ) → length pool < 256 → length (uleb128 (index_of x (pool_strings store pool))) ≡ 1
one_byte store pool x h = ap length (uleb_small _ (omega (arith, index_le x (pool_strings store pool), length_strings store pool)))

pub returns-then-only_measures : goal.returns-then-only_measures
returns-then-only_measures c =
    let pool = c.args.self.now.pool in
    emits_measured c.only_measures.ensures c.if-only_measures.true (sym (one_byte pool.store.now pool.words.now (bytes_at pool.store.now c.args.o c.args.n) c.if-self-lt256.true)) c.advance.ensures
