-- `pool_index::lookup` meets its contract: as no string stands twice, an entry that is the string is the first.
use Rattle.pool_index.specs.Laws.Distinct.{index_at}
use Rattle.pool_index.specs.Laws.Strings.{strings_at, length_strings}
use Rattle.pool_index.specs.Strings.{entry_bytes, pool_strings, distinct}
use Rattle.slices.specs.Same.{same}
use Rattle.payload.specs.Pool.{index_of}
use Prim.Native.Nat.{ℕ, ◌/◌, ◌<◌}
use mathlib.Core.Path.{◌≡◌, refl, sym}
use mathlib.Core.Bool.{true}
use mathlib.Core.List.{List}
use lib.ListN.{length}
use Rattle.pool_index.proofs.lookup.Goals as goal

-- an entry that has the string is the first
at_entry :
    (s pool : List ℕ) (k : ℕ) (x : List ℕ) → distinct (pool_strings s pool) ≡ true → (k < length pool / 2) × (same x (entry_bytes s pool k) ≡ true) →
    k ≡ index_of x (pool_strings s pool)
at_entry s pool k x d has = sym (index_at x (pool_strings s pool) k d (rw length_strings has.0) (rw (strings_at s pool k has.0) has.1))

pub returns-then-is_at : goal.returns-then-is_at
returns-then-is_at c = at_entry c.args.store.now c.args.pool.now c.args.expected _ c.requires (c.if-is_at.ensures.0 refl)

pub returns-then-is_at-2 : goal.returns-then-is_at-2
returns-then-is_at-2 c = at_entry c.args.store.now c.args.pool.now c.by_offset-i.result _ c.requires (c.if-is_at-2.ensures.0 refl)

pub returns-in-Some : goal.returns-in-Some
returns-in-Some c = at_entry c.args.store.now c.args.pool.now c.in-Some.j _ c.requires c.in-Some.ensures

pub returns-then-is_at-3 : goal.returns-then-is_at-3
returns-then-is_at-3 c = at_entry c.args.store.now c.args.pool.now c.by_offset-k.result _ c.requires (c.if-is_at-3.ensures.0 refl)
