-- What the test of distinct strings asks of a pool table, and what its entries are once they are linked.
use Rattle.std.specs.Prelude.{List, ◌≡◌, ◌*◌, ◌+◌, ◌/◌, ◌<◌, ◌≤◌, ℕ, eqb, get_or, length}
use Rattle.payload.specs.Tables.{limits, size_limit}
use Rattle.pool_index.specs.Strings.{distinct, pool_strings}
use Rattle.gather.specs.Entries.{unlinked}

-- every entry is a part of the store, as those of a pool that was read are, so that its words have room for links
pub record PartsIn (store pool : List ℕ) : Type 0 where
  pub short : length store ≤ size_limit
  pub few : length pool / 2 ≤ limits.strings
  pub within : (k : ℕ) → k < length pool / 2 → get_or pool (2 * k) 0 + get_or pool (2 * k + 1) 0 ≤ length store

-- the first entries, so many, are linked, and nothing else has changed: all of them where no string stands twice
pub record LinkedFirst (store pool pool' : List ℕ) (linked : ℕ) : Type 0 where
  pub fits : 2 * linked ≤ length pool'
  pub back : unlinked linked pool' ≡ pool
  pub all : eqb linked (length pool / 2) ≡ distinct (pool_strings store pool)
