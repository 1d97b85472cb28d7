-- The strings of a pool, as the code passes it.
use Rattle.std.specs.Prelude.{true, List, ℕ, ◌≡◌, ◌/◌, ◌<◌, length}
use Rattle.slices.specs.Same.{same}
use Rattle.pool_index.specs.Strings.{entry_bytes, pool_strings}
use Rattle.pool_index.specs.declared.Pool.{Pool}

abbrev pub strings_of : Pool → List (List ℕ)
strings_of p = pool_strings p.store.now p.words.now

-- there is an entry k, and it has the bytes x
abbrev pub HasAt : Pool → ℕ → List ℕ → Type 0
HasAt p k x = (k < length p.words.now / 2) × (same x (entry_bytes p.store.now p.words.now k) ≡ true)
