-- The elements of a set and the entries of a map, read alike: a key, then `gap` values, which are none in a set and one in a map.
use Rattle.std.specs.Prelude.{List, ◌∷◌, ℕ, zero, suc}
use Rattle.payload.specs.Reader.{Part, Reader, ◌>>=◌, ◌>>◌, here, pure}
use Rattle.payload.specs.Reading.{node_key, read_many, test_key}
use Rattle.payload.specs.Trees.{Node, Trees, cons, nil, node}

-- some trees, then others
unfoldable pub joined : Trees Part → Trees Part → Trees Part
joined nil ts = ts
joined (node t is ks vs) ts = node t is ks (joined vs ts)

unfoldable pub read_entries : ℕ → ℕ → List (List ℕ) → Reader (Node Part) → Reader (Trees Part)
read_entries gap zero seen r = pure nil
read_entries gap (suc n) seen r =
    here >>= λ p. r >>= λ t. read_many gap r >>= λ vs. test_key p seen t >> read_entries gap n (node_key t ∷ seen) r >>= λ ts. pure (cons t (joined vs ts))
