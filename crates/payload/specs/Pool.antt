-- Strings searched, and interned: each kept at its first place.
use Rattle.std.specs.Prelude.{Bool, false, List, [], ◌++◌, ◌∷◌, suc, ℕ}
use Rattle.slices.specs.Same.{same}
use Rattle.payload.specs.Choice.{◌or◌, when◌then◌else◌}

unfoldable pub is_in : List ℕ → List (List ℕ) → Bool
is_in x [] = false
is_in x (y ∷ ys) = same x y or is_in x ys

unfoldable pub index_of : List ℕ → List (List ℕ) → ℕ
index_of x [] = 0
index_of x (y ∷ ys) = when same x y then 0 else suc (index_of x ys)

-- the strings of a list after those of a pool, each once, at its first place
unfoldable pub interned : List (List ℕ) → List (List ℕ) → List (List ℕ)
interned l [] = l
interned l (x ∷ xs) = interned (when is_in x l then l else l ++ (x ∷ [])) xs
