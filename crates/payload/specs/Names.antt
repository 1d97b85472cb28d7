-- The names list: every name ends in 0A; what follows the last 0A counts for nothing.
use Rattle.std.specs.Prelude.{Bool, List, [], ◌∷◌, ℕ, eqb}
use Rattle.payload.specs.Choice.{when◌then◌else◌}
use Rattle.payload.specs.Pool.{is_in}

-- a byte in front of the first name; with no name after it it belongs to none
unfoldable pub onto : ℕ → List (List ℕ) → List (List ℕ)
onto b [] = []
onto b (name ∷ names) = (b ∷ name) ∷ names

unfoldable pub names_of : List ℕ → List (List ℕ)
names_of [] = []
names_of (b ∷ bs) = let rest = names_of bs in when eqb b 0x0A then [] ∷ rest else onto b rest

-- whether a native name is in the list
unfoldable pub is_listed : List ℕ → List ℕ → Bool
is_listed list name = is_in name (names_of list)
