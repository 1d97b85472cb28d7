-- A run of elements stored in a table, over any element type.
use Rattle.std.specs.Prelude.{List, ℕ}
use Rattle.std.proofs.lemmas.List.Edits.{sets}

-- xs with the elements of ys stored from index i on
unfoldable pub put : {A : Type 0} → List A → ℕ → List A → List A
put xs i ys = sets xs i ys
