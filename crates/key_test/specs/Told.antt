-- Rows whose words tell how many rows stand right under them.
use Rattle.std.specs.Prelude.{List, [], ◌∷◌, ◌≡◌, ℕ}
use Rattle.payload.specs.Reader.{Part}
use Rattle.payload.specs.Rows.{root_count, row_words}
use Rattle.payload.specs.Shapes.{shape}
use Rattle.payload.specs.Trees.{Item, Trees, nil, node}
use Rattle.row_layout.specs.Under.{count_in, rows_under}

-- a row of this tag and these items, with n rows right under it
pub record RowTold (t : ℕ) (items : List (Item Part)) (n : ℕ) : Type 0 where
  pub a : ℕ
  pub b : ℕ
  pub c : ℕ
  pub d : ℕ
  pub words : row_words t items n ≡ t ∷ a ∷ b ∷ c ∷ d ∷ []
  pub told : rows_under (shape t) (count_in (shape t) (a ∷ b ∷ c ∷ d ∷ [])) ≡ n

unfoldable pub Told : Trees Part → Type 0
Told nil = Unit {0}
Told (node t items kids trees) = RowTold t items (root_count kids) × Told kids × Told trees
