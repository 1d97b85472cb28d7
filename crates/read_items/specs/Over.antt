-- What a call does to the items of a payload whose pool was read.
use Rattle.std.specs.Prelude.{List, ◌≡◌, ℕ}
use Rattle.cursor.specs.declared.Cursor.{Cursor}
use Rattle.read_items.specs.declared.items.Items.{Items}

-- s became s': the cursor went on as Moves says, which knows the words of the pool, and the pool is the same
pub record ReadsOver (s s' : Items) (Moves : Cursor → Cursor → List ℕ → Type 0) : Type 0 where
  pub same_pool : s'.pool ≡ s.pool
  pub moves : Moves s.cursor s'.cursor s.pool.now
