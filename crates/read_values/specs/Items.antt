-- Items of a source.
use Rattle.std.specs.Prelude.{◌≡◌, ℕ}
use Rattle.read_items.specs.declared.items.Items.{Items}
use Rattle.read_values.specs.declared.sources.Source.{Source}

-- those that stand at a place of its payload
pub record ItemsAt (e : Source) (at : ℕ) (s : Items) : Type 0 where
  pub payload : s.cursor.payload ≡ e.payload
  pub place : s.cursor.at ≡ at
  pub pool : s.pool ≡ e.pool
