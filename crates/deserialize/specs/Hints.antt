-- What a call on the strings of a pool table leaves.
use Rattle.std.specs.Prelude.{◌≡◌, length}
use Rattle.read_items.specs.Context.{plain_words}
use Rattle.deserialize.specs.declared.hints.Strings.{Strings}

-- s became r: the same table, in which what stands below the base is as it was
pub record Keeps (s r : Strings) : Type 0 where
  pub same_pool : r.pool.ghost_name ≡ s.pool.ghost_name
  pub same_words : plain_words r.pool.now ≡ plain_words s.pool.now
  pub same_length : length r.pool.now ≡ length s.pool.now
