-- What follows the head of a row, over the reader of a value one level down.
use Rattle.std.specs.Prelude.{[], ◌∷◌, ℕ}
use Rattle.payload.specs.Reader.{Part, Reader}
use Rattle.payload.specs.Reading.{Context, read_keys, read_many, read_pairs, read_untagged}
use Rattle.payload.specs.Shapes.{ItemKind, Shape, no_value, one_value, values, keys, pairs, with_kids, with_chunk, with_fields, with_template}
use Rattle.payload.specs.Trees.{Node, Trees}

module _ (e : Context) (r : Reader (Node Part)) where
  abbrev pub read_chunk_row : Reader (Node Part)
  read_chunk_row = read_untagged e r 32 (ItemKind.code ∷ []) values

  abbrev pub read_field_row : Reader (Node Part)
  read_field_row = read_untagged e r 33 (ItemKind.string ∷ []) one_value

  -- n values, keys, pairs, chunk rows or field rows; of a closure the captured values
  unfoldable pub read_following : Shape → ℕ → Reader (Trees Part)
  read_following (with_kids kinds no_value) n = read_many n r
  read_following (with_kids kinds one_value) n = read_many n r
  read_following (with_kids kinds values) n = read_many n r
  read_following (with_kids kinds keys) n = read_keys n [] r
  read_following (with_kids kinds pairs) n = read_pairs n [] r
  read_following (with_chunk kinds) n = read_many n read_chunk_row
  read_following (with_fields kinds) n = read_many n read_field_row
  read_following (with_template kinds) n = read_many n r
