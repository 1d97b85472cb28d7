-- A closure after its tag, over the reader of a value one level down.
use Rattle.payload.specs.Reader.{Part, Reader, with_row}
use Rattle.payload.specs.Reading.{Context, read_shape}
use Rattle.payload.specs.Shapes.{shape}
use Rattle.payload.specs.Trees.{Node}

-- room for its row was found
abbrev pub closure_row : Context → Reader (Node Part) → Reader (Node Part)
closure_row e value s = read_shape e value 18 (shape 18) (with_row s)
