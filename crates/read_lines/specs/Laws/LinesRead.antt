-- The line flag and the place of the name, from the name that a line index was read with.
use Rattle.std.specs.Prelude.{List, ◌≡◌, ℕ, length}
use Rattle.std.proofs.Math.Option.{Option}
use Rattle.payload.specs.Answers.{flag_of, length_of, offset_of}
use Rattle.payload.specs.Laws.Tables.{flag_of_line, length_of_line, offset_of_line}
use Rattle.payload.specs.Reader.{Part, Reader}
use Rattle.payload.specs.Reading.{Context}
use Rattle.payload.specs.Tables.{line_flag, line_name}
use Rattle.payload.specs.Trees.{LineIndex}
use Rattle.cursor.specs.declared.Cursor.{Cursor}
use Rattle.read_lines.specs.LinesRead.{Accepted}
use Rattle.read_lines.specs.declared.Lines.{Lines}

module _ {c c' : Cursor} {pool table table' : List ℕ} {most : ℕ} {reader : Context → Reader (Option (LineIndex Part))} {l : Lines}
    (a : Accepted c c' pool table table' most reader l) where
  pub flag_is : flag_of l.name ≡ line_flag a.line
  flag_is = rw a.name_is (flag_of_line a.line)

  pub offset_is : offset_of l.name ≡ (line_name a.line).offset
  offset_is = rw a.name_is (offset_of_line a.line)

  pub length_is : length_of l.name ≡ length (line_name a.line).bytes
  length_is = rw a.name_is (length_of_line a.line)
