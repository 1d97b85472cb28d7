-- How many words the parts of strings take in a table; where the line index's name stands.
use Rattle.std.specs.Prelude.{List, [], ◌∷◌, ◌≡◌, refl, ◌*◌, length}
use Rattle.std.proofs.Common.{arith}
use Rattle.std.proofs.Math.Option.{Option, none, some}
use Rattle.payload.specs.Answers.{flag_of, length_of, offset_of}
use Rattle.payload.specs.Reader.{Part}
use Rattle.payload.specs.Rows.{part_words}
use Rattle.payload.specs.Tables.{line_extent, line_flag, line_name, parts_words}
use Rattle.payload.specs.Trees.{LineIndex}

pub length_parts_words : (bs : List Part) → length (parts_words bs) ≡ 2 * length bs
unfolding parts_words part_words
length_parts_words [] = refl
length_parts_words (b ∷ bs) = let h = length_parts_words bs in omega arith

pub flag_of_line : (x : Option (LineIndex Part)) → flag_of (line_extent x) ≡ line_flag x
unfolding line_flag
flag_of_line none = refl
flag_of_line (some l) = refl

pub offset_of_line : (x : Option (LineIndex Part)) → offset_of (line_extent x) ≡ (line_name x).offset
unfolding line_name
offset_of_line none = refl
offset_of_line (some l) = refl

pub length_of_line : (x : Option (LineIndex Part)) → length_of (line_extent x) ≡ length (line_name x).bytes
unfolding line_name
length_of_line none = refl
length_of_line (some l) = refl
