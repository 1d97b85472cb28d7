-- The kinds of number that are a varint, cut.
use Rattle.std.specs.Prelude.{ℕ, ◌%◌, ◌^◌}
use Rattle.payload.specs.Numbers.{NumberKind, u64, u32, u16, i64, i32, i16, i8, unzigzag_word, cut_signed}
use Rattle.read_items.specs.declared.Cut.{Cut}
use Rattle.read_items.specs.declared.Cut.TheVariants.{U64, U32, U16, I64, I32, I16, I8}

unfoldable pub kind_of : Cut → NumberKind
kind_of U64 = u64
kind_of U32 = u32
kind_of U16 = u16
kind_of I64 = i64
kind_of I32 = i32
kind_of I16 = i16
kind_of I8 = i8

-- the word of a varint's number
abbrev pub cut_word : Cut → ℕ → ℕ
cut_word U64 v = v
cut_word U32 v = v % 2 ^ 32
cut_word U16 v = v % 2 ^ 16
cut_word I64 v = unzigzag_word v
cut_word I32 v = cut_signed 32 (unzigzag_word v)
cut_word I16 v = cut_signed 16 (unzigzag_word v)
cut_word I8 v = cut_signed 8 (unzigzag_word v)
