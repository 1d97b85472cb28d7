-- The shape of a row by its tag, as numbers that the code keeps in tables.
use Rattle.std.specs.Prelude.{List, [], ◌∷◌, ℕ, suc, ◌+◌, length}
use Rattle.payload.specs.Numbers.{NumberKind, u64, u32, u16, u8, i64, i32, i16, i8, bool, char, handle, f64, f32}
use Rattle.payload.specs.Rows.{count_words, kind_width, kinds_width}
use Rattle.payload.specs.Shapes.{ItemKind, Kids, no_value, one_value, values, keys, pairs, Shape, with_kids, with_chunk, with_fields, with_template, shape, kinds_of}

-- how a number is written: 1 as it is, 2 by zigzag, 3 one byte, 4 eight bytes, 5 four bytes
unfoldable pub number_form : NumberKind → ℕ
number_form u64 = 1
number_form u32 = 1
number_form u16 = 1
number_form handle = 1
number_form char = 1
number_form i64 = 2
number_form i32 = 2
number_form i16 = 2
number_form i8 = 2
number_form u8 = 3
number_form bool = 3
number_form f64 = 4
number_form f32 = 5

-- an item: 6 a string's index, 7 code and runs
unfoldable pub item_form : ItemKind → ℕ
item_form (ItemKind.number k) = number_form k
item_form ItemKind.string = 6
item_form ItemKind.native_name = 6
item_form ItemKind.record_name = 6
item_form ItemKind.code = 7

-- the first and the second item; 0 where there is none
unfoldable pub first_of : List ItemKind → ℕ
first_of [] = 0
first_of (k ∷ ks) = item_form k

unfoldable pub second_of : List ItemKind → ℕ
second_of [] = 0
second_of (k ∷ []) = 0
second_of (k ∷ l ∷ ks) = item_form l

-- the word where the second item begins
unfoldable pub after_first : List ItemKind → ℕ
after_first [] = 1
after_first (k ∷ ks) = 1 + kind_width k

unfoldable pub kids_form : Kids → ℕ
kids_form no_value = 0
kids_form one_value = 1
kids_form values = 2
kids_form keys = 2
kids_form pairs = 3

-- what is under a row: 0 nothing, 1 one row, 2 as many as the count says, 3 twice as many, 4 a function and as many
unfoldable pub shape_form : Shape → ℕ
shape_form (with_kids ks kk) = kids_form kk
shape_form (with_chunk ks) = 1
shape_form (with_fields ks) = 2
shape_form (with_template ks) = 4

-- the test that a number must pass: 1 none, 2 32 bits, 3 16 bits, 4 a byte, 5 a bool, 6 a handle's kind, 7 a Unicode scalar, 8, 9, 10 a signed number of 32, 16, 8 bits
unfoldable pub number_test : NumberKind → ℕ
number_test u64 = 1
number_test i64 = 1
number_test f64 = 1
number_test u32 = 2
number_test f32 = 2
number_test u16 = 3
number_test u8 = 4
number_test bool = 5
number_test handle = 6
number_test char = 7
number_test i32 = 8
number_test i16 = 9
number_test i8 = 10

-- an item's: 11 a string, 12 code
unfoldable pub item_test : ItemKind → ℕ
item_test (ItemKind.number k) = number_test k
item_test ItemKind.string = 11
item_test ItemKind.native_name = 11
item_test ItemKind.record_name = 11
item_test ItemKind.code = 12

-- 0 where there is no item
unfoldable pub first_test_of : List ItemKind → ℕ
first_test_of [] = 0
first_test_of (k ∷ ks) = item_test k

unfoldable pub second_test_of : List ItemKind → ℕ
second_test_of [] = 0
second_test_of (k ∷ ks) = first_test_of ks

-- the rules of the rows under a row: 0 nothing, 1 one value, 2 values, 3 keys, 4 pairs of key and value, 5 a chunk, 6 fields, 7 a function and values
unfoldable pub kids_rules : Kids → ℕ
kids_rules no_value = 0
kids_rules one_value = 1
kids_rules values = 2
kids_rules keys = 3
kids_rules pairs = 4

unfoldable pub shape_rules : Shape → ℕ
shape_rules (with_kids ks kk) = kids_rules kk
shape_rules (with_chunk ks) = 5
shape_rules (with_fields ks) = 6
shape_rules (with_template ks) = 7

---- by tag

unfoldable pub first_form : ℕ → ℕ
first_form t = first_of (kinds_of (shape t))

unfoldable pub second_form : ℕ → ℕ
second_form t = second_of (kinds_of (shape t))

unfoldable pub second_word : ℕ → ℕ
second_word t = after_first (kinds_of (shape t))

unfoldable pub under_form : ℕ → ℕ
under_form t = shape_form (shape t)

-- the word of the count
unfoldable pub count_word : ℕ → ℕ
count_word t = 1 + kinds_width (kinds_of (shape t))

unfoldable pub first_test : ℕ → ℕ
first_test t = first_test_of (kinds_of (shape t))

unfoldable pub second_test : ℕ → ℕ
second_test t = second_test_of (kinds_of (shape t))

unfoldable pub under_rules : ℕ → ℕ
under_rules t = shape_rules (shape t)

-- how many words are used: tag, items, count
unfoldable pub used_words : ℕ → ℕ
used_words t = suc (kinds_width (kinds_of (shape t)) + length (count_words (shape t) 0))
