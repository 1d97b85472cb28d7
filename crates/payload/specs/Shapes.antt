-- The table of shapes by tag: what stands in a row after its tag, and what follows it. The only place for facts about tags.
use Rattle.std.specs.Prelude.{Bool, List, [], ◌∷◌, ℕ, eqb, leb, get_or}
use Rattle.payload.specs.Choice.{◌and◌, ◌or◌, when◌then◌else◌}
use Rattle.payload.specs.Numbers.{NumberKind, bool, char, f32, f64, handle, i16, i32, i64, i8, u16, u32, u64, u8}

-- What stands in a row after its tag, in the payload's order: a number of some kind, a string, a native's name, a record's name, code with its spans.
pub data ItemKind : Type 0 where
  number : NumberKind → ItemKind
  string native_name record_name code : ItemKind
  deriving Discrete as ItemKind-discrete

-- What follows the items of a row: nothing, one value, counted values, counted keys, counted pairs of key and value
pub data Kids : Type 0 where
  no_value one_value values keys pairs : Kids

pub data Shape : Type 0 where
  with_kids : List ItemKind → Kids → Shape
  -- a chunk row
  with_chunk : List ItemKind → Shape
  -- counted field rows
  with_fields : List ItemKind → Shape
  -- a function, and then the items, and counted values
  with_template : List ItemKind → Shape

number_only : NumberKind → Shape
number_only k = with_kids (ItemKind.number k ∷ []) no_value

-- by tag, from 0 to 26
unfoldable pub shapes : List Shape
unfolding number_only
shapes =
    with_kids [] no_value  -- 0 Null
    ∷ number_only i64  -- 1 Int
    ∷ number_only f64  -- 2 Float
    ∷ number_only bool  -- 3 Bool
    ∷ number_only u8  -- 4 Byte
    ∷ number_only char  -- 5 Char
    ∷ with_kids (ItemKind.string ∷ []) no_value  -- 6 Str
    ∷ with_chunk (ItemKind.string ∷ ItemKind.number u64 ∷ [])  -- 7 Function: name, arity
    ∷ with_kids (ItemKind.native_name ∷ []) no_value  -- 8 Native
    ∷ with_kids [] one_value  -- 9 Ok
    ∷ with_kids [] one_value  -- 10 Err
    ∷ with_kids [] one_value  -- 11 Error
    ∷ with_kids [] values  -- 12 Arr
    ∷ with_kids [] values  -- 13 Tuple
    ∷ with_kids [] keys  -- 14 Set
    ∷ with_kids [] pairs  -- 15 Map
    ∷ with_fields (ItemKind.record_name ∷ [])  -- 16 Record
    ∷ with_kids (ItemKind.string ∷ ItemKind.string ∷ []) no_value  -- 17 Tag: name, variant
    ∷ with_template (ItemKind.number u16 ∷ [])  -- 18 Closure: capture start
    ∷ number_only u64  -- 19 UInt
    ∷ number_only i32  -- 20 SInt
    ∷ number_only u32  -- 21 SUInt
    ∷ number_only u16  -- 22 BByte
    ∷ number_only i16  -- 23 BSByte
    ∷ number_only i8  -- 24 SByte
    ∷ number_only f32  -- 25 SFloat
    ∷ with_kids (ItemKind.number handle ∷ ItemKind.number u64 ∷ []) no_value  -- 26 Handle: kind, id
    ∷ []

-- 32 is a chunk row, 33 a field row
unfoldable pub shape : ℕ → Shape
shape t = when eqb t 32 then with_kids (ItemKind.code ∷ []) values else when eqb t 33 then with_kids (ItemKind.string ∷ []) one_value else get_or shapes t (with_kids [] no_value)

-- how deep values stand in values: an outer constant has depth 1
abbrev pub depth_limit : ℕ
depth_limit = 32

-- tags 1, 3 to 6, 19 to 24
unfoldable pub is_key_tag : ℕ → Bool
is_key_tag t = eqb t 1 or (leb 3 t and leb t 6) or (leb 19 t and leb t 24)

unfoldable pub kinds_of : Shape → List ItemKind
kinds_of (with_kids kinds kids) = kinds
kinds_of (with_chunk kinds) = kinds
kinds_of (with_fields kinds) = kinds
kinds_of (with_template kinds) = kinds
