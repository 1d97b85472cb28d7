-- The classes of rows that are read alike, by their shapes.
use Rattle.std.specs.Prelude.{[], ◌∷◌}
use Rattle.payload.specs.Numbers.{u64, u16, u8, bool, char, handle, f64, f32}
use Rattle.payload.specs.Shapes.{ItemKind, Shape, no_value, one_value, values, keys, pairs, with_kids, with_chunk, with_fields, with_template}
use Rattle.read_items.specs.Numbers.{kind_of}
use Rattle.read_heads.specs.declared.Class.{Class}
use Rattle.read_heads.specs.declared.Class.TheVariants.{Empty, Varint, Byte, Bool, Char, Float, SFloat, Str, Native, Function, OneValue, Values, Keys, Pairs, Record, Tag, Closure, Handle}

unfoldable pub shape_of : Class → Shape
shape_of Empty = with_kids [] no_value
shape_of (Varint cut) = with_kids (ItemKind.number (kind_of cut) ∷ []) no_value
shape_of Byte = with_kids (ItemKind.number u8 ∷ []) no_value
shape_of Bool = with_kids (ItemKind.number bool ∷ []) no_value
shape_of Char = with_kids (ItemKind.number char ∷ []) no_value
shape_of Float = with_kids (ItemKind.number f64 ∷ []) no_value
shape_of SFloat = with_kids (ItemKind.number f32 ∷ []) no_value
shape_of Str = with_kids (ItemKind.string ∷ []) no_value
shape_of Native = with_kids (ItemKind.native_name ∷ []) no_value
shape_of Function = with_chunk (ItemKind.string ∷ ItemKind.number u64 ∷ [])
shape_of OneValue = with_kids [] one_value
shape_of Values = with_kids [] values
shape_of Keys = with_kids [] keys
shape_of Pairs = with_kids [] pairs
shape_of Record = with_fields (ItemKind.record_name ∷ [])
shape_of Tag = with_kids (ItemKind.string ∷ ItemKind.string ∷ []) no_value
shape_of Closure = with_template (ItemKind.number u16 ∷ [])
shape_of Handle = with_kids (ItemKind.number handle ∷ ItemKind.number u64 ∷ []) no_value
