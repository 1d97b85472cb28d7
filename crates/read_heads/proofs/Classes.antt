-- The class of each tag, in the order of the tags.
use Rattle.std.specs.Prelude.{List, [], ◌∷◌, ◌≡◌, refl, ℕ, zero, suc, ◌≤◌, get_or}
use Rattle.std.proofs.Common.{arith, ne_eqb}
use Rattle.payload.specs.Choice.{when◌then◌else◌}
use Rattle.payload.specs.Shapes.{Shape, no_value, shape, shapes, with_kids}
use Rattle.read_items.specs.Numbers.{kind_of}
use Rattle.read_items.specs.declared.Cut.TheVariants.{U64, U32, U16, I64, I32, I16, I8}
use Rattle.read_heads.specs.Class.{shape_of}
use Rattle.read_heads.specs.declared.Class.{Class}
use Rattle.read_heads.specs.declared.Class.TheVariants.{Empty, Varint, Byte, Bool, Char, Float, SFloat, Str, Native, Function, OneValue, Values, Keys, Pairs, Record, Tag, Closure, Handle}

abbrev classes : List Class
classes =
    Empty ∷ Varint I64 ∷ Float ∷ Bool ∷ Byte ∷ Char ∷ Str ∷ Function ∷ Native ∷ OneValue ∷ OneValue ∷ OneValue ∷ Values ∷ Values ∷ Keys ∷ Pairs ∷ Record ∷ Tag ∷ Closure
    ∷ Varint U64 ∷ Varint I32 ∷ Varint U32 ∷ Varint U16 ∷ Varint I16 ∷ Varint I8 ∷ SFloat ∷ Handle ∷ []

shapes_from : List Class → List Shape
shapes_from [] = []
shapes_from (k ∷ ks) = shape_of k ∷ shapes_from ks

shapes_at : (ks : List Class) (n : ℕ) → get_or (shapes_from ks) n (shape_of Empty) ≡ shape_of (get_or ks n Empty)
unfolding shapes_from
shapes_at [] n = refl
shapes_at (k ∷ ks) zero = refl
shapes_at (k ∷ ks) (suc n) = shapes_at ks n

same_shapes : shapes_from classes ≡ shapes
unfolding shapes_from shapes shape_of kind_of
same_shapes = refl

empty_shape : shape_of Empty ≡ with_kids [] no_value
unfolding shape_of
empty_shape = refl

-- so each tag of a value has the shape of its class
pub shape_class : (t : ℕ) → t ≤ 26 → shape t ≡ shape_of (get_or classes t Empty)
unfolding shape when◌then◌else◌
shape_class t h =
    rw (ne_eqb t 32 (λ q. omega (arith, q)), ne_eqb t 33 (λ q. omega (arith, q)), ← same_shapes, ← empty_shape) (shapes_at classes t)
