-- The tags of the scalars that are varints, cut.
use Rattle.std.specs.Prelude.{ℕ}
use Rattle.read_items.specs.declared.Cut.{Cut}
use Rattle.read_items.specs.declared.Cut.TheVariants.{U64, U32, U16, I64, I32, I16, I8}

abbrev pub scalar_tag : Cut → ℕ
scalar_tag I64 = 1
scalar_tag U64 = 19
scalar_tag I32 = 20
scalar_tag U32 = 21
scalar_tag U16 = 22
scalar_tag I16 = 23
scalar_tag I8 = 24
