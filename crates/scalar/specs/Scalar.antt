-- A scalar constant and the words of its row. A float is its bits, and the bits of a NaN, which no float keeps, are a case of their own.
use Rattle.std.specs.Prelude.{Bool, true, false, cond, not, ◌&&◌, ◌||◌, List, [], ◌∷◌, ◌≡◌, ℕ, ◌%◌, ◌^◌, eqb, leb}
use Rattle.std.specs.Float.Ieee.{nan_bits, of_bits, to_bits}
use Rattle.std.specs.Float.{binary32, binary64}
use Rattle.signed.specs.Signed.{signed_of, word_of}
use Rattle.payload.specs.Numbers.{fits_kind}
use Rattle.payload.specs.Shapes.{ItemKind}
use Rattle.scalar.specs.declared.Scalar.{Scalar}
use Rattle.scalar.specs.declared.Scalar.TheVariants.{Null, Int, UInt, SInt, SUInt, BByte, BSByte, Byte, SByte, Float, SFloat, Bool as Boolean, Char, Handle}
use Rattle.scalar.specs.declared.Constant.{Constant}
use Rattle.scalar.specs.declared.Constant.TheVariants.{Value, NanBits, SNanBits, Other}
use Rattle.scalar.specs.declared.Words.{Words}

abbrev pub row : ℕ → ℕ → ℕ → Words
row t a b = record { tag = t; a = a; b = b }

---- the row of a constant

unfoldable pub words_of : Scalar → Words
words_of Null = row 0 0 0
words_of (Int z) = row 1 (word_of z) 0
words_of (Float x) = row 2 (to_bits binary64 x) 0
words_of (Boolean t) = row 3 (cond t 1 0) 0
words_of (Byte n) = row 4 n 0
words_of (Char n) = row 5 n 0
words_of (UInt n) = row 19 n 0
words_of (SInt z) = row 20 (word_of z) 0
words_of (SUInt n) = row 21 n 0
words_of (BByte n) = row 22 n 0
words_of (BSByte z) = row 23 (word_of z) 0
words_of (SByte z) = row 24 (word_of z) 0
words_of (SFloat x) = row 25 (to_bits binary32 x) 0
words_of (Handle k id) = row 26 k id

unfoldable pub row_of : Constant → Words
row_of (Value s) = words_of s
row_of (NanBits n) = row 2 n 0
row_of (SNanBits n) = row 25 n 0
row_of Other = row 0 0 0

---- the constant of a row's words, each cut to what its case holds

abbrev pub float_of : ℕ → Constant
float_of n = cond (nan_bits binary64 n) (NanBits n) (Value (Float (of_bits binary64 n)))

abbrev pub sfloat_of : ℕ → Constant
sfloat_of n = cond (nan_bits binary32 n) (SNanBits n) (Value (SFloat (of_bits binary32 n)))

unfoldable pub const_of : ℕ → ℕ → ℕ → Constant
const_of t a b =
    cond (eqb t 0) (Value Null)
    (cond (eqb t 1) (Value (Int (signed_of 64 a)))
    (cond (eqb t 2) (float_of a)
    (cond (eqb t 3) (Value (Boolean (not (eqb a 0))))
    (cond (eqb t 4) (Value (Byte (a % 2 ^ 8)))
    (cond (eqb t 5) (Value (Char (a % 2 ^ 32)))
    (cond (eqb t 19) (Value (UInt a))
    (cond (eqb t 20) (Value (SInt (signed_of 32 a)))
    (cond (eqb t 21) (Value (SUInt (a % 2 ^ 32)))
    (cond (eqb t 22) (Value (BByte (a % 2 ^ 16)))
    (cond (eqb t 23) (Value (BSByte (signed_of 16 a)))
    (cond (eqb t 24) (Value (SByte (signed_of 8 a)))
    (cond (eqb t 25) (sfloat_of (a % 2 ^ 32))
    (cond (eqb t 26) (Value (Handle (a % 2 ^ 8) b))
    Other)))))))))))))

---- the words of a scalar's row

-- the tags of the fourteen cases
unfoldable pub is_scalar_tag : ℕ → Bool
is_scalar_tag t = leb t 5 || (leb 19 t && leb t 26)

abbrev pub fits_item : ItemKind → ℕ → Bool
fits_item (ItemKind.number k) w = fits_kind k w
fits_item ItemKind.string w = false
fits_item ItemKind.native_name w = false
fits_item ItemKind.record_name w = false
fits_item ItemKind.code w = false

-- words that fit a row's items, and are 0 where no item is left
abbrev pub FitsWords : List ItemKind → List ℕ → Type 0
FitsWords [] [] = Unit {0}
FitsWords [] (w ∷ ws) = (w ≡ 0) × FitsWords [] ws
FitsWords (k ∷ ks) [] = ⊥
FitsWords (k ∷ ks) (w ∷ ws) = (fits_item k w ≡ true) × FitsWords ks ws
