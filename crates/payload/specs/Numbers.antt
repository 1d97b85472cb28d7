-- The numbers of a payload, by kind: which words are of a kind, how one is written, and how one is read.
use Rattle.std.specs.Prelude.{Bool, List, [], ◌∷◌, ◌%◌, ◌^◌, ℕ, eqb, leb, ltb}
use Rattle.slices.specs.LittleEndian.{from_le_bytes, to_le_bytes}
use Rattle.signed.specs.Signed.{signed_of, unzigzag_of, word_of, zigzag_of}
use Rattle.varint.specs.Uleb128.{uleb128}
use Rattle.varint.specs.Varint.{varint_of}
use Rattle.varint.specs.Varint.{Varint}
use Rattle.varint.specs.Varint.{Number, Refused}
use Rattle.payload.specs.Choice.{◌and◌, ◌or◌, when◌then◌else◌}
use Rattle.payload.specs.Reader.{Reader, ◌>>=◌, ◌>>◌, advanced, body, byte, here, must, ok, pure, refused}

---- varints

-- A varint at the front of what is left; refusals 1 and 2, whose place is its first byte.
unfoldable pub after_varint : Varint → Reader ℕ
after_varint (Number n used) = λ s. ok n (advanced used s)
after_varint (Refused n p) = λ s. refused n s.place

unfoldable pub varint : Reader ℕ
varint = λ s. after_varint (varint_of s.rest 0) s

---- signed numbers, as words modulo 2^64

-- the word of a signed number's zigzag, and the zigzag of a word's signed number
abbrev pub unzigzag_word : ℕ → ℕ
unzigzag_word z = word_of (unzigzag_of z)

abbrev pub zigzag_word : ℕ → ℕ
zigzag_word w = zigzag_of (signed_of 64 w)

-- the lowest k bits of a word as a signed number
abbrev pub cut_signed : ℕ → ℕ → ℕ
cut_signed k w = word_of (signed_of k w)

---- the kinds of number, and the words of each

pub data NumberKind : Type 0 where
  u64 u32 u16 u8 i64 i32 i16 i8 bool char handle f64 f32 : NumberKind
  deriving Discrete as NumberKind-discrete

-- a Unicode scalar
unfoldable pub is_scalar : ℕ → Bool
is_scalar w = ltb w 0xd800 or (leb 0xe000 w and ltb w 0x110000)

-- a signed number of k bits: cutting it to k bits changes nothing
unfoldable pub fits_signed : ℕ → ℕ → Bool
fits_signed k w = eqb (cut_signed k w) w

unfoldable pub fits_kind : NumberKind → ℕ → Bool
fits_kind u64 w = ltb w (2 ^ 64)
fits_kind u32 w = ltb w (2 ^ 32)
fits_kind u16 w = ltb w (2 ^ 16)
fits_kind u8 w = ltb w 256
fits_kind i64 w = ltb w (2 ^ 64)
fits_kind i32 w = fits_signed 32 w
fits_kind i16 w = fits_signed 16 w
fits_kind i8 w = fits_signed 8 w
fits_kind bool w = ltb w 2
fits_kind char w = is_scalar w
fits_kind handle w = leb w 5
fits_kind f64 w = ltb w (2 ^ 64)
fits_kind f32 w = ltb w (2 ^ 32)

---- writing

unfoldable pub write_number : NumberKind → ℕ → List ℕ
write_number u64 w = uleb128 w
write_number u32 w = uleb128 w
write_number u16 w = uleb128 w
write_number u8 w = w ∷ []
write_number i64 w = uleb128 (zigzag_word w)
write_number i32 w = uleb128 (zigzag_word w)
write_number i16 w = uleb128 (zigzag_word w)
write_number i8 w = uleb128 (zigzag_word w)
write_number bool w = w ∷ []
write_number char w = uleb128 w
write_number handle w = uleb128 w
write_number f64 w = to_le_bytes 8 w
write_number f32 w = to_le_bytes 4 w

---- reading: a varint is cut before any test, whose place is the varint

unfoldable pub cut_to : ℕ → Reader ℕ
cut_to m = varint >>= λ v. pure (v % m)

unfoldable pub cut_tested : ℕ → (ℕ → Bool) → ℕ → Reader ℕ
cut_tested m test n = here >>= λ p. cut_to m >>= λ v. must (test v) n p >> pure v

unfoldable pub cut_to_signed : ℕ → Reader ℕ
cut_to_signed k = varint >>= λ z. pure (cut_signed k (unzigzag_word z))

-- the n bytes of a float are one body
unfoldable pub read_float : ℕ → Reader ℕ
read_float n = body n >>= λ b. pure (from_le_bytes b.bytes)

unfoldable pub read_number : NumberKind → Reader ℕ
read_number u64 = varint
read_number u32 = cut_to (2 ^ 32)
read_number u16 = cut_to (2 ^ 16)
read_number u8 = byte
read_number i64 = varint >>= λ z. pure (unzigzag_word z)
read_number i32 = cut_to_signed 32
read_number i16 = cut_to_signed 16
read_number i8 = cut_to_signed 8
read_number bool = byte >>= λ b. pure (when eqb b 0 then 0 else 1)
read_number char = cut_tested (2 ^ 32) is_scalar 6
read_number handle = cut_tested (2 ^ 8) (λ v. leb v 5) 12
read_number f64 = read_float 8
read_number f32 = read_float 4
