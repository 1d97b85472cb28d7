-- What the calls of the varint layer give: the words of one answer, and numbers read or written one after the other.
use Rattle.std.specs.Prelude.{cond, List, [], ◌∷◌, ◌++◌, ℕ, zero, suc, ◌+◌, ◌-◌, leb, length}
use Rattle.varint.specs.Varint.{Varint}
use Rattle.varint.specs.Varint.{Number, Refused}
use Rattle.varint.specs.Uleb128.{uleb128}
use Rattle.varint.specs.Varint.{varint_of, value_of, next_of, place_of}

-- the words of the answer to a read
abbrev pub fields : Varint → List ℕ
fields read = value_of read ∷ next_of read ∷ place_of read ∷ []

-- the place after the number n written at a place of so many bytes, or 0 where there is no room
abbrev pub place_after : ℕ → ℕ → ℕ → ℕ
place_after room at n = cond (leb (at + length (uleb128 n)) room) (at + length (uleb128 n)) 0

-- a number read, before those that are read from the place after it; nothing after a refusal
abbrev pub followed : Varint → (ℕ → List ℕ) → List ℕ
followed (Number n next) rest = n ∷ rest next
followed (Refused number place) rest = []

-- the numbers read one after the other from place `at` on, at most so many, up to the end of the bytes or a refusal
unfoldable pub numbers_of : ℕ → List ℕ → ℕ → List ℕ
numbers_of zero bytes at = []
numbers_of (suc most) bytes at = followed (varint_of bytes at) (numbers_of most bytes)

-- the bytes of numbers written one after the other, up to the first that does not fit into so much room
unfoldable pub bytes_of : ℕ → List ℕ → List ℕ
bytes_of room [] = []
bytes_of room (n ∷ numbers) =
    let rest = bytes_of (room - length (uleb128 n)) numbers in
    cond (leb (length (uleb128 n)) room) (uleb128 n ++ rest) []
