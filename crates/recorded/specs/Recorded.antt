-- What the bytes of a recorded file say: numbers, the lowest byte first, and whether a table holds what is recorded.
use Rattle.std.specs.Prelude.{Bool, ◌&&◌, List, [], ◌∷◌, ℕ, zero, suc, ◌*◌, eqb, leb, length, take, drop}
use Rattle.slices.specs.LittleEndian.{from_le_bytes}
use Rattle.std.specs.Cmp.Lexicographic.{pointwise}

-- the number of so many bytes at a place
abbrev pub number_at : ℕ → List ℕ → ℕ → ℕ
number_at width bytes at = from_le_bytes (take width (drop at bytes))

-- so many numbers of any type, read from so many bytes each
unfoldable pub numbers_by : {A : Type 0} → (List ℕ → A) → ℕ → ℕ → List ℕ → List A
numbers_by of_bytes width zero bytes = []
numbers_by of_bytes width (suc count) bytes = of_bytes (take width bytes) ∷ numbers_by of_bytes width count (drop width bytes)

-- so many numbers, of so many bytes each; those past the end are 0
abbrev pub numbers : ℕ → ℕ → List ℕ → List ℕ
numbers = numbers_by from_le_bytes

-- whether a table has room for what is recorded, and holds just that, by a test of equality
unfoldable pub agrees_by : {A : Type 0} → (A → A → Bool) → (List ℕ → A) → ℕ → List A → List ℕ → Bool
agrees_by eq of_bytes width table recorded =
    leb (length recorded) (width * length table) && pointwise eq table (numbers_by of_bytes width (length table) recorded)

abbrev pub agrees : ℕ → List ℕ → List ℕ → Bool
agrees = agrees_by eqb from_le_bytes
