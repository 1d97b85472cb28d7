-- A table of 35 entries in three words, one hexadecimal digit for an entry.
use Rattle.std.specs.Prelude.{List, [], ◌∷◌, ◌++◌, ℕ, zero, suc, ◌/◌, ◌%◌}

-- the last n digits of a word, the last first
unfoldable pub digits : ℕ → ℕ → List ℕ
digits zero w = []
digits (suc n) w = w % 16 ∷ digits n (w / 16)

-- entries 0 to 15, 16 to 31, 32 to 34
unfoldable pub entries : ℕ → ℕ → ℕ → List ℕ
entries low middle high = digits 16 low ++ (digits 16 middle ++ digits 3 high)
