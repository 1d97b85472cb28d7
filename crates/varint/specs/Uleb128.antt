-- The shortest ULEB128 of a number (DWARF 5, section 7.6): the number is cut into groups of seven bits, the least significant first. Each group
-- is the low seven bits of a byte, whose bit 7 (128) is set on all but the last.
use Rattle.std.specs.Prelude.{cond, List, [], ◌∷◌, ℕ, zero, suc, ◌+◌, ◌/◌, ◌%◌, ltb}

-- n, cut into at most `most` groups before the last. (A `let` is computed only where it is asked for, so the groups after the last are not.)
unfoldable pub groups : ℕ → ℕ → List ℕ
groups zero n = n ∷ []
groups (suc most) n = let rest = groups most (n / 128) in cond (ltb n 128) (n ∷ []) ((n % 128 + 128) ∷ rest)

-- Each group taken makes the number smaller, so n groups before the last are always enough.
unfoldable pub uleb128 : ℕ → List ℕ
unfolding groups
uleb128 n = groups n n
