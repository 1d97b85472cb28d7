-- The line and column of an offset, by the starts of the lines.
use Rattle.std.specs.Prelude.{cond, List, [], ◌∷◌, ℕ, suc, ◌+◌, ◌-◌, ◌%◌, ◌^◌, max, leb, ltb, length, get_or}
use Rattle.refusal.specs.Answer.{Answer, accepted, refused}
use Rattle.line_index.specs.declared.LineCol.{LineCol}

-- how many starts from the front rise strictly, the first above p
unfoldable pub rising_above : ℕ → List ℕ → ℕ
rising_above p [] = 0
rising_above p (a ∷ l) = let rest = suc (rising_above a l) in cond (ltb p a) rest 0

-- how many starts from the front rise strictly: the index of the first that is not above its predecessor, or the length
unfoldable pub rising_prefix : List ℕ → ℕ
rising_prefix [] = 0
rising_prefix (a ∷ l) = suc (rising_above a l)

-- how many starts are not above o
unfoldable pub not_above : ℕ → List ℕ → ℕ
not_above o [] = 0
not_above o (a ∷ l) = let rest = not_above o l in cond (leb a o) (suc rest) rest

abbrev pub line_at : List ℕ → ℕ → ℕ
line_at starts o = max 1 (not_above o starts)

-- the distance from the line's start, and 1; 1 before the first start; a list without starts counts from 0
abbrev pub column_at : List ℕ → ℕ → ℕ
column_at starts o = o - get_or starts (line_at starts o - 1) 0 + 1

-- The answer: 20 at the first start that is not above its predecessor; else the line and column of the offset modulo 2^32.
unfoldable pub line_col : List ℕ → ℕ → Answer LineCol
line_col starts offset =
    let o = offset % 2 ^ 32 in
    cond (ltb (rising_prefix starts) (length starts))
    (refused 20 (rising_prefix starts))
    (accepted (record { line = line_at starts o; column = column_at starts o }))

-- document 01's values for each case of the answer: 0, place 0, line and column; or number and place, other fields 0
abbrev pub line_col_fields : Answer LineCol → List ℕ
line_col_fields (accepted at) = 0 ∷ 0 ∷ at.line ∷ at.column ∷ []
line_col_fields (refused number place) = number ∷ place ∷ 0 ∷ 0 ∷ []
