-- The starts of a text's lines, what making them in a lent table answers, and what it leaves there.
use Rattle.std.specs.Prelude.{cond, List, [], ◌∷◌, ℕ, ◌+◌, ◌-◌, min, leb, ltb, eqb, length, get_or, take}
use Rattle.payload.specs.Tables.{limits, size_limit}
use Rattle.refusal.specs.Answer.{Answer, accepted, refused}
use Rattle.line_index.specs.declared.LineIndex.{LineIndex}

-- the place after each 0A of a text whose first byte stands at i
unfoldable pub after_newlines : ℕ → List ℕ → List ℕ
after_newlines i [] = []
after_newlines i (b ∷ t) = let rest = after_newlines (i + 1) t in cond (eqb b 0x0A) ((i + 1) ∷ rest) rest

-- 0, then the place after each 0A
abbrev pub line_starts : List ℕ → List ℕ
line_starts text = 0 ∷ after_newlines 0 text

-- how many starts a table of so many words takes
abbrev pub capacity : ℕ → ℕ
capacity words = min words limits.starts

-- The answer for a text and a table of so many words: 16 where the text is too long; the count of the starts where the table takes them all;
-- else 24, at the 0A before the first start that it does not take, or at 0 where it takes none.
unfoldable pub line_index : List ℕ → ℕ → Answer LineIndex
line_index text words =
    cond (ltb size_limit (length text))
    (refused 16 0)
    (cond (leb (length (line_starts text)) (capacity words))
    (accepted (record { count = length (line_starts text) }))
    (refused 24 (get_or (line_starts text) (capacity words) 0 - 1)))

-- how many starts are used
abbrev pub count_of : Answer LineIndex → ℕ
count_of (accepted index) = index.count
count_of (refused number place) = 0

-- document 01's values for each case of the answer: 0 and the count, or number and place
abbrev pub line_index_fields : Answer LineIndex → List ℕ
line_index_fields (accepted index) = 0 ∷ index.count ∷ []
line_index_fields (refused number place) = number ∷ place ∷ []

---- the table

-- the starts that an answer leaves there, before zeros: as many as it says
abbrev pub kept : Answer LineIndex → List ℕ → List ℕ
kept index text = take (count_of index) (line_starts text)
