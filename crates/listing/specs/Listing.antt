-- The text of a listing: its lines as bytes, with numbers in decimal, right-justified in columns.
use Rattle.std.specs.Prelude.{cond, List, [], ◌++◌, ◌∷◌, ℕ, zero, suc, ◌+◌, ◌-◌, ◌*◌, ◌/◌, ◌%◌, ltb, length, get_or, replicate}
use Rattle.payload.specs.Rows.{row_width}
use Rattle.payload.specs.Answers.{Read}
use Rattle.refusal.specs.Answer as read

-- the decimal digits of n in ASCII, at most `most` before the last
unfoldable pub decimal_digits : ℕ → ℕ → List ℕ
decimal_digits zero n = (48 + n) ∷ []
decimal_digits (suc most) n = let front = decimal_digits most (n / 10) in cond (ltb n 10) ((48 + n) ∷ []) (front ++ ((48 + n % 10) ∷ []))

-- Each digit taken makes the number smaller, so n digits before the last are always enough.
unfoldable pub decimal : ℕ → List ℕ
unfolding decimal_digits
decimal n = decimal_digits n n

-- a number right-justified in a column of this width; one of more digits than that stands whole
unfoldable pub column : ℕ → ℕ → List ℕ
column width n = replicate (width - length (decimal n)) 32 ++ decimal n

-- the line of row i of a row table: row number, tag, four words
unfoldable pub row_line : ℕ → List ℕ → List ℕ
row_line i rows =
    column 5 i ++ (column 4 (get_or rows (row_width * i) 0) ++ (column 21 (get_or rows (row_width * i + 1) 0) ++ (column 21 (get_or rows (row_width * i + 2) 0)
    ++ (column 21 (get_or rows (row_width * i + 3) 0) ++ (column 21 (get_or rows (row_width * i + 4) 0) ++ (10 ∷ []))))))

-- the lines of the first rows of a table
unfoldable pub row_lines : ℕ → List ℕ → List ℕ
row_lines zero rows = []
row_lines (suc n) rows = row_lines n rows ++ row_line n rows

-- the last line: the answer, and bytes consumed or place
unfoldable pub answer_line : ℕ → ℕ → List ℕ
answer_line number place = column 5 number ++ (column 21 place ++ (10 ∷ []))

-- how many rows are listed: the used ones, and none at a refusal
unfoldable pub listed_rows : Read → ℕ
listed_rows (read.accepted c) = c.rows
listed_rows (read.refused number place) = 0

unfoldable pub last_line : Read → List ℕ
last_line (read.accepted c) = answer_line 0 c.consumed
last_line (read.refused number place) = answer_line number place

-- the listing of a read that gave this answer and left this row table
unfoldable pub listing : Read → List ℕ → List ℕ
listing answer rows = row_lines (listed_rows answer) rows ++ last_line answer
