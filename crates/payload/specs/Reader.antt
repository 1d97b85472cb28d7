-- A reader takes a state and gives a value and the next state, or refuses with a number and a place.
use Rattle.std.specs.Prelude.{Bool, false, true, List, [], ◌∷◌, ◌+◌, ℕ, leb, ltb, drop, length, take}

-- what is left to read, and how many bytes, rows and spans went before
pub record State : Type 0 where
  pub rest : List ℕ
  pub place : ℕ
  pub rows : ℕ
  pub spans : ℕ

abbrev pub start : List ℕ → State
start bytes = record { rest = bytes; place = 0; rows = 0; spans = 0 }

-- a state with another value of one field: every other state is made by these, and names no field that it keeps
abbrev pub set_rest : List ℕ → State → State
set_rest x s = record { rest = x; place = s.place; rows = s.rows; spans = s.spans }

abbrev pub set_place : ℕ → State → State
set_place n s = record { rest = s.rest; place = n; rows = s.rows; spans = s.spans }

abbrev pub set_rows : ℕ → State → State
set_rows n s = record { rest = s.rest; place = s.place; rows = n; spans = s.spans }

abbrev pub set_spans : ℕ → State → State
set_spans n s = record { rest = s.rest; place = s.place; rows = s.rows; spans = n }

-- the state n bytes, a row, n spans further on
abbrev pub advanced : ℕ → State → State
advanced n s = set_place (s.place + n) (set_rest (drop n s.rest) s)

abbrev pub with_row : State → State
with_row s = set_rows (s.rows + 1) s

abbrev pub with_spans : ℕ → State → State
with_spans n s = set_spans (s.spans + n) s

pub data Result (A : Type 0) : Type 0 where
  ok : A → State → Result A
  refused : ℕ → ℕ → Result A

abbrev pub Reader : Type 0 → Type 0
Reader A = State → Result A

unfoldable pub and_then : {A B : Type 0} → Result A → (A → Reader B) → Result B
and_then (ok a s) f = f a s
and_then (refused n p) f = refused n p

infixr 30 ◌>>=◌
infixr 30 ◌>>◌
unfoldable pub ◌>>=◌ : {A B : Type 0} → Reader A → (A → Reader B) → Reader B
◌>>=◌ r f = λ s. and_then (r s) f

unfoldable pub ◌>>◌ : {A B : Type 0} → Reader A → Reader B → Reader B
◌>>◌ r f = λ s. and_then (r s) (λ a. f)

unfoldable pub pure : {A : Type 0} → A → Reader A
pure a = λ s. ok a s

-- the place of the next unread byte
unfoldable pub here : Reader ℕ
here = λ s. ok s.place s

-- goes on if the test holds, else refuses with this number at this place
unfoldable pub must : Bool → ℕ → ℕ → Reader (Unit {0})
must true n p = λ s. ok tt s
must false n p = λ s. refused n p

-- An item that is a single byte; refusal 1.
unfoldable pub first_byte : List ℕ → Reader ℕ
first_byte [] = λ s. refused 1 s.place
first_byte (b ∷ bs) = λ s. ok b (advanced 1 s)

unfoldable pub byte : Reader ℕ
byte = λ s. first_byte s.rest s

-- a part: where it stands, and its bytes
pub record Part : Type 0 where
  pub offset : ℕ
  pub bytes : List ℕ

-- An item that is a body of n bytes; refusal 1.
unfoldable pub body : ℕ → Reader Part
body n = λ s. and_then (must (leb n (length s.rest)) 1 s.place s) (λ u z. ok (record { offset = z.place; bytes = take n z.rest }) (advanced n z))

-- one more row, if it fits; refusal 22
unfoldable pub new_row : ℕ → Reader (Unit {0})
new_row most = λ s. and_then (must (ltb s.rows most) 22 s.place s) (λ u z. ok tt (with_row z))

-- n more spans, if they fit; refusal 23
unfoldable pub new_spans : ℕ → ℕ → Reader (Unit {0})
new_spans most n = λ s. and_then (must (leb (s.spans + n) most) 23 s.place s) (λ u z. ok tt (with_spans n z))
