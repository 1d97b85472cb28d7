-- UTF-8 twice: `Utf8` is the grammar of RFC 3629, section 4, rule by rule, and `is_utf8` a test that computes in one pass; `Laws/Grammar.antt` has that they agree.
use Rattle.std.specs.Prelude.{Bool, true, false, cond, ◌&&◌, ◌||◌, Option, None, Some, List, [], ◌∷◌, ◌++◌, ℕ, zero, suc, ◌+◌, ◌≤◌, leb, eqb, length, get_or, take, drop}

-- b is one of lo to hi, as %xLO-HI of the grammar
pub record In (lo hi b : ℕ) : Type 0 where
  pub low : lo ≤ b
  pub high : b ≤ hi

-- UTF8-tail = %x80-BF
abbrev pub Tail : ℕ → Type 0
Tail b = In 0x80 0xBF b

-- UTF8-char = UTF8-1 / UTF8-2 / UTF8-3 / UTF8-4: the bytes of one character
pub data Char : List ℕ → Type 0 where
  one : {a : ℕ} → In 0x00 0x7F a → Char (a ∷ [])
  two : {a b : ℕ} → In 0xC2 0xDF a → Tail b → Char (a ∷ b ∷ [])
  three_E0 : {b c : ℕ} → In 0xA0 0xBF b → Tail c → Char (0xE0 ∷ b ∷ c ∷ [])
  three_E1 : {a b c : ℕ} → In 0xE1 0xEC a → Tail b → Tail c → Char (a ∷ b ∷ c ∷ [])
  three_ED : {b c : ℕ} → In 0x80 0x9F b → Tail c → Char (0xED ∷ b ∷ c ∷ [])
  three_EE : {a b c : ℕ} → In 0xEE 0xEF a → Tail b → Tail c → Char (a ∷ b ∷ c ∷ [])
  four_F0 : {b c d : ℕ} → In 0x90 0xBF b → Tail c → Tail d → Char (0xF0 ∷ b ∷ c ∷ d ∷ [])
  four_F1 : {a b c d : ℕ} → In 0xF1 0xF3 a → Tail b → Tail c → Tail d → Char (a ∷ b ∷ c ∷ d ∷ [])
  four_F4 : {b c d : ℕ} → In 0x80 0x8F b → Tail c → Tail d → Char (0xF4 ∷ b ∷ c ∷ d ∷ [])

-- UTF8-octets = *( UTF8-char )
pub data Utf8 : List ℕ → Type 0 where
  none : Utf8 []
  more : {c r : List ℕ} → Char c → Utf8 r → Utf8 (c ++ r)

-- the rules as tests
abbrev pub within : ℕ → ℕ → ℕ → Bool
within lo hi b = leb lo b && leb b hi

abbrev pub is_tail : ℕ → Bool
is_tail b = within 0x80 0xBF b

unfoldable pub is_one : ℕ → Bool
is_one a = leb a 0x7F

unfoldable pub is_two : ℕ → ℕ → Bool
is_two a b = within 0xC2 0xDF a && is_tail b

unfoldable pub is_three : ℕ → ℕ → ℕ → Bool
is_three a b c =
    (eqb a 0xE0 && within 0xA0 0xBF b && is_tail c)
    || (within 0xE1 0xEC a && is_tail b && is_tail c)
    || (eqb a 0xED && within 0x80 0x9F b && is_tail c)
    || (within 0xEE 0xEF a && is_tail b && is_tail c)

unfoldable pub is_four : ℕ → ℕ → ℕ → ℕ → Bool
is_four a b c d =
    (eqb a 0xF0 && within 0x90 0xBF b && is_tail c && is_tail d)
    || (within 0xF1 0xF3 a && is_tail b && is_tail c && is_tail d)
    || (eqb a 0xF4 && within 0x80 0x8F b && is_tail c && is_tail d)

-- how many bytes the character has that begins with these four; 0 where none does
unfoldable pub char_of : ℕ → ℕ → ℕ → ℕ → ℕ
char_of a b c d = cond (is_one a) 1 (cond (is_two a b) 2 (cond (is_three a b c) 3 (cond (is_four a b c d) 4 0)))

-- how many bytes the character at index i of s has; 0 where none stands there. Past the end stands 0, which is no tail
abbrev pub char_at : List ℕ → ℕ → ℕ
char_at s i = char_of (get_or s i 0) (get_or s (i + 1) 0) (get_or s (i + 2) 0) (get_or s (i + 3) 0)

-- a width, where 0 stands for none
unfoldable pub some_width : ℕ → Option ℕ
some_width zero = None
some_width (suc w) = Some (suc w)

abbrev pub width_at : List ℕ → ℕ → Option ℕ
width_at s i = some_width (char_at s i)

-- the list is characters, once k bytes of the present one are passed
unfoldable pub passes : ℕ → List ℕ → Bool
passes k [] = true
passes zero (a ∷ r) = elim (char_at (a ∷ r) 0) [ zero ↦ false | suc w ↦ passes w r ]
passes (suc k) (a ∷ r) = passes k r

-- whether these bytes are UTF-8
abbrev pub is_utf8 : List ℕ → Bool
is_utf8 s = passes 0 s

-- whether the len bytes at index i lie in s and are UTF-8
unfoldable pub part_is_utf8 : List ℕ → ℕ → ℕ → Bool
part_is_utf8 s i len = leb (i + len) (length s) && is_utf8 (take len (drop i s))
