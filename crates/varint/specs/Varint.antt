-- Reading a number in ULEB128 with RLC2's limits: at most ten bytes, padding accepted, and the number kept modulo 2 ^ 64.
use Rattle.std.specs.Prelude.{cond, List, [], ◌∷◌, ℕ, zero, suc, ◌+◌, ◌*◌, ◌%◌, ◌^◌, ltb, drop, Result, Ok, Err}
use Rattle.refusal.specs.Number.{number}
use Rattle.refusal.specs.declared.Refusal.{Refusal}

-- what reading a varint finds: the number and the place after it, or the refusal's number and its place
pub data Varint : Type 0 where
  Number : ℕ → ℕ → Varint
  Refused : ℕ → ℕ → Varint

-- what a result of the code says
abbrev pub varint_answer : Result (ℕ × ℕ) Refusal → Varint
varint_answer (Ok r) = Number r.0 r.1
varint_answer (Err e) = Refused (number e.reason) e.place

-- a group of seven bits below a number that was read
abbrev pub under : ℕ → Varint → Varint
under group (Number n next) = Number (group + 128 * n) next
under group (Refused number place) = Refused number place

-- The number that begins with these bytes, of which at most `most` may be taken, the first of them at place `next`: refusal 2 where the last that
-- may be taken has bit 7 set, 1 where the bytes end first. The place of either is `first`, that of the varint's first byte.
unfoldable pub scan : ℕ → ℕ → List ℕ → ℕ → Varint
scan first zero bytes next = Refused 2 first
scan first (suc most) [] next = Refused 1 first
scan first (suc most) (b ∷ bytes) next = cond (ltb b 128) (Number b (next + 1)) (under (b % 128) (scan first most bytes (next + 1)))

-- the number modulo 2 ^ 64
abbrev pub cut : Varint → Varint
cut (Number n next) = Number (n % 2 ^ 64) next
cut (Refused number place) = Refused number place

-- what reading the varint at place `at` of s gives: its number and the place after it, or the refusal and its place
unfoldable pub varint_of : List ℕ → ℕ → Varint
unfolding scan
varint_of s at = cut (scan at 10 (drop at s) at)

-- document 01's numbers for an answer: the refusal (0 is none), its place, the number read, the place after it
abbrev pub number_of : Varint → ℕ
number_of (Number n next) = 0
number_of (Refused number place) = number

abbrev pub place_of : Varint → ℕ
place_of (Number n next) = 0
place_of (Refused number place) = place

abbrev pub value_of : Varint → ℕ
value_of (Number n next) = n
value_of (Refused number place) = 0

abbrev pub next_of : Varint → ℕ
next_of (Number n next) = next
next_of (Refused number place) = 0
