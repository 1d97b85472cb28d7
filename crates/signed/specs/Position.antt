-- A running position: the sum of two 64-bit signed numbers, where it is one.
use Rattle.std.specs.Prelude.{Bool, cond, ℕ, ◌^◌, ℤ, pos, ◌+ℤ◌, ltb, Option, None, Some}
use Rattle.std.specs.Int.Signed.{mag}

-- in 64 signed bits: `mag z` is n both for n and for -(n + 1)
abbrev pub in_range : ℤ → Bool
in_range z = ltb (mag z) (2 ^ 63)

-- where a delta leads
abbrev pub position_of : ℤ → ℤ → Option ℤ
position_of position delta = cond (in_range (position +ℤ delta)) (Some (position +ℤ delta)) None

-- document 01's numbers for an answer: the refusal (0 is none; its place is the delta's, which the caller has), and the position
abbrev pub number_of : Option ℤ → ℕ
number_of (Some position) = 0
number_of None = 8

abbrev pub value_of : Option ℤ → ℤ
value_of (Some position) = position
value_of None = pos 0
