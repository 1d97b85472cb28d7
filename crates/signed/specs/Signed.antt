-- Signed numbers as unsigned ones: by zigzag, and in two's complement. `pos n` is n, and `negsuc n` is -(n + 1).
use Rattle.std.specs.Prelude.{cond, ℕ, suc, ◌+◌, ◌-◌, ◌*◌, ◌/◌, ◌%◌, ◌^◌, ℤ, pos, negsuc, ltb, eqb}

-- zigzag: 0, -1, 1, -2, 2, .. become 0, 1, 2, 3, 4, ..
abbrev pub zigzag_of : ℤ → ℕ
zigzag_of (pos n) = 2 * n
zigzag_of (negsuc n) = 2 * n + 1

-- and back
abbrev pub unzigzag_of : ℕ → ℤ
unzigzag_of u = cond (eqb (u % 2) 0) (pos (u / 2)) (negsuc (u / 2))

-- a number modulo 2 ^ 64
abbrev pub word_of : ℤ → ℕ
word_of (pos n) = n % 2 ^ 64
word_of (negsuc n) = 2 ^ 64 - suc (n % 2 ^ 64)

-- the signed number that the k low bits of u are in two's complement
abbrev pub signed_of : ℕ → ℕ → ℤ
signed_of k u = cond (ltb (u % 2 ^ k) (2 ^ (k - 1))) (pos (u % 2 ^ k)) (negsuc (2 ^ k - suc (u % 2 ^ k)))
