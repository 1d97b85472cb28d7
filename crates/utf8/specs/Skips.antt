-- What the fast steps of the code tell: bytes that are ASCII, and bytes that are whole characters.
use Rattle.std.specs.Prelude.{◌≡◌, List, ℕ, ◌≤◌, ◌<◌, length, get_or, take, drop}
use Rattle.std.specs.Int.Bits.{bit_and}
use Rattle.slices.specs.LittleEndian.{from_le_bytes}
use Rattle.utf8.specs.Utf8.{is_utf8}

-- every byte of s from index i up to, not including, j is ASCII
abbrev pub Ascii : List ℕ → ℕ → ℕ → Type 0
Ascii s i j = (k : ℕ) → i ≤ k → k < j → get_or s k 0 < 0x80

-- the high bits of the eight bytes at index i
abbrev pub high_bits : List ℕ → ℕ → ℕ
high_bits s i = bit_and (from_le_bytes (take 8 (drop i s))) 0x8080_8080_8080_8080

-- whole characters stand from index i up to j, so that the test can go on at j
pub record Skips (s : List ℕ) (i j : ℕ) : Type 0 where
  pub up : i ≤ j
  pub inside : j ≤ length s
  pub same : is_utf8 (drop i s) ≡ is_utf8 (drop j s)
