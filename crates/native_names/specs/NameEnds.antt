-- Where a string is a name of the names list: between two 0A, or between the list's begin and a 0A.
use Rattle.std.specs.Prelude.{Bool, true, false, List, ◌≡◌, ℕ, ◌+◌, ◌-◌, ◌≤◌, ◌<◌, drop, get_or, take}

-- r says whether P holds
pub record Decides (P : Type 0) (r : Bool) : Type 0 where
  pub yes : r ≡ true → P
  pub no : r ≡ false → P → ⊥

-- no 0A stands from one index to another
abbrev pub Clear : List ℕ → ℕ → ℕ → Type 0
Clear s from end = (k : ℕ) → from ≤ k → k < end → get_or s k 0 ≡ 0x0A → ⊥

-- x, of n bytes, is a name of the list s that ends at index k
pub record NameEnds (s x : List ℕ) (n k : ℕ) : Type 0 where
  pub long : n ≤ k
  pub ends : get_or s k 0 ≡ 0x0A
  pub begins : n < k → get_or s (k - (n + 1)) 0 ≡ 0x0A
  pub bytes : take n (drop (k - n) s) ≡ x
  pub clear : Clear s (k - n) k

-- the byte that the list has before the end of a name, which is the n bytes of p from o on: its last one, or the 0A before an empty name
pub record LastByte (p : List ℕ) (o n last : ℕ) : Type 0 where
  pub empty : n ≡ 0 → last ≡ 0x0A
  pub some : 0 < n → last ≡ get_or p (o + n - 1) 0

-- three bytes that the list has where a name of n bytes ends at index k, which is not the first name
abbrev pub MayEnd : List ℕ → ℕ → ℕ → ℕ → Type 0
MayEnd s n last k = (get_or s k 0 ≡ 0x0A) × (get_or s (k - (n + 1)) 0 ≡ 0x0A) × (get_or s (k - 1) 0 ≡ last)
