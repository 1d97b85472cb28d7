-- Starts that rise between two indices.
use Rattle.std.specs.Prelude.{List, ℕ, ◌+◌, ◌≤◌, ◌<◌, get_or}

-- each start from index i up to, not including, j is below the next
abbrev pub Rises : List ℕ → ℕ → ℕ → Type 0
Rises starts i j = (k : ℕ) → i ≤ k → k < j → get_or starts k 0 < get_or starts (k + 1) 0
