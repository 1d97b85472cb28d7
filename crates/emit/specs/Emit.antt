-- Bytes emitted from a place on: stored into an output, only measured (past the output, or with an empty one), or compared with a payload.
use Rattle.std.specs.Prelude.{Bool, true, false, cond, ◌&&◌, List, [], ◌∷◌, ◌≡◌, ℕ, ◌+◌, ◌≤◌, leb, eqb, length, drop}
use Rattle.payload.specs.Tables.{size_limit}
use Rattle.slices.specs.Put.{put}

-- an output, and the place of the next byte
pub record Output : Type 0 where
  pub out : List ℕ
  pub at : ℕ

abbrev pub output : List ℕ → ℕ → Output
output o a = record { out = o; at = a }

-- the size limit of a payload
abbrev pub limit : ℕ
limit = size_limit

-- the place after bytes that passed the limit, or differed from the payload; it stays there
abbrev pub stopped : ℕ
stopped = limit + 1

-- so many bytes further on
unfoldable pub further : ℕ → ℕ → ℕ
further at n = cond (leb (at + n) limit) (at + n) stopped

-- whether the first list begins the second
unfoldable pub begins : List ℕ → List ℕ → Bool
begins [] l = true
begins (x ∷ b) [] = false
begins (x ∷ b) (y ∷ l) = eqb x y && begins b l

unfoldable pub goes_on : Bool → List ℕ → ℕ → List ℕ → Bool
goes_on comparing p at b = leb (at + length b) limit && cond comparing (begins b (drop at p)) true

unfoldable pub place_after : Bool → List ℕ → ℕ → List ℕ → ℕ
place_after comparing p at b = cond (goes_on comparing p at b) (at + length b) stopped

-- the bytes b: what lies past the output's end is not stored
unfoldable pub emit : Bool → List ℕ → Output → List ℕ → Output
emit comparing p s b = output (put s.out s.at b) (place_after comparing p s.at b)

-- how long an output may be: a comparison stores nothing
unfoldable pub output_limit : Bool → ℕ
output_limit comparing = cond comparing 0 limit

-- the bytes b led from the output o and the place at to o' and at'
pub record Emitted (comparing : Bool) (p o o' : List ℕ) (at at' : ℕ) (b : List ℕ) : Type 0 where
  pub is : output o' at' ≡ emit comparing p (output o at) b
  pub reach : at' ≤ stopped
