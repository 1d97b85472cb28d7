-- A run of elements stored in lent words whole, or not at all.
use Rattle.std.specs.Prelude.{cond, List, ℕ, ◌+◌, leb, length}
use Rattle.slices.specs.Put.{put}

-- xs with the elements of ys stored from index i on where all of them fit, else xs as it is
abbrev pub put_if_room : List ℕ → ℕ → List ℕ → List ℕ
put_if_room xs i ys = cond (leb (i + length ys) (length xs)) (put xs i ys) xs
