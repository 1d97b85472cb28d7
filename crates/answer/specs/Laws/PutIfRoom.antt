-- The two cases of `put_if_room`.
use Rattle.std.specs.Prelude.{◌≡◌, List, ℕ, ◌+◌, ◌≤◌, ◌<◌, length}
use Rattle.std.proofs.Common.{le-leb}
use Rattle.std.proofs.lemmas.Bool.{lt-leb}
use Rattle.slices.specs.Put.{put}
use Rattle.answer.specs.PutIfRoom.{put_if_room}

module _ (xs : List ℕ) (i : ℕ) (ys : List ℕ) where
  pub put_room : i + length ys ≤ length xs → put_if_room xs i ys ≡ put xs i ys
  put_room h = simp (le-leb (i + length ys) (length xs) h)

  pub put_no_room : length xs < i + length ys → put_if_room xs i ys ≡ xs
  put_no_room h = simp (lt-leb (i + length ys) (length xs) h)
