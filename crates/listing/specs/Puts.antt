-- What a function leaves that puts a text into a lent buffer.
use Rattle.std.specs.Prelude.{◌≡◌, List, ℕ, ◌+◌, length}
use Rattle.slices.specs.Put.{put}
use Rattle.listing.specs.declared.Text.{Text}

-- The text stands in the buffer from index `at` on, the other bytes are as they were, and r is the index after it.
pub record Puts (out : List ℕ) (at : ℕ) (text : List ℕ) (r : ℕ) (out' : List ℕ) : Type 0 where
  pub end_is : r ≡ at + length text
  pub out_is : out' ≡ put out at text

-- A piece is put at the end of a text, in the same buffer.
pub record Adds (before : Text) (piece : List ℕ) (after : Text) : Type 0 where
  pub puts : Puts before.out.now before.end piece after.end after.out.now
  pub long : length after.out.now ≡ length before.out.now
  pub same_reference : after.out.ghost_name ≡ before.out.ghost_name
