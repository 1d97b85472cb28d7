-- What a read or a check leaves a host.
use Rattle.std.specs.Prelude.{List, ◌≡◌, ℕ}
use Rattle.answer.specs.PutIfRoom.{put_if_room}
use Rattle.payload.specs.Answers.{read_fields, read_number}
use Rattle.payload.specs.Reader.{Result}
use Rattle.payload.specs.Reading.{Payload}
use Rattle.payload.specs.Tables.{Leaves, fields_of, read_answer}
use Rattle.payload.specs.Answers.{Read}

-- What putting an answer into lent words leaves: its number, and its fields in front.
pub record PutRead (read : Read) (answer answer' : List ℕ) (r : ℕ) : Type 0 where
  pub number : r ≡ read_number read
  pub fields : answer' ≡ put_if_room answer 0 (read_fields read)

-- What a read or a check with the answer of x leaves a host: its number, every word of the four tables, and document 01's fields in the answer.
pub record HostRead (x : Result Payload) (rows spans starts pool answer rows' spans' starts' pool' answer' : List ℕ) (r : ℕ) : Type 0 where
  pub number : r ≡ read_number (read_answer x)
  pub tables : Leaves x rows spans starts pool rows' spans' starts' pool' (read_answer x)
  pub fields : answer' ≡ put_if_room answer 0 (fields_of x)
