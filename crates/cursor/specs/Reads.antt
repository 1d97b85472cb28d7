-- What a function that reads at a place of the payload has to do with a reader of the definition.
use Rattle.std.specs.Prelude.{List, ◌≡◌, ℕ, ◌≤◌, drop, length, take}
use Rattle.payload.specs.Moved.{start_at}
use Rattle.payload.specs.Reader.{Part, State, Result, Reader, ok, refused, set_rows, set_spans}

-- n bytes of p from o on
abbrev pub part_of : List ℕ → ℕ → ℕ → Part
part_of p o n = record { offset = o; bytes = take n (drop o p) }

-- the reader's state at a place of p, after so many rows and spans
abbrev pub state_at : List ℕ → ℕ → ℕ → ℕ → State
state_at p at rows spans = set_spans spans (set_rows rows (start_at at p))

-- what was read and the place after it, or a refusal's number and place
pub data Answer (A : Type 0) : Type 0 where
  read : A → ℕ → Answer A
  stopped : ℕ → ℕ → Answer A

abbrev pub result_of : {A : Type 0} → List ℕ → ℕ → ℕ → Answer A → Result A
result_of p rows spans (read a next) = ok a (state_at p next rows spans)
result_of p rows spans (stopped n q) = refused n q

-- the place after it lies in the payload
abbrev pub Inside : {A : Type 0} → List ℕ → Answer A → Type 0
Inside p (read a next) = next ≤ length p
Inside p (stopped n q) = Unit {0}

-- the answer is what the reader gives at a place of p, whatever rows and spans went before, and it adds none
pub record Reads {A : Type 0} (p : List ℕ) (at : ℕ) (reader : Reader A) (answer : Answer A) : Type 0 where
  pub is : (rows spans : ℕ) → reader (state_at p at rows spans) ≡ result_of p rows spans answer
  pub inside : Inside p answer
