-- What a call that moves a cursor on has to do with a reader of the definition.
use Rattle.std.specs.Prelude.{List, ◌≡◌, ℕ, ◌+◌, ◌≤◌, drop, length, take, Result, Ok, Err}
use Rattle.std.specs.Borrow.{Bor}
use Rattle.refusal.specs.Number.{number}
use Rattle.refusal.specs.declared.Refusal.{Refusal}
use Rattle.payload.specs.Reader.{Part, Reader}
use Rattle.cursor.specs.Reads.{Answer, read, stopped, Reads}
use Rattle.cursor.specs.declared.Cursor.{Cursor}

-- the answer of a result, where the cursor is at `next` afterwards, and what was read is seen by a function
abbrev pub answer_by : {A B : Type 0} → (A → B) → Result A Refusal → ℕ → Answer B
answer_by f (Ok a) next = read (f a) next
answer_by f (Err e) next = stopped (number e.reason) e.place

abbrev pub answer_of : {A : Type 0} → Result A Refusal → ℕ → Answer A
answer_of r next = answer_by (λ a. a) r next

-- a cursor at c reads what the reader gives there, and is at c' then, over the same payload
pub record Advances {A : Type 0} (c c' : Cursor) (reader : Reader A) (answer : Answer A) : Type 0 where
  pub payload : c'.payload ≡ c.payload
  pub reads : Reads c.payload.now c.at reader answer

-- bytes that stand at a place, as a part
abbrev pub part_at : ℕ → Bor (List ℕ) → Part
part_at at b = record { offset = at; bytes = b.now }

-- n bytes that a cursor at c took
pub record Taken (c : Cursor) (n : ℕ) (bytes : List ℕ) (next : ℕ) : Type 0 where
  pub are : bytes ≡ take n (drop c.at c.payload.now)
  pub inside : c.at + n ≤ length c.payload.now
  pub after : next ≡ c.at + n
