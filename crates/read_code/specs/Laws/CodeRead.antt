-- What was read, from the variant that a match found.
use Rattle.std.specs.Prelude.{List, ◌≡◌, ℕ, Result, Ok, Err}
use Rattle.refusal.specs.Number.{number}
use Rattle.refusal.specs.declared.Refusal.{Refusal}
use Rattle.payload.specs.Reader.{refused}
use Rattle.payload.specs.Spans.{read_code}
use Rattle.payload.specs.declared.Extent.{Extent}
use Rattle.cursor.specs.Reads.{state_at}
use Rattle.cursor.specs.declared.Cursor.{Cursor}
use Rattle.read_code.specs.CodeRead.{Accepted, CodeRead}

module _ {c c' : Cursor} {table table' : List ℕ} {used most : ℕ} {r : Result Extent Refusal} where
  pub was_code : {x : Extent} → r ≡ Ok x → CodeRead c c' table table' used most r → Accepted c.payload.now table table' used most c.at x c'.at
  was_code w g = (rw w at g).outcome

  pub no_code_lem : {e : Refusal} → r ≡ Err e → CodeRead c c' table table' used most r
      → (rows : ℕ) → read_code most (state_at c.payload.now c.at rows used) ≡ refused (number e.reason) e.place
  no_code_lem w g = (rw w at g).outcome
