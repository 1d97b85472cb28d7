-- What a method of the decoder did: its answer is the definition's, and the lent tables hold what was read.
use Rattle.std.specs.Prelude.{Result, Ok, Err, List, ◌≡◌, ℕ}
use Rattle.payload.specs.Reader as reader
use Rattle.payload.specs.Reader.{Reader}
use Rattle.payload.specs.Reading.{Context}
use Rattle.refusal.specs.declared.Refusal.{Refusal}
use Rattle.read_values.specs.Did.{Did, Step, View, context_in}
use Rattle.read_values.specs.State.{RowStored, state_of}
use Rattle.read_values.specs.declared.State.{State}
use Rattle.read_values.specs.declared.sources.Source.{Source}
use Rattle.read_values.specs.declared.values.Decoder.{Decoder}

-- what no method changes: the source, and which tables were lent, by the ghost names of their references
pub record Loan : Type 0 where
  pub source : Source
  pub rows : ℕ
  pub spans : ℕ

abbrev pub loan_of : Decoder → Loan
loan_of s = record { source = s.source; rows = s.rows.ghost_name; spans = s.spans.ghost_name }

-- what a reader of the definition gives with the source from the state of s on
abbrev pub reading_at : {A : Type 0} → Decoder → (Context → Reader A) → reader.Result A
reading_at s reader = reader (context_in s.source) (state_of s.source.payload.now s.state)

-- the state after a method, or its refusal
abbrev pub step : Result (Unit {0}) Refusal → State → Step
step (Ok u) s = Ok s
step (Err e) s = Err e

-- s became r and x was answered, as a reader of the definition does
pub record Does {A : Type 0} (view : View A) (s r : Decoder) (x : Result (Unit {0}) Refusal) (reader : Context → Reader A) : Type 0 where
  pub same : loan_of r ≡ loan_of s
  pub did : Did view s.source.capacities s.source.payload.now s.rows.now r.rows.now s.spans.now r.spans.now s.state.rows s.state.spans (step x r.state)
      (reading_at s reader)

-- s became r: the next row holds these words, and what follows it stands at `next`
pub record StoresRow (s r : Decoder) (row : List ℕ) (next : ℕ) : Type 0 where
  pub same : loan_of r ≡ loan_of s
  pub same_spans : r.spans.now ≡ s.spans.now
  pub stored : RowStored s.rows.now r.rows.now row s.state next r.state
