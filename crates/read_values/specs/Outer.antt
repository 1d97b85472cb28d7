-- What reading the outer chunk leaves in the lent tables: its words from their begin on, or zeros at a refusal.
use Rattle.std.specs.Prelude.{List, ◌≡◌, ℕ, length, Ok, Err}
use Rattle.slices.specs.Zeros.{zeros}
use Rattle.payload.specs.Reading.{read_chunk}
use Rattle.read_values.specs.declared.sources.Source.{Source}
use Rattle.read_values.specs.Did.{Did, Step, context_in, one_tree}
use Rattle.read_values.specs.State.{start_at, state_of}

abbrev pub Cleared : List ℕ → List ℕ → List ℕ → List ℕ → Step → Type 0
Cleared rows rows' spans spans' (Ok s) = Unit {0}
Cleared rows rows' spans spans' (Err e) = (rows' ≡ zeros (length rows)) × (spans' ≡ zeros (length spans))

-- r is the outer chunk at a place of the payload; its words are put into the tables where it is read, and a refusal leaves zeros alone
pub record OuterRead (e : Source) (rows rows' spans spans' : List ℕ) (at : ℕ) (r : Step) : Type 0 where
  pub did : Did one_tree e.capacities e.payload.now rows rows' spans spans' 0 0 r (read_chunk (context_in e) (state_of e.payload.now (start_at at)))
  pub cleared : Cleared rows rows' spans spans' r
