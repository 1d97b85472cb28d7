-- What the functions that read runs have to do with the definition's readers.
use Rattle.std.specs.Prelude.{List, ◌≡◌, ℕ, ◌+◌, ◌*◌, ◌≤◌, ◌<◌, eqb, pos, length, get_or, Result, Ok, Err}
use Rattle.slices.specs.Put.{put}
use Rattle.signed.specs.Signed.{word_of}
use Rattle.refusal.specs.Number.{number}
use Rattle.refusal.specs.declared.Refusal.{Refusal}
use Rattle.payload.specs.Numbers.{varint}
use Rattle.payload.specs.Reader.{Reader, Part, ◌>>=◌, ◌>>◌, here, must, pure}
use Rattle.payload.specs.Spans.{Code, expand, total, read_position, read_runs}
use Rattle.payload.specs.Spans as defined
use Rattle.payload.specs.Tables.{span_words}
use Rattle.cursor.specs.Reads.{read, stopped, Reads}
use Rattle.cursor.specs.Advances.{Advances, answer_by}
use Rattle.cursor.specs.declared.Cursor.{Cursor}
use Rattle.read_code.specs.declared.Run.{Run}
use Rattle.read_code.specs.declared.Span.{Span}

-- a span and a run, as the definition has them
abbrev pub span_of : Span → defined.Span
span_of s = record { start = s.start; end = s.end }

abbrev pub run_of : Run → defined.Run
run_of r = record { span = record { start = word_of r.start; end = word_of r.end }; count = r.count }

---- one run

-- a run whose start, end and count have one byte each
pub record ShortRun (p : List ℕ) (at : ℕ) : Type 0 where
  pub inside : at + 3 ≤ length p
  pub start : get_or p at 0 < 128
  pub end : get_or p (at + 1) 0 < 128
  pub count : get_or p (at + 2) 0 < 128

-- the run after one, whose positions it moves by its deltas
unfoldable pub run_after : Run → Reader Run
run_after r = read_position r.start >>= λ s. read_position r.end >>= λ e. varint >>= λ k. pure (record { start = s; end = e; count = k })

---- the runs of a code

-- what the definition does once the runs of a code of n bytes are read
abbrev pub counted : ℕ → Part → List defined.Run → Reader Code
counted n b rs = here >>= λ p. must (eqb (total rs) n) 7 p >> pure (record { part = b; spans = expand rs })

-- runs that have a span for each byte of code, in the table from span number `used` on
pub record Stored (p table table' : List ℕ) (used size count at next : ℕ) : Type 0 where
  pub runs : List defined.Run
  pub reads : Reads p at (read_runs count (pos 0) (pos 0)) (read runs next)
  pub each : total runs ≡ size
  pub stored : table' ≡ put table (2 * used) (span_words (expand runs))

abbrev pub RunsOutcome : List ℕ → List ℕ → List ℕ → ℕ → ℕ → ℕ → ℕ → ℕ → Result (Unit {0}) Refusal → Type 0
RunsOutcome p table table' used size count at next (Ok u) = Stored p table table' used size count at next
RunsOutcome p table table' used size count at next (Err e) =
    (b : Part) → Reads p at (read_runs count (pos 0) (pos 0) >>= counted size b) (stopped (number e.reason) e.place)

pub record RunsRead (c c' : Cursor) (table table' : List ℕ) (used size count : ℕ) (r : Result (Unit {0}) Refusal) : Type 0 where
  pub payload : c'.payload ≡ c.payload
  pub outcome : RunsOutcome c.payload.now table table' used size count c.at c'.at r

-- runs after one, read with nothing asked of their counts
pub record RunsPassed (c c' : Cursor) (count : ℕ) (before : Run) (r : Result (Unit {0}) Refusal) : Type 0 where
  pub runs : List defined.Run
  pub reads : Advances c c' (read_runs count before.start before.end) (answer_by (λ u. runs) r c'.at)
