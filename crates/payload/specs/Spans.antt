-- Spans, one for each byte of code: written as maximal runs of equal spans with signed deltas, and read.
use Rattle.std.specs.Prelude.{Bool, true, List, [], ◌++◌, ◌∷◌, ◌+◌, ◌^◌, suc, zero, ℕ, eqb, ltb, ◌+ℤ◌, ◌-ℤ◌, pos, ℤ, length, replicate}
use Rattle.signed.specs.Position.{in_range}
use Rattle.signed.specs.Signed.{unzigzag_of, word_of, zigzag_of}
use Rattle.varint.specs.Uleb128.{uleb128}
use Rattle.payload.specs.Choice.{◌and◌, when◌then◌else◌}
use Rattle.payload.specs.Numbers.{varint}
use Rattle.payload.specs.Reader.{Part, Reader, ◌>>=◌, ◌>>◌, body, here, must, new_spans, pure}

pub record Span : Type 0 where
  pub start : ℕ
  pub end : ℕ

pub record Run : Type 0 where
  pub span : Span
  pub count : ℕ

unfoldable pub same_span : Span → Span → Bool
same_span a b = eqb a.start b.start and eqb a.end b.end

---- maximal runs

-- one more span in front: it joins the first run if it is the same
unfoldable pub join : Span → List Run → List Run
join s [] = record { span = s; count = 1 } ∷ []
join s (r ∷ rs) = when same_span s r.span then record { span = s; count = suc r.count } ∷ rs else record { span = s; count = 1 } ∷ r ∷ rs

unfoldable pub runs_of : List Span → List Run
runs_of [] = []
runs_of (s ∷ ss) = join s (runs_of ss)

-- the spans that runs give: a run of count 0 gives none
unfoldable pub expand : List Run → List Span
expand [] = []
expand (r ∷ rs) = replicate r.count r.span ++ expand rs

unfoldable pub total : List Run → ℕ
total [] = 0
total (r ∷ rs) = r.count + total rs

---- writing: deltas from the run before, the first from 0

unfoldable pub write_delta : ℕ → ℕ → List ℕ
write_delta old new = uleb128 (zigzag_of (pos new -ℤ pos old))

unfoldable pub write_deltas : Span → List Run → List ℕ
write_deltas p [] = []
write_deltas p (r ∷ rs) = write_delta p.start r.span.start ++ write_delta p.end r.span.end ++ uleb128 r.count ++ write_deltas r.span rs

unfoldable pub write_runs : List Span → List ℕ
write_runs ss = uleb128 (length (runs_of ss)) ++ write_deltas (record { start = 0; end = 0 }) (runs_of ss)

unfoldable pub write_code : List ℕ → List Span → List ℕ
write_code bytes ss = uleb128 (length bytes) ++ bytes ++ write_runs ss

---- reading

-- A running position moved by a delta; refusal 8 where it leaves 64 signed bits. Place: the delta.
unfoldable pub read_position : ℤ → Reader ℤ
read_position old = here >>= λ p. varint >>= λ z. must (in_range (old +ℤ unzigzag_of z)) 8 p >> pure (old +ℤ unzigzag_of z)

-- runs from a running start and a running end; a position is kept modulo 2^64
unfoldable pub read_runs : ℕ → ℤ → ℤ → Reader (List Run)
read_runs zero s e = pure []
read_runs (suc n) s e =
    read_position s >>= λ s'. read_position e >>= λ e'. varint >>= λ k. read_runs n s' e' >>= λ rs.
    pure (record { span = record { start = word_of s'; end = word_of e' }; count = k } ∷ rs)

pub record Code : Type 0 where
  pub part : Part
  pub spans : List Span

-- Code and its spans; refusals 23 once the body is taken, 7 once the runs are read.
unfoldable pub read_code : ℕ → Reader Code
read_code most =
    varint >>= λ n. body n >>= λ b. new_spans most n >> varint >>= λ k. read_runs k (pos 0) (pos 0) >>= λ rs.
    here >>= λ p. must (eqb (total rs) n) 7 p >> pure (record { part = b; spans = expand rs })

---- positions of a sound program: at most 2^63 - 1

unfoldable pub small_spans : List Span → Bool
small_spans [] = true
small_spans (s ∷ ss) = ltb s.start (2 ^ 63) and ltb s.end (2 ^ 63) and small_spans ss
