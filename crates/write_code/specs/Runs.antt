-- Spans in a table of words, and what the code asks of them.
use Rattle.std.specs.Prelude.{ℕ, suc, ◌^◌, ◌<◌, Bool, List, [], ◌∷◌, slice_index}
use Rattle.payload.specs.Choice.{when◌then◌else◌}
use Rattle.payload.specs.Spans.{Span, same_span}

-- every word is a position of a sound program
abbrev pub Positions : List ℕ → Type 0
Positions ws = (k : ℕ) → slice_index ws k < 2 ^ 63

abbrev pub span : ℕ → ℕ → Span
span a b = record { start = a; end = b }

-- how many are true before the first that is false
unfoldable pub leading_trues : List Bool → ℕ
leading_trues [] = 0
leading_trues (t ∷ l) = when t then suc (leading_trues l) else 0

-- how many of these are s before the first that is not
unfoldable pub repeated : Span → List Span → ℕ
repeated s [] = 0
repeated s (t ∷ l) = when same_span s t then suc (repeated s l) else 0
