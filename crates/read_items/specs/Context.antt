-- What a row is read with, as the code has it: the payload, the names list, and a pool table of offsets and lengths.
use Rattle.std.specs.Prelude.{List, [], ◌∷◌, ℕ, ◌+◌, ◌*◌, ◌%◌, ◌≤◌, ◌<◌, get_or, length, Result, IfOk}
use Rattle.payload.specs.Names.{is_listed}
use Rattle.payload.specs.Reader.{Part}
use Rattle.payload.specs.Reading.{Context, read_pool_index}
use Rattle.payload.specs.declared.Capacities.{Capacities}
use Rattle.refusal.specs.declared.Refusal.{Refusal}
use Rattle.payload.specs.declared.Extent.{Extent}
use Rattle.cursor.specs.Reads.{part_of}
use Rattle.cursor.specs.Advances.{Advances, answer_by}
use Rattle.cursor.specs.declared.Cursor.{Cursor}

-- the strings of a pool table: two words, offset and length, for each
unfoldable pub parts_of : List ℕ → List ℕ → List Part
parts_of p [] = []
parts_of p (o ∷ []) = []
parts_of p (o ∷ n ∷ ws) = part_of p o n ∷ parts_of p ws

-- the strings that these words name lie in p
abbrev pub PartsFit : List ℕ → List ℕ → Type 0
PartsFit p words = (i : ℕ) → 2 * i + 1 < length words → get_or words (2 * i) 0 + get_or words (2 * i + 1) 0 ≤ length p

-- a word of a pool table is an offset or a length below this base; what stands above it is a hint
abbrev pub hint_base : ℕ
hint_base = 33554432

-- the words of a pool table without hints
unfoldable pub plain_words : List ℕ → List ℕ
plain_words [] = []
plain_words (w ∷ ws) = w % hint_base ∷ plain_words ws

-- the strings of a pool table lie in p
abbrev pub PoolFits : List ℕ → List ℕ → Type 0
PoolFits p pool = PartsFit p (plain_words pool)

unfoldable pub context_of : Capacities → List ℕ → List ℕ → List ℕ → Context
context_of c p names pool = record { capacities = c; pool = parts_of p (plain_words pool); listed = is_listed names }

-- the string of entry i
abbrev pub entry_of : List ℕ → List ℕ → ℕ → Part
entry_of p pool i = part_of p (get_or pool (2 * i) 0 % hint_base) (get_or pool (2 * i + 1) 0 % hint_base)

-- r is the pool index that a cursor at c reads: an entry of the table
pub record ReadsIndex (c c' : Cursor) (pool : List ℕ) (r : Result ℕ Refusal) : Type 0 where
  pub is : (names : List ℕ) (cs : Capacities) → Advances c c' (read_pool_index (context_of cs c.payload.now names pool)) (answer_by (entry_of c.payload.now pool) r c'.at)
  pub inside : IfOk r (λ i. 2 * i + 1 < length pool)

-- the part that stands in p
abbrev pub part_in : List ℕ → Extent → Part
part_in p x = part_of p x.offset x.length

-- r is the string that the pool index that a cursor at c reads names
pub record ReadsPart (c c' : Cursor) (pool : List ℕ) (r : Result Extent Refusal) : Type 0 where
  pub is : (names : List ℕ) (cs : Capacities) → Advances c c' (read_pool_index (context_of cs c.payload.now names pool)) (answer_by (part_in c.payload.now) r c'.at)
  pub inside : IfOk r (λ x. x.offset + x.length ≤ length c.payload.now)
