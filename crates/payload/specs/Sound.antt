-- A program in tables, and when it is sound: the script that sound tables hold, or refusal 17 with its place.
use Rattle.std.specs.Prelude.{Bool, false, true, List, [], ◌∷◌, ◌*◌, ◌+◌, ◌^◌, ℕ, eqb, leb, ltb, drop, length, take}
use Rattle.std.proofs.Math.Option.{Option, none, some}
use Rattle.utf8.specs.Utf8.{is_utf8}
use Rattle.payload.specs.Choice.{◌and◌, when◌then◌else◌}
use Rattle.payload.specs.Reader.{Part, Reader, Result, ◌>>=◌, ◌>>◌, pure, start}
use Rattle.payload.specs.Scan.{row_must, scan_outer}
use Rattle.payload.specs.Spans.{Span, small_spans}
use Rattle.payload.specs.Trees.{Item, LineIndex, Node, Script, Trees, code, forget_item, forget_items, forget_trees, native_name, nil, node, node_of, number, record_name, single, span_count, span_item, span_items, string}

-- a store, the used words of the tables, and the line index's flag and name
pub record Tables : Type 0 where
  pub store : List ℕ
  pub rows : List ℕ
  pub spans : List ℕ
  pub starts : List ℕ
  pub flag : ℕ
  pub name_offset : ℕ
  pub name_length : ℕ

-- tables of which every word is used
abbrev pub tables : List ℕ → List ℕ → List ℕ → List ℕ → ℕ → ℕ → ℕ → Tables
tables store rows spans starts flag o n = record { store = store; rows = rows; spans = spans; starts = starts; flag = flag; name_offset = o; name_length = n }

---- one span for each byte of code, in row order

-- a span table's words, two for each span
unfoldable pub spans_of : List ℕ → List Span
spans_of [] = []
spans_of (a ∷ []) = []
spans_of (a ∷ b ∷ ws) = record { start = a; end = b } ∷ spans_of ws

unfoldable pub give_item : List Span → Item Part → Item Part
give_item ss (number k w) = number k w
give_item ss (string b) = string b
give_item ss (native_name b) = native_name b
give_item ss (record_name b) = record_name b
give_item ss (code b none_yet) = code b (take (length b.bytes) ss)

unfoldable pub give_items : List Span → List (Item Part) → List (Item Part)
give_items ss [] = []
give_items ss (i ∷ is) = give_item ss i ∷ give_items (drop (span_item (forget_item i)) ss) is

-- the rows with their spans
unfoldable pub give : List Span → Trees Part → Trees Part
give ss nil = nil
give ss (node t is ks ts) =
    node t (give_items ss is) (give (drop (span_items (forget_items is)) ss) ks) (give (drop (span_items (forget_items is) + span_count (forget_trees ks)) ss) ts)

unfoldable pub give_node : List Span → Node Part → Node Part
give_node ss n = node_of n.tag (give_items ss n.items) (give (drop (span_items (forget_items n.items)) ss) n.kids)

unfoldable pub spans_sound : List ℕ → Node Part → Bool
spans_sound words n = eqb (length words) (2 * span_count (forget_trees (single n))) and small_spans (spans_of words)

---- line flag 1, or 0 with no starts and name 0,0

unfoldable pub is_nil : {A : Type 0} → List A → Bool
is_nil [] = true
is_nil (x ∷ xs) = false

unfoldable pub all_starts : List ℕ → Bool
all_starts [] = true
all_starts (s ∷ ss) = ltb s (2 ^ 32) and all_starts ss

abbrev pub part_at : List ℕ → ℕ → ℕ → Part
part_at store o n = record { offset = o; bytes = take n (drop o store) }

unfoldable pub line_sound : Tables → Bool
line_sound T =
    when eqb T.flag 0
    then eqb T.name_offset 0 and eqb T.name_length 0 and is_nil T.starts
    else eqb T.flag 1 and leb (T.name_offset + T.name_length) (length T.store) and is_utf8 (part_at T.store T.name_offset T.name_length).bytes and all_starts T.starts

unfoldable pub line_of : Tables → Option (LineIndex Part)
line_of T = when eqb T.flag 0 then none else some (record { name = part_at T.store T.name_offset T.name_length; starts = T.starts })

---- the script

-- a row after a finished outer chunk breaks a rule
unfoldable pub no_more_rows : Reader (Unit {0})
no_more_rows = λ s. row_must (is_nil s.rest) s

-- the rows first, then spans and line index, whose place is the row count
unfoldable pub sound_script : Tables → Reader (Script Part)
sound_script T =
    scan_outer T.store >>= λ n. no_more_rows >> row_must (spans_sound T.spans n) >> row_must (line_sound T) >>
    pure (record { outer = give_node (spans_of T.spans) n; line = line_of T })

unfoldable pub script_of : Tables → Result (Script Part)
script_of T = sound_script T (start T.rows)
