-- A write's answer, and what it leaves in the output and in the pool table.
use Rattle.std.specs.Prelude.{Bool, false, true, List, [], ◌++◌, ◌∷◌, ◌≡◌, ◌*◌, ◌+◌, suc, ℕ, eqb, leb, ltb, drop, get_or, length, take}
use Rattle.slices.specs.Same.{same}
use Rattle.slices.specs.Zeros.{pad_to}
use Rattle.payload.specs.Answers.{written_fields}
use Rattle.payload.specs.Choice.{◌and◌, ◌or◌, when◌then◌else◌}
use Rattle.payload.specs.Pool.{is_in}
use Rattle.payload.specs.Reader.{Part, Result, ok, refused}
use Rattle.payload.specs.declared.Capacities.{Capacities}
use Rattle.payload.specs.Rows.{row_width}
use Rattle.payload.specs.Sound.{Tables, script_of}
use Rattle.payload.specs.Tables.{parts_words, size_limit}
use Rattle.payload.specs.Trees.{Item, Script, Trees, code, forget_script, native_name, nil, node, number, record_name, single, size, string}
use Rattle.payload.specs.Writing.{gathered, pool_of, writing}
use Rattle.payload.specs.declared.Program.{Program}
use Rattle.payload.specs.Answers.{Written}
use Rattle.refusal.specs.Answer as write

-- the program record by its words: rows, spans, starts, line flag, and the name's offset and length; a missing word is 0, as in the empty program
abbrev pub program_of_words : List ℕ → Program
program_of_words words = record {
  rows = get_or words 0 0;
  spans = get_or words 1 0;
  starts = get_or words 2 0;
  flag = get_or words 3 0;
  name_o = get_or words 4 0;
  name_n = get_or words 5 0;
}

-- the program that lent tables hold: their used words
unfoldable pub held_tables : List ℕ → Program → List ℕ → List ℕ → List ℕ → Tables
held_tables store g rows spans starts = record {
  store = store;
  rows = take (row_width * g.rows) rows;
  spans = take (2 * g.spans) spans;
  starts = take g.starts starts;
  flag = g.flag;
  name_offset = g.name_o;
  name_length = g.name_n;
}

-- each count within its table and its limit
unfoldable pub counts_fit : Capacities → Program → Bool
counts_fit c g = leb g.rows c.rows and leb g.spans c.spans and leb g.starts c.starts

---- record names

unfoldable pub item_named : List (List ℕ) → Item (List ℕ) → Bool
item_named l (number k w) = true
item_named l (string b) = true
item_named l (native_name b) = true
item_named l (record_name b) = is_in b l
item_named l (code b ss) = true

unfoldable pub items_named : List (List ℕ) → List (Item (List ℕ)) → Bool
items_named l [] = true
items_named l (i ∷ is) = item_named l i and items_named l is

-- how many rows stand before the first whose record name is not in the pool: all of them where there is none
unfoldable pub named_rows : List (List ℕ) → Trees (List ℕ) → ℕ
named_rows l nil = 0
named_rows l (node t is ks ts) =
    let under = named_rows l ks in
    let next = named_rows l ts in
    when items_named l is then (when eqb under (size ks) then suc (size ks) + next else suc under) else 0

---- the answer

-- the parts of the distinct gathered strings, each at its first place
unfoldable pub has_bytes : List ℕ → List Part → Bool
has_bytes b [] = false
has_bytes b (l ∷ ls) = same b l.bytes or has_bytes b ls

unfoldable pub interned_parts : List Part → List Part → List Part
interned_parts l [] = l
interned_parts l (x ∷ xs) = interned_parts (when has_bytes x.bytes l then l else l ++ (x ∷ [])) xs

-- what is written, or the refusal: 16 (store), 17, 21, 18, 16 (the writing), 25, in this order
pub data Writing : Type 0 where
  written : List ℕ → List Part → Writing
  not_written : ℕ → ℕ → Writing

unfoldable pub write_script : ℕ → ℕ → Script Part → Writing
write_script strings room u =
    let bytes = forget_script u in
    let pool = interned_parts [] (gathered u) in
    let named = named_rows (pool_of bytes) (single bytes.outer) in
    let out = writing bytes in
    when ltb strings (length pool) then not_written 21 0
    else when ltb named (size (single bytes.outer)) then not_written 18 named
    else when ltb size_limit (length out) then not_written 16 0
    else when ltb room (length out) then not_written 25 (length out)
    else written out pool

unfoldable pub after_sound : ℕ → ℕ → Result (Script Part) → Writing
after_sound strings room (ok u s) = write_script strings room u
after_sound strings room (refused n p) = not_written n p

unfoldable pub write_tables : Capacities → ℕ → Program → Tables → Writing
write_tables c room g T =
    when ltb size_limit (length T.store) then not_written 16 0
    else when counts_fit c g then after_sound c.strings room (script_of T)
    else not_written 17 g.rows

unfoldable pub write_answer : Writing → Written
write_answer (written out pool) = write.accepted (length out)
write_answer (not_written n p) = write.refused n p

-- document 01's number and values: 0 and the writing's length, or number and place
unfoldable pub writing_fields : Writing → List ℕ
writing_fields (written out pool) = 0 ∷ length out ∷ []
writing_fields (not_written n p) = n ∷ p ∷ []

-- an accepted write leaves the bytes past its length; a refused one all
unfoldable pub written_over : Writing → List ℕ → List ℕ
written_over (written bytes pool) out = bytes ++ drop (length bytes) out
written_over (not_written n p) out = out

unfoldable pub written_pool : Writing → List ℕ
written_pool (written out pool) = parts_words pool
written_pool (not_written n p) = []

-- What a write leaves: its answer with document 01's number and values, the output, and every word of the pool table.
pub record WriteLeaves (x : Writing) (pool out pool' out' : List ℕ) (r : Written) : Type 0 where
  pub answer : r ≡ write_answer x
  pub fields : written_fields r ≡ writing_fields x
  pub out_is : out' ≡ written_over x out
  pub pool_is : pool' ≡ pad_to (length pool) (written_pool x)
