-- Demand 3 as statements: what a house-written payload is, what a read of it gives back, and when two programs are bound to be equal.
use Rattle.std.specs.Prelude.{Bool, true, List, [], ◌∷◌, map, ◌≡◌, ◌*◌, ◌+◌, ◌≤◌, ℕ, drop, length, take}
use Rattle.slices.specs.Zeros.{pad_to}
use Rattle.payload.specs.Choice.{◌and◌}
use Rattle.payload.specs.Equal.{Equal}
use Rattle.payload.specs.House.{all_named}
use Rattle.payload.specs.Names.{is_listed}
use Rattle.payload.specs.Reader.{Part, State, ok}
use Rattle.payload.specs.Rows.{row_width}
use Rattle.payload.specs.declared.Capacities.{Capacities}
use Rattle.payload.specs.declared.Counts.{Counts}
use Rattle.payload.specs.Answers.{Read, flag_of, length_of, offset_of}
use Rattle.refusal.specs.Answer as read
use Rattle.payload.specs.Sound.{Tables, script_of}
use Rattle.payload.specs.Tables.{limits, parts_words, size_limit}
use Rattle.payload.specs.Trees.{Item, Script, Trees, code, forget_script, native_name, nil, node, number, record_name, single, size, span_count, start_count, string}
use Rattle.payload.specs.Writing.{pool_of, writing}

-- every native name of a script passes a test
unfoldable pub item_listed : (List ℕ → Bool) → Item (List ℕ) → Bool
item_listed f (number k w) = true
item_listed f (string b) = true
item_listed f (native_name b) = f b
item_listed f (record_name b) = true
item_listed f (code b ss) = true

unfoldable pub all_of : (Item (List ℕ) → Bool) → List (Item (List ℕ)) → Bool
all_of f [] = true
all_of f (i ∷ is) = f i and all_of f is

unfoldable pub all_items : (Item (List ℕ) → Bool) → Trees (List ℕ) → Bool
all_items f nil = true
all_items f (node t is ks ts) = all_of f is and all_items f ks and all_items f ts

unfoldable pub Listed : (List ℕ → Bool) → Script (List ℕ) → Type 0
Listed f s = all_items (item_listed f) (single s.outer) ≡ true

-- tables with these capacities hold a program: its rows, spans, distinct gathered strings and starts fit
pub record Fits (c : Capacities) (s : Script (List ℕ)) : Type 0 where
  pub fit_rows : size (single s.outer) ≤ c.rows
  pub fit_spans : span_count (single s.outer) ≤ c.spans
  pub fit_strings : length (pool_of s) ≤ c.strings
  pub fit_starts : start_count s.line ≤ c.starts

-- T is a sound program that the tables hold, with its native names listed, and p, all of it, is its writing
pub record HouseProgram (c : Capacities) (names p : List ℕ) (T : Tables) : Type 0 where
  pub script : Script Part
  pub end : State
  pub sound : script_of T ≡ ok script end
  pub small_store : length T.store ≤ size_limit
  pub in_list : Listed (is_listed names) (forget_script script)
  pub held : Fits c (forget_script script)
  pub named : all_named (forget_script script) ≡ true
  pub its_writing : writing (forget_script script) ≡ p
  pub short : length p ≤ size_limit

-- parts of a store: they lie in it, and their bytes are those that stand there
unfoldable pub PartsOf : List ℕ → List Part → Type 0
PartsOf store [] = Unit {0}
PartsOf store (x ∷ xs) = (x.offset + length x.bytes ≤ length store) × (take (length x.bytes) (drop x.offset store) ≡ x.bytes) × PartsOf store xs

-- The answer r is accepted, with all bytes of p consumed. What it says and what stands in the tables, which were lent with so many words each, is a program equal to T;
-- the counts say where each table's used words end. The pool table has the strings of T's pool, in its order, as parts of p. Zeros stand behind.
pub record GivesBack (T : Tables) (p rows spans starts pool rows' spans' starts' pool' : List ℕ) (r : Read) : Type 0 where
  pub counts : Counts
  pub accepted : r ≡ read.accepted counts
  pub all_consumed : counts.consumed ≡ length p
  pub program : Tables
  pub same_program : Equal T program
  pub store_is : program.store ≡ p
  pub rows_used : row_width * counts.rows ≡ length program.rows
  pub spans_used : 2 * counts.spans ≡ length program.spans
  pub starts_used : counts.starts ≡ length program.starts
  pub flag_is : program.flag ≡ flag_of counts.name
  pub name_offset_is : program.name_offset ≡ offset_of counts.name
  pub name_length_is : program.name_length ≡ length_of counts.name
  pub rows_are : rows' ≡ pad_to (length rows) program.rows
  pub spans_are : spans' ≡ pad_to (length spans) program.spans
  pub starts_are : starts' ≡ pad_to (length starts) program.starts
  pub script : Script Part
  pub end : State
  pub its_script : script_of T ≡ ok script end
  pub strings : List Part
  pub strings_stand : PartsOf p strings
  pub strings_are : map (λ (x : Part). x.bytes) strings ≡ pool_of (forget_script script)
  pub strings_used : counts.strings ≡ length strings
  pub pool_is : pool' ≡ pad_to (length pool) (parts_words strings)

-- T is a sound program within the limits, and p is its writing. Its store may be of any size, which only makes `demand_3_one` say more: a writing within the
-- size limit has one program, wherever its bytes stand.
pub record Writes (T : Tables) (p : List ℕ) : Type 0 where
  pub script : Script Part
  pub end : State
  pub sound : script_of T ≡ ok script end
  pub few_rows : size (single (forget_script script).outer) ≤ limits.rows
  pub few_spans : span_count (single (forget_script script).outer) ≤ limits.spans
  pub few_starts : start_count (forget_script script).line ≤ limits.starts
  pub named : all_named (forget_script script) ≡ true
  pub its_writing : writing (forget_script script) ≡ p
  pub short : length p ≤ size_limit
