-- The rows of a program as trees: a row, the rows under it, the rows after those.
use Rattle.std.specs.Prelude.{List, [], ◌++◌, ◌∷◌, ◌+◌, suc, ℕ, length}
use Rattle.std.proofs.Math.Option.{Option, none, some}
use Rattle.payload.specs.Numbers.{NumberKind}
use Rattle.payload.specs.Reader.{Part}
use Rattle.payload.specs.Shapes.{ItemKind}
use Rattle.payload.specs.Spans.{Span}

-- An item of a row. A is what a part is: its bytes, or its bytes with their place.
pub data Item (A : Type 0) : Type 0 where
  number : NumberKind → ℕ → Item A
  string : A → Item A
  native_name : A → Item A
  record_name : A → Item A
  code : A → List Span → Item A

unfoldable pub kind_of : {A : Type 0} → Item A → ItemKind
kind_of (number k w) = ItemKind.number k
kind_of (string a) = ItemKind.string
kind_of (native_name a) = ItemKind.native_name
kind_of (record_name a) = ItemKind.record_name
kind_of (code a ss) = ItemKind.code

-- Rows parent first: a row, the rows under it, the rows after those
pub data Trees (A : Type 0) : Type 0 where
  nil : Trees A
  node : ℕ → List (Item A) → Trees A → Trees A → Trees A

-- one row with what is under it
pub record Node (A : Type 0) : Type 0 where
  pub tag : ℕ
  pub items : List (Item A)
  pub kids : Trees A

unfoldable pub cons : {A : Type 0} → Node A → Trees A → Trees A
cons t ts = node t.tag t.items t.kids ts

unfoldable pub node_of : {A : Type 0} → ℕ → List (Item A) → Trees A → Node A
node_of t is ks = record { tag = t; items = is; kids = ks }

unfoldable pub single : {A : Type 0} → Node A → Trees A
single n = node n.tag n.items n.kids nil

unfoldable pub item_value : Item (List ℕ) → List ℕ
item_value (number k w) = w ∷ []
item_value (string b) = b
item_value (native_name b) = b
item_value (record_name b) = b
item_value (code b ss) = b

unfoldable pub items_value : List (Item (List ℕ)) → List ℕ
items_value [] = []
items_value (i ∷ is) = item_value i ++ items_value is

-- equal keys have one tag and one value: a key has one item
unfoldable pub key_of : ℕ → List (Item (List ℕ)) → List ℕ
key_of t is = t ∷ items_value is

-- The same with parts by their bytes alone: their places are forgotten.
unfoldable pub forget_item : Item Part → Item (List ℕ)
forget_item (number k w) = number k w
forget_item (string l) = string l.bytes
forget_item (native_name l) = native_name l.bytes
forget_item (record_name l) = record_name l.bytes
forget_item (code l ss) = code l.bytes ss

unfoldable pub forget_items : List (Item Part) → List (Item (List ℕ))
forget_items [] = []
forget_items (i ∷ is) = forget_item i ∷ forget_items is

unfoldable pub forget_trees : Trees Part → Trees (List ℕ)
forget_trees nil = nil
forget_trees (node t is ks ts) = node t (forget_items is) (forget_trees ks) (forget_trees ts)

unfoldable pub forget_node : Node Part → Node (List ℕ)
forget_node t = record { tag = t.tag; items = forget_items t.items; kids = forget_trees t.kids }

-- how many rows
unfoldable pub size : {A : Type 0} → Trees A → ℕ
size nil = 0
size (node t is ks ts) = suc (size ks) + size ts

-- how many bytes of code, one span each
unfoldable pub span_item : Item (List ℕ) → ℕ
span_item (number k w) = 0
span_item (string b) = 0
span_item (native_name b) = 0
span_item (record_name b) = 0
span_item (code b ss) = length b

unfoldable pub span_items : List (Item (List ℕ)) → ℕ
span_items [] = 0
span_items (i ∷ is) = span_item i + span_items is

unfoldable pub span_count : Trees (List ℕ) → ℕ
span_count nil = 0
span_count (node t is ks ts) = (span_items is + span_count ks) + span_count ts

pub record LineIndex (A : Type 0) : Type 0 where
  pub name : A
  pub starts : List ℕ

-- an outer chunk row, and perhaps a line index
pub record Script (A : Type 0) : Type 0 where
  pub outer : Node A
  pub line : Option (LineIndex A)

unfoldable pub forget_line : Option (LineIndex Part) → Option (LineIndex (List ℕ))
forget_line none = none
forget_line (some x) = some (record { name = x.name.bytes; starts = x.starts })

unfoldable pub forget_script : Script Part → Script (List ℕ)
forget_script s = record { outer = forget_node s.outer; line = forget_line s.line }

unfoldable pub start_count : Option (LineIndex (List ℕ)) → ℕ
start_count none = 0
start_count (some x) = length x.starts
