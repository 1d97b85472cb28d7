-- The row table and the span table: the rows of trees as words, parent first.
use Rattle.std.specs.Prelude.{List, [], ◌++◌, ◌∷◌, ◌+◌, ◌-◌, ◌/◌, pred, suc, ℕ, length, replicate}
use Rattle.payload.specs.Reader.{Part}
use Rattle.payload.specs.Shapes.{ItemKind, Kids, Shape, keys, kinds_of, no_value, one_value, pairs, shape, values, with_chunk, with_fields, with_kids, with_template}
use Rattle.payload.specs.Spans.{Span}
use Rattle.payload.specs.Trees.{Item, Trees, code, native_name, nil, node, number, record_name, string}

unfoldable pub part_words : Part → List ℕ
part_words l = l.offset ∷ length l.bytes ∷ []

unfoldable pub item_words : Item Part → List ℕ
item_words (number k w) = w ∷ []
item_words (string l) = part_words l
item_words (native_name l) = part_words l
item_words (record_name l) = part_words l
item_words (code l ss) = part_words l

unfoldable pub items_words : List (Item Part) → List ℕ
items_words [] = []
items_words (i ∷ is) = item_words i ++ items_words is

unfoldable pub root_count : {A : Type 0} → Trees A → ℕ
root_count nil = 0
root_count (node t is ks ts) = suc (root_count ts)

unfoldable pub kids_count_words : Kids → ℕ → List ℕ
kids_count_words no_value n = []
kids_count_words one_value n = []
kids_count_words values n = n ∷ []
kids_count_words keys n = n ∷ []
kids_count_words pairs n = n / 2 ∷ []

unfoldable pub count_words : Shape → ℕ → List ℕ
count_words (with_kids kinds kids) n = kids_count_words kids n
count_words (with_chunk kinds) n = []
count_words (with_fields kinds) n = n ∷ []
count_words (with_template kinds) n = pred n ∷ []

unfoldable pub kind_width : ItemKind → ℕ
kind_width (ItemKind.number k) = 1
kind_width ItemKind.string = 2
kind_width ItemKind.native_name = 2
kind_width ItemKind.record_name = 2
kind_width ItemKind.code = 2

unfoldable pub kinds_width : List ItemKind → ℕ
kinds_width [] = 0
kinds_width (k ∷ ks) = kind_width k + kinds_width ks

-- the words of a row
abbrev pub row_width : ℕ
row_width = 5

-- how many of them are unused
unfoldable pub unused_words : Shape → ℕ
unused_words sh = row_width - suc (kinds_width (kinds_of sh) + length (count_words sh 0))

unfoldable pub row_words : ℕ → List (Item Part) → ℕ → List ℕ
row_words t is n = t ∷ (items_words is ++ (count_words (shape t) n ++ replicate (unused_words (shape t)) 0))

unfoldable pub row_table : Trees Part → List ℕ
row_table nil = []
row_table (node t is ks ts) = (row_words t is (root_count ks) ++ row_table ks) ++ row_table ts

-- the span table, in row order
unfoldable pub items_spans : List (Item Part) → List Span
items_spans [] = []
items_spans (number k w ∷ is) = items_spans is
items_spans (string l ∷ is) = items_spans is
items_spans (native_name l ∷ is) = items_spans is
items_spans (record_name l ∷ is) = items_spans is
items_spans (code l ss ∷ is) = ss ++ items_spans is

unfoldable pub span_table : Trees Part → List Span
span_table nil = []
span_table (node t is ks ts) = items_spans is ++ (span_table ks ++ span_table ts)
