-- A row of the table by its words: where the scan stands, the tests that the words must pass, the items that they are.
use Rattle.std.specs.Prelude.{Bool, true, List, [], ◌∷◌, ◌*◌, ◌+◌, ◌-◌, ◌/◌, suc, zero, ℕ, eqb, leb, ltb, get_or, length}
use Rattle.payload.specs.Choice.{◌and◌}
use Rattle.payload.specs.Numbers.{fits_kind}
use Rattle.payload.specs.Moved.{start_at}
use Rattle.payload.specs.Reader.{Part, State, set_rows}
use Rattle.payload.specs.Rows.{kind_width, row_width}
use Rattle.payload.specs.Shapes.{ItemKind, is_key_tag, kinds_of, shape}
use Rattle.payload.specs.Sound.{part_at}
use Rattle.payload.specs.Trees.{Item, code, forget_items, key_of, native_name, number, record_name, string}
use Rattle.row_layout.specs.Layout.{count_word, used_words}
use Rattle.utf8.specs.Utf8.{part_is_utf8}

---- where the scan stands

abbrev pub row_count : List ℕ → ℕ
row_count rows = length rows / row_width

-- word k of row i
abbrev pub word_at : List ℕ → ℕ → ℕ → ℕ
word_at rows i k = get_or rows (row_width * i + k) 0

abbrev pub tag_at : List ℕ → ℕ → ℕ
tag_at rows i = word_at rows i 0

abbrev pub count_at : List ℕ → ℕ → ℕ
count_at rows i = word_at rows i (count_word (tag_at rows i))

-- before row i, and before its word k
abbrev pub at_row : List ℕ → ℕ → State
at_row rows i = set_rows i (start_at (row_width * i) rows)

abbrev pub at_word : List ℕ → ℕ → ℕ → State
at_word rows i k = set_rows i (start_at (row_width * i + k) rows)

---- the items of a row

-- an item that is the word a, or the part at a of b bytes
unfoldable pub item_fits : List ℕ → ItemKind → ℕ → ℕ → Bool
item_fits store (ItemKind.number k) a b = fits_kind k a
item_fits store ItemKind.string a b = part_is_utf8 store a b
item_fits store ItemKind.native_name a b = part_is_utf8 store a b
item_fits store ItemKind.record_name a b = part_is_utf8 store a b
item_fits store ItemKind.code a b = leb (a + b) (length store)

unfoldable pub item_of : List ℕ → ItemKind → ℕ → ℕ → Item Part
item_of store (ItemKind.number k) a b = number k a
item_of store ItemKind.string a b = string (part_at store a b)
item_of store ItemKind.native_name a b = native_name (part_at store a b)
item_of store ItemKind.record_name a b = record_name (part_at store a b)
item_of store ItemKind.code a b = code (part_at store a b) []

-- items from word k of row i on
unfoldable pub items_fit : List ℕ → List ℕ → ℕ → ℕ → List ItemKind → Bool
items_fit store rows i k [] = true
items_fit store rows i k (x ∷ xs) = item_fits store x (word_at rows i k) (word_at rows i (k + 1)) and items_fit store rows i (k + kind_width x) xs

unfoldable pub items_of : List ℕ → List ℕ → ℕ → ℕ → List ItemKind → List (Item Part)
items_of store rows i k [] = []
items_of store rows i k (x ∷ xs) = item_of store x (word_at rows i k) (word_at rows i (k + 1)) ∷ items_of store rows i (k + kind_width x) xs

abbrev pub items_at : List ℕ → List ℕ → ℕ → List (Item Part)
items_at store rows i = items_of store rows i 1 (kinds_of (shape (tag_at rows i)))

---- the tests of a row

-- n words of row i from word k on are 0
unfoldable pub zeros_from : List ℕ → ℕ → ℕ → ℕ → Bool
zeros_from rows i k zero = true
zeros_from rows i k (suc n) = eqb (word_at rows i k) 0 and zeros_from rows i (k + 1) n

-- the words fit the kinds of the row's tag, and the unused ones are 0
unfoldable pub row_fits : List ℕ → List ℕ → ℕ → Bool
row_fits store rows i = items_fit store rows i 1 (kinds_of (shape (tag_at rows i))) and zeros_from rows i (used_words (tag_at rows i)) (row_width - used_words (tag_at rows i))

-- row i is there and has a tag; and its words fit
unfoldable pub is_tagged : List ℕ → ℕ → ℕ → Bool
is_tagged rows tag i = ltb i (row_count rows) and eqb (tag_at rows i) tag

unfoldable pub head_fits : List ℕ → List ℕ → ℕ → ℕ → Bool
head_fits store rows tag i = is_tagged rows tag i and row_fits store rows i

---- keys

-- a row that can be a key
unfoldable pub key_fits : List ℕ → List ℕ → ℕ → Bool
key_fits store rows i = ltb i (row_count rows) and is_key_tag (tag_at rows i) and row_fits store rows i

unfoldable pub row_key : List ℕ → List ℕ → ℕ → List ℕ
row_key store rows i = key_of (tag_at rows i) (forget_items (items_at store rows i))
