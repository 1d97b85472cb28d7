-- The head of a row: its items, and the count of what follows them; and the row's words after the tag.
use Rattle.std.specs.Prelude.{List, [], ◌∷◌, ◌++◌, ◌≡◌, ℕ, ◌+◌, ◌≤◌, length, replicate, Result, IfOk}
use Rattle.payload.specs.Numbers.{varint}
use Rattle.payload.specs.Reader.{Part, Reader, ◌>>=◌, pure}
use Rattle.payload.specs.Reading.{Context, read_items, read_pool_index}
use Rattle.payload.specs.declared.Capacities.{Capacities}
use Rattle.payload.specs.declared.Extent.{Extent}
use Rattle.payload.specs.Rows.{items_words, items_spans, count_words, unused_words}
use Rattle.payload.specs.Shapes.{Kids, Shape, no_value, one_value, values, keys, pairs, with_kids, with_chunk, with_fields, with_template, kinds_of}
use Rattle.payload.specs.Trees.{Item}
use Rattle.row_layout.specs.Under.{count_in, rows_under}
use Rattle.refusal.specs.declared.Refusal.{Refusal}
use Rattle.cursor.specs.Advances.{Advances, answer_by}
use Rattle.cursor.specs.declared.Cursor.{Cursor}
use Rattle.read_items.specs.Context.{context_of, part_in}
use Rattle.read_heads.specs.declared.Head.{Head}

---- reading

pub record Heading : Type 0 where
  pub items : List (Item Part)
  pub count : ℕ

abbrev pub heading : List (Item Part) → ℕ → Heading
heading is n = record { items = is; count = n }

-- how many values, keys, pairs, chunk rows or field rows follow
unfoldable pub read_kids_count : Kids → Reader ℕ
read_kids_count no_value = pure 0
read_kids_count one_value = pure 1
read_kids_count values = varint
read_kids_count keys = varint
read_kids_count pairs = varint

unfoldable pub read_count : Shape → Reader ℕ
read_count (with_kids kinds kids) = read_kids_count kids
read_count (with_chunk kinds) = pure 1
read_count (with_fields kinds) = varint
read_count (with_template kinds) = varint

-- a closure's head stands after its template
unfoldable pub read_head : Context → Shape → Reader Heading
read_head e sh = read_items e (kinds_of sh) >>= λ is. read_count sh >>= λ n. pure (heading is n)

-- a name, and the number after it
unfoldable pub read_named : Context → Reader (Part × ℕ)
read_named e = read_pool_index e >>= λ b. varint >>= λ n. pure (b, n)

---- the row's words

-- the words after the tag
unfoldable pub head_words : Shape → List (Item Part) → ℕ → List ℕ
head_words sh is n = items_words is ++ (count_words sh (rows_under sh n) ++ replicate (unused_words sh) 0)

---- what a head that was read has to do with the definition

abbrev pub four_words : Head → List ℕ
four_words h = h.a ∷ h.b ∷ h.c ∷ h.d ∷ []

-- the head of a row of this shape with these items: its words, which tell the count
pub record HeadOf (sh : Shape) (items : List (Item Part)) (h : Head) : Type 0 where
  pub words : head_words sh items h.count ≡ four_words h
  pub told : count_in sh (four_words h) ≡ h.count
  pub no_spans : items_spans items ≡ []

-- r is the head of a row of this shape that a cursor at c reads
pub record ReadsHead (c c' : Cursor) (names pool : List ℕ) (sh : Shape) (r : Result Head Refusal) : Type 0 where
  pub items : List (Item Part)
  pub is : (cs : Capacities) → Advances c c' (read_head (context_of cs c.payload.now names pool) sh) (answer_by (λ h. heading items h.count) r c'.at)
  pub head : IfOk r (HeadOf sh items)

-- r is the name and the number that a cursor at c reads
pub record ReadsNamed (c c' : Cursor) (pool : List ℕ) (r : Result (Extent × ℕ) Refusal) : Type 0 where
  pub is : (names : List ℕ) (cs : Capacities)
      → Advances c c' (read_named (context_of cs c.payload.now names pool)) (answer_by (λ x. (part_in c.payload.now x.0, x.1)) r c'.at)
  pub inside : IfOk r (λ x. x.0.offset + x.0.length ≤ length c.payload.now)

---- heads of two words, of a count alone, of a part and a count of what follows it, of a name and a number and such a count

abbrev pub two_words : ℕ → ℕ → Head
two_words a b = record { a = a; b = b; c = 0; d = 0; count = 0 }

abbrev pub count_head : ℕ → Head
count_head n = record { a = n; b = 0; c = 0; d = 0; count = n }

abbrev pub part_head : Extent → ℕ → Head
part_head x n = record { a = x.offset; b = x.length; c = 0; d = 0; count = n }

abbrev pub named_head : Extent → ℕ → ℕ → Head
named_head x c n = record { a = x.offset; b = x.length; c = c; d = 0; count = n }
