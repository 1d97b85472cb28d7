-- The head of a row, from what its items and its count were read as.
use Rattle.std.specs.Prelude.{true, false, List, [], ◌∷◌, ◌++◌, ◌≡◌, refl, ℕ, suc, ◌+◌, ◌-◌, ◌≤◌, drop, length, replicate, take, Result, Ok, Err, IsErrAnd}
use Rattle.std.specs.Borrow.{Bor}
use Rattle.std.proofs.Common.{ap, arith, subst, ◌∙◌}
use Rattle.refusal.specs.Number.{number as reason_number}
use Rattle.refusal.specs.declared.Reason.TheVariants.{UnlistedNative}
use Rattle.refusal.specs.declared.Refusal.{Refusal}
use Rattle.refusal.specs.Laws.Errors.{same_error}
use Rattle.payload.specs.Names.{is_listed}
use Rattle.payload.specs.Numbers.{NumberKind, varint, read_number, u64, u16, handle}
use Rattle.payload.specs.Reader as reader
use Rattle.payload.specs.Reader.{Part, Reader, State, ◌>>=◌, and_then, ok, pure, refused}
use Rattle.payload.specs.Reading.{Context, read_item, read_items, read_pool_index}
use Rattle.payload.specs.declared.Capacities.{Capacities}
use Rattle.payload.specs.declared.Extent.{Extent}
use Rattle.payload.specs.Rows.{items_words, item_words, part_words, items_spans, count_words, kids_count_words, kind_width, kinds_width, row_width, unused_words}
use Rattle.payload.specs.Shapes.{ItemKind, Kids, Shape, kinds_of, no_value, one_value, values, keys, pairs, with_kids}
use Rattle.payload.specs.Trees.{Item, number, string, native_name, record_name}
use Rattle.row_layout.specs.Under.{count_in, rows_under}
use Rattle.cursor.specs.Advances.{Advances, answer_by}
use Rattle.cursor.specs.Laws.Advances.{by_law, then_reads, stop_reads, here_reads, must_reads, must_not_reads, pure_reads}
use Rattle.cursor.specs.Reads.{Answer, Reads, part_of, read, stopped}
use Rattle.cursor.specs.declared.Cursor.{Cursor}
use Rattle.read_items.specs.Context.{context_of, part_in, ReadsPart}
use Rattle.read_items.specs.Laws.Context.{length_part}
use Rattle.read_items.specs.Laws.Over.{payload_kept}
use Rattle.read_items.specs.Over.{ReadsOver}
use Rattle.read_items.specs.declared.items.Items.{Items}
use Rattle.read_heads.specs.declared.Head.{Head}
use Rattle.read_heads.specs.Class.{shape_of}
use Rattle.read_heads.specs.Heads.{heading, read_head, read_count, read_kids_count, read_named, head_words, four_words, ReadsHead, ReadsNamed, count_head, named_head, part_head, two_words}
use Rattle.read_heads.specs.declared.Class.TheVariants.{Native, Function, Record, Tag, Closure, Handle}

---- a head leaves the payload

pub head_keeps_payload : {c c' : Cursor} {names pool : List ℕ} {sh : Shape} {r : Result Head Refusal} → ReadsHead c c' names pool sh r → c'.payload ≡ c.payload
head_keeps_payload g = (g.is (record { rows = 0; spans = 0; strings = 0; starts = 0 })).payload

---- items

module _ (e : Context) {c c' : Cursor} where
  pub item_number : (k : NumberKind) {w : ℕ} → Advances c c' (read_number k) (read w c'.at) → Advances c c' (read_item e (ItemKind.number k)) (read (number k w) c'.at)
  unfolding read_item
  item_number k g = then_reads _ g (pure_reads _)

  pub item_number_stop : (k : NumberKind) {n q : ℕ} → Advances c c' (read_number k) (stopped n q) → Advances c c' (read_item e (ItemKind.number k)) (stopped n q)
  unfolding read_item
  item_number_stop k g = stop_reads _ g

  module _ {b : Part} (g : Advances c c' (read_pool_index e) (read b c'.at)) where
    pub item_string : Advances c c' (read_item e ItemKind.string) (read (string b) c'.at)
    unfolding read_item
    item_string = then_reads _ g (pure_reads _)

    pub item_record_name : Advances c c' (read_item e ItemKind.record_name) (read (record_name b) c'.at)
    unfolding read_item
    item_record_name = then_reads _ g (pure_reads _)

    pub item_native : e.listed b.bytes ≡ true → Advances c c' (read_item e ItemKind.native_name) (read (native_name b) c'.at)
    unfolding read_item
    item_native l = here_reads _ (then_reads _ g (must_reads _ _ l (pure_reads _)))

    pub item_native_not : e.listed b.bytes ≡ false → Advances c c' (read_item e ItemKind.native_name) (stopped 14 c.at)
    unfolding read_item
    item_native_not l = here_reads _ (then_reads _ g (must_not_reads _ l refl))

  module _ {n q : ℕ} (g : Advances c c' (read_pool_index e) (stopped n q)) where
    pub item_string_stop : Advances c c' (read_item e ItemKind.string) (stopped n q)
    unfolding read_item
    item_string_stop = stop_reads _ g

    pub item_record_name_stop : Advances c c' (read_item e ItemKind.record_name) (stopped n q)
    unfolding read_item
    item_record_name_stop = stop_reads _ g

    pub item_native_stop : Advances c c' (read_item e ItemKind.native_name) (stopped n q)
    unfolding read_item
    item_native_stop = here_reads _ (stop_reads _ g)

  module _ (k : ItemKind) where
    pub items_one : {i : Item Part} → Advances c c' (read_item e k) (read i c'.at) → Advances c c' (read_items e (k ∷ [])) (read (i ∷ []) c'.at)
    unfolding read_items
    items_one g = then_reads _ g (then_reads _ (pure_reads _) (pure_reads _))

    module _ (kinds : List ItemKind) where
      pub items_first : {n q : ℕ} → Advances c c' (read_item e k) (stopped n q) → Advances c c' (read_items e (k ∷ kinds)) (stopped n q)
      unfolding read_items
      items_first g = stop_reads _ g

module _ (e : Context) {c : Cursor} where
  pub items_none : Advances c c (read_items e []) (read [] c.at)
  unfolding read_items
  items_none = pure_reads _

  module _ {m c' : Cursor} where
    module _ (k : ItemKind) (kinds : List ItemKind) {i : Item Part} (g : Advances c m (read_item e k) (read i m.at)) where
      pub items_more : {is : List (Item Part)} → Advances m c' (read_items e kinds) (read is c'.at) → Advances c c' (read_items e (k ∷ kinds)) (read (i ∷ is) c'.at)
      unfolding read_items
      items_more h = then_reads _ g (then_reads _ h (pure_reads _))

      pub items_later : {n q : ℕ} → Advances m c' (read_items e kinds) (stopped n q) → Advances c c' (read_items e (k ∷ kinds)) (stopped n q)
      unfolding read_items
      items_later h = then_reads _ g (stop_reads _ h)

    ---- a head

    module _ (sh : Shape) where
      pub head_read : {is : List (Item Part)} {n : ℕ} → Advances c m (read_items e (kinds_of sh)) (read is m.at) → Advances m c' (read_count sh) (read n c'.at)
          → Advances c c' (read_head e sh) (read (heading is n) c'.at)
      unfolding read_head
      head_read g h = then_reads _ g (then_reads _ h (pure_reads _))

      pub head_count_stop : {is : List (Item Part)} {n q : ℕ} → Advances c m (read_items e (kinds_of sh)) (read is m.at) → Advances m c' (read_count sh) (stopped n q)
          → Advances c c' (read_head e sh) (stopped n q)
      unfolding read_head
      head_count_stop g h = then_reads _ g (stop_reads _ h)

  pub head_stop : {c' : Cursor} (sh : Shape) {n q : ℕ} → Advances c c' (read_items e (kinds_of sh)) (stopped n q) → Advances c c' (read_head e sh) (stopped n q)
  unfolding read_head
  head_stop sh g = stop_reads _ g

---- a name and a number, as an item and a count, or as two items

same_reader : {A : Type 0} {p : List ℕ} {at : ℕ} {r r' : Reader A} {x : Answer A} → ((s : State) → r' s ≡ r s) → Reads p at r x → Reads p at r' x
same_reader q g = record { is = λ rows spans. q _ ∙ g.is rows spans; inside = g.inside }

module _ (e : Context) (s : State) where
  -- the three ways in which a name and a number are read
  each_named : {P : Type 0} → ((k q : ℕ) → read_pool_index e s ≡ refused k q → P)
      → ((b : Part) (z : State) (k q : ℕ) → read_pool_index e s ≡ ok b z → varint z ≡ refused k q → P)
      → ((b : Part) (z : State) (n : ℕ) (z' : State) → read_pool_index e s ≡ ok b z → varint z ≡ ok n z' → P) → P
  each_named {P} no_name no_number both = name (read_pool_index e s) refl
    where
      number_of : (b : Part) (z : State) → read_pool_index e s ≡ ok b z → (v : reader.Result ℕ) → varint z ≡ v → P
      number_of b z i (ok n z') j = both b z n z' i j
      number_of b z i (refused k q) j = no_number b z k q i j

      name : (v : reader.Result Part) → read_pool_index e s ≡ v → P
      name (ok b z) i = number_of b z i (varint z) refl
      name (refused k q) i = no_name k q i

  reads_function : read_head e (shape_of Function) s ≡ (read_named e >>= λ x. pure (heading (string x.0 ∷ number u64 x.1 ∷ []) 1)) s
  unfolding read_head read_items read_item read_number read_count read_named kinds_of shape_of ◌>>=◌ and_then pure
  reads_function = each_named (λ k q i. rw i) (λ b z k q i j. rw (i, j)) (λ b z n z' i j. rw (i, j))

  reads_record : read_head e (shape_of Record) s ≡ (read_named e >>= λ x. pure (heading (record_name x.0 ∷ []) x.1)) s
  unfolding read_head read_items read_item read_count read_named kinds_of shape_of ◌>>=◌ and_then pure
  reads_record = each_named (λ k q i. rw i) (λ b z k q i j. rw (i, j)) (λ b z n z' i j. rw (i, j))

---- heads by class

-- rows of this shape have no item, and count what follows them
pub record Counts (sh : Shape) : Type 0 where
  pub no_item : kinds_of sh ≡ []
  pub counted : read_count sh ≡ varint
  pub words : (n : ℕ) → head_words sh [] n ≡ n ∷ 0 ∷ 0 ∷ 0 ∷ []
  pub told : (n : ℕ) → count_in sh (n ∷ 0 ∷ 0 ∷ 0 ∷ []) ≡ n

counts_kids : (kids : Kids) → read_kids_count kids ≡ varint → ((n : ℕ) → head_words (with_kids [] kids) [] n ≡ n ∷ 0 ∷ 0 ∷ 0 ∷ [])
    → ((n : ℕ) → count_in (with_kids [] kids) (n ∷ 0 ∷ 0 ∷ 0 ∷ []) ≡ n) → Counts (with_kids [] kids)
unfolding kinds_of read_count
counts_kids kids e w t = record { no_item = refl; counted = e; words = w; told = t }

pub counts_values : Counts (with_kids [] values)
unfolding head_words items_words count_words kids_count_words kinds_width unused_words kinds_of count_in rows_under read_kids_count
counts_values = counts_kids values refl (λ n. refl) (λ n. refl)

pub counts_keys : Counts (with_kids [] keys)
unfolding head_words items_words count_words kids_count_words kinds_width unused_words kinds_of count_in rows_under read_kids_count
counts_keys = counts_kids keys refl (λ n. refl) (λ n. refl)

pub counts_pairs : Counts (with_kids [] pairs)
unfolding head_words items_words count_words kids_count_words kinds_width unused_words kinds_of count_in rows_under read_kids_count
counts_pairs = counts_kids pairs refl (λ n. ap (λ (k : ℕ). k ∷ 0 ∷ 0 ∷ 0 ∷ []) (omega arith)) (λ n. refl)

-- rows of this shape have a name, and the number after it, as an item or as a count
pub record Named (sh : Shape) (items : Part → ℕ → List (Item Part)) (count : ℕ → ℕ) : Type 0 where
  pub reads : (e : Context) (s : State) → read_head e sh s ≡ (read_named e >>= λ x. pure (heading (items x.0 x.1) (count x.1))) s
  pub words : (b : Part) (n : ℕ) → head_words sh (items b n) (count n) ≡ b.offset ∷ length b.bytes ∷ n ∷ 0 ∷ []
  pub told : (o l n : ℕ) → count_in sh (o ∷ l ∷ n ∷ 0 ∷ []) ≡ count n
  pub no_spans : (b : Part) (n : ℕ) → items_spans (items b n) ≡ []

pub named_function : Named (shape_of Function) (λ b n. string b ∷ number u64 n ∷ []) (λ n. 1)
unfolding shape_of head_words items_words item_words part_words count_words kind_width kinds_width unused_words kinds_of count_in rows_under items_spans
named_function = record { reads = reads_function; words = λ b n. refl; told = λ o l n. refl; no_spans = λ b n. refl }

pub named_record : Named (shape_of Record) (λ b n. record_name b ∷ []) (λ n. n)
unfolding shape_of head_words items_words item_words part_words count_words kind_width kinds_width unused_words kinds_of count_in rows_under items_spans
named_record = record { reads = reads_record; words = λ b n. refl; told = λ o l n. refl; no_spans = λ b n. refl }

-- nothing or one value follows rows with these kids, and no word counts it
pub record Follows (kids : Kids) (n : ℕ) : Type 0 where
  pub counted : read_kids_count kids ≡ pure n
  pub no_words : (m : ℕ) → kids_count_words kids m ≡ []
  pub told : (kinds : List ItemKind) (ws : List ℕ) → count_in (with_kids kinds kids) ws ≡ n

pub follows_none : Follows no_value 0
unfolding read_kids_count kids_count_words count_in
follows_none = record { counted = refl; no_words = λ m. refl; told = λ kinds ws. refl }

pub follows_one : Follows one_value 1
unfolding read_kids_count kids_count_words count_in
follows_one = record { counted = refl; no_words = λ m. refl; told = λ kinds ws. refl }

module _ {names pool : List ℕ} {c c' : Cursor} where
  -- items, and nothing or one value that follows
  head_items : {kids : Kids} {h : Head} → Follows kids h.count → {kinds : List ItemKind} {is : List (Item Part)}
      → ((cs : Capacities) → Advances c c' (read_items (context_of cs c.payload.now names pool) kinds) (read is c'.at))
      → items_words is ++ replicate (4 - kinds_width kinds) 0 ≡ four_words h → items_spans is ≡ [] → ReadsHead c c' names pool (with_kids kinds kids) (Ok h)
  unfolding head_words count_words unused_words kinds_of read_count
  head_items {kids} {h} f {kinds} {is} g w spans =
      let unused : row_width - suc (kinds_width kinds + 0) ≡ 4 - kinds_width kinds = omega arith in
      record {
        items = is;
        is = λ cs. head_read _ _ (g cs) (rw f.counted (pure_reads h.count));
        head = record { words = rw (f.no_words (rows_under (with_kids kinds kids) h.count), f.no_words 0, unused) w; told = f.told kinds _; no_spans = spans };
      }

  module _ {e : Refusal} where
    -- no head is read
    pub no_head : {sh : Shape} → ((cs : Capacities) → Advances c c' (read_head (context_of cs c.payload.now names pool) sh) (stopped (reason_number e.reason) e.place))
        → ReadsHead c c' names pool sh (Err e)
    no_head g = record { items = []; is = g; head = tt }

    -- a number that stands first is not read
    pub no_number : {sh : Shape} (k : NumberKind) {kinds : List ItemKind} → kinds_of sh ≡ ItemKind.number k ∷ kinds
        → Advances c c' (read_number k) (stopped (reason_number e.reason) e.place) → ReadsHead c c' names pool sh (Err e)
    no_number k q g = no_head (λ cs. head_stop _ _ (rw q (items_first _ _ _ (item_number_stop _ k g))))

    -- a string that stands first is not read
    pub no_string : {sh : Shape} {kinds : List ItemKind} → kinds_of sh ≡ ItemKind.string ∷ kinds → ReadsPart c c' pool (Err e) → ReadsHead c c' names pool sh (Err e)
    no_string q g = no_head (λ cs. head_stop _ _ (rw q (items_first _ _ _ (item_string_stop _ (g.is names cs)))))

  -- a number alone
  pub head_number : (k : NumberKind) {w : ℕ} → Advances c c' (read_number k) (read w c'.at) → ReadsHead c c' names pool (with_kids (ItemKind.number k ∷ []) no_value) (Ok (two_words w 0))
  unfolding items_words item_words kind_width kinds_width items_spans
  head_number k g = head_items follows_none (λ cs. items_one _ _ (item_number _ k g)) refl refl

  -- a string, and nothing or one value that follows
  pub head_string : {kids : Kids} {n : ℕ} → Follows kids n → {x : Extent} → ReadsPart c c' pool (Ok x) → ReadsHead c c' names pool (with_kids (ItemKind.string ∷ []) kids) (Ok (part_head x n))
  unfolding items_words item_words part_words kind_width kinds_width items_spans
  head_string f {x} g = head_items f (λ cs. items_one _ _ (item_string _ (g.is names cs))) (rw (length_part c.payload.now x.offset x.length g.inside)) refl

  ---- a count alone

  module _ {sh : Shape} (k : Counts sh) where
    pub head_count : {n : ℕ} → Advances c c' varint (read n c'.at) → ReadsHead c c' names pool sh (Ok (count_head n))
    unfolding items_spans
    head_count {n} g = record {
      items = [];
      is = λ cs. head_read _ {m = c} _ (rw k.no_item (items_none _)) (rw k.counted g);
      head = record { words = k.words n; told = k.told n; no_spans = refl };
    }

    pub no_count : {e : Refusal} → Advances c c' varint (stopped (reason_number e.reason) e.place) → ReadsHead c c' names pool sh (Err e)
    no_count g = no_head (λ cs. head_count_stop _ {m = c} _ {is = []} (rw k.no_item (items_none _)) (rw k.counted g))

  ---- a native's name

  module _ (o n : ℕ) (g : (cs : Capacities) → Advances c c' (read_pool_index (context_of cs c.payload.now names pool)) (read (part_of c.payload.now o n) c'.at)) where
    pub head_native : o + n ≤ length c.payload.now → is_listed names (take n (drop o c.payload.now)) ≡ true → ReadsHead c c' names pool (shape_of Native) (Ok (two_words o n))
    unfolding shape_of context_of items_words item_words part_words kind_width kinds_width items_spans
    head_native fits l = head_items follows_none (λ cs. items_one _ _ (item_native _ (g cs) l)) (rw (length_part c.payload.now o n fits)) refl

    pub head_native_not : is_listed names (take n (drop o c.payload.now)) ≡ false
        → ReadsHead c c' names pool (shape_of Native) (Err (record { reason = UnlistedNative; place = c.at }))
    unfolding shape_of context_of kinds_of
    head_native_not l = no_head (λ cs. head_stop _ _ (items_first _ _ _ (item_native_not _ (g cs) l)))

  ---- a name and a number

  module _ {sh : Shape} {items : Part → ℕ → List (Item Part)} {count : ℕ → ℕ} (k : Named sh items count) where
    pub head_named : {x : Extent} {n : ℕ} → ReadsNamed c c' pool (Ok (x, n)) → ReadsHead c c' names pool sh (Ok (named_head x n (count n)))
    head_named {x} {n} g = record {
      items = items (part_in c.payload.now x) n;
      is = λ cs. by_law (same_reader (k.reads _)) (then_reads _ (g.is names cs) (pure_reads _));
      head = record { words = k.words _ n ∙ rw (length_part c.payload.now x.offset x.length g.inside); told = k.told _ _ n; no_spans = k.no_spans _ n };
    }

    pub no_named : {e : Refusal} → ReadsNamed c c' pool (Err e) → ReadsHead c c' names pool sh (Err e)
    no_named g = no_head (λ cs. by_law (same_reader (k.reads _)) (stop_reads _ (g.is names cs)))

---- nothing, or one value that follows

pub head_bare : {names pool : List ℕ} {c : Cursor} {kids : Kids} {n : ℕ} → Follows kids n → ReadsHead c c names pool (with_kids [] kids) (Ok (record { a = 0; b = 0; c = 0; d = 0; count = n }))
unfolding items_words kinds_width items_spans
head_bare f = head_items f (λ cs. items_none _) refl refl

---- heads of two items, or of an item and a count

-- a part that is read where another ended
part_after : {pool : List ℕ} {c m c' : Cursor} {r r' : Result Extent Refusal} → ReadsPart c m pool r → ReadsPart m c' pool r' → (names : List ℕ) (cs : Capacities)
    → Advances m c' (read_pool_index (context_of cs c.payload.now names pool)) (answer_by (part_in c.payload.now) r' c'.at)
part_after {pool} {m = m} {c' = c'} {r' = r'} g h names cs =
    subst (λ (b : Bor (List ℕ)). Advances m c' (read_pool_index (context_of cs b.now names pool)) (answer_by (part_in b.now) r' c'.at)) (payload_kept g) (h.is names cs)

module _ {names pool : List ℕ} {c m c' : Cursor} where
  module _ {x : Extent} (g : ReadsPart c m pool (Ok x)) where
    pub head_tag : {y : Extent} → ReadsPart m c' pool (Ok y) → ReadsHead c c' names pool (shape_of Tag) (Ok (record { a = x.offset; b = x.length; c = y.offset; d = y.length; count = 0 }))
    unfolding shape_of items_words item_words part_words kind_width kinds_width items_spans
    head_tag {y} h = head_items follows_none
        (λ cs. items_more _ _ _ (item_string _ (g.is names cs)) (items_one _ _ (item_string _ (part_after g h names cs))))
        (rw (length_part c.payload.now x.offset x.length g.inside, length_part c.payload.now y.offset y.length (rw (payload_kept g) at h.inside))) refl

    pub no_variant : {e : Refusal} → ReadsPart m c' pool (Err e) → ReadsHead c c' names pool (shape_of Tag) (Err e)
    unfolding shape_of kinds_of
    no_variant h = no_head (λ cs. head_stop _ _ (items_later _ _ _ (item_string _ (g.is names cs)) (items_first _ _ _ (item_string_stop _ (part_after g h names cs)))))

  module _ {start : ℕ} (g : Advances c m (read_number u16) (read start m.at)) where
    pub head_closure : {count : ℕ} → Advances m c' varint (read count c'.at)
        → ReadsHead c c' names pool (shape_of Closure) (Ok (record { a = start; b = count; c = 0; d = 0; count = count }))
    unfolding shape_of head_words items_words item_words count_words kind_width kinds_width unused_words kinds_of count_in rows_under items_spans read_count
    head_closure h = record {
      items = number u16 start ∷ [];
      is = λ cs. head_read _ _ (items_one _ _ (item_number _ u16 g)) h;
      head = record { words = refl; told = refl; no_spans = refl };
    }

    pub no_captured : {e : Refusal} → Advances m c' varint (stopped (reason_number e.reason) e.place) → ReadsHead c c' names pool (shape_of Closure) (Err e)
    unfolding shape_of kinds_of read_count
    no_captured h = no_head (λ cs. head_count_stop _ _ (items_one _ _ (item_number _ u16 g)) h)

  module _ {kind : ℕ} (g : Advances c m (read_number handle) (read kind m.at)) where
    pub head_handle : {id : ℕ} → Advances m c' varint (read id c'.at) → ReadsHead c c' names pool (shape_of Handle) (Ok (two_words kind id))
    unfolding shape_of items_words item_words kind_width kinds_width items_spans read_number
    head_handle h = head_items follows_none (λ cs. items_more _ _ _ (item_number _ handle g) (items_one _ _ (item_number _ u64 h))) refl refl

    pub no_id : {e : Refusal} → Advances m c' varint (stopped (reason_number e.reason) e.place) → ReadsHead c c' names pool (shape_of Handle) (Err e)
    unfolding shape_of kinds_of read_number
    no_id h = no_head (λ cs. head_stop _ _ (items_later _ _ _ (item_number _ handle g) (items_first _ _ _ (item_number_stop _ u64 h))))

---- a number that is a row alone, where the items are behind a reference

module _ {s s' : Items} {names : List ℕ} {sh : Shape} (k : NumberKind) (e : sh ≡ with_kids (ItemKind.number k ∷ []) no_value) (same : s'.pool ≡ s.pool) where
  pub number_read : {w : ℕ} → Advances s.cursor s'.cursor (read_number k) (read w s'.cursor.at) → ReadsOver s s' (λ c c' pool. ReadsHead c c' names pool sh (Ok (two_words w 0)))
  number_read g = record { same_pool = same; moves = rw e (head_number k g) }

  pub number_not_read : (x : Refusal) {r : Result Head Refusal} → IsErrAnd r (λ y. y ≡ x)
      → Advances s.cursor s'.cursor (read_number k) (stopped (reason_number x.reason) x.place) → ReadsOver s s' (λ c c' pool. ReadsHead c c' names pool sh r)
  unfolding kinds_of
  number_not_read x {r} q g = record { same_pool = same; moves = rw (e, same_error r x q) (no_number k refl g) }
