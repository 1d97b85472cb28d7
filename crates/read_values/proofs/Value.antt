-- A row and what follows it: of a shape, of a closure, of a chunk.
use mathlib.Core.List.{List, [], ◌∷◌, append-nil}
use mathlib.Core.Path.{◌≡◌, refl, sym, ap, ◌∙◌}
use Prim.Native.Nat.{ℕ, ◌≤◌, ◌<◌, ◌+◌, ◌*◌}
use native.Mathlib.Omega.{arith}
use lib.ListN.{length, get_or, take, drop, length-take, length-drop}
use Rattle.std.specs.Prelude.{Result, Ok, Err}
use Rattle.slices.specs.Put.{put}
use Rattle.slices.specs.Laws.Put.{put_none, put_put, put_under, get_or_put_first}
use Rattle.payload.specs.Choice.{when◌then◌else◌}
use Rattle.payload.specs.Numbers.{varint}
use Rattle.payload.proofs.Laws.Keeps.{not_ok}
use Rattle.payload.specs.Reader.{Part, Reader, ◌>>=◌, and_then, ok, pure, refused}
use Rattle.payload.specs.Reader as reader
use Rattle.payload.specs.Reading.{Context, read_item, read_items, read_kids, read_many, read_shape}
use Rattle.payload.specs.Rows.{count_words, item_words, items_spans, items_words, kids_count_words, kind_width, kinds_width, part_words, root_count, row_table, row_width, row_words, unused_words}
use Rattle.payload.specs.Shapes.{ItemKind, Shape, kinds_of, shape, shapes, values, with_kids}
use Rattle.payload.specs.Spans.{Span, read_code}
use Rattle.payload.specs.Tables.{span_words}
use Rattle.payload.specs.Trees as trees
use Rattle.payload.specs.Trees.{Item, Node, Trees, code, cons, node_of, single}
use Rattle.payload.specs.declared.Capacities.{Capacities}
use Rattle.payload.specs.declared.Extent.{Extent}
use Rattle.refusal.specs.Number.{number}
use Rattle.refusal.specs.declared.Reason.TheVariants.{TemplateNotFunction}
use Rattle.refusal.specs.declared.Refusal.{Refusal}
use Rattle.cursor.specs.Advances.{Advances}
use Rattle.cursor.specs.Reads.{Answer, Reads, read, state_at, stopped}
use Rattle.cursor.specs.declared.Cursor.{Cursor}
use Rattle.read_items.specs.Context.{context_of, part_in}
use Rattle.read_items.specs.Over.{ReadsOver}
use Rattle.read_items.specs.declared.items.Items.{Items}
use Rattle.row_layout.specs.Under.{count_in, rows_under}
use Rattle.read_heads.specs.Following.{read_chunk_row, read_following}
use Rattle.read_heads.specs.Heads.{HeadOf, ReadsHead, four_words, head_words, heading, read_head}
use Rattle.read_heads.specs.Class.{shape_of}
use Rattle.read_heads.specs.Laws.Following.{following_count, many_count, row_shape, row_stop, row_words_lem, template_count, template_not, template_row, template_row_stop, template_stop}
use Rattle.read_heads.specs.declared.Class.TheVariants.{Closure}
use Rattle.read_heads.specs.declared.Head.{Head}
use Rattle.read_code.specs.CodeRead.{Accepted, CodeRead}
use Rattle.key_test.specs.Told.{RowTold}
use Rattle.read_values.specs.Did.{many_trees, one_tree, Ran, Did, Step, context_in}
use Rattle.read_values.specs.Under.{closure_row}
use Rattle.read_values.specs.Items.{ItemsAt}
use Rattle.read_values.specs.Does.{Does, StoresRow, loan_of, reading_at, step}
use Rattle.read_values.specs.State.{RowStored, after_spans, at_place, state_of}
use Rattle.read_values.specs.Laws.Did.{did_front, did_node, did_same, length_span_words_lem}
use Rattle.read_values.specs.Laws.Does.{did_from, does_as, does_refuse}
use Rattle.read_values.specs.declared.State.{State}
use Rattle.read_values.specs.declared.sources.Source.{Source}
use Rattle.read_values.specs.declared.values.Decoder.{Decoder}
use Rattle.read_values.proofs.Loop.{does_none}
use Rattle.read_values.proofs.Classes.{nothing_follows}
use Rattle.read_values.proofs.Tests.{ReadsRow, row_room}

---- what a cursor read that was put at a place of the source

-- a head that was read at a place
pub record HeadRead (e : Source) (at : ℕ) (sh : Shape) (h : Head) (next : ℕ) : Type 0 where
  pub items : List (Item Part)
  pub is : Reads e.payload.now at (read_head (context_in e) sh) (read (heading items h.count) next)
  pub head : HeadOf sh items h

-- no head was read there
abbrev pub NoHead : Source → ℕ → Shape → Refusal → Type 0
NoHead e at sh x = Reads e.payload.now at (read_head (context_in e) sh) (stopped (number x.reason) x.place)

module _ (e : Source) {c c' : Cursor} {at : ℕ} (there : (c.payload ≡ e.payload) × (c.at ≡ at)) where
  pub head_read : {sh : Shape} {h : Head} → ReadsHead c c' e.names.now e.pool.now sh (Ok h) → HeadRead e at sh h c'.at
  head_read g = record { items = g.items; is = rw (there.0, there.1) at (g.is e.capacities).reads; head = g.head }

  pub no_head_read : {sh : Shape} {x : Refusal} → ReadsHead c c' e.names.now e.pool.now sh (Err x) → NoHead e at sh x
  no_head_read g = rw (there.0, there.1) at (g.is e.capacities).reads

  pub code_read : {spans spans' : List ℕ} {used most : ℕ} {x : Extent} → CodeRead c c' spans spans' used most (Ok x) →
      Accepted e.payload.now spans spans' used most at x c'.at
  code_read g = rw (there.0, there.1) at g.outcome

  pub no_code_read : {spans spans' : List ℕ} {used most : ℕ} {x : Refusal} → CodeRead c c' spans spans' used most (Err x) → (rows : ℕ) →
      read_code most (state_at e.payload.now at rows used) ≡ refused (number x.reason) x.place
  no_code_read g = rw (there.0, there.1) at g.outcome

-- the same of items that stand at a place
module _ (e : Source) {s s' : Items} {at : ℕ} (there : ItemsAt e at s) {sh : Shape} where
  pub head_over : {h : Head} → ReadsOver s s' (λ c c' pool. ReadsHead c c' e.names.now pool sh (Ok h)) → HeadRead e at sh h s'.cursor.at
  head_over g = head_read e (there.payload, there.place) (rw there.pool at g.moves)

  pub no_head_over : {x : Refusal} → ReadsOver s s' (λ c c' pool. ReadsHead c c' e.names.now pool sh (Err x)) → NoHead e at sh x
  no_head_over g = no_head_read e (there.payload, there.place) (rw there.pool at g.moves)

-- what a cursor read on
pub read_on : {A : Type 0} (e : Source) {c c' : Cursor} {reader : Reader A} {x : Answer A} → c.payload ≡ e.payload → Advances c c' reader x →
    Reads e.payload.now c.at reader x
read_on e its g = rw its at g.reads

---- a row of a shape: its head is read, its words stored, and what follows it read

-- the row's words, and that they tell the count
pub row_told :
    (t : ℕ) {sh : Shape} → shape t ≡ sh → {is : List (Item Part)} {h : Head} → HeadOf sh is h → (m : ℕ) → m ≡ rows_under sh h.count →
    (row_words t is m ≡ t ∷ four_words h) × RowTold t is m
row_told t e {is} {h} g m u =
    let ws : row_words t is m ≡ t ∷ four_words h = row_words_lem g t e m u in
    (ws, record { a = h.a; b = h.b; c = h.c; d = h.d; words = ws; told = rw (e, g.told) (sym u) })

module _ {s : Decoder} {reader below : Context → Reader (Node Part)} {t at : ℕ} {sh : Shape} (b : ReadsRow s reader below t sh at) where
  pub does_row : {r z : Decoder} {x : Result (Unit {0}) Refusal} {h : Head} {next : ℕ} → HeadRead s.source at sh h next → StoresRow s r (t ∷ four_words h) next →
      Does many_trees r z x (λ e. read_following e (below e) sh h.count) → Does one_tree s z x reader
  unfolding and_then ◌>>=◌ span_words
  does_row {h = h} g stored d =
      let rv = below (context_in s.source) in
      record {
        same = d.same ∙ stored.same;
        did = did_same (b.is ∙ row_shape s.source.names.now s.source.pool.now s.source.capacities rv t (s.state.rows + 1) s.state.spans b.plain g.is)
            (did_node t g.items (t ∷ four_words h) [] stored.stored.words refl (stored.same_spans ∙ sym (put_none s.spans.now (2 * s.state.spans))) (omega arith)
            (ap span_words (sym g.head.no_spans))
            (λ ts y q. row_told t b.its_shape g.head (root_count ts) (following_count (context_in s.source) rv sh h.count _ ts y b.plain q))
            (rw stored.stored.after at (did_from s stored.same d)));
      }

  pub row_refused : {x : Refusal} → NoHead s.source at sh x → Does one_tree s s (Err x) reader
  row_refused g =
      does_refuse
      (b.is
      ∙ row_stop s.source.names.now s.source.pool.now s.source.capacities (below (context_in s.source)) t (s.state.rows + 1) s.state.spans b.plain g)

  -- nothing follows the head
  pub does_leaf : {r : Decoder} {u : Unit {0}} {h : Head} {next : ℕ} → HeadRead s.source at sh h next → StoresRow s r (t ∷ four_words h) next → h.count ≡ 0 →
      Does one_tree s r (Ok u) reader
  unfolding pure
  does_leaf {r} g stored n = does_row g stored (rw n (does_as (nothing_follows _ _ sh _) (does_none r)))

---- a closure's row is stored once its template stands after it

-- the row before it is stored first
row_first :
    (a b c : List ℕ) (i : ℕ) (row ws : List ℕ) → length row ≡ row_width → b ≡ put a (row_width * (i + 1)) ws → c ≡ put b (row_width * i) row →
    c ≡ put (put a (row_width * i) row) (row_width * (i + 1)) ws
row_first a b c i row ws l w v =
    let z : row_width * (i + 1) ≡ row_width * i + length row = omega arith in
    rw z (v ∙ ap (λ (x : List ℕ). put x (row_width * i) row) (rw z at w) ∙ put_under a (row_width * i) row ws ∙ sym (put_put a (row_width * i) row ws))

-- a node whose first tree is f
module _ (f : Node Part) where
  first_is_f : {y : reader.Result (Trees Part)} {us : Trees Part} {z : reader.State} → and_then y (λ ts. pure (cons f ts)) ≡ ok us z →
      (ts : Trees Part) × ((cons f ts ≡ us) × (y ≡ ok ts z))
  unfolding and_then pure
  first_is_f {y = ok ts s} e = (ts, (cc, cc))
  first_is_f {y = refused n q} e = absurd (not_ok n q _ _ e)

  node_with_f : (t : ℕ) (is : List (Item Part)) (y : reader.Result (Trees Part)) →
      and_then y (λ ts. pure (node_of t is (cons f ts))) ≡ and_then (and_then y (λ ts. pure (cons f ts))) (λ us. pure (node_of t is us))
  unfolding and_then pure
  node_with_f t is (ok ts s) = refl
  node_with_f t is (refused n q) = refl

did_closure :
    {capacities : Capacities} {p : List ℕ} {a b c e a' b' e' : List ℕ} {i j : ℕ} {mid : State} {r : Step} {f : Node Part} {x : reader.Result (Node Part)}
    {y : reader.Result (Trees Part)} (t : ℕ) (is : List (Item Part)) (row : List ℕ) → Ran one_tree capacities p a b a' b' (i + 1) j mid f x →
    c ≡ put b (row_width * i) row → length row ≡ row_width → items_spans is ≡ [] →
    ((ts : Trees Part) (z : reader.State) → y ≡ ok ts z → (row_words t is (root_count (cons f ts)) ≡ row) × RowTold t is (root_count (cons f ts))) →
    Did many_trees capacities p c e b' e' mid.rows mid.spans r y →
    Did one_tree capacities p a e a' e' i j r (and_then y (λ ts. pure (node_of t is (cons f ts))))
unfolding span_words
did_closure {capacities} {p} {a} {b} {c} {a' = a'} {b'} {i = i} {j} {mid} {f = f} {x} {y} t is row g w n ns h d =
    let over : Ran one_tree capacities p (put a (row_width * i) row) c a' b' (i + 1) j mid f x = record {
      is = g.is;
      wrote = row_first a b c i row (row_table (single f)) n g.wrote w;
      size = g.size;
      filled = g.filled;
      spanned = g.spanned;
      used = g.used;
      covered = g.covered;
      place = g.place;
      told = g.told;
    } in
    did_same (node_with_f f t is y)
    (did_node t is row [] refl n (sym (put_none a' (2 * j))) (omega arith) (ap span_words (sym ns))
    (λ us z q. let k = first_is_f f q in rw (← k.1.0) (h k.0 z k.1.1)) (did_front over d))

-- a tree's words begin with its tag
pub some_words : (t : Node Part) → 0 < length (row_table (single t))
unfolding row_table single row_words
some_words t = omega arith

pub first_tag : (a b : List ℕ) (i : ℕ) (t : Node Part) → b ≡ put a i (row_table (single t)) → i < length a → get_or b i 0 ≡ t.tag
unfolding row_table single row_words
first_tag a b i t w h = ap (λ (l : List ℕ). get_or l i 0) w ∙ get_or_put_first a i _ _ 0 h

pub template_refused : (s : Decoder) {m : Decoder} (rv : Context → Reader (Node Part)) → loan_of m ≡ loan_of s → {x : Refusal} →
    rv (context_in s.source) (state_at s.source.payload.now s.state.at (s.state.rows + 1) s.state.spans) ≡ refused (number x.reason) x.place →
    Does one_tree s m (Err x) (λ e. closure_row e (rv e))
unfolding shape shapes when◌then◌else◌
template_refused s rv same q = record { same = same; did = record { out = template_stop (context_in s.source) (rv (context_in s.source)) 18 _ _ q } }

module _ (s m : Decoder) (rv : Context → Reader (Node Part)) (same : loan_of m ≡ loan_of s) {f : Node Part}
    (g : Ran one_tree s.source.capacities s.source.payload.now s.rows.now m.rows.now s.spans.now m.spans.now (s.state.rows + 1) s.state.spans m.state f
    (rv (context_in s.source) (state_at s.source.payload.now s.state.at (s.state.rows + 1) s.state.spans))) where
  -- the template's tag stands in the row after the closure's
  template_row_at : row_width * (s.state.rows + 1) < length s.rows.now
  template_row_at = omega (arith, g.size, g.used, some_words f, s.fits.room)

  template_tag : get_or m.rows.now (row_width * (s.state.rows + 1)) 0 ≡ f.tag
  template_tag = first_tag s.rows.now m.rows.now (row_width * (s.state.rows + 1)) f g.wrote template_row_at

  pub template_other : (get_or m.rows.now (row_width * (s.state.rows + 1)) 0 ≡ 7 → ⊥) →
      Does one_tree s m (Err (record { reason = TemplateNotFunction; place = s.state.at })) (λ e. closure_row e (rv e))
  unfolding shape shapes when◌then◌else◌
  template_other h = record {
    same = same;
    did = record { out = template_not (context_in s.source) (rv (context_in s.source)) 18 _ _ g.is (λ q. h (template_tag ∙ q)) };
  }

  module _ (seven : get_or m.rows.now (row_width * (s.state.rows + 1)) 0 ≡ 7) where
    pub captures_refused : {x : Refusal} → NoHead s.source m.state.at (shape_of Closure) x → Does one_tree s m (Err x) (λ e. closure_row e (rv e))
    unfolding shape shapes when◌then◌else◌ shape_of
    captures_refused h = record {
      same = same;
      did = record {
        out = template_row_stop s.source.names.now s.source.pool.now s.source.capacities (rv (context_in s.source)) 18 m.state.rows m.state.spans _ _ g.is
            (sym template_tag ∙ seven) h;
      };
    }

    pub does_closure : {z : Decoder} {x : Result (Unit {0}) Refusal} {h : Head} {next : ℕ} {rows : List ℕ} → HeadRead s.source m.state.at (shape_of Closure) h next →
        rows ≡ put m.rows.now (row_width * s.state.rows) (18 ∷ four_words h) → loan_of z ≡ loan_of s →
        Did many_trees s.source.capacities s.source.payload.now rows z.rows.now m.spans.now z.spans.now m.state.rows m.state.spans (step x z.state)
        (read_many h.count (rv (context_in s.source)) (state_of s.source.payload.now (at_place next m.state))) →
        Does one_tree s z x (λ e. closure_row e (rv e))
    unfolding shape shapes when◌then◌else◌ shape_of read_following and_then ◌>>=◌
    does_closure {h = h} k written kept d = record {
      same = kept;
      did = did_same
          (template_row s.source.names.now s.source.pool.now s.source.capacities (rv (context_in s.source)) 18 m.state.rows m.state.spans _ _ g.is
          (sym template_tag ∙ seven) k.is)
          (did_closure 18 k.items (18 ∷ four_words h) g written refl k.head.no_spans
          (λ ts y q. row_told 18 refl k.head _ (template_count (context_in s.source) (rv (context_in s.source)) _ h.count _ f ts y q)) d);
    }

---- a chunk row: its code and spans, its count, its words, its constants

chunk_spans : (p : List ℕ) (x : Extent) (ss : List Span) → span_words ss ≡ span_words (items_spans (code (part_in p x) ss ∷ []))
unfolding items_spans
chunk_spans p x ss = ap span_words (sym (append-nil ss))

shape_chunk : shape 32 ≡ with_kids (ItemKind.code ∷ []) values
unfolding shape when◌then◌else◌
shape_chunk = refl

chunk_words :
    (p : List ℕ) (x : Extent) (ss : List Span) (m : ℕ) → x.offset + x.length ≤ length p →
    head_words (with_kids (ItemKind.code ∷ []) values) (code (part_in p x) ss ∷ []) m ≡ x.offset ∷ x.length ∷ m ∷ 0 ∷ []
unfolding head_words rows_under items_words item_words part_words count_words kids_count_words unused_words kinds_width kind_width kinds_of
chunk_words p x ss m h = let l : length (take x.length (drop x.offset p)) ≡ x.length = simp (length-take, length-drop) (omega arith) in rw l

chunk_told : (o n m : ℕ) → count_in (with_kids (ItemKind.code ∷ []) values) (o ∷ n ∷ m ∷ 0 ∷ []) ≡ m
unfolding count_in kinds_width kind_width
chunk_told o n m = refl

chunk_row_told : (p : List ℕ) (x : Extent) (ss : List Span) (n : ℕ) → x.offset + x.length ≤ length p → (m : ℕ) → m ≡ n →
    (row_words 32 (code (part_in p x) ss ∷ []) m ≡ 32 ∷ x.offset ∷ x.length ∷ n ∷ 0 ∷ []) × RowTold 32 (code (part_in p x) ss ∷ []) m
unfolding row_words head_words rows_under
chunk_row_told p x ss n h m e =
    let ws : row_words 32 (code (part_in p x) ss ∷ []) m ≡ 32 ∷ x.offset ∷ x.length ∷ n ∷ 0 ∷ [] = rw (shape_chunk, e) (ap (λ (l : List ℕ). 32 ∷ l) (chunk_words p x ss n h)) in
    (ws, record { a = x.offset; b = x.length; c = n; d = 0; words = ws; told = rw (shape_chunk, chunk_told x.offset x.length n) (sym e) })

module _ (s : Decoder) (rv : Context → Reader (Node Part)) (room : s.state.rows < s.source.capacities.rows) where
  its_row : reading_at s (λ e. read_chunk_row e (rv e))
      ≡ read_shape (context_in s.source) (rv (context_in s.source)) 32 (with_kids (ItemKind.code ∷ []) values)
      (state_at s.source.payload.now s.state.at (s.state.rows + 1) s.state.spans)
  its_row = row_room s rv 32 (ItemKind.code ∷ []) values room

  pub code_refused : {r : Decoder} {x : Refusal} → loan_of r ≡ loan_of s →
      ((rows : ℕ) → read_code s.source.capacities.spans (state_at s.source.payload.now s.state.at rows s.state.spans) ≡ refused (number x.reason) x.place) →
      Does one_tree s r (Err x) (λ e. read_chunk_row e (rv e))
  unfolding read_shape read_items read_item ◌>>=◌ and_then context_of
  code_refused same q = record { same = same; did = record { out = rw (its_row, q (s.state.rows + 1)) } }

  module _ {code : Extent} {mid : ℕ} {spans : List ℕ}
      (g : Accepted s.source.payload.now s.spans.now spans s.state.spans s.source.capacities.spans s.state.at code mid) where
    pub count_refused : {r : Decoder} {x : Refusal} → loan_of r ≡ loan_of s → Reads s.source.payload.now mid varint (stopped (number x.reason) x.place) →
        Does one_tree s r (Err x) (λ e. read_chunk_row e (rv e))
    unfolding read_shape read_items read_item read_kids ◌>>=◌ and_then pure context_of
    count_refused same k = record {
      same = same;
      did = record { out = rw (its_row, g.is (s.state.rows + 1), k.is (s.state.rows + 1) (s.state.spans + code.length)) };
    }

    pub does_chunk : {z : Decoder} {x : Result (Unit {0}) Refusal} {n next : ℕ} {rows spans' : List ℕ} {after : State} →
        Reads s.source.payload.now mid varint (read n next) → RowStored s.rows.now rows (32 ∷ code.offset ∷ code.length ∷ n ∷ 0 ∷ []) s.state next after →
        spans' ≡ spans → loan_of z ≡ loan_of s →
        Did many_trees s.source.capacities s.source.payload.now rows z.rows.now spans' z.spans.now after.rows (after.spans + code.length) (step x z.state)
        (read_many n (rv (context_in s.source)) (state_of s.source.payload.now (after_spans code.length after))) →
        Does one_tree s z x (λ e. read_chunk_row e (rv e))
    unfolding read_shape read_items read_item read_kids ◌>>=◌ and_then pure context_of
    does_chunk {n = n} k stored kept same d = record {
      same = same;
      did = rw (its_row, g.is (s.state.rows + 1), k.is (s.state.rows + 1) (s.state.spans + code.length))
          (did_node 32 (trees.code (part_in s.source.payload.now code) g.spans ∷ []) (32 ∷ code.offset ∷ code.length ∷ n ∷ 0 ∷ []) (span_words g.spans) stored.words refl
          (kept ∙ g.stored) (omega (arith, g.each, length_span_words_lem g.spans)) (chunk_spans s.source.payload.now code g.spans)
          (λ ts y q. chunk_row_told s.source.payload.now code g.spans n g.code_inside (root_count ts) (many_count (rv (context_in s.source)) n _ ts y q))
          (rw stored.after at d));
    }
