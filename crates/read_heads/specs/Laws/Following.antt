-- A shape is read as its head and what follows it; a closure's head stands after its template.
use mathlib.Core.List.{List, [], ◌∷◌}
use Rattle.std.specs.Prelude.{◌≡◌, refl}
use Rattle.std.proofs.Common.{sym, ◌∙◌, arith}
use Rattle.std.proofs.Math.Path.{ap}
use Prim.Native.Nat.{ℕ, zero, suc, ◌*◌}
use borrow.Author.Tests.{eq-eqb, ne_eqb}
use Rattle.payload.proofs.Laws.Keeps.{invert}
use Rattle.payload.specs.Numbers.{varint}
use Rattle.payload.specs.Reader.{Part, Reader, Result, State, ◌>>=◌, ◌>>◌, and_then, here, must, ok, pure, refused}
use Rattle.payload.specs.Reading.{Context, node_key, read_items, read_keys, read_kids, read_many, read_one, read_pairs, read_shape, test_key}
use Rattle.payload.specs.declared.Capacities.{Capacities}
use Rattle.payload.specs.Rows.{root_count, row_words}
use Rattle.payload.specs.Shapes.{ItemKind, Shape, kinds_of, no_value, one_value, values, keys, pairs, shape, with_kids, with_chunk, with_fields, with_template}
use Rattle.payload.specs.Trees.{Item, Node, Trees, cons, nil, node_of}
use Rattle.row_layout.specs.Under.{rows_under}
use Rattle.cursor.specs.Reads.{Reads, read, state_at, stopped}
use Rattle.read_items.specs.Context.{context_of}
use Rattle.read_heads.specs.Heads.{Heading, heading, head_words, read_count, read_head, read_kids_count, HeadOf, four_words}
use Rattle.read_heads.specs.declared.Head.{Head}
use Rattle.read_heads.specs.Following.{read_chunk_row, read_field_row, read_following}

---- steps grouped anew

then_then : {A B C : Type 0} (m : Result A) (f : A → Reader B) (g : B → Reader C) → and_then (and_then m f) g ≡ and_then m (λ a. f a >>= g)
unfolding and_then ◌>>=◌
then_then (ok a s) f g = refl
then_then (refused n q) f g = refl

count_then : {B : Type 0} (m : Result ℕ) (is : List (Item Part)) (f : Heading → Reader B)
    → and_then (and_then m (λ n. pure (heading is n))) f ≡ and_then m (λ n. f (heading is n))
unfolding and_then pure
count_then (ok n s) is f = refl
count_then (refused n q) is f = refl

items_then : {B : Type 0} (m : Result (List (Item Part))) (g : List (Item Part) → Reader B) (count : Reader ℕ) (f : Heading → Reader B)
    → ((is : List (Item Part)) (s : State) → g is s ≡ and_then (count s) (λ n. f (heading is n)))
    → and_then m g ≡ and_then (and_then m (λ is. count >>= λ n. pure (heading is n))) f
unfolding and_then ◌>>=◌
items_then (ok is s) g count f h = h is s ∙ sym (count_then (count s) is f)
items_then (refused n q) g count f h = refl

module _ (e : Context) (r : Reader (Node Part)) (t : ℕ) where
  -- the rows after a head
  abbrev pub after : Shape → Heading → Reader (Node Part)
  after sh h = read_following e r sh h.count >>= λ ts. pure (node_of t h.items ts)

  pub shape_head : (sh : Shape) (s : State) → ((kinds : List ItemKind) → sh ≡ with_template kinds → ⊥) → read_shape e r t sh s ≡ and_then (read_head e sh s) (after sh)
  unfolding read_shape read_kids read_head read_count read_kids_count kinds_of read_following read_many read_one ◌>>=◌ and_then pure
  shape_head (with_kids kinds no_value) s h = items_then (read_items e kinds s) _ (pure 0) (after (with_kids kinds no_value)) (λ is z. refl)
  shape_head (with_kids kinds one_value) s h = items_then (read_items e kinds s) _ (pure 1) (after (with_kids kinds one_value)) (λ is z. refl)
  shape_head (with_kids kinds values) s h = items_then (read_items e kinds s) _ varint (after (with_kids kinds values)) (λ is z. then_then (varint z) _ _)
  shape_head (with_kids kinds keys) s h = items_then (read_items e kinds s) _ varint (after (with_kids kinds keys)) (λ is z. then_then (varint z) _ _)
  shape_head (with_kids kinds pairs) s h = items_then (read_items e kinds s) _ varint (after (with_kids kinds pairs)) (λ is z. then_then (varint z) _ _)
  shape_head (with_chunk kinds) s h = items_then (read_items e kinds s) _ (pure 1) (after (with_chunk kinds)) (λ is z. refl)
  shape_head (with_fields kinds) s h = items_then (read_items e kinds s) _ varint (after (with_fields kinds)) (λ is z. refl)
  shape_head (with_template kinds) s h = absurd (h kinds refl)

  ---- a closure

  module _ (kinds : List ItemKind) (s : State) where
    pub template_stop : {n q : ℕ} → r s ≡ refused n q → read_shape e r t (with_template kinds) s ≡ refused n q
    unfolding read_shape ◌>>=◌ ◌>>◌ and_then here
    template_stop h = rw h

    module _ {f : Node Part} {z : State} (is : r s ≡ ok f z) where
      pub template_not : (f.tag ≡ 7 → ⊥) → read_shape e r t (with_template kinds) s ≡ refused 11 s.place
      unfolding read_shape ◌>>=◌ ◌>>◌ and_then here must
      template_not h = rw (is, ne_eqb _ _ h)

      pub template_head : f.tag ≡ 7
          → read_shape e r t (with_template kinds) s ≡ and_then (read_head e (with_template kinds) z) (λ h. read_following e r (with_template kinds) h.count >>= λ ts. pure (node_of t h.items (cons f ts)))
      unfolding read_shape read_head read_count kinds_of read_following ◌>>=◌ ◌>>◌ and_then here must
      template_head h = rw (is, eq-eqb _ _ h) (items_then (read_items e kinds z) _ varint (λ h. read_following e r (with_template kinds) h.count >>= λ ts. pure (node_of t h.items (cons f ts))) (λ is z. refl))

---- how many rows stand right under a row

module _ (r : Reader (Node Part)) where
  pub many_count : (n : ℕ) (s : State) (ts : Trees Part) (z : State) → read_many n r s ≡ ok ts z → root_count ts ≡ n
  unfolding read_many ◌>>=◌ pure root_count cons
  many_count zero s ts z q = let w : nil ≡ ts = cc in rw (← w)
  many_count (suc n) s ts z q =
      let a = invert (r s) _ ts z q in
      let b = invert (read_many n r a.1) _ ts z a.3 in
      let w : cons a.0 b.0 ≡ ts = cc in rw (← w) (ap suc (many_count n a.1 b.0 b.1 b.2))

  pub keys_count : (n : ℕ) (seen : List (List ℕ)) (s : State) (ts : Trees Part) (z : State) → read_keys n seen r s ≡ ok ts z → root_count ts ≡ n
  unfolding read_keys ◌>>=◌ ◌>>◌ pure here and_then root_count cons
  keys_count zero seen s ts z q = let w : nil ≡ ts = cc in rw (← w)
  keys_count (suc n) seen s ts z q =
      let a = invert (r s) _ ts z q in
      let b = invert (test_key s.place seen a.0 a.1) _ ts z a.3 in
      let d = invert (read_keys n (node_key a.0 ∷ seen) r b.1) _ ts z b.3 in
      let w : cons a.0 d.0 ≡ ts = cc in rw (← w) (ap suc (keys_count n (node_key a.0 ∷ seen) b.1 d.0 d.1 d.2))

  pub pairs_count : (n : ℕ) (seen : List (List ℕ)) (s : State) (ts : Trees Part) (z : State) → read_pairs n seen r s ≡ ok ts z → root_count ts ≡ 2 * n
  unfolding read_pairs ◌>>=◌ ◌>>◌ pure here and_then root_count cons
  pairs_count zero seen s ts z q = let w : nil ≡ ts = cc in rw (← w)
  pairs_count (suc n) seen s ts z q =
      let a = invert (r s) _ ts z q in
      let v = invert (r a.1) _ ts z a.3 in
      let b = invert (test_key s.place seen a.0 v.1) _ ts z v.3 in
      let d = invert (read_pairs n (node_key a.0 ∷ seen) r b.1) _ ts z b.3 in
      let w : cons a.0 (cons v.0 d.0) ≡ ts = cc in
      let k = pairs_count n (node_key a.0 ∷ seen) b.1 d.0 d.1 d.2 in rw (← w) (omega arith)

module _ (e : Context) (r : Reader (Node Part)) where
  pub following_count : (sh : Shape) (n : ℕ) (s : State) (ts : Trees Part) (z : State) → ((kinds : List ItemKind) → sh ≡ with_template kinds → ⊥)
      → read_following e r sh n s ≡ ok ts z → root_count ts ≡ rows_under sh n
  unfolding read_following rows_under
  following_count (with_kids kinds no_value) n s ts z h q = many_count r n s ts z q
  following_count (with_kids kinds one_value) n s ts z h q = many_count r n s ts z q
  following_count (with_kids kinds values) n s ts z h q = many_count r n s ts z q
  following_count (with_kids kinds keys) n s ts z h q = keys_count r n [] s ts z q
  following_count (with_kids kinds pairs) n s ts z h q = pairs_count r n [] s ts z q
  following_count (with_chunk kinds) n s ts z h q = many_count (read_chunk_row e r) n s ts z q
  following_count (with_fields kinds) n s ts z h q = many_count (read_field_row e r) n s ts z q
  following_count (with_template kinds) n s ts z h q = absurd (h kinds refl)

  -- with the template in front
  pub template_count : (kinds : List ItemKind) (n : ℕ) (s : State) (f : Node Part) (ts : Trees Part) (z : State)
      → read_following e r (with_template kinds) n s ≡ ok ts z → root_count (cons f ts) ≡ rows_under (with_template kinds) n
  unfolding read_following rows_under root_count cons
  template_count kinds n s f ts z q = ap suc (many_count r n s ts z q)

---- a head that was read

-- the row's words
pub row_words_lem : {sh : Shape} {items : List (Item Part)} {h : Head} (g : HeadOf sh items h) (t : ℕ) → shape t ≡ sh → (n : ℕ) → n ≡ rows_under sh h.count
    → row_words t items n ≡ t ∷ four_words h
unfolding row_words head_words
row_words_lem g t e n q = rw (e, q) (ap (λ (ws : List ℕ). t ∷ ws) g.words)

module _ {p : List ℕ} {at : ℕ} (names pool : List ℕ) (cs : Capacities) (r : Reader (Node Part)) (t rows spans : ℕ) where
  module _ {sh : Shape} (plain : (kinds : List ItemKind) → sh ≡ with_template kinds → ⊥) where
    pub row_shape : {items : List (Item Part)} {count next : ℕ} → Reads p at (read_head (context_of cs p names pool) sh) (read (heading items count) next)
        → read_shape (context_of cs p names pool) r t sh (state_at p at rows spans) ≡ after (context_of cs p names pool) r t sh (heading items count) (state_at p next rows spans)
    unfolding and_then
    row_shape g = shape_head (context_of cs p names pool) r t sh (state_at p at rows spans) plain ∙ rw (g.is rows spans)

    pub row_stop : {n q : ℕ} → Reads p at (read_head (context_of cs p names pool) sh) (stopped n q)
        → read_shape (context_of cs p names pool) r t sh (state_at p at rows spans) ≡ refused n q
    unfolding and_then
    row_stop g = shape_head (context_of cs p names pool) r t sh (state_at p at rows spans) plain ∙ rw (g.is rows spans)

  -- a closure whose template was read from s on
  module _ (kinds : List ItemKind) (s : State) {f : Node Part} (is : r s ≡ ok f (state_at p at rows spans)) (seven : f.tag ≡ 7) where
    pub template_row : {items : List (Item Part)} {count next : ℕ} → Reads p at (read_head (context_of cs p names pool) (with_template kinds)) (read (heading items count) next)
        → read_shape (context_of cs p names pool) r t (with_template kinds) s
        ≡ (read_following (context_of cs p names pool) r (with_template kinds) count >>= λ ts. pure (node_of t items (cons f ts))) (state_at p next rows spans)
    unfolding and_then
    template_row g = template_head (context_of cs p names pool) r t kinds s is seven ∙ rw (g.is rows spans)

    pub template_row_stop : {n q : ℕ} → Reads p at (read_head (context_of cs p names pool) (with_template kinds)) (stopped n q)
        → read_shape (context_of cs p names pool) r t (with_template kinds) s ≡ refused n q
    unfolding and_then
    template_row_stop g = template_head (context_of cs p names pool) r t kinds s is seven ∙ rw (g.is rows spans)
