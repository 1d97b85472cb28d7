-- Every gathered string of a program that was read is an entry of the pool that was read.
use Rattle.std.specs.Prelude.{Bool, true, ◌≡◌, eqb, leb, ltb, pos, get_or, length}
use Rattle.std.proofs.Math.Bool.{false}
use mathlib.Core.List.{List, [], ◌++◌, ◌∷◌}
use Rattle.std.proofs.Math.Option.{Option, none, some}
use Rattle.std.proofs.Math.Path.{refl}
use Rattle.std.proofs.Common.{subst}
use Prim.Native.Nat.{◌<◌, ◌^◌, suc, zero, ℕ}
use borrow.Author.Tests.{ltb-true}
use Rattle.payload.proofs.Laws.Keeps.{invert, not_ok}
use Rattle.payload.specs.Numbers.{cut_to, read_number, varint}
use Rattle.payload.specs.Reader.{Part, Reader, State, ◌>>=◌, ◌>>◌, byte, here, must, new_row, ok, pure}
use Rattle.payload.specs.Reading.{Context, Payload, node_key, read_chunk, read_flagged, read_item, read_items, read_keys, read_kids, read_line_index, read_many}
use Rattle.payload.specs.Reading.{read_one, read_pairs, read_payload, read_pool, read_pool_index, read_shape, read_starts, read_untagged, read_value, test_key}
use Rattle.payload.specs.declared.Capacities.{Capacities}
use Rattle.payload.specs.Shapes.{ItemKind, Kids, Shape, keys, no_value, one_value, pairs, shape, values, with_chunk, with_fields, with_kids, with_template}
use Rattle.payload.specs.Spans.{read_code}
use Rattle.payload.specs.Trees.{Item, LineIndex, Node, Trees, code, cons, native_name, nil, node_of, number, record_name, single, string}
use Rattle.payload.specs.Writing.{gathered, item_strings, items_strings, line_strings, trees_strings}

---- entries

abbrev pub no_part : Part
no_part = record { offset = 0; bytes = [] }

-- a part that is an entry of a pool
pub record Entry (pool : List Part) (x : Part) : Type 0 where
  pub index : ℕ
  pub below : index < length pool
  pub is_entry : x ≡ get_or pool index no_part

unfoldable pub Entries : List Part → List Part → Type 0
Entries pool [] = Unit {0}
Entries pool (x ∷ xs) = Entry pool x × Entries pool xs

pub entries_append : (pool xs ys : List Part) → Entries pool xs → Entries pool ys → Entries pool (xs ++ ys)
unfolding Entries
entries_append pool [] ys h k = k
entries_append pool (x ∷ xs) ys h k = (h.0, entries_append pool xs ys h.1 k)

---- the calculus: every value that a reader gives has P

record Yields {A : Type 0} (r : Reader A) (P : A → Type 0) : Type 0 where
  run : (s : State) (a : A) (s' : State) → r s ≡ ok a s' → P a

yields_pure : {A : Type 0} (a : A) (P : A → Type 0) → P a → Yields (pure a) P
unfolding pure
yields_pure a P h = record { run = λ s b s' e. let q : a ≡ b = cc in subst P q h }

yields_bind : {A B : Type 0} {r : Reader A} {f : A → Reader B} {P : A → Type 0} {Q : B → Type 0} → Yields r P → ((a : A) → P a → Yields (f a) Q) → Yields (r >>= f) Q
unfolding ◌>>=◌
yields_bind {r} {f} g h = record { run = λ s b s'' e. let x = invert (r s) f b s'' e in (h x.0 (g.run s x.0 x.1 x.2)).run x.1 b s'' x.3 }

-- a step of whose value nothing is said
yields_after : {A B : Type 0} (r : Reader A) {f : A → Reader B} {Q : B → Type 0} → ((a : A) → Yields (f a) Q) → Yields (r >>= f) Q
yields_after r {f} h = yields_bind {r = r} {f = f} {P = λ a. Unit {0}} (record { run = λ s a s' e. tt }) (λ a u. h a)

yields_then : {A B : Type 0} (r : Reader A) {r' : Reader B} {Q : B → Type 0} → Yields r' Q → Yields (r >> r') Q
unfolding ◌>>◌
yields_then r {r'} g = record { run = λ s b s'' e. let x = invert (r s) (λ a. r') b s'' e in g.run x.1 b s'' x.3 }

yields_check : {B : Type 0} (b : Bool) (n q : ℕ) {r : Reader B} {Q : B → Type 0} → (b ≡ true → Yields r Q) → Yields (must b n q >> r) Q
unfolding ◌>>◌ must
yields_check true n q {r} h = yields_then (must true n q) (h refl)
yields_check false n q {r} h = record { run = λ s b s' e. let x = invert (must false n q s) (λ a. r) b s' e in not_ok n q x.0 x.1 x.2 }

---- values

module _ (x : Context) where
  abbrev From : List Part → Type 0
  From xs = Entries x.pool xs

  abbrev ItemFrom : Item Part → Type 0
  ItemFrom i = From (item_strings i)

  abbrev ItemsFrom : List (Item Part) → Type 0
  ItemsFrom is = From (items_strings is)

  abbrev TreesFrom : Trees Part → Type 0
  TreesFrom ts = From (trees_strings ts)

  abbrev NodeFrom : Node Part → Type 0
  NodeFrom t = ItemsFrom t.items × TreesFrom t.kids

  none_from : From []
  unfolding Entries
  none_from = tt

  one_from : (b : Part) → Entry x.pool b → From (b ∷ [])
  unfolding Entries
  one_from b h = (h, tt)

  node_from : (t : ℕ) (is : List (Item Part)) (ts : Trees Part) → ItemsFrom is → TreesFrom ts → NodeFrom (node_of t is ts)
  unfolding node_of
  node_from t is ts h k = (h, k)

  nil_from : TreesFrom nil
  unfolding trees_strings
  nil_from = none_from

  cons_from : (t : Node Part) (ts : Trees Part) → NodeFrom t → TreesFrom ts → TreesFrom (cons t ts)
  unfolding cons trees_strings
  cons_from t ts h k = entries_append x.pool _ _ h.0 (entries_append x.pool _ _ h.1 k)

  yields_index : Yields (read_pool_index x) (Entry x.pool)
  unfolding read_pool_index
  yields_index = yields_after here (λ p. yields_after (cut_to (2 ^ 32)) (λ i. yields_check (ltb i (length x.pool)) 4 p (λ e.
      yields_pure _ (Entry x.pool) (record { index = i; below = ltb-true _ _ e; is_entry = refl }))))

  yields_item : (k : ItemKind) → Yields (read_item x k) ItemFrom
  unfolding read_item item_strings
  yields_item (ItemKind.number k) = yields_after (read_number k) (λ w. yields_pure (number k w) ItemFrom none_from)
  yields_item ItemKind.string = yields_bind yields_index (λ b h. yields_pure (string b) ItemFrom (one_from b h))
  yields_item ItemKind.native_name = yields_after here (λ p. yields_bind yields_index (λ b h. yields_check _ 14 p (λ e. yields_pure (native_name b) ItemFrom (one_from b h))))
  yields_item ItemKind.record_name = yields_bind yields_index (λ b h. yields_pure (record_name b) ItemFrom none_from)
  yields_item ItemKind.code = yields_after (read_code x.capacities.spans) (λ c. yields_pure (code c.part c.spans) ItemFrom none_from)

  yields_items : (ks : List ItemKind) → Yields (read_items x ks) ItemsFrom
  unfolding read_items items_strings
  yields_items [] = yields_pure [] ItemsFrom none_from
  yields_items (k ∷ ks) = yields_bind (yields_item k) (λ i h. yields_bind (yields_items ks) (λ is g. yields_pure (i ∷ is) ItemsFrom (entries_append x.pool (item_strings i) _ h g)))

  module _ {r : Reader (Node Part)} (g : Yields r NodeFrom) where
    yields_many : (n : ℕ) → Yields (read_many n r) TreesFrom
    unfolding read_many
    yields_many zero = yields_pure nil TreesFrom nil_from
    yields_many (suc n) = yields_bind g (λ t h. yields_bind (yields_many n) (λ ts k. yields_pure (cons t ts) TreesFrom (cons_from t ts h k)))

    yields_keys : (n : ℕ) (seen : List (List ℕ)) → Yields (read_keys n seen r) TreesFrom
    unfolding read_keys
    yields_keys zero seen = yields_pure nil TreesFrom nil_from
    yields_keys (suc n) seen = yields_after here (λ p. yields_bind g (λ t h. yields_then (test_key p seen t) (yields_bind (yields_keys n (node_key t ∷ seen)) (λ ts k. yields_pure (cons t ts) TreesFrom (cons_from t ts h k)))))

    yields_pairs : (n : ℕ) (seen : List (List ℕ)) → Yields (read_pairs n seen r) TreesFrom
    unfolding read_pairs
    yields_pairs zero seen = yields_pure nil TreesFrom nil_from
    yields_pairs (suc n) seen = yields_after here (λ p. yields_bind g (λ t h. yields_bind g (λ v l. yields_then (test_key p seen t) (yields_bind (yields_pairs n (node_key t ∷ seen)) (λ ts k.
        yields_pure (cons t (cons v ts)) TreesFrom (cons_from t (cons v ts) h (cons_from v ts l k)))))))

    yields_one : Yields (read_one r) TreesFrom
    unfolding read_one
    yields_one = yields_bind g (λ t h. yields_pure (cons t nil) TreesFrom (cons_from t nil h nil_from))

    yields_kids : (kk : Kids) → Yields (read_kids r kk) TreesFrom
    unfolding read_kids
    yields_kids no_value = yields_pure nil TreesFrom nil_from
    yields_kids one_value = yields_one
    yields_kids values = yields_after varint (λ n. yields_many n)
    yields_kids keys = yields_after varint (λ n. yields_keys n [])
    yields_kids pairs = yields_after varint (λ n. yields_pairs n [])

    yields_untagged : (t : ℕ) (ks : List ItemKind) (kk : Kids) → Yields (read_untagged x r t ks kk) NodeFrom
    unfolding read_untagged
    yields_untagged t ks kk = yields_then (new_row x.capacities.rows) (yields_bind (yields_items ks) (λ is h. yields_bind (yields_kids kk) (λ ts k. yields_pure (node_of t is ts) NodeFrom (node_from t is ts h k))))

  module _ {r : Reader (Node Part)} (g : Yields r NodeFrom) where
    yields_shape : (t : ℕ) (sh : Shape) → Yields (read_shape x r t sh) NodeFrom
    unfolding read_shape
    yields_shape t (with_kids ks kk) = yields_bind (yields_items ks) (λ is h. yields_bind (yields_kids g kk) (λ ts k. yields_pure (node_of t is ts) NodeFrom (node_from t is ts h k)))
    yields_shape t (with_chunk ks) = yields_bind (yields_items ks) (λ is h. yields_bind (yields_one (yields_untagged g 32 (ItemKind.code ∷ []) values)) (λ ts k. yields_pure (node_of t is ts) NodeFrom (node_from t is ts h k)))
    yields_shape t (with_fields ks) =
        yields_bind (yields_items ks) (λ is h. yields_after varint (λ n. yields_bind (yields_many (yields_untagged g 33 (ItemKind.string ∷ []) one_value) n) (λ ts k. yields_pure (node_of t is ts) NodeFrom (node_from t is ts h k))))
    yields_shape t (with_template ks) = yields_after here (λ p. yields_bind g (λ f l. yields_check (eqb f.tag 7) 11 p (λ e. yields_bind (yields_items ks) (λ is h. yields_after varint (λ n. yields_bind (yields_many g n) (λ ts k.
        yields_pure (node_of t is (cons f ts)) NodeFrom (node_from t is (cons f ts) h (cons_from f ts l k))))))))

  yields_value : (d : ℕ) → Yields (read_value x d) NodeFrom
  unfolding read_value
  yields_value zero = yields_after here (λ p. yields_after byte (λ t. yields_check (leb t 26) 5 p (λ e. yields_check false 15 p (λ f. yields_pure (node_of t [] nil) NodeFrom (node_from t [] nil none_items nil_from)))))
    where
      none_items : ItemsFrom []
      none_items = unfold items_strings in none_from
  yields_value (suc d) = yields_after here (λ p. yields_after byte (λ t. yields_check (leb t 26) 5 p (λ e. yields_then (new_row x.capacities.rows) (yields_shape (yields_value d) t (shape t)))))

  yields_chunk : Yields (read_chunk x) NodeFrom
  unfolding read_chunk
  yields_chunk = yields_untagged (yields_value 32) 32 (ItemKind.code ∷ []) values

  abbrev LineFrom : Option (LineIndex Part) → Type 0
  LineFrom line = From (line_strings line)

  yields_flagged : (f : ℕ) → Yields (read_flagged x f) LineFrom
  unfolding read_flagged line_strings
  yields_flagged zero = yields_pure none LineFrom none_from
  yields_flagged (suc f) = yields_bind yields_index (λ b h. yields_after varint (λ n. yields_after (read_starts x.capacities.starts n 0 (pos 0)) (λ ss.
      yields_pure (some (record { name = b; starts = ss })) LineFrom (one_from b h))))

  yields_line : Yields (read_line_index x) LineFrom
  unfolding read_line_index
  yields_line = yields_after here (λ p. yields_after byte (λ f. yields_check (leb f 1) 13 p (λ e. yields_flagged f)))

---- the whole payload

abbrev ScriptFrom : Payload → Type 0
ScriptFrom u = Entries u.pool (gathered u.script)

script_from_lem : (c : Capacities) (listed : List ℕ → Bool) (pool : List Part) (outer : Node Part) (line : Option (LineIndex Part)) → NodeFrom (record { capacities = c; pool = pool; listed = listed }) outer
    → Entries pool (line_strings line) → Entries pool (gathered (record { outer = outer; line = line }))
unfolding gathered single cons
script_from_lem c listed pool outer line h k = entries_append pool _ _ (cons_from (record { capacities = c; pool = pool; listed = listed }) outer nil h (nil_from (record { capacities = c; pool = pool; listed = listed }))) k

yields_payload : (c : Capacities) (listed : List ℕ → Bool) → Yields (read_payload c listed) ScriptFrom
unfolding read_payload
yields_payload c listed = yields_after (read_pool c.strings) (λ pool.
    let x : Context = record { capacities = c; pool = pool; listed = listed } in
    yields_bind (yields_chunk x) (λ outer h. yields_bind (yields_line x) (λ line k.
    yields_pure (record { pool = pool; script = record { outer = outer; line = line } }) ScriptFrom (script_from_lem c listed pool outer line h k))))

pub gathered_entries : (c : Capacities) (listed : List ℕ → Bool) (s : State) (u : Payload) (s' : State) → read_payload c listed s ≡ ok u s' → Entries u.pool (gathered u.script)
gathered_entries c listed s u s' e = (yields_payload c listed).run s u s' e
