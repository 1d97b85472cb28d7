-- What was written is read back: the reader takes exactly the writing of a sound script and gives that script.
use Rattle.std.specs.Prelude.{Bool, true, ◌≡◌, ◌+◌, ◌<◌, ◌^◌, ◌≤◌, suc, ℕ, ltb, pos}
use Rattle.std.proofs.Math.Bool.{false}
use mathlib.Core.List.{List, [], ◌++◌, ◌∷◌, append-nil, map}
use Rattle.std.proofs.Math.Option.{Option, none, some}
use Rattle.std.proofs.Common.{ap, ap₂}
use Rattle.std.proofs.Math.Path.{refl}
use Rattle.std.proofs.Math.Nat.{mod-eq_of_lt}
use native.Mathlib.Omega.{arith}
use Rattle.std.proofs.Math.ListN.{length, length-append}
use borrow.Author.Tests.{eq-eqb, lt-ltb, ltb-true}
use Rattle.slices.specs.Laws.Same.{same_refl}
use Rattle.slices.specs.Same.{same}
use Rattle.utf8.specs.Utf8.{is_utf8}
use Rattle.varint.specs.Laws.Uleb128.{uleb_some}
use Rattle.varint.specs.Uleb128.{uleb128}
use Rattle.payload.specs.Choice.{◌and◌, ◌or◌, when◌then◌else◌}
use Rattle.payload.specs.Demand3.{Fits, Listed, all_items, all_of, item_listed}
use Rattle.payload.specs.Laws.Gives.{Gives, gives_as, gives_at, gives_bind, gives_body, gives_byte, gives_check, gives_is, gives_pure}
use Rattle.payload.specs.Laws.Pool.{and_both, and_left, and_right, interned_in, is_in_append}
use Rattle.payload.proofs.Laws.RoundTrip.{gives_index, item_readable, reads_chunk, reads_value}
use Rattle.payload.specs.Laws.Rules.{Named, Small, SoundScript, item_gathered, item_sound, line_rule}
use Rattle.payload.proofs.Laws.Spans.{gives_position, word_back}
use Rattle.payload.specs.Laws.Varint.{gives_varint}
use Rattle.payload.specs.Pool.{interned, is_in}
use Rattle.payload.specs.Reader.{Part, ◌>>=◌, pure}
use Rattle.payload.specs.Reading.{Context, Payload, read_chunk, read_flagged, read_line_index, read_payload, read_pool, read_starts, read_string, read_strings, read_value}
use Rattle.payload.specs.declared.Capacities.{Capacities}
use Rattle.payload.specs.Sound.{all_starts}
use Rattle.payload.specs.Trees.{Item, LineIndex, Node, Script, Trees, code, forget_line, forget_node, forget_script, native_name, nil, node, node_of, number, record_name, single, size, span_count, start_count, string}
use Rattle.payload.specs.Write.{item_named}
use Rattle.payload.specs.Writing.{concat, gathered, item_strings, items_strings, line_strings, pool_of, trees_strings, write_line_index, write_starts, write_string, write_strings, write_trees, writing}

---- writing

---- reading

---- the pool is read back

all : (List ℕ → Bool) → List (List ℕ) → Bool
all f [] = true
all f (b ∷ bs) = f b and all f bs

short : List (List ℕ) → Bool
short l = all (λ b. ltb (length b) (2 ^ 64)) l

all_append : (f : List ℕ → Bool) (l m : List (List ℕ)) → all f l ≡ true → all f m ≡ true → all f (l ++ m) ≡ true
unfolding all
all_append f [] m p q = q
all_append f (x ∷ xs) m p q = and_both (and_left _ _ p) (all_append f xs m (and_right _ _ p) q)

module _ {c : Capacities} where
  gives_string : (b : List ℕ) → is_utf8 b ≡ true → length b < 2 ^ 64 → Gives c (read_string) (write_string b) 0 0 (λ a. a.bytes ≡ b)
  unfolding read_string write_string
  gives_string b u h = gives_is _ (gives_varint (length b) h) (gives_at (λ p. gives_as
      (gives_bind (gives_body b) (λ a z. gives_check _ 3 p _ (rw z u) (gives_pure a (λ a. a.bytes ≡ b) z))) (simp append-nil) refl refl))

  gives_strings : (cap : ℕ) (l : List (List ℕ)) (k : ℕ) → k + length l ≤ cap → all is_utf8 l ≡ true → short l ≡ true
      → Gives c (read_strings cap (length l) k) (write_strings l) 0 0 (λ a. map (λ (x : Part). x.bytes) a ≡ l)
  unfolding read_strings write_strings all short
  gives_strings cap [] k h u w = gives_pure [] (λ a. map (λ (x : Part). x.bytes) a ≡ []) refl
  gives_strings cap (b ∷ bs) k h u w = gives_at (λ p. gives_check _ 21 p _ (lt-ltb k cap (omega arith)) (gives_as
      (gives_bind (gives_string b (and_left _ _ u) (ltb-true _ _ (and_left _ _ w))) (λ a z.
      gives_bind (gives_strings cap bs (suc k) (omega arith) (and_right _ _ u) (and_right _ _ w)) (λ as' y.
      gives_pure _ (λ a. map (λ (x : Part). x.bytes) a ≡ b ∷ bs) (ap₂ ◌∷◌ z y)))) (simp append-nil) refl refl))

  gives_pool : (cap : ℕ) (l : List (List ℕ)) → length l ≤ cap → length l < 2 ^ 64 → all is_utf8 l ≡ true → short l ≡ true
      → Gives c (read_pool cap) (uleb128 (length l) ++ write_strings l) 0 0 (λ a. map (λ (x : Part). x.bytes) a ≡ l)
  unfolding read_pool
  gives_pool cap l h k u w = gives_is _ (gives_varint (length l) k) (gives_strings cap l 0 (omega arith) u w)

  gives_starts : (cap : ℕ) (ss : List ℕ) (k p : ℕ) → k + length ss ≤ cap → p < 2 ^ 32 → all_starts ss ≡ true
      → Gives c (read_starts cap (length ss) k (pos p)) (write_starts p ss) 0 0 (λ a. a ≡ ss)
  unfolding read_starts write_starts all_starts
  gives_starts cap [] k p h w u = gives_pure [] (λ a. a ≡ []) refl
  gives_starts cap (s ∷ ss) k p h w u = let hs : s < 2 ^ 32 = ltb-true _ _ (and_left _ _ u) in
      gives_at (λ q. gives_check _ 24 q _ (lt-ltb k cap (omega arith)) (gives_as
      (gives_is _ (gives_position p s (omega arith) (omega arith))
      (gives_is _ (gives_starts cap ss (suc k) s (omega arith) hs (and_right _ _ u))
      (gives_pure _ (λ a. a ≡ s ∷ ss) (rw (word_back s (omega arith), mod-eq_of_lt hs))))) (simp append-nil) refl refl))

---- rules

---- from the rules to what the reader asks

all_of_lem : (f g h : Item (List ℕ) → Bool) → ((i : Item (List ℕ)) → f i ≡ true → g i ≡ true → h i ≡ true) → (is : List (Item (List ℕ))) → all_of f is ≡ true → all_of g is ≡ true → all_of h is ≡ true
unfolding all_of
all_of_lem f g h w [] p q = refl
all_of_lem f g h w (i ∷ is) p q = and_both (w i (and_left _ _ p) (and_left _ _ q)) (all_of_lem f g h w is (and_right _ _ p) (and_right _ _ q))

pub all_items_lem : (f g h : Item (List ℕ) → Bool) → ((i : Item (List ℕ)) → f i ≡ true → g i ≡ true → h i ≡ true) → (ts : Trees (List ℕ)) → all_items f ts ≡ true → all_items g ts ≡ true → all_items h ts ≡ true
unfolding all_items
all_items_lem f g h w nil p q = refl
all_items_lem f g h w (node t is ks ts) p q = and_both (all_of_lem f g h w is (and_left _ _ p) (and_left _ _ q))
    (and_both (all_items_lem f g h w ks (and_left _ _ (and_right _ _ p)) (and_left _ _ (and_right _ _ q))) (all_items_lem f g h w ts (and_right _ _ (and_right _ _ p)) (and_right _ _ (and_right _ _ q))))

is_in_right : (x : List ℕ) (l m : List (List ℕ)) → is_in x m ≡ true → is_in x (l ++ m) ≡ true
unfolding is_in
is_in_right x [] m e = e
is_in_right x (y ∷ ys) m e = go (same x y) (is_in_right x ys m e)
  where
    go : (t : Bool) → is_in x (ys ++ m) ≡ true → (t or is_in x (ys ++ m)) ≡ true
    go true q = refl
    go false q = q

module _ (l : List (List ℕ)) where
  abbrev In : List (List ℕ) → Type 0
  In m = (b : List ℕ) → is_in b m ≡ true → is_in b l ≡ true

  in_left : (m n : List (List ℕ)) → In (m ++ n) → In m
  in_left m n f b h = f b (is_in_append b m n h)

  in_right : (m n : List (List ℕ)) → In (m ++ n) → In n
  in_right m n f b h = f b (is_in_right b m n h)

  in_item : (i : Item (List ℕ)) → In (item_strings i) → item_gathered l i ≡ true
  unfolding item_strings item_gathered is_in
  in_item (number k w) f = refl
  in_item (string b) f = f b (rw (same_refl b))
  in_item (native_name b) f = f b (rw (same_refl b))
  in_item (record_name b) f = refl
  in_item (code b ss) f = refl

  in_items : (is : List (Item (List ℕ))) → In (items_strings is) → all_of (item_gathered l) is ≡ true
  unfolding items_strings all_of
  in_items [] f = refl
  in_items (i ∷ is) f = and_both (in_item i (in_left (item_strings i) (items_strings is) f)) (in_items is (in_right (item_strings i) (items_strings is) f))

  in_trees : (ts : Trees (List ℕ)) → In (trees_strings ts) → all_items (item_gathered l) ts ≡ true
  unfolding trees_strings all_items
  in_trees nil f = refl
  in_trees (node t is ks ts) f = and_both (in_items is (in_left (items_strings is) (trees_strings ks ++ trees_strings ts) f))
      (and_both (in_trees ks (in_left (trees_strings ks) (trees_strings ts) (in_right (items_strings is) (trees_strings ks ++ trees_strings ts) f))) (in_trees ts (in_right (trees_strings ks)
      (trees_strings ts) (in_right (items_strings is) (trees_strings ks ++ trees_strings ts) f))))

-- the pool's strings are strings of the script
interned_all : (f : List ℕ → Bool) (xs l : List (List ℕ)) → all f l ≡ true → all f xs ≡ true → all f (interned l xs) ≡ true
unfolding interned all
interned_all f [] l p q = p
interned_all f (x ∷ xs) l p q = interned_all f xs (when◌then◌else◌ (is_in x l) l (l ++ (x ∷ []))) (go (is_in x l)) (and_right _ _ q)
  where
    go : (t : Bool) → all f (when◌then◌else◌ t l (l ++ (x ∷ []))) ≡ true
    go true = unfold when◌then◌else◌ in p
    go false = unfold when◌then◌else◌ in (all_append f l (x ∷ []) p (and_both (and_left _ _ q) refl))

utf8_item : (i : Item (List ℕ)) → item_sound i ≡ true → all is_utf8 (item_strings i) ≡ true
unfolding item_sound item_strings all
utf8_item (number k w) h = refl
utf8_item (string b) h = and_both h refl
utf8_item (native_name b) h = and_both h refl
utf8_item (record_name b) h = refl
utf8_item (code b ss) h = refl

utf8_items : (is : List (Item (List ℕ))) → all_of (item_sound) is ≡ true → all is_utf8 (items_strings is) ≡ true
unfolding items_strings all all_of
utf8_items [] h = refl
utf8_items (i ∷ is) h = all_append is_utf8 (item_strings i) (items_strings is) (utf8_item i (and_left _ _ h)) (utf8_items is (and_right _ _ h))

utf8_trees : (ts : Trees (List ℕ)) → all_items (item_sound) ts ≡ true → all is_utf8 (trees_strings ts) ≡ true
unfolding trees_strings all all_items
utf8_trees nil h = refl
utf8_trees (node t is ks ts) h = all_append is_utf8 (items_strings is) (trees_strings ks ++ trees_strings ts) (utf8_items is (and_left _ _ h))
    (all_append is_utf8 (trees_strings ks) (trees_strings ts) (utf8_trees ks (and_left _ _ (and_right _ _ h))) (utf8_trees ts (and_right _ _ (and_right _ _ h))))

utf8_line : (x : Option (LineIndex (List ℕ))) → line_rule x ≡ true → all is_utf8 (line_strings x) ≡ true
unfolding line_strings all line_rule
utf8_line none h = refl
utf8_line (some x) h = and_both (and_left _ _ h) refl

short_strings : (l : List (List ℕ)) → length (write_strings l) < 2 ^ 64 → short l ≡ true
unfolding short all write_strings write_string
short_strings [] h = refl
short_strings (b ∷ bs) h = let e : length ((uleb128 (length b) ++ b) ++ write_strings bs) ≡ length (uleb128 (length b)) + length b + length (write_strings bs) = simp length-append in
    and_both (lt-ltb (length b) (2 ^ 64) (omega arith)) (short_strings bs (omega arith))

pub few_strings : (l : List (List ℕ)) → length l ≤ length (write_strings l)
unfolding write_strings write_string
few_strings [] = omega arith
few_strings (b ∷ bs) = let e : length ((uleb128 (length b) ++ b) ++ write_strings bs) ≡ length (uleb128 (length b)) + length b + length (write_strings bs) = simp length-append in
    let f = few_strings bs in let g = uleb_some (length b) in omega arith

readable_of : (listed : List ℕ → Bool) (l : List (List ℕ)) (i : Item (List ℕ)) → item_sound i ≡ true → (item_named l i and item_listed listed i and item_gathered l i) ≡ true → item_readable listed l i ≡ true
unfolding item_sound item_named item_listed item_gathered item_readable ◌and◌
readable_of listed l (number k w) h g = h
readable_of listed l (string b) h g = g
readable_of listed l (native_name b) h g = and_both (and_right (listed b) (is_in b l) g) (and_left (listed b) (is_in b l) g)
readable_of listed l (record_name b) h g = and_left (is_in b l) true g
readable_of listed l (code b ss) h g = h

-- the reading of what was written
module _ (c : Capacities) (small : Small c) (listed : List ℕ → Bool) (s : Script (List ℕ)) (sound : SoundScript s) (named : Named s) (in_list : Listed listed s) (fits : Fits c s)
    (short-writing : length (writing s) < 2 ^ 64) where
  pool_short : length (write_strings (pool_of s)) < 2 ^ 64
  unfolding writing
  pool_short = let e : length (writing s) ≡ length (uleb128 (length (pool_of s))) + length (write_strings (pool_of s)) + (length (concat (write_trees (pool_of s) (single s.outer))) + length
      (write_line_index (pool_of s) s.line)) = simp length-append in
      omega arith

  pool_utf8 : all is_utf8 (pool_of s) ≡ true
  unfolding pool_of gathered all
  pool_utf8 = interned_all is_utf8 (gathered s) [] refl (all_append is_utf8 (trees_strings (single s.outer)) (line_strings s.line) (utf8_trees (single s.outer) sound.items_sound) (utf8_line s.line sound.line_sound_lem))

  in_pool : (b : List ℕ) → is_in b (gathered s) ≡ true → is_in b (pool_of s) ≡ true
  unfolding pool_of
  in_pool b h = interned_in b (gathered s) [] h

  tree_readable : all_items (item_readable listed (pool_of s)) (single s.outer) ≡ true
  unfolding Named Listed gathered
  tree_readable = all_items_lem (item_sound) (λ i. item_named (pool_of s) i and item_listed listed i and item_gathered (pool_of s) i) (item_readable listed (pool_of s)) (readable_of listed (pool_of s)) (single s.outer) sound.items_sound
      (all_items_lem (item_named (pool_of s)) (λ i. item_listed listed i and item_gathered (pool_of s) i) (λ i. item_named (pool_of s) i and item_listed listed i and item_gathered (pool_of s) i)
      (λ i p q. and_both p q) (single s.outer) named
      (all_items_lem (item_listed listed) (item_gathered (pool_of s)) (λ i. item_listed listed i and item_gathered (pool_of s) i) (λ i p q. and_both p q) (single s.outer) in_list
      (in_trees (pool_of s) (single s.outer) (in_left (pool_of s) (trees_strings (single s.outer)) (line_strings s.line) in_pool))))

  -- what the pool reader gives
  module _ (pool : List Part) (pool_is : map (λ (x : Part). x.bytes) pool ≡ pool_of s) where
    abbrev env : Context
    env = record { capacities = c; pool = pool; listed = listed }

    few : length (pool_of s) ≤ 2 ^ 32
    few = omega (arith, fits.fit_strings, small.small_strings)

    gives_outer : Gives c (read_chunk env) (concat (write_trees (pool_of s) (single s.outer))) (size (single s.outer)) (span_count (single s.outer)) (λ u. forget_node u ≡ s.outer)
    unfolding read_chunk write_trees concat single size span_count node_of
    gives_outer = gives_as (reads_chunk env (pool_of s) pool_is few small.small_rows small.small_spans_lem 32 (read_value env 32)
        (reads_value env (pool_of s) pool_is few small.small_rows small.small_spans_lem 32) s.outer.tag s.outer.items s.outer.kids
        (eq-eqb _ _ sound.outer_is_chunk) sound.obeys tree_readable) (simp append-nil) (omega arith) (omega arith)

    gives_line : (x : Option (LineIndex (List ℕ))) → line_rule x ≡ true → ((b : List ℕ) → is_in b (line_strings x) ≡ true → is_in b (pool_of s) ≡ true) → start_count x ≤ c.starts
        → Gives c (read_line_index env) (write_line_index (pool_of s) x) 0 0 (λ y. forget_line y ≡ x)
    unfolding read_line_index read_flagged write_line_index line_rule line_strings start_count is_in forget_line
    gives_line none r f h = gives_at (λ p. gives_is _ (gives_byte 0) (gives_check _ 13 p _ refl (gives_pure none (λ y. forget_line y ≡ none) refl)))
    gives_line (some x) r f h = gives_at (λ p. gives_is _ (gives_byte 1) (gives_check _ 13 p _ refl (gives_as
        (gives_bind (gives_index env (pool_of s) pool_is few small.small_rows small.small_spans_lem x.name (f x.name (rw (same_refl x.name)))) (λ a z.
        gives_is _ (gives_varint (length x.starts) (omega (arith, small.small_starts)))
        (gives_is _ (gives_starts c.starts x.starts 0 0 (omega arith) (omega arith) (and_right _ _ r))
        (gives_pure _ (λ y. forget_line y ≡ some x) (ap (λ (b : List ℕ). some (record { name = b; starts = x.starts })) z)))))
        (simp append-nil) refl refl)))

    gives_rest : Gives c {A = Payload} (read_chunk env >>= λ k. read_line_index env >>= λ x. pure (record { pool = pool; script = record { outer = k; line = x } })) (concat (write_trees (pool_of s) (single
        s.outer)) ++ write_line_index (pool_of s) s.line)
        (size (single s.outer)) (span_count (single s.outer)) (λ u. forget_script u.script ≡ s)
    unfolding forget_script gathered
    gives_rest = gives_as
        (gives_bind gives_outer (λ k z.
        gives_bind (gives_line s.line sound.line_sound_lem (in_right (pool_of s) (trees_strings (single s.outer)) (line_strings s.line) in_pool) fits.fit_starts) (λ x y.
        gives_pure _ (λ u. forget_script u.script ≡ s) (ap₂ (λ (n : Node (List ℕ)) (m : Option (LineIndex (List ℕ))). record { outer = n; line = m }) z y))))
        (simp append-nil) (omega arith) (omega arith)

  pub pool_back : Gives c (read_pool c.strings) (uleb128 (length (pool_of s)) ++ write_strings (pool_of s)) 0 0 (λ a. map (λ (x : Part). x.bytes) a ≡ pool_of s)
  pool_back = gives_pool c.strings (pool_of s) fits.fit_strings (omega (arith, fits.fit_strings, small.small_strings)) pool_utf8 (short_strings (pool_of s) pool_short)

  pub gives_payload : Gives c (read_payload c listed) (writing s) (size (single s.outer)) (span_count (single s.outer)) (λ u. forget_script u.script ≡ s)
  unfolding read_payload writing
  gives_payload = gives_as (gives_bind pool_back (λ pool z. gives_rest pool z)) refl (omega arith) (omega arith)
