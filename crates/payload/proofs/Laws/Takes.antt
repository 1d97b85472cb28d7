-- What an accepted scan has taken: exactly the rows of the trees that it gives, which obey the rules.
use Rattle.std.specs.Prelude.{Bool, ◌≡◌, eqb, leb, ltb}
use Rattle.std.proofs.Math.Bool.{false, true}
use mathlib.Core.List.{List, [], ◌++◌, ◌∷◌, append_assoc, append-nil}
use Rattle.std.proofs.Common.{◌∙◌, subst, sym, length-drop}
use Rattle.std.proofs.Math.Path.{ap, ap₂, refl}
use Prim.Native.Nat.{◌+◌, ◌/◌, pred, suc, zero, ℕ}
use native.Mathlib.Omega.{arith}
use Rattle.std.proofs.Math.ListN.{drop, length, replicate, take}
use Rattle.std.proofs.Math.Seq.{length-take-le}
use borrow.Author.Tests.{eq-eqb, eqb-true, leb-true, lt-ltb}
use Rattle.utf8.specs.Utf8.{is_utf8}
use Rattle.payload.specs.Choice.{◌and◌, when◌then◌else◌}
use Rattle.payload.specs.Demand3.{all_items, all_of}
use Rattle.payload.proofs.Laws.Keeps.{invert, not_ok}
use Rattle.payload.specs.Laws.Pool.{and_both, and_left, and_right, false≢true}
use Rattle.payload.specs.Laws.Rules.{all_tags, all_values, distinct_keys, distinct_pairs, is_tag, is_value_tag, kids_rule, obey_rules, roots, row_rule, same_kind, same_kinds}
use Rattle.payload.proofs.Laws.ScanWritten.{InItem, InItems, InStore, InTrees, count_roots}
use Rattle.payload.specs.Numbers.{NumberKind-discrete, fits_kind}
use Rattle.payload.specs.Reader.{Part, Reader, Result, State, ◌>>=◌, ◌>>◌, advanced, and_then, must, ok, pure, with_row}
use Rattle.payload.specs.Reading.{node_key, read_many}
use Rattle.payload.specs.Rows.{count_words, item_words, items_words, kids_count_words, part_words, root_count, row_table, row_words, unused_words}
use Rattle.payload.specs.Scan.{RowScan, Test, any_row, end_row, finish_row, first_word, is_function, new_key, next_word, row_must, scan_count, scan_item, scan_items, scan_keys, scan_kids}
use Rattle.payload.specs.Scan.{scan_outer, scan_pairs, scan_part, scan_shape, scan_string, scan_untagged, scan_value, scan_with_kids, zero_words}
use Rattle.payload.specs.Shapes.{ItemKind, ItemKind-discrete, Kids, Shape, keys, no_value, one_value, pairs, shape, values, with_chunk, with_fields, with_kids, with_template}
use Rattle.payload.specs.Trees.{Item, Node, Trees, code, cons, forget_item, forget_items, forget_trees, kind_of, native_name, nil, node_of, number, record_name, string}

pub record Took (s s' : State) (Q : List ℕ → Type 0) : Type 0 where
  pub ws : List ℕ
  pub split : s.rest ≡ ws ++ s'.rest
  pub holds : Q ws

pub record Takes {A : Type 0} (r : Reader A) (P : A → List ℕ → Type 0) : Type 0 where
  pub run : (s : State) (a : A) (s' : State) → r s ≡ ok a s' → Took s s' (P a)

took_cast : {A : Type 0} (P : A → List ℕ → Type 0) (s : State) (a b : A) (s₁ s' : State) → ◌≡◌ {A = Result A} (ok a s₁) (ok b s') → Took s s₁ (P a) → Took s s' (P b)
took_cast P s a b s₁ s' e w = let ea : a ≡ b = cc in let es : s₁ ≡ s' = cc in subst (λ z. Took s z (P b)) es (subst (λ x. Took s s₁ (P x)) ea w)

takes_so : {A : Type 0} {r : Reader A} {P : A → List ℕ → Type 0} (Q : A → List ℕ → Type 0) → ((a : A) (ws : List ℕ) → P a ws → Q a ws) → Takes r P → Takes r Q
takes_so Q f g = record { run = λ s a s' e. let w = g.run s a s' e in record { ws = w.ws; split = w.split; holds = f a w.ws w.holds } }

module _ {A B : Type 0} (r : Reader A) (f : A → Reader B) (P : A → List ℕ → Type 0) (Q : B → List ℕ → Type 0) (g : Takes r P) (h : (a : A) (ws : List ℕ) → P a ws → Takes (f a) (λ b vs. Q b (ws ++ vs))) where
  two : (s s' s'' : State) (b : B) (ws : List ℕ) → s.rest ≡ ws ++ s'.rest → Took s' s'' (λ vs. Q b (ws ++ vs)) → Took s s'' (Q b)
  two s s' s'' b ws e w = record { ws = ws ++ w.ws; split = e ∙ ap (λ (x : List ℕ). ws ++ x) w.split ∙ sym (append_assoc ws w.ws s''.rest); holds = w.holds }

  bind_one : (s : State) (b : B) (s'' : State) (a : A) (s' : State) → Took s s' (P a) → f a s' ≡ ok b s'' → Took s s'' (Q b)
  bind_one s b s'' a s' w e = two s s' s'' b w.ws w.split ((h a w.ws w.holds).run s' b s'' e)

  bind_all : (s : State) (b : B) (s'' : State) → ((a : A) × (s' : State) × (r s ≡ ok a s') × (f a s' ≡ ok b s'')) → Took s s'' (Q b)
  bind_all s b s'' w = bind_one s b s'' w.0 w.1 (g.run s w.0 w.1 w.2) w.3

takes_bind : {A B : Type 0} {r : Reader A} {f : A → Reader B} {P : A → List ℕ → Type 0} {Q : B → List ℕ → Type 0} → Takes r P → ((a : A) (ws : List ℕ) → P a ws → Takes (f a) (λ b vs. Q b (ws ++ vs)))
    → Takes (r >>= f) Q
unfolding ◌>>=◌
takes_bind {r} {f} {P} {Q} g h = record { run = λ s b s'' e. bind_all r f P Q g h s b s'' (invert (r s) f b s'' e) }

takes_pure : {A : Type 0} (a : A) (P : A → List ℕ → Type 0) → P a [] → Takes (pure a) P
unfolding pure
takes_pure a P h = record { run = λ s b s' e. took_cast P s a b s s' e (record { ws = []; split = refl; holds = h }) }

takes_word : Takes next_word (λ w ws. ws ≡ w ∷ [])
unfolding next_word
takes_word = record { run = λ s a s' e. go s a s' s.rest refl e }
  where
    go : (s : State) (a : ℕ) (s' : State) (r : List ℕ) → s.rest ≡ r → first_word r s ≡ ok a s' → Took s s' (λ ws. ws ≡ a ∷ [])
    go s a s' [] h e = unfold first_word in (not_ok 17 s.rows a s' e)
    go s a s' (x ∷ xs) h e = unfold first_word in (took_cast (λ w ws. ws ≡ w ∷ []) s x a (advanced 1 s) s' e (record { ws = x ∷ []; split = h ∙ ap (λ (l : List ℕ). x ∷ drop 1 l) (sym h); holds = refl }))

-- a rule, and then the rest
takes_row_check : {B : Type 0} (b : Bool) (r : Reader B) {Q : B → List ℕ → Type 0} → (b ≡ true → Takes r Q) → Takes (row_must b >> r) Q
unfolding row_must must ◌>>◌ and_then
takes_row_check true r h = record { run = λ s a s' e. (h refl).run s a s' e }
takes_row_check false r h = record { run = λ s a s' e. not_ok 17 s.rows a s' e }

takes_next : {B : Type 0} (r : Reader B) {Q : B → List ℕ → Type 0} → Takes r Q → Takes (end_row >> r) Q
unfolding end_row ◌>>◌ and_then
takes_next r h = record { run = λ s a s' e. let w = h.run (with_row s) a s' e in record { ws = w.ws; split = w.split; holds = w.holds } }

takes_then : {A B : Type 0} {r : Reader A} {r' : Reader B} {P : A → List ℕ → Type 0} {Q : B → List ℕ → Type 0} → Takes r P → ((a : A) (ws : List ℕ) → P a ws → Takes r' (λ b vs. Q b (ws ++ vs)))
    → Takes (r >> r') Q
unfolding ◌>>◌ ◌>>=◌
takes_then {r} {r'} {P} {Q} g h = takes_bind {r = r} {f = λ a. r'} {P = P} {Q = Q} g h

takes_zeros : (n : ℕ) → Takes (zero_words n) (λ u ws. ws ≡ replicate n 0)
unfolding zero_words
takes_zeros zero = takes_pure tt (λ u ws. ws ≡ []) refl
takes_zeros (suc n) = takes_bind takes_word (λ w ws e. takes_row_check _ _ (λ z. takes_so _ (λ u vs q. ap₂ ◌++◌ (e ∙ ap (λ (x : ℕ). x ∷ []) (eqb-true w 0 z)) q) (takes_zeros n)))

pub same_kind_self : (k : ItemKind) → same_kind k k ≡ true
unfolding same_kind
same_kind_self k = go (ItemKind-discrete NumberKind-discrete k k)
  where
    go : (d : Dec (k ≡ k)) → ◌≡◌ {A = Bool} (elim d [ yes p ↦ true | no q ↦ false ]) true
    go (yes p) = refl
    go (no q) = absurd (q refl)

-- the rules of trees with one or two more in front
pub put_tags : (h : ℕ → Bool) (u : Node Part) (ts : Trees Part) → h u.tag ≡ true → all_tags h (roots (forget_trees ts)) ≡ true → all_tags h (roots (forget_trees (cons u ts))) ≡ true
unfolding all_tags roots forget_trees cons
put_tags h u ts x y = and_both x y

pub put_keys : (seen : List (List ℕ)) (u : Node Part) (ts : Trees Part) → leb u.tag 26 ≡ true → new_key seen u.tag (forget_items u.items) ≡ true
    → (all_values (roots (forget_trees ts)) and distinct_keys (node_key u ∷ seen) (roots (forget_trees ts))) ≡ true
    → (all_values (roots (forget_trees (cons u ts))) and distinct_keys seen (roots (forget_trees (cons u ts)))) ≡ true
unfolding all_tags roots forget_trees cons distinct_keys node_key
put_keys seen u ts x y z = and_both (and_both x (and_left _ _ z)) (and_both (and_left _ _ y) (and_both (and_right _ _ y) (and_right _ _ z)))

pub put_pairs : (seen : List (List ℕ)) (u v : Node Part) (ts : Trees Part) → leb u.tag 26 ≡ true → new_key seen u.tag (forget_items u.items) ≡ true → leb v.tag 26 ≡ true
    → (all_values (roots (forget_trees ts)) and distinct_pairs (node_key u ∷ seen) (roots (forget_trees ts))) ≡ true
    → (all_values (roots (forget_trees (cons u (cons v ts)))) and distinct_pairs seen (roots (forget_trees (cons u (cons v ts))))) ≡ true
unfolding all_tags roots forget_trees cons distinct_pairs node_key
put_pairs seen u v ts x y w z = and_both (and_both x (and_both w (and_left _ _ z))) (and_both (and_left _ _ y) (and_both (and_right _ _ y) (and_right _ _ z)))

pub closure_rule : (kn : List ItemKind) (is : List (Item (List ℕ))) (f : Node Part) (ts : Trees Part) → same_kinds kn is ≡ true → eqb f.tag 7 ≡ true → all_values (roots (forget_trees ts)) ≡ true
    → row_rule (with_template kn) is (roots (forget_trees (cons f ts))) ≡ true
unfolding row_rule roots forget_trees cons
closure_rule kn is f ts a b e = and_both a (and_both b e)

put_count : (u : Node Part) (ts : Trees Part) (n : ℕ) → root_count ts ≡ n → root_count (cons u ts) ≡ suc n
unfolding root_count cons
put_count u ts n e = ap suc e

-- the rules on words that the row table shows: the spans are elsewhere
unfoldable pub item_row_sound : Item (List ℕ) → Bool
item_row_sound (number k w) = fits_kind k w
item_row_sound (string b) = is_utf8 b
item_row_sound (native_name b) = is_utf8 b
item_row_sound (record_name b) = is_utf8 b
item_row_sound (code b ss) = true

module _ (store : List ℕ) where
  takes_part : Takes (scan_part store) (λ l ws. (ws ≡ part_words l) × InStore store l)
  unfolding scan_part part_words
  takes_part = takes_bind takes_word (λ o ws e. takes_bind takes_word (λ n vs f. takes_row_check _ _ (λ z.
      let h = leb-true (o + n) (length store) z in
      let q : length (take n (drop o store)) ≡ n = length-take-le n (drop o store) (rw (length-drop o store) (omega arith)) in
      takes_pure _ (λ l us. ((ws ++ (vs ++ us)) ≡ part_words l) × InStore store l) (rw (e, f, q) refl, record { in_store = rw q h; its_bytes = ap (λ (x : ℕ). take x (drop o store)) q }))))

  takes_text : Takes (scan_string store) (λ l ws. (ws ≡ part_words l) × InStore store l × (is_utf8 l.bytes ≡ true))
  unfolding scan_string
  takes_text = takes_bind takes_part (λ l ws e. takes_row_check _ _ (λ z. takes_pure l (λ l us. ((ws ++ us) ≡ part_words l) × InStore store l × (is_utf8 l.bytes ≡ true)) (append-nil ws ∙ e.0, e.1, z)))

  record ItemT (k : ItemKind) (i : Item Part) (ws : List ℕ) : Type 0 where
    i_words : ws ≡ item_words i
    i_kind : same_kind k (kind_of (forget_item i)) ≡ true
    i_in : InItem store i
    i_sound : item_row_sound (forget_item i) ≡ true

  takes_item : (k : ItemKind) → Takes (scan_item store k) (ItemT k)
  unfolding scan_item item_words kind_of forget_item InItem item_row_sound
  takes_item (ItemKind.number k) = takes_bind takes_word (λ w ws e. takes_row_check _ _ (λ z. takes_pure _ (λ i us. ItemT (ItemKind.number k) i (ws ++ us)) (record {
    i_words = append-nil ws
        ∙ e;
    i_kind = same_kind_self _;
    i_in = tt;
    i_sound = z;
  })))
  takes_item ItemKind.string = takes_bind takes_text (λ l ws e. takes_pure _ (λ i us. ItemT ItemKind.string i (ws ++ us)) (record { i_words = append-nil ws ∙ e.0; i_kind = same_kind_self _; i_in = e.1; i_sound = e.2 }))
  takes_item ItemKind.native_name = takes_bind takes_text (λ l ws e. takes_pure _ (λ i us. ItemT ItemKind.native_name i (ws ++ us)) (record { i_words = append-nil ws ∙ e.0; i_kind = same_kind_self _; i_in = e.1; i_sound = e.2 }))
  takes_item ItemKind.record_name = takes_bind takes_text (λ l ws e. takes_pure _ (λ i us. ItemT ItemKind.record_name i (ws ++ us)) (record { i_words = append-nil ws ∙ e.0; i_kind = same_kind_self _; i_in = e.1; i_sound = e.2 }))
  takes_item ItemKind.code = takes_bind takes_part (λ l ws e. takes_pure _ (λ i us. ItemT ItemKind.code i (ws ++ us)) (record { i_words = append-nil ws ∙ e.0; i_kind = same_kind_self _; i_in = e.1; i_sound = refl }))

  record ItemsT (kn : List ItemKind) (is : List (Item Part)) (ws : List ℕ) : Type 0 where
    is_words : ws ≡ items_words is
    is_kinds : same_kinds kn (forget_items is) ≡ true
    is_in_lem : InItems store is
    items_sound : all_of (item_row_sound) (forget_items is) ≡ true

  takes_items : (kn : List ItemKind) → Takes (scan_items store kn) (ItemsT kn)
  unfolding scan_items items_words same_kinds forget_items InItems all_of
  takes_items [] = takes_pure [] (ItemsT []) (record { is_words = refl; is_kinds = refl; is_in_lem = tt; items_sound = refl })
  takes_items (k ∷ kn) = takes_bind (takes_item k) (λ i ws e. takes_bind (takes_items kn) (λ is vs f. takes_pure _ (λ is us. ItemsT (k ∷ kn) is (ws ++ (vs ++ us)))
      (record { is_words = ap₂ ◌++◌ e.i_words (append-nil vs ∙ f.is_words); is_kinds = and_both e.i_kind f.is_kinds; is_in_lem = (e.i_in, f.is_in_lem); items_sound = and_both e.i_sound f.items_sound })))

  record TreesT (d : ℕ) (ts : Trees Part) (ws : List ℕ) : Type 0 where
    t_words : ws ≡ row_table ts
    t_shaped : obey_rules d (forget_trees ts) ≡ true
    t_sound : all_items (item_row_sound) (forget_trees ts) ≡ true
    t_in : InTrees store ts

  pub record NodeT (h : ℕ → Bool) (g : Test) (d : ℕ) (u : Node Part) (ws : List ℕ) : Type 0 where
    pub n_words : ws ≡ row_words u.tag u.items (root_count u.kids) ++ row_table u.kids
    pub n_tag : h u.tag ≡ true
    pub n_test : g u.tag (forget_items u.items) ≡ true
    pub n_rule : row_rule (shape u.tag) (forget_items u.items) (roots (forget_trees u.kids)) ≡ true
    pub n_deep : when◌then◌else◌ (leb u.tag 26) (ltb 0 d and obey_rules (pred d) (forget_trees u.kids)) (obey_rules d (forget_trees u.kids)) ≡ true
    pub n_items : InItems store u.items
    pub n_sound : all_of (item_row_sound) (forget_items u.items) ≡ true
    pub n_kids : InTrees store u.kids
    pub n_kids_sound : all_items (item_row_sound) (forget_trees u.kids) ≡ true

  nil_T : (d : ℕ) → TreesT d nil []
  unfolding row_table obey_rules forget_trees all_items InTrees
  nil_T d = record { t_words = refl; t_shaped = refl; t_sound = refl; t_in = tt }

  cons_T : (h : ℕ → Bool) (g : Test) (d : ℕ) (u : Node Part) (ts : Trees Part) (ws vs : List ℕ) → NodeT h g d u ws → TreesT d ts vs → TreesT d (cons u ts) (ws ++ vs)
  unfolding cons row_table obey_rules forget_trees all_items InTrees
  cons_T h g d u ts ws vs a b = record {
    t_words = ap₂ ◌++◌ a.n_words b.t_words;
    t_shaped = and_both a.n_rule (and_both a.n_deep b.t_shaped);
    t_sound = and_both a.n_sound (and_both a.n_kids_sound b.t_sound);
    t_in = (a.n_items, a.n_kids, b.t_in);
  }

  cast_T : (d : ℕ) (ts : Trees Part) (ws vs : List ℕ) → ws ≡ vs → TreesT d ts ws → TreesT d ts vs
  cast_T d ts ws vs e t = rw (← e) t

  abbrev ScanT : ℕ → RowScan → Type 0
  ScanT d r = (g : Test) → Takes (r g) (NodeT is_value_tag g d)

  takes_times : (h : ℕ → Bool) (g : Test) (d : ℕ) (r : Reader (Node Part)) → Takes r (NodeT h g d) → (n : ℕ)
      → Takes (read_many n r) (λ ts ws. TreesT d ts ws × (all_tags h (roots (forget_trees ts)) ≡ true) × (root_count ts ≡ n))
  unfolding read_many
  takes_times h g d r R zero = takes_pure nil (λ ts ws. TreesT d ts ws × (all_tags h (roots (forget_trees ts)) ≡ true) × (root_count ts ≡ 0)) (nil_T d, unfold all_tags roots forget_trees in refl, unfold root_count in refl)
  takes_times h g d r R (suc n) = takes_bind R (λ u ws a. takes_bind (takes_times h g d r R n) (λ ts vs b.
      takes_pure (cons u ts) (λ ts us. TreesT d ts (ws ++ (vs ++ us)) × (all_tags h (roots (forget_trees ts)) ≡ true) × (root_count ts ≡ suc n))
      (cons_T h g d u ts ws (vs ++ []) a (cast_T d ts vs (vs ++ []) (sym (append-nil vs)) b.0), put_tags h u ts a.n_tag b.1, put_count u ts n b.2)))

  takes_keys : (d : ℕ) (r : RowScan) → ScanT d r → (n : ℕ) (seen : List (List ℕ)) → Takes (scan_keys n seen r) (λ ts ws. TreesT d ts ws × ((all_values (roots (forget_trees ts)) and distinct_keys seen
      (roots (forget_trees ts))) ≡ true) × (root_count ts ≡ n))
  unfolding scan_keys
  takes_keys d r R zero seen = takes_pure nil (λ ts ws. TreesT d ts ws × ((all_values (roots (forget_trees ts)) and distinct_keys seen (roots (forget_trees ts))) ≡ true) × (root_count ts ≡ 0))
      (nil_T d, unfold all_tags roots forget_trees distinct_keys ◌and◌ in refl, unfold root_count in refl)
  takes_keys d r R (suc n) seen = takes_bind (R (new_key seen)) (λ u ws a. takes_bind (takes_keys d r R n (node_key u ∷ seen)) (λ ts vs b.
      takes_pure (cons u ts) (λ ts us. TreesT d ts (ws ++ (vs ++ us)) × ((all_values (roots (forget_trees ts)) and distinct_keys seen (roots (forget_trees ts))) ≡ true) × (root_count ts ≡ suc n))
      (cons_T is_value_tag (new_key seen) d u ts ws (vs ++ []) a (cast_T d ts vs (vs ++ []) (sym (append-nil vs)) b.0), put_keys seen u ts a.n_tag a.n_test b.1, put_count u ts n b.2)))

  abbrev PairsT : ℕ → List (List ℕ) → ℕ → Trees Part → List ℕ → Type 0
  PairsT d seen n ts ws = TreesT d ts ws × ((all_values (roots (forget_trees ts)) and distinct_pairs seen (roots (forget_trees ts))) ≡ true) × (root_count ts ≡ n + n)

  put_two : (u v : Node Part) (ts : Trees Part) (n : ℕ) → root_count ts ≡ n + n → root_count (cons u (cons v ts)) ≡ suc n + suc n
  unfolding root_count cons
  put_two u v ts n e = omega arith

  nil_pairs : (d : ℕ) (seen : List (List ℕ)) → PairsT d seen 0 nil []
  unfolding all_tags roots forget_trees distinct_pairs ◌and◌ root_count
  nil_pairs d seen = (nil_T d, refl, refl)

  takes_pairs : (d : ℕ) (r : RowScan) → ScanT d r → (n : ℕ) (seen : List (List ℕ)) → Takes (scan_pairs n seen r) (PairsT d seen n)
  unfolding scan_pairs
  takes_pairs d r R zero seen = takes_pure nil (PairsT d seen 0) (nil_pairs d seen)
  takes_pairs d r R (suc n) seen = takes_bind (R (new_key seen)) (λ u ws a. takes_bind (R (any_row)) (λ v xs o. takes_bind (takes_pairs d r R n (node_key u ∷ seen)) (λ ts vs b.
      takes_pure (cons u (cons v ts)) (λ ts us. PairsT d seen (suc n) ts (ws ++ (xs ++ (vs ++ us)))) (
        cons_T is_value_tag (new_key seen) d u (cons v ts) ws (xs ++ (vs ++ [])) a (cons_T is_value_tag (any_row) d v ts xs (vs ++ []) o (cast_T d ts vs (vs ++ []) (sym (append-nil vs)) b.0)),
        put_pairs seen u v ts a.n_tag a.n_test o.n_tag b.1,
        put_two u v ts n b.2,
      ))))

  -- the words of the count
  count_cell : Kids → ℕ → List ℕ
  count_cell no_value n = []
  count_cell one_value n = []
  count_cell values n = n ∷ []
  count_cell keys n = n ∷ []
  count_cell pairs n = n ∷ []

  takes_count : (kk : Kids) → Takes (scan_count kk) (λ n ws. ws ≡ count_cell kk n)
  unfolding scan_count count_cell
  takes_count no_value = takes_pure 0 (λ n ws. ws ≡ []) refl
  takes_count one_value = takes_pure 1 (λ n ws. ws ≡ []) refl
  takes_count values = takes_word
  takes_count keys = takes_word
  takes_count pairs = takes_word

  record KidsT (d : ℕ) (kk : Kids) (n : ℕ) (ts : Trees Part) (ws : List ℕ) : Type 0 where
    kt_trees : TreesT d ts ws
    kt_rule : kids_rule kk (roots (forget_trees ts)) ≡ true
    kt_count : count_cell kk n ≡ kids_count_words kk (root_count ts)

  nil_kids : (d n : ℕ) → KidsT d no_value n nil []
  unfolding kids_rule count_cell kids_count_words roots forget_trees
  nil_kids d n = record { kt_trees = nil_T d; kt_rule = refl; kt_count = refl }

  half_two : (n : ℕ) → (n + n) / 2 ≡ n
  half_two n = omega arith

  takes_kids : (d : ℕ) (r : RowScan) → ScanT d r → (kk : Kids) (n : ℕ) → Takes (scan_kids r kk n) (KidsT d kk n)
  unfolding scan_kids count_cell kids_count_words kids_rule
  takes_kids d r R no_value n = takes_pure nil (KidsT d no_value n) (nil_kids d n)
  takes_kids d r R one_value n = takes_so (KidsT d one_value n) (λ ts ws b. record { kt_trees = b.0; kt_rule = and_both (eq-eqb _ _ (count_roots ts ∙ b.2)) b.1; kt_count = refl }) (takes_times is_value_tag (any_row) d _ (R (any_row)) 1)
  takes_kids d r R values n = takes_so (KidsT d values n) (λ ts ws b. record { kt_trees = b.0; kt_rule = b.1; kt_count = ap (λ (x : ℕ). x ∷ []) (sym b.2) }) (takes_times is_value_tag (any_row) d _ (R (any_row)) n)
  takes_kids d r R keys n = takes_so (KidsT d keys n) (λ ts ws b. record { kt_trees = b.0; kt_rule = b.1; kt_count = ap (λ (x : ℕ). x ∷ []) (sym b.2) }) (takes_keys d r R n [])
  takes_kids d r R pairs n = takes_so (KidsT d pairs n) (λ ts ws b. record { kt_trees = b.0; kt_rule = b.1; kt_count = ap (λ (x : ℕ). x ∷ []) (sym (half_two n) ∙ ap (λ (x : ℕ). x / 2) (sym b.2)) }) (takes_pairs d r R n [])

  takes_finish : (n : ℕ) (b : Bool) → Takes (finish_row n b) (λ u ws. (ws ≡ replicate n 0) × (b ≡ true))
  unfolding finish_row end_row row_must must ◌>>◌ and_then
  takes_finish n b = takes_then {r' = row_must b >> end_row} (takes_zeros n) (λ u ws e. go b ws e)
    where
      go : (b : Bool) (ws : List ℕ) → ws ≡ replicate n 0 → Takes (row_must b >> end_row) (λ u vs. ((ws ++ vs) ≡ replicate n 0) × (b ≡ true))
      go true ws e = record { run = λ s a s' q. took_cast (λ u vs. ((ws ++ vs) ≡ replicate n 0) × (true ≡ true)) s tt a (with_row s) s' q (record { ws = []; split = refl; holds = (append-nil ws ∙ e, refl) }) }
      go false ws e = record { run = λ s a s' q. not_ok 17 s.rows a s' q }

  -- a row after its tag t, with its kids at d
  record BodyT (sh : Shape) (g : Test) (d t : ℕ) (u : Node Part) (ws : List ℕ) : Type 0 where
    b_tag : u.tag ≡ t
    b_words : ws ≡ (items_words u.items ++ (count_words sh (root_count u.kids) ++ replicate (unused_words sh) 0)) ++ row_table u.kids
    b_test : g t (forget_items u.items) ≡ true
    b_rule : row_rule sh (forget_items u.items) (roots (forget_trees u.kids)) ≡ true
    b_items : InItems store u.items
    b_sound : all_of (item_row_sound) (forget_items u.items) ≡ true
    b_shaped : obey_rules d (forget_trees u.kids) ≡ true
    b_kids : InTrees store u.kids
    b_kids_sound : all_items (item_row_sound) (forget_trees u.kids) ≡ true

  four : (ws vs xs ys a b z f : List ℕ) → ws ≡ a → vs ≡ b → xs ≡ z → ys ≡ f → ws ++ (vs ++ (xs ++ (ys ++ []))) ≡ (a ++ (b ++ z)) ++ f
  four ws vs xs ys a b z f p q r s = rw (p, q, r, s) (simp (append_assoc, append-nil))

  takes_vals : (d : ℕ) (r : RowScan) → ScanT d r → (g : Test) (t : ℕ) (kn : List ItemKind) (kk : Kids) → Takes (scan_with_kids store r g t kn kk) (BodyT (with_kids kn kk) g d t)
  unfolding scan_with_kids node_of count_words row_rule
  takes_vals d r R g t kn kk = takes_bind (takes_items kn) (λ is ws a. takes_bind (takes_count kk) (λ n vs b. takes_then (takes_finish (unused_words (with_kids kn kk)) (g t (forget_items is)))
      (λ u xs x. takes_bind (takes_kids d r R kk n) (λ ts ys y.
      takes_pure (node_of t is ts) (λ u us. BodyT (with_kids kn kk) g d t u (ws ++ (vs ++ (xs ++ (ys ++ us)))))
      (record {
        b_tag = refl;
        b_words = four ws vs xs ys _ _ _ _ a.is_words (b ∙ y.kt_count) x.0 y.kt_trees.t_words;
        b_test = x.1;
        b_rule = and_both a.is_kinds y.kt_rule;
        b_items = a.is_in_lem;
        b_sound = a.items_sound;
        b_shaped = y.kt_trees.t_shaped;
        b_kids = y.kt_trees.t_in;
        b_kids_sound = y.kt_trees.t_sound;
      })))))

  module _ (d : ℕ) (g : Test) (u : Node Part) (ws : List ℕ) where
    wrap_32 : BodyT (with_kids (ItemKind.code ∷ []) values) g d 32 u ws → NodeT (is_tag 32) g d u (32 ∷ ws)
    unfolding row_words shape when◌then◌else◌
    wrap_32 b = let e = b.b_tag in record {
      n_words = rw e (ap (λ (x : List ℕ). 32 ∷ x) b.b_words);
      n_tag = eq-eqb _ _ e;
      n_test = rw e b.b_test;
      n_rule = rw e b.b_rule;
      n_deep = rw e b.b_shaped;
      n_items = b.b_items;
      n_sound = b.b_sound;
      n_kids = b.b_kids;
      n_kids_sound = b.b_kids_sound;
    }

    wrap_33 : BodyT (with_kids (ItemKind.string ∷ []) one_value) g d 33 u ws → NodeT (is_tag 33) g d u (33 ∷ ws)
    unfolding row_words shape when◌then◌else◌
    wrap_33 b = let e = b.b_tag in record {
      n_words = rw e (ap (λ (x : List ℕ). 33 ∷ x) b.b_words);
      n_tag = eq-eqb _ _ e;
      n_test = rw e b.b_test;
      n_rule = rw e b.b_rule;
      n_deep = rw e b.b_shaped;
      n_items = b.b_items;
      n_sound = b.b_sound;
      n_kids = b.b_kids;
      n_kids_sound = b.b_kids_sound;
    }

    value_T : (t : ℕ) → leb t 26 ≡ true → BodyT (shape t) g d t u ws → NodeT is_value_tag g (suc d) u (t ∷ ws)
    unfolding row_words when◌then◌else◌
    value_T t q b = let e = b.b_tag in record {
      n_words = rw e (ap (λ (x : List ℕ). t ∷ x) b.b_words);
      n_tag = rw e q;
      n_test = rw e b.b_test;
      n_rule = rw e b.b_rule;
      n_deep = rw e (rw q (and_both (lt-ltb 0 (suc d) (omega arith)) b.b_shaped));
      n_items = b.b_items;
      n_sound = b.b_sound;
      n_kids = b.b_kids;
      n_kids_sound = b.b_kids_sound;
    }

  head_cast : (h : ℕ → Bool) (g : Test) (d : ℕ) (u : Node Part) (t t' : ℕ) (xs ws : List ℕ) → xs ≡ t' ∷ [] → t' ≡ t → NodeT h g d u (t ∷ ws) → NodeT h g d u (xs ++ ws)
  head_cast h g d u t t' xs ws e f n = rw (e, f) n

  takes_32 : (d : ℕ) (r : RowScan) → ScanT d r → Takes (scan_untagged store r 32 (ItemKind.code ∷ []) values) (NodeT (is_tag 32) (any_row) d)
  unfolding scan_untagged
  takes_32 d r R = takes_bind takes_word (λ t xs e. takes_row_check _ _ (λ z. takes_so _ (λ u ws b. head_cast (is_tag 32) (any_row) d u 32 t xs ws e (eqb-true t 32 z) (wrap_32 d (any_row) u ws b))
      (takes_vals d r R (any_row) 32 (ItemKind.code ∷ []) values)))

  takes_33 : (d : ℕ) (r : RowScan) → ScanT d r → Takes (scan_untagged store r 33 (ItemKind.string ∷ []) one_value) (NodeT (is_tag 33) (any_row) d)
  unfolding scan_untagged
  takes_33 d r R = takes_bind takes_word (λ t xs e. takes_row_check _ _ (λ z. takes_so _ (λ u ws b. head_cast (is_tag 33) (any_row) d u 33 t xs ws e (eqb-true t 33 z) (wrap_33 d (any_row) u ws b))
      (takes_vals d r R (any_row) 33 (ItemKind.string ∷ []) one_value)))

  three : (ws xs ys a z f : List ℕ) → ws ≡ a → xs ≡ z → ys ≡ f → ws ++ (xs ++ (ys ++ [])) ≡ (a ++ ([] ++ z)) ++ f
  three ws xs ys a z f p r s = rw (p, r, s) (simp (append_assoc, append-nil))

  five : (ws vs xs fs ys a b z f g : List ℕ) → ws ≡ a → vs ≡ b → xs ≡ z → fs ≡ f → ys ≡ g → ws ++ (vs ++ (xs ++ (fs ++ (ys ++ [])))) ≡ (a ++ (b ++ z)) ++ (f ++ g)
  five ws vs xs fs ys a b z f g p q r s t = rw (p, q, r, s, t) (simp (append_assoc, append-nil))

  closure_count : (kn : List ItemKind) (f : Node Part) (ts : Trees Part) (n : ℕ) → root_count ts ≡ n → n ∷ [] ≡ count_words (with_template kn) (root_count (cons f ts))
  unfolding count_words root_count cons
  closure_count kn f ts n e = ap (λ (x : ℕ). x ∷ []) (sym e)

  flat_put : (f : Node Part) (ts : Trees Part) → row_table (cons f ts) ≡ (row_words f.tag f.items (root_count f.kids) ++ row_table f.kids) ++ row_table ts
  unfolding row_table cons
  flat_put f ts = refl

  takes_shape : (d : ℕ) (r : RowScan) → ScanT d r → (g : Test) (t : ℕ) (sh : Shape) → Takes (scan_shape store r g t sh) (BodyT sh g d t)
  unfolding scan_shape node_of
  takes_shape d r R g t (with_kids kn kk) = takes_vals d r R g t kn kk
  takes_shape d r R g t (with_chunk kn) = takes_bind (takes_items kn) (λ is ws a. takes_then (takes_finish (unused_words (with_chunk kn)) (g t (forget_items is))) (λ u xs x. takes_bind (takes_times
      (is_tag 32) (any_row) d _ (takes_32 d r R) 1) (λ ts ys y.
      takes_pure (node_of t is ts) (λ u us. BodyT (with_chunk kn) g d t u (ws ++ (xs ++ (ys ++ us))))
      (record {
        b_tag = refl;
        b_words = unfold count_words in (three ws xs ys _ _ _ a.is_words x.0 y.0.t_words);
        b_test = x.1;
        b_rule = unfold row_rule in (and_both a.is_kinds (and_both (eq-eqb _ _ (count_roots ts ∙ y.2)) y.1));
        b_items = a.is_in_lem;
        b_sound = a.items_sound;
        b_shaped = y.0.t_shaped;
        b_kids = y.0.t_in;
        b_kids_sound = y.0.t_sound;
      }))))
  takes_shape d r R g t (with_fields kn) = takes_bind (takes_items kn) (λ is ws a. takes_bind takes_word (λ n vs b. takes_then (takes_finish (unused_words (with_fields kn)) (g t (forget_items is)))
      (λ u xs x. takes_bind (takes_times (is_tag 33) (any_row) d _ (takes_33 d r R) n) (λ ts ys y.
      takes_pure (node_of t is ts) (λ u us. BodyT (with_fields kn) g d t u (ws ++ (vs ++ (xs ++ (ys ++ us)))))
      (record {
        b_tag = refl;
        b_words = unfold count_words in (four ws vs xs ys _ _ _ _ a.is_words (b ∙ ap (λ (x : ℕ). x ∷ []) (sym y.2)) x.0 y.0.t_words);
        b_test = x.1;
        b_rule = unfold row_rule in (and_both a.is_kinds y.1);
        b_items = a.is_in_lem;
        b_sound = a.items_sound;
        b_shaped = y.0.t_shaped;
        b_kids = y.0.t_in;
        b_kids_sound = y.0.t_sound;
      })))))
  takes_shape d r R g t (with_template kn) = takes_bind (takes_items kn) (λ is ws a. takes_bind takes_word (λ n vs b. takes_then (takes_finish (unused_words (with_template kn)) (g t (forget_items is)))
      (λ u xs x. takes_bind (R (is_function)) (λ f fs o.
      takes_bind (takes_times is_value_tag (any_row) d _ (R (any_row)) n) (λ ts ys y.
      takes_pure (node_of t is (cons f ts)) (λ u us. BodyT (with_template kn) g d t u (ws ++ (vs ++ (xs ++ (fs ++ (ys ++ us))))))
      (let k = cons_T is_value_tag (is_function) d f ts fs ys o y.0 in
      record {
        b_tag = refl;
        b_words = five ws vs xs fs ys _ _ _ _ _ a.is_words (b ∙ closure_count kn f ts n y.2) x.0 o.n_words y.0.t_words ∙ ap (λ (z : List ℕ). (items_words is ++ (count_words
            (with_template kn) (root_count (cons f ts)) ++ replicate (unused_words (with_template kn)) 0)) ++ z) (sym (flat_put f ts));
        b_test = x.1;
        b_rule = closure_rule kn (forget_items is) f ts a.is_kinds (unfold is_function in o.n_test) y.1;
        b_items = a.is_in_lem;
        b_sound = a.items_sound;
        b_shaped = k.t_shaped;
        b_kids = k.t_in;
        b_kids_sound = k.t_sound;
      }))))))

  takes_value : (d : ℕ) → ScanT d (scan_value store d)
  unfolding scan_value
  takes_value zero g = takes_bind takes_word (λ t xs e. takes_row_check _ _ (λ z. false≢true z))
  takes_value (suc d) g = takes_bind takes_word (λ t xs e. takes_row_check _ _ (λ z. takes_so _ (λ u ws b. head_cast is_value_tag g (suc d) u t t xs ws e refl (value_T d g u ws t z b)) (takes_shape d
      (scan_value store d) (takes_value d) g t (shape t))))

  -- an accepted scan took exactly the rows of the chunk that it gives, and that chunk obeys the rules of rows
  pub scan_took : Takes (scan_outer store) (NodeT (is_tag 32) (any_row) 32)
  unfolding scan_outer
  scan_took = takes_32 32 (scan_value store 32) (takes_value 32)
