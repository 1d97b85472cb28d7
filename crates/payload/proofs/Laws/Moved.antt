-- Reading b bytes further on gives the same, moved by b: offsets of parts and places of refusals are b more, all bytes are the same.
use Rattle.std.specs.Prelude.{Bool, false, true, List, [], ◌∷◌, ◌≡◌, ◌+◌, ◌<◌, ℕ, leb, ltb, drop}
use Rattle.std.proofs.Math.Option.{Option, none, some}
use Rattle.std.proofs.Common.{◌∙◌, ap₂, add-zero, zero-add, arith, le-leb, le-ltb, leb-false, leb-true, lt-ltb, ltb-false, ltb-true}
use Rattle.std.proofs.Math.Path.{ap, refl, sym}
use Rattle.std.proofs.lemmas.Bool.{lt-leb}
use Rattle.payload.proofs.Laws.Everywhere.{forget_items_lem}
use Rattle.payload.proofs.Laws.Further.{Like, alike, equal, freed, further}
use Rattle.payload.proofs.Laws.Keeps.{not_ok}
use Rattle.payload.specs.Moved.{moved_by, moved_item, moved_items, moved_line, moved_part, moved_parts, moved_result, moved_script, moved_state, moved_trees, start_at}
use Rattle.payload.specs.Reader.{Part, Result, State, ok, refused, start}
use Rattle.payload.specs.Reading.{Payload, read_payload}
use Rattle.payload.specs.declared.Capacities.{Capacities}
use Rattle.payload.specs.Trees.{Item, LineIndex, Script, Trees, code, forget_line, forget_node, forget_script, forget_trees, native_name, nil, node, number, record_name, string}

---- as much room left: no refusal is free

-- d has j rows and k spans more than c
pub record RoomAfter (j k : ℕ) (c d : Capacities) : Type 0 where
  pub rows_after : d.rows ≡ c.rows + j
  pub spans_after : d.spans ≡ c.spans + k
  pub same_strings : d.strings ≡ c.strings
  pub same_starts : d.starts ≡ c.starts

pub no_more : (c : Capacities) → RoomAfter 0 0 c c
no_more c = record { rows_after = sym (add-zero c.rows); spans_after = sym (add-zero c.spans); same_strings = refl; same_starts = refl }

abbrev Never : ℕ → Type 0
Never n = n < 0

ltb_after : (n a j : ℕ) → ltb n a ≡ ltb (n + j) (a + j)
ltb_after n a j = go (ltb n a) refl
  where
    go : (t : Bool) → ltb n a ≡ t → t ≡ ltb (n + j) (a + j)
    go true e = let h = ltb-true n a e in sym (lt-ltb (n + j) (a + j) (omega arith))
    go false e = let h = ltb-false n a e in sym (le-ltb (n + j) (a + j) (omega arith))

leb_after : (n a j : ℕ) → leb n a ≡ leb (n + j) (a + j)
leb_after n a j = go (leb n a) refl
  where
    go : (t : Bool) → leb n a ≡ t → t ≡ leb (n + j) (a + j)
    go true e = let h = leb-true n a e in sym (le-leb (n + j) (a + j) (omega arith))
    go false e = let h = leb-false n a e in sym (lt-leb (n + j) (a + j) (omega arith))

module _ (b j k : ℕ) (c d : Capacities) (h : RoomAfter j k c d) where
  never_freed : {A : Type 0} (f : A → A) (x y : Result A) → Like b j k Never f x y → y ≡ moved_result b j k f x
  never_freed f x y (alike e) = e
  never_freed f x y (freed n p h e) = absurd (omega arith)

  -- from any state
  pub moved : (listed : List ℕ → Bool) (s : State) → read_payload d listed (moved_state b j k s) ≡ moved_result b j k (moved_by b) (read_payload c listed s)
  moved listed s = never_freed (moved_by b) _ _ ((further b j k Never c d (record {
    for_rows = λ n. rw h.rows_after (equal (ltb_after n _ j));
    for_spans = λ n. rw h.spans_after (equal (leb_after n _ k));
    for_strings = λ n. rw h.same_strings (equal refl);
    for_starts = λ n. rw h.same_starts (equal refl);
  }) listed).run s)

---- at place b of a payload, with no rows or spans before

module _ (b : ℕ) (c : Capacities) (listed : List ℕ → Bool) (p : List ℕ) where
  pub moved_start : read_payload c listed (start_at b p) ≡ moved_result b 0 0 (moved_by b) (read_payload c listed (start (drop b p)))
  moved_start = rw (zero-add b) at (moved b 0 0 c c (no_more c) listed (start (drop b p)))

  pub moved_ok : (u : Payload) (s : State) → read_payload c listed (start (drop b p)) ≡ ok u s → read_payload c listed (start_at b p) ≡ ok (moved_by b u) (moved_state b 0 0 s)
  unfolding moved_result
  moved_ok u s e = moved_start ∙ ap (moved_result b 0 0 (moved_by b)) e

  pub moved_refused : (n q : ℕ) → read_payload c listed (start (drop b p)) ≡ refused n q → read_payload c listed (start_at b p) ≡ refused n (q + b)
  unfolding moved_result
  moved_refused n q e = moved_start ∙ ap (moved_result b 0 0 (moved_by b)) e

  -- what was accepted here is accepted alone
  pub record Alone (u : Payload) (s : State) : Type 0 where
    pub value : Payload
    pub end : State
    pub alone : read_payload c listed (start (drop b p)) ≡ ok value end
    pub value_is : u ≡ moved_by b value
    pub end_is : s ≡ moved_state b 0 0 end

  pub moved_back : (u : Payload) (s : State) → read_payload c listed (start_at b p) ≡ ok u s → Alone u s
  moved_back u s e = go _ refl (sym moved_start ∙ e)
    where
      go : (x : Result Payload) → read_payload c listed (start (drop b p)) ≡ x → moved_result b 0 0 (moved_by b) x ≡ ok u s → Alone u s
      go (refused n q) g e = not_ok n (q + b) u s (unfold moved_result in e)
      go (ok v z) g e = let e : ok (moved_by b v) (moved_state b 0 0 z) ≡ ok u s = unfold moved_result in e in let eu : moved_by b v ≡ u = cc in let es : moved_state b 0 0 z ≡ s = cc in
          record { value = v; end = z; alone = g; value_is = sym eu; end_is = sym es }

---- moving keeps all but offsets

module _ (b : ℕ) where
  forget_trees_lem : (ts : Trees Part) → forget_trees (moved_trees b ts) ≡ forget_trees ts
  unfolding forget_trees moved_trees
  forget_trees_lem nil = refl
  forget_trees_lem (node t is ks ts) = rw (forget_items_lem b is, forget_trees_lem ks, forget_trees_lem ts)

  forget_line_lem : (x : Option (LineIndex Part)) → forget_line (moved_line b x) ≡ forget_line x
  unfolding forget_line moved_line
  forget_line_lem none = refl
  forget_line_lem (some x) = refl

  pub forget_moved : (s : Script Part) → forget_script (moved_script b s) ≡ forget_script s
  unfolding forget_script forget_node
  forget_moved s = rw (forget_items_lem b s.outer.items, forget_trees_lem s.outer.kids, forget_line_lem s.line)

---- moving by nothing

still_part : (l : Part) → moved_part 0 l ≡ l
still_part l = rw (add-zero l.offset)

still_parts : (ls : List Part) → moved_parts 0 ls ≡ ls
unfolding moved_parts
still_parts [] = refl
still_parts (l ∷ ls) = ap₂ ◌∷◌ (still_part l) (still_parts ls)

still_item : (i : Item Part) → moved_item 0 i ≡ i
unfolding moved_item
still_item (number k w) = refl
still_item (string l) = ap string (still_part l)
still_item (native_name l) = ap native_name (still_part l)
still_item (record_name l) = ap record_name (still_part l)
still_item (code l ss) = ap (λ z. code z ss) (still_part l)

still_items : (is : List (Item Part)) → moved_items 0 is ≡ is
unfolding moved_items
still_items [] = refl
still_items (i ∷ is) = ap₂ ◌∷◌ (still_item i) (still_items is)

still_trees : (ts : Trees Part) → moved_trees 0 ts ≡ ts
unfolding moved_trees
still_trees nil = refl
still_trees (node t is ks ts) = rw (still_items is, still_trees ks, still_trees ts)

still_line : (x : Option (LineIndex Part)) → moved_line 0 x ≡ x
unfolding moved_line
still_line none = refl
still_line (some x) = ap (λ l. some (record { name = l; starts = x.starts })) (still_part x.name)

still_payload : (u : Payload) → moved_by 0 u ≡ u
still_payload u = rw (still_parts u.pool, still_items u.script.outer.items, still_trees u.script.outer.kids, still_line u.script.line)

pub still : (x : Result Payload) → moved_result 0 0 0 (moved_by 0) x ≡ x
unfolding moved_result
still (ok u s) = rw (still_payload u, add-zero s.place, add-zero s.rows, add-zero s.spans)
still (refused n p) = rw (add-zero p)
