-- What the walk over the tables of a sound script writes is the script's writing.
use Rattle.std.specs.Prelude.{Bool, ◌≡◌, ℕ, zero, suc, pred, ◌+◌, ◌*◌, ◌≤◌, max, leb, ltb, eqb, length}
use Rattle.std.proofs.Math.Bool.{true, false}
use mathlib.Core.List.{List, [], ◌∷◌, ◌++◌, append-nil}
use Rattle.std.proofs.Math.Option.{Option, none, some}
use Rattle.std.proofs.Math.Path.{refl, sym, ap, ap₂}
use Rattle.std.proofs.Common.{◌∙◌, arith}
use Rattle.std.proofs.Math.ListN.{get_or-eq_default}
use borrow.Author.Tests.{leb-false, ltb-true, eqb-true}
use Rattle.varint.specs.Uleb128.{uleb128}
use Rattle.payload.specs.Choice.{when◌then◌else◌, ◌and◌}
use Rattle.payload.specs.Demand3.{all_items}
use Rattle.payload.proofs.Laws.Given.{small_span_table}
use Rattle.payload.specs.Laws.Pool.{and_left, and_right, and_both, false≢true}
use Rattle.payload.specs.Laws.Rules.{Root, roots, all_tags, all_values, kids_rule, row_rule, obey_rules, item_sound}
use Rattle.payload.proofs.Laws.SoundTables.{InLine, sound_holds, sound_script_lem, obeyed_width}
use Rattle.payload.specs.Reader.{Part, State, ok}
use Rattle.payload.specs.Rows.{root_count, row_table, span_table}
use Rattle.payload.specs.Shapes.{no_value, with_kids, shape, shapes}
use Rattle.payload.specs.Sound.{Tables, script_of}
use Rattle.payload.specs.Spans.{Span, small_spans}
use Rattle.payload.specs.Tables.{span_words, tables_of, line_flag, line_name, line_starts}
use Rattle.payload.specs.Trees.{Item, forget_trees, Trees, nil, node, size, LineIndex, Script, forget_line, forget_node, forget_script, single}
use Rattle.payload.specs.Writing.{write_trees, concat, pool_of, writing, write_strings, write_line_index}
use Rattle.pool_index.specs.Laws.Distinct.{interned_distinct}
use Rattle.pool_index.specs.Strings.{bytes_at, pool_strings, distinct, write_pool}
use Rattle.write_code.specs.Runs.{Positions}
use Rattle.write_rows.specs.Payload.{line_bytes, payload_bytes, walk_depth}
use Rattle.write_rows.specs.Reached.{Writable}
use Rattle.write_rows.specs.Walk.{row_count, Walked}
use Rattle.write_rows.specs.Laws.TreeWalk.{tall, ruled, walks}

---- what obeying the rules says

-- a row that is no value has only values under it
under_other : (t : ℕ) (is : List (Item (List ℕ))) (rs : List Root) → leb t 26 ≡ false → row_rule (shape t) is rs ≡ true → all_values rs ≡ true
unfolding shape when◌then◌else◌ row_rule kids_rule
under_other t is rs h r = go (eqb t 32) refl (eqb t 33) refl
  where
    nothing : eqb (length rs) 0 ≡ true → all_values rs ≡ true
    nothing e = empty rs (eqb-true (length rs) 0 e)
      where
        empty : (rs : List Root) → length rs ≡ 0 → all_values rs ≡ true
        empty [] e = unfold all_tags in refl
        empty (x ∷ xs) e = absurd (omega arith)

    go : (a : Bool) → eqb t 32 ≡ a → (b : Bool) → eqb t 33 ≡ b → all_values rs ≡ true
    go true p b q = and_right _ _ (rw p at r)
    go false p true q = and_right _ _ (and_right _ _ (rw (p, q) at r))
    go false p false q =
        let low : length shapes ≤ t = unfold shapes in (omega (arith, leb-false t 26 h)) in
        let e = get_or-eq_default shapes (with_kids [] no_value) {n = t} low in
        nothing (and_right _ _ (rw (p, q, e) at r))

obeyed_ruled : (d : ℕ) (ts : Trees Part) → obey_rules d (forget_trees ts) ≡ true → ruled ts ≡ true
unfolding obey_rules forget_trees ruled when◌then◌else◌
obeyed_ruled d nil h = refl
obeyed_ruled d (node t is ks ts) h = and_both (and_left _ _ h) (and_both (go (leb t 26) (and_left _ _ (and_right _ _ h)) (λ e. obeyed_ruled d ks e) (λ e. obeyed_ruled (pred d) ks e)) (obeyed_ruled d ts (and_right _ _ (and_right _ _ h))))
  where
    go : (b : Bool) → when◌then◌else◌ b (ltb 0 d and obey_rules (pred d) (forget_trees ks)) (obey_rules d (forget_trees ks)) ≡ true
        → (obey_rules d (forget_trees ks) ≡ true → ruled ks ≡ true) → (obey_rules (pred d) (forget_trees ks) ≡ true → ruled ks ≡ true) → ruled ks ≡ true
    go true p f g = g (and_right _ _ p)
    go false p f g = f p

-- a forest of values is at most 2 d tall, any other one more
obeyed_tall : (d : ℕ) (ts : Trees Part) → obey_rules d (forget_trees ts) ≡ true → (tall ts ≤ 2 * d + 1) × (all_values (roots (forget_trees ts)) ≡ true → tall ts ≤ 2 * d)
unfolding obey_rules forget_trees tall roots all_tags
obeyed_tall d nil h = (omega arith, λ e. omega arith)
obeyed_tall d (node t is ks ts) h =
    let rest = obeyed_tall d ts (and_right _ _ (and_right _ _ h)) in
    go (leb t 26) refl (λ e. obeyed_tall (pred d) ks e) (λ e. obeyed_tall d ks e) rest
  where
    go : (b : Bool) → leb t 26 ≡ b → (obey_rules (pred d) (forget_trees ks) ≡ true → (tall ks ≤ 2 * pred d + 1) × (all_values (roots (forget_trees ks)) ≡ true → tall ks ≤ 2 * pred d))
        → (obey_rules d (forget_trees ks) ≡ true → (tall ks ≤ 2 * d + 1) × (all_values (roots (forget_trees ks)) ≡ true → tall ks ≤ 2 * d))
        → (tall ts ≤ 2 * d + 1) × (all_values (roots (forget_trees ts)) ≡ true → tall ts ≤ 2 * d)
        → (max (suc (tall ks)) (tall ts) ≤ 2 * d + 1) × ((leb t 26 and all_values (roots (forget_trees ts))) ≡ true → max (suc (tall ks)) (tall ts) ≤ 2 * d)
    go true q f g rest =
        let p : (ltb 0 d and obey_rules (pred d) (forget_trees ks)) ≡ true = unfold when◌then◌else◌ in (rw q at (and_left _ _ (and_right _ _ h))) in
        let z = ltb-true 0 d (and_left _ _ p) in
        let k = (f (and_right _ _ p)).0 in
        (omega (arith, rest.0), λ e. omega (arith, rest.1 (and_right _ _ e)))
    go false q f g rest =
        let p : obey_rules d (forget_trees ks) ≡ true = unfold when◌then◌else◌ in (rw q at (and_left _ _ (and_right _ _ h))) in
        let k = (g p).1 (under_other t _ _ q (and_left _ _ h)) in
        (omega (arith, rest.0), λ e. false≢true (sym q ∙ and_left _ _ e))

---- the line index

line_is : (l : List (List ℕ)) (x : Option (LineIndex Part)) (flag : ℕ) (name starts : List ℕ) → flag ≡ line_flag x → name ≡ (line_name x).bytes → starts ≡ line_starts x
    → line_bytes l flag name starts ≡ write_line_index l (forget_line x)
unfolding line_bytes write_line_index when◌then◌else◌ line_flag line_name line_starts forget_line
line_is l none flag name starts e f g = rw e
line_is l (some y) flag name starts e f g = rw (e, f, g)

name_is : (store : List ℕ) (x : Option (LineIndex Part)) (o n : ℕ) → InLine store x → o ≡ (line_name x).offset → n ≡ length (line_name x).bytes → bytes_at store o n ≡ (line_name x).bytes
unfolding InLine line_name bytes_at
name_is store none o n i e f = rw (e, f)
name_is store (some y) o n i e f = rw (e, f) i.its_bytes

---- the payload

-- the words of small spans are positions
small_positions : (ss : List Span) → small_spans ss ≡ true → Positions (span_words ss)
unfolding small_spans span_words
small_positions [] h k = omega arith
small_positions (x ∷ ss) h zero = ltb-true _ _ (and_left _ _ h)
small_positions (x ∷ ss) h (suc zero) = ltb-true _ _ (and_left _ _ (and_right _ _ h))
small_positions (x ∷ ss) h (suc (suc k)) = small_positions ss (and_right _ _ (and_right _ _ h)) k

module _ (T : Tables) (u : Script Part) (end : State) (e : script_of T ≡ ok u end) where
  abbrev ts : Trees Part
  ts = single u.outer

  rows_are : T.rows ≡ row_table ts
  unfolding tables_of
  rows_are = ap (λ (U : Tables). U.rows) (sound_holds T u end e).is_tables

  spans_are : T.spans ≡ span_words (span_table ts)
  unfolding tables_of
  spans_are = ap (λ (U : Tables). U.spans) (sound_holds T u end e).is_tables

  rules : obey_rules 32 (forget_trees ts) ≡ true
  unfolding forget_script forget_trees single forget_node
  rules = (sound_script_lem T u end e).obeys

  items_sound : all_items item_sound (forget_trees ts) ≡ true
  unfolding forget_script forget_trees single forget_node
  items_sound = (sound_script_lem T u end e).items_sound

  rows_fit : size ts ≤ row_count T.rows
  rows_fit = omega (arith, ap length rows_are, obeyed_width 32 ts rules)

  line_held : (l : List (List ℕ)) → line_bytes l T.flag (bytes_at T.store T.name_offset T.name_length) T.starts ≡ write_line_index l (forget_line u.line)
  unfolding tables_of
  line_held l =
      let h = sound_holds T u end e in
      line_is l u.line T.flag _ T.starts (ap (λ (U : Tables). U.flag) h.is_tables)
      (name_is T.store u.line T.name_offset T.name_length h.in_line (ap (λ (U : Tables). U.name_offset) h.is_tables) (ap (λ (U : Tables). U.name_length) h.is_tables))
      (ap (λ (U : Tables). U.starts) h.is_tables)

  -- what the walk writes, with the script's pool, is the script's writing
  pub walk_is_writing : (l : List (List ℕ)) → l ≡ pool_of (forget_script u)
      → payload_bytes (record { store = T.store; pool = l; rows = T.rows; spans = T.spans }) T.flag (bytes_at T.store T.name_offset T.name_length) T.starts ≡ writing (forget_script u)
  unfolding payload_bytes writing write_pool forget_script single root_count forget_trees forget_node
  walk_is_writing l el =
      let deep = (obeyed_tall 32 ts rules).0 in
      let w = (walks T.store l T.rows T.spans walk_depth ts 0 0 [] [] (rows_are ∙ sym (append-nil (row_table ts))) (spans_are ∙ sym (append-nil (span_words (span_table ts)))) (omega arith) (omega (arith, rows_fit)) (omega arith)
      (obeyed_ruled 32 ts rules) (sound_holds T u end e).in_trees items_sound).whole in
      ap₂ (λ (x y : List ℕ). (uleb128 (length l) ++ write_strings l) ++ (x ++ y)) (ap (λ (z : Walked). z.bytes) w) (line_held l)
      ∙ ap (λ (m : List (List ℕ)). (uleb128 (length m) ++ write_strings m) ++ (concat (write_trees m (forget_trees ts)) ++ write_line_index m (forget_line u.line))) el

  -- sound tables with that pool can be written
  pub sound_writable : (pool : List ℕ) → pool_strings T.store pool ≡ pool_of (forget_script u) → Writable T.store pool T.spans
  unfolding pool_of
  sound_writable pool el = record { once = rw el (interned_distinct _ [] (unfold distinct in refl)); small = rw spans_are (small_positions (span_table ts) (small_span_table ts items_sound)) }
