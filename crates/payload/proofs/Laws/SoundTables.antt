-- Tables are sound exactly where they are the tables of a sound script whose parts stand in the store.
use Rattle.std.specs.Prelude.{Bool, false, true, List, [], ◌++◌, ◌∷◌, ◌*◌, ◌+◌, ◌≤◌, pred, suc, zero, ℕ, eqb, leb, drop, get_or, length, take}
use Rattle.std.proofs.Common.{append-nil, ◌∙◌, ap₂, subst, sym, zero-add, arith, length-append, length-drop, length-take-le, take_all}
use Rattle.std.proofs.Math.Option.{Option, none, some}
use Rattle.std.proofs.Math.Path.{◌≡◌, ap, refl}
use Rattle.std.proofs.lemmas.List.{length-replicate}
use Rattle.std.proofs.Math.Seq.{drop-length}
use borrow.Author.Tests.{eq-eqb, eqb-true, le-leb, leb-true}
use Rattle.payload.specs.Choice.{◌and◌, when◌then◌else◌}
use Rattle.payload.specs.Demand3.{all_items}
use Rattle.payload.proofs.Laws.Given.{given_back, in_given, length_span_table, length_span_words, length_spans_of, obey_given, row_table_given, small_span_table, sound_given}
use Rattle.payload.proofs.Laws.Given.{span_count_without, span_table_given, spans_of_words, words_of_spans}
use Rattle.payload.specs.Laws.Gives.{Gives, after, gives_as}
use Rattle.payload.proofs.Laws.Keeps.{invert, not_ok}
use Rattle.payload.specs.Laws.Pool.{and_both, and_left, and_right, false≢true}
use Rattle.payload.proofs.Laws.RoundTrip.{same_kind_eq}
use Rattle.payload.specs.Laws.Rules.{Root, SoundScript, item_sound, line_rule, obey_rules, roots, row_rule, same_kinds, without_spans, without_spans_items}
use Rattle.payload.proofs.Laws.ScanWritten.{InStore, InTrees, kind_bytes, scan_flat}
use Rattle.payload.proofs.Laws.Takes.{item_row_sound, scan_took}
use Rattle.payload.specs.Reader.{Part, Reader, Result, State, ◌>>=◌, ◌>>◌, and_then, must, ok, pure, set_place, set_rows, start}
use Rattle.payload.specs.declared.Capacities.{Capacities}
use Rattle.payload.specs.Rows.{count_words, item_words, items_words, kids_count_words, kind_width, kinds_width, part_words, root_count, row_table, row_width, row_words, span_table, unused_words}
use Rattle.payload.specs.Scan.{row_must, scan_outer}
use Rattle.payload.specs.Shapes.{ItemKind, Kids, Shape, keys, kinds_of, no_value, one_value, pairs, shape, shapes, values, with_chunk, with_fields, with_kids, with_template}
use Rattle.payload.specs.Sound.{Tables, give, give_node, is_nil, line_of, line_sound, no_more_rows, script_of, sound_script, spans_of, spans_sound}
use Rattle.payload.specs.Spans.{Span, small_spans}
use Rattle.payload.specs.Tables.{line_flag, line_name, line_starts, span_words, tables_of}
use Rattle.payload.specs.Trees.{Item, LineIndex, Node, Script, Trees, code, forget_items, forget_line, forget_node, forget_script, forget_trees}
use Rattle.payload.specs.Trees.{kind_of, native_name, nil, node, node_of, number, record_name, single, size, span_count, string}

---- every row has row_width words

-- the items of every row are of its tag's kinds
unfoldable pub Kinded : Trees (List ℕ) → Type 0
Kinded nil = Unit {0}
Kinded (node t is ks ts) = (same_kinds (kinds_of (shape t)) is ≡ true) × Kinded ks × Kinded ts

rule_kinds : (sh : Shape) (is : List (Item (List ℕ))) (rs : List Root) → row_rule sh is rs ≡ true → same_kinds (kinds_of sh) is ≡ true
unfolding row_rule kinds_of
rule_kinds (with_kids kn kk) is rs e = and_left _ _ e
rule_kinds (with_chunk kn) is rs e = and_left _ _ e
rule_kinds (with_fields kn) is rs e = and_left _ _ e
rule_kinds (with_template kn) is [] e = false≢true e
rule_kinds (with_template kn) is (r ∷ rs) e = and_left _ _ e

if_either : (b x y : Bool) (C : Type 0) → (x ≡ true → C) → (y ≡ true → C) → when◌then◌else◌ b x y ≡ true → C
unfolding when◌then◌else◌
if_either true x y C f g e = f e
if_either false x y C f g e = g e

pub kinded : (d : ℕ) (ts : Trees (List ℕ)) → obey_rules d ts ≡ true → Kinded ts
unfolding obey_rules Kinded
kinded d nil e = tt
kinded d (node t is ks ts) e = (
  rule_kinds (shape t) is (roots ks) (and_left _ _ e),
  if_either (leb t 26) _ _ (Kinded ks) (λ h. kinded (pred d) ks (and_right _ _ h)) (λ h. kinded d ks h) (and_left _ _ (and_right _ _ e)),
  kinded d ts (and_right _ _ (and_right _ _ e)),
)

item_width : (i : Item Part) → length (item_words i) ≡ kind_width (kind_of i)
unfolding item_words part_words kind_width kind_of
item_width (number k w) = refl
item_width (string l) = refl
item_width (native_name l) = refl
item_width (record_name l) = refl
item_width (code l ss) = refl

items_width : (kn : List ItemKind) (is : List (Item Part)) → same_kinds kn (forget_items is) ≡ true → length (items_words is) ≡ kinds_width kn
unfolding same_kinds forget_items items_words kinds_width
items_width [] [] e = refl
items_width [] (i ∷ is) e = false≢true e
items_width (k ∷ kn) [] e = false≢true e
items_width (k ∷ kn) (i ∷ is) e = rw (same_kind_eq k _ (and_left _ _ e) ∙ kind_bytes i, length-append (item_words i) (items_words is), item_width i, items_width kn is (and_right _ _ e))

kids_count_width : (kk : Kids) (n : ℕ) → length (kids_count_words kk n) ≡ length (kids_count_words kk 0)
unfolding kids_count_words
kids_count_width no_value n = refl
kids_count_width one_value n = refl
kids_count_width values n = refl
kids_count_width keys n = refl
kids_count_width pairs n = refl

count_width : (sh : Shape) (n : ℕ) → length (count_words sh n) ≡ length (count_words sh 0)
unfolding count_words
count_width (with_kids kn kk) n = kids_count_width kk n
count_width (with_chunk kn) n = refl
count_width (with_fields kn) n = refl
count_width (with_template kn) n = refl

-- a row has room for the tag, the items and the count of each shape
fits_row : Shape → Bool
fits_row sh = leb (suc (kinds_width (kinds_of sh) + length (count_words sh 0))) row_width

all_fit : List Shape → Bool
all_fit [] = true
all_fit (sh ∷ shs) = fits_row sh and all_fit shs

fits_at : (l : List Shape) (t : ℕ) (d : Shape) → all_fit l ≡ true → fits_row d ≡ true → fits_row (get_or l t d) ≡ true
unfolding all_fit
fits_at [] t d e f = f
fits_at (sh ∷ l) zero d e f = and_left _ _ e
fits_at (sh ∷ l) (suc t) d e f = fits_at l t d (and_right _ _ e) f

shape_fits : (t : ℕ) → fits_row (shape t) ≡ true
unfolding shape when◌then◌else◌ fits_row kinds_width kind_width kinds_of count_words kids_count_words
shape_fits t = go (eqb t 32) (eqb t 33)
  where
    go : (a b : Bool) → fits_row (when◌then◌else◌ a (with_kids (ItemKind.code ∷ []) values) (when◌then◌else◌ b (with_kids (ItemKind.string ∷ []) one_value) (get_or shapes t (with_kids [] no_value)))) ≡ true
    go true b = refl
    go false true = refl
    go false false = fits_at shapes t (with_kids [] no_value) (unfold all_fit shapes ◌and◌ in refl) refl

pub row_width_lem : (t : ℕ) (is : List (Item Part)) (n : ℕ) → same_kinds (kinds_of (shape t)) (forget_items is) ≡ true → length (row_words t is n) ≡ row_width
unfolding row_words unused_words fits_row
row_width_lem t is n e =
    let a = items_width (kinds_of (shape t)) is e in
    let b = count_width (shape t) n in
    let f : suc (kinds_width (kinds_of (shape t)) + length (count_words (shape t) 0)) ≤ row_width = leb-true _ _ (shape_fits t) in
    simp (length-append, length-replicate) (omega arith)

pub row_table_width : (ts : Trees Part) → Kinded (forget_trees ts) → length (row_table ts) ≡ row_width * size ts
unfolding row_table size Kinded forget_trees
row_table_width nil h = refl
row_table_width (node t is ks ts) h =
    let a = row_width_lem t is (root_count ks) h.0 in
    let b = row_table_width ks h.1 in
    let d = row_table_width ts h.2 in
    simp length-append (omega arith)

pub obeyed_width : (d : ℕ) (ts : Trees Part) → obey_rules d (forget_trees ts) ≡ true → length (row_table ts) ≡ row_width * size ts
obeyed_width d ts e = row_table_width ts (kinded d (forget_trees ts) e)

---- tables that hold a script

unfoldable pub InLine : List ℕ → Option (LineIndex Part) → Type 0
InLine store none = Unit {0}
InLine store (some x) = InStore store x.name

-- the tables are those of the script, and its parts stand in the store
pub record Holds (T : Tables) (u : Script Part) : Type 0 where
  pub is_tables : T ≡ tables_of T.store u
  pub in_trees : InTrees T.store (single u.outer)
  pub in_line : InLine T.store u.line

---- the line index

nil_is : {A : Type 0} (l : List A) → is_nil l ≡ true → l ≡ []
unfolding is_nil
nil_is [] e = refl
nil_is (x ∷ xs) e = false≢true e

-- the tables' words are those of a line index that obeys its rules
record HoldsLine (T : Tables) (x : Option (LineIndex Part)) : Type 0 where
  starts_are : T.starts ≡ line_starts x
  flag_is : T.flag ≡ line_flag x
  offset_is : T.name_offset ≡ (line_name x).offset
  length_is : T.name_length ≡ length (line_name x).bytes
  name_in : InLine T.store x
  obeys : line_rule (forget_line x) ≡ true

sound_line : (T : Tables) → line_sound T ≡ true → HoldsLine T (line_of T)
unfolding line_sound line_of when◌then◌else◌ line_starts line_flag line_name InLine line_rule forget_line
sound_line T e = go (eqb T.flag 0) refl
  where
    go : (b : Bool) → eqb T.flag 0 ≡ b → HoldsLine T (line_of T)
    go true q =
        let d = rw (q, line_sound) at e in
        rw (q, line_of) (record {
          starts_are = nil_is _ (and_right _ _ (and_right _ _ d));
          flag_is = eqb-true _ _ q;
          offset_is = eqb-true _ _ (and_left _ _ d);
          length_is = eqb-true _ _ (and_left _ _ (and_right _ _ d));
          name_in = tt;
          obeys = refl;
        })
    go false q =
        let d = rw (q, line_sound) at e in
        let h : T.name_offset + T.name_length ≤ length T.store = leb-true _ _ (and_left _ _ (and_right _ _ d)) in
        let n : length (take T.name_length (drop T.name_offset T.store)) ≡ T.name_length = length-take-le T.name_length (drop T.name_offset T.store) (rw (length-drop T.name_offset T.store) (omega arith)) in
        rw (q, line_of) (record {
          starts_are = refl;
          flag_is = eqb-true _ _ (and_left _ _ d);
          offset_is = refl;
          length_is = sym n;
          name_in = record { in_store = rw n h; its_bytes = ap (λ (x : ℕ). take x (drop T.name_offset T.store)) n };
          obeys = and_right _ _ (and_right _ _ d);
        })

line_holds : (T : Tables) (x : Option (LineIndex Part)) → HoldsLine T x → (line_sound T ≡ true) × (line_of T ≡ x)
unfolding line_sound line_of when◌then◌else◌ line_starts line_flag line_name InLine line_rule forget_line is_nil
line_holds T none h = (rw h.flag_is (and_both (eq-eqb _ _ h.offset_is) (and_both (eq-eqb _ _ h.length_is) (rw h.starts_are))), rw h.flag_is)
line_holds T (some x) h =
    let b : take T.name_length (drop T.name_offset T.store) ≡ x.name.bytes = rw (h.length_is, h.offset_is) h.name_in.its_bytes in (
      rw h.flag_is (and_both refl (and_both (le-leb (T.name_offset + T.name_length) (length T.store) (rw (h.offset_is, h.length_is) h.name_in.in_store)) (and_both (rw b (and_left _ _
          h.obeys)) (rw h.starts_are (and_right _ _ h.obeys))))),
      rw h.flag_is (λ i. some (record { name = record { offset = h.offset_is i; bytes = b i }; starts = h.starts_are i })),
    )

---- a run over tables

test_passed : {A : Type 0} (b : Bool) (r : Reader A) (a : A) (s s' : State) → (row_must b >> r) s ≡ ok a s' → (b ≡ true) × (r s ≡ ok a s')
unfolding row_must must ◌>>◌ and_then
test_passed true r a s s' e = (refl, e)
test_passed false r a s s' e = not_ok 17 s.rows a s' e

test_passes : {A : Type 0} (b : Bool) (r : Reader A) (a : A) (s s' : State) → b ≡ true → r s ≡ ok a s' → (row_must b >> r) s ≡ ok a s'
unfolding row_must must ◌>>◌ and_then
test_passes b r a s s' q e = rw q e

-- what the scan gives, with its spans and the line index
abbrev script_from : Tables → Node Part → Script Part
script_from T n = record { outer = give_node (spans_of T.spans) n; line = line_of T }

-- an accepted run: the tests that it passed, and the bare rows n that it scanned
record Passed (T : Tables) (n : Node Part) (s : State) : Type 0 where
  scanned : scan_outer T.store (start T.rows) ≡ ok n s
  no_more : is_nil s.rest ≡ true
  spans_pass : spans_sound T.spans n ≡ true
  line_passes : line_sound T ≡ true

passed : (T : Tables) (u : Script Part) (s : State) → script_of T ≡ ok u s → (n : Node Part) × Passed T n s × (script_from T n ≡ u)
unfolding script_of sound_script ◌>>=◌
passed T u s e = let w = invert (scan_outer T.store (start T.rows)) _ u s e in go w.0 w.1 w.2 w.3
  where
    go : (n : Node Part) (s₁ : State) → scan_outer T.store (start T.rows) ≡ ok n s₁
        → ◌>>◌ no_more_rows (row_must (spans_sound T.spans n) >> row_must (line_sound T) >> pure (script_from T n)) s₁ ≡ ok u s → (n : Node Part) × Passed T n s × (script_from T n ≡ u)
    go n s₁ q e = unfold no_more_rows ◌>>◌ pure in (
        let a = test_passed (is_nil s₁.rest) (row_must (spans_sound T.spans n) >> row_must (line_sound T) >> pure (script_from T n)) u s₁ s e in
        let b = test_passed (spans_sound T.spans n) (row_must (line_sound T) >> pure (script_from T n)) u s₁ s a.1 in
        let d = test_passed (line_sound T) (pure (script_from T n)) u s₁ s b.1 in
        let f : ◌≡◌ {A = Result (Script Part)} (ok (script_from T n) s₁) (ok u s) = d.1 in
        let h : s₁ ≡ s = cc f in
        let k : script_from T n ≡ u = cc f in
        (n, record { scanned = q ∙ ap (ok n) h; no_more = rw h at a.0; spans_pass = b.0; line_passes = d.0 }, k))

passes : (T : Tables) (n : Node Part) (s : State) → Passed T n s → script_of T ≡ ok (script_from T n) s
unfolding script_of sound_script ◌>>=◌ no_more_rows pure and_then ◌>>◌
passes T n s h = rw h.scanned (test_passes _ _ _ s s h.no_more (test_passes _ _ _ s s h.spans_pass (test_passes _ _ _ s s h.line_passes refl)))

---- sound tables hold a sound script

-- what the scan has shown of the rows
record Bare (T : Tables) (n : Node Part) : Type 0 where
  bare_tag : n.tag ≡ 32
  bare_rows : T.rows ≡ row_table (single n)
  bare_rules : obey_rules 32 (forget_trees (single n)) ≡ true
  bare_sane : all_items item_row_sound (forget_trees (single n)) ≡ true
  bare_in : InTrees T.store (single n)

bare : (T : Tables) (n : Node Part) (s : State) → Passed T n s → Bare T n
unfolding single row_table obey_rules forget_trees all_items InTrees
bare T n s h =
    let w = (scan_took T.store).run (start T.rows) n s h.scanned in
    let k = w.holds in
    record {
      bare_tag = eqb-true _ _ k.n_tag;
      bare_rows = w.split ∙ ap₂ ◌++◌ k.n_words (nil_is _ h.no_more);
      bare_rules = and_both k.n_rule (and_both k.n_deep refl);
      bare_sane = and_both k.n_sound (and_both k.n_kids_sound refl);
      bare_in = (k.n_items, k.n_kids, tt);
    }

give_single : (ss : List Span) (n : Node Part) → give ss (single n) ≡ single (give_node ss n)
unfolding give single give_node node_of
give_single ss n = refl

forget_single : (n : Node Part) → forget_trees (single n) ≡ single (forget_node n)
unfolding forget_trees single forget_node
forget_single n = refl

module _ (T : Tables) (n : Node Part) (h : spans_sound T.spans n ≡ true) where
  spans_long : length T.spans ≡ 2 * span_count (forget_trees (single n))
  unfolding spans_sound
  spans_long = eqb-true _ _ (and_left _ _ h)

  spans_small : small_spans (spans_of T.spans) ≡ true
  unfolding spans_sound
  spans_small = and_right _ _ h

  spans_count : length (spans_of T.spans) ≡ span_count (forget_trees (single n))
  spans_count = length_spans_of T.spans _ spans_long

  -- the span words given are the span table's
  spans_back : T.spans ≡ span_words (span_table (single (give_node (spans_of T.spans) n)))
  spans_back = sym (words_of_spans T.spans _ spans_long) ∙ ap span_words (sym (
      ap span_table (sym (give_single (spans_of T.spans) n)) ∙ span_table_given (spans_of T.spans) (single n) ∙ take_all (span_count (forget_trees (single n))) (spans_of T.spans) (omega (arith, spans_count))))

passed_holds : (T : Tables) (n : Node Part) (s : State) → Passed T n s → Holds T (script_from T n)
unfolding tables_of
passed_holds T n s h =
    let b = bare T n s h in
    let l = sound_line T h.line_passes in
    let e = give_single (spans_of T.spans) n in
    let r : T.rows ≡ row_table (single (give_node (spans_of T.spans) n)) = b.bare_rows ∙ sym (row_table_given (spans_of T.spans) (single n)) ∙ ap row_table e in
    record {
      is_tables = λ i. record { store = T.store; rows = r i; spans = spans_back T n h.spans_pass i; starts = l.starts_are i; flag = l.flag_is i; name_offset = l.offset_is i; name_length = l.length_is i };
      in_trees = rw e at (in_given T.store (spans_of T.spans) (single n) b.bare_in);
      in_line = l.name_in;
    }

passed_script : (T : Tables) (n : Node Part) (s : State) → Passed T n s → SoundScript (forget_script (script_from T n))
unfolding forget_script
passed_script T n s h =
    let b = bare T n s h in
    let e : forget_trees (give (spans_of T.spans) (single n)) ≡ single (forget_node (give_node (spans_of T.spans) n)) = ap forget_trees (give_single (spans_of T.spans) n) ∙ forget_single (give_node (spans_of T.spans) n) in
    record {
      outer_is_chunk = unfold forget_node give_node node_of in b.bare_tag;
      obeys = rw e at (obey_given 32 (spans_of T.spans) (single n) ∙ b.bare_rules);
      items_sound = rw e at (sound_given (spans_of T.spans) (single n) (spans_small T n h.spans_pass) (omega (arith, spans_count T n h.spans_pass)) b.bare_sane);
      line_sound_lem = (sound_line T h.line_passes).obeys;
    }

-- sound tables hold their script
pub sound_holds : (T : Tables) (u : Script Part) (s : State) → script_of T ≡ ok u s → Holds T u
sound_holds T u s e = let w = passed T u s e in subst (λ (v : Script Part). Holds T v) w.2 (passed_holds T w.0 s w.1)

pub sound_script_lem : (T : Tables) (u : Script Part) (s : State) → script_of T ≡ ok u s → SoundScript (forget_script u)
sound_script_lem T u s e = let w = passed T u s e in subst (λ (v : Script Part). SoundScript (forget_script v)) w.2 (passed_script T w.0 s w.1)

---- tables that hold a sound script are sound, and give it back

-- a row with what is under it, without spans
abbrev bare_node : Node Part → Node Part
bare_node n = node_of n.tag (without_spans_items n.items) (without_spans n.kids)

bare_single : (n : Node Part) → without_spans (single n) ≡ single (bare_node n)
unfolding without_spans single node_of
bare_single n = refl

single_one : (a b : Node Part) → single a ≡ single b → a ≡ b
unfolding single
single_one a b e = let p : a.tag ≡ b.tag = cc in let q : a.items ≡ b.items = cc in let r : a.kids ≡ b.kids = cc in λ i. record { tag = p i; items = q i; kids = r i }

scan_single : (c : Capacities) (store : List ℕ) (n : Node Part) → n.tag ≡ 32 → obey_rules 32 (forget_trees (single n)) ≡ true → all_items item_sound (forget_trees (single n)) ≡ true → InTrees store (single n)
    → Gives c (scan_outer store) (row_table (single n)) (size (single n)) 0 (λ x. x ≡ bare_node n)
unfolding single row_table size
scan_single c store n e a b d = rw e (gives_as (scan_flat c store n.items n.kids (rw e at a) (rw e at b) (rw e at d)) (sym (append-nil _)) (omega arith) refl)

-- a run over sound tables ends after all rows
abbrev pub ended : Tables → Script Part → State
ended T u = set_rows (size (single u.outer)) (set_place (length T.rows) (start []))

after_all : (rows : List ℕ) (k : ℕ) → after (length rows) k 0 (start rows) ≡ set_rows k (set_place (length rows) (start []))
unfolding after
after_all rows k = rw (drop-length rows, zero-add (length rows), zero-add k)

module _ (T : Tables) (u : Script Part) (h : Holds T u) (k : SoundScript (forget_script u)) where
  held_rows : T.rows ≡ row_table (single u.outer)
  unfolding tables_of
  held_rows = ap (λ (U : Tables). U.rows) h.is_tables

  held_spans : T.spans ≡ span_words (span_table (single u.outer))
  unfolding tables_of
  held_spans = ap (λ (U : Tables). U.spans) h.is_tables

  held_line : HoldsLine T u.line
  unfolding tables_of forget_script
  held_line = record {
    starts_are = ap (λ (U : Tables). U.starts) h.is_tables;
    flag_is = ap (λ (U : Tables). U.flag) h.is_tables;
    offset_is = ap (λ (U : Tables). U.name_offset) h.is_tables;
    length_is = ap (λ (U : Tables). U.name_length) h.is_tables;
    name_in = h.in_line;
    obeys = k.line_sound_lem;
  }

  held_rules : obey_rules 32 (forget_trees (single u.outer)) ≡ true
  unfolding forget_script
  held_rules = rw (forget_single u.outer) k.obeys

  held_sound : all_items item_sound (forget_trees (single u.outer)) ≡ true
  unfolding forget_script
  held_sound = rw (forget_single u.outer) k.items_sound

  held_tag : u.outer.tag ≡ 32
  unfolding forget_script forget_node
  held_tag = k.outer_is_chunk

  spans_of_held : spans_of T.spans ≡ span_table (single u.outer)
  spans_of_held = ap spans_of held_spans ∙ spans_of_words _

  held_scan : scan_outer T.store (start T.rows) ≡ ok (bare_node u.outer) (ended T u)
  held_scan =
      let n = u.outer in
      let c : Capacities = record { rows = size (single n); spans = 0; strings = 0; starts = 0 } in
      let g = (scan_single c T.store n held_tag held_rules held_sound h.in_trees).run (start T.rows) [] (held_rows ∙ sym (append-nil _)) (omega arith) (omega arith) in
      g.1 ∙ ap₂ ok g.2 (ap (λ (l : List ℕ). after (length l) (size (single n)) 0 (start T.rows)) (sym held_rows) ∙ after_all T.rows (size (single n)))

  held_long : length T.spans ≡ 2 * span_count (forget_trees (single (bare_node u.outer)))
  held_long = ap length held_spans ∙ length_span_words _ ∙ ap (λ (x : ℕ). 2 * x)
      (length_span_table (single u.outer) held_sound ∙ sym (span_count_without (single u.outer)) ∙ ap (λ (x : Trees Part). span_count (forget_trees x)) (bare_single u.outer))

  held_passes : Passed T (bare_node u.outer) (ended T u)
  unfolding spans_sound is_nil
  held_passes = record {
    scanned = held_scan;
    no_more = refl;
    spans_pass = and_both (eq-eqb _ _ held_long) (rw spans_of_held (small_span_table (single u.outer) held_sound));
    line_passes = (line_holds T u.line held_line).0;
  }

  held_outer : give_node (spans_of T.spans) (bare_node u.outer) ≡ u.outer
  held_outer = single_one _ _ (sym (give_single (spans_of T.spans) (bare_node u.outer))
      ∙ rw (spans_of_held, ← (append-nil (span_table (single u.outer))), ← (bare_single u.outer)) (given_back (single u.outer) [] held_sound))

  held_script : script_from T (bare_node u.outer) ≡ u
  held_script = λ i. record { outer = held_outer i; line = (line_holds T u.line held_line).1 i }

  -- with the state in which the run ends
  pub holds_ends : script_of T ≡ ok u (ended T u)
  holds_ends = passes T (bare_node u.outer) (ended T u) held_passes ∙ ap (λ (v : Script Part). ok v (ended T u)) held_script

pub holds_sound : (T : Tables) (u : Script Part) → Holds T u → SoundScript (forget_script u) → (s : State) × (script_of T ≡ ok u s)
holds_sound T u h k = (ended T u, holds_ends T u h k)

---- where the run ends

pub sound_ends : (T : Tables) (u : Script Part) (s : State) → script_of T ≡ ok u s → s ≡ ended T u
sound_ends T u s e = cc (holds_ends T u (sound_holds T u s e) (sound_script_lem T u s e))

pub sound_rows : (T : Tables) (u : Script Part) (s : State) → script_of T ≡ ok u s → s.rows ≡ size (single u.outer)
sound_rows T u s e = ap (λ (z : State). z.rows) (sound_ends T u s e)

pub sound_rest : (T : Tables) (u : Script Part) (s : State) → script_of T ≡ ok u s → s.rest ≡ []
sound_rest T u s e = ap (λ (z : State). z.rest) (sound_ends T u s e)
