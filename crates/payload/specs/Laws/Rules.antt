-- The rules of soundness, on trees.
use Rattle.std.specs.Prelude.{Bool, false, not, true, List, [], ◌∷◌, ◌≡◌, ◌<◌, ◌^◌, ◌≤◌, pred, ℕ, eqb, leb, ltb, length}
use Rattle.std.proofs.Math.Option.{Option, none, some}
use Rattle.utf8.specs.Utf8.{is_utf8}
use Rattle.payload.specs.Choice.{◌and◌, when◌then◌else◌}
use Rattle.payload.specs.Demand3.{all_items}
use Rattle.payload.specs.Numbers.{NumberKind-discrete, fits_kind}
use Rattle.payload.specs.Pool.{is_in}
use Rattle.payload.specs.Reader.{Part}
use Rattle.payload.specs.declared.Capacities.{Capacities}
use Rattle.payload.specs.Shapes.{ItemKind, ItemKind-discrete, Kids, Shape, depth_limit, is_key_tag, keys, no_value, one_value, pairs, shape, values, with_chunk, with_fields, with_kids, with_template}
use Rattle.payload.specs.Sound.{all_starts}
use Rattle.payload.specs.Spans.{small_spans}
use Rattle.payload.specs.Trees.{Item, LineIndex, Script, Trees, code, key_of, kind_of, native_name, nil, node, number, record_name, single, string}
use Rattle.payload.specs.Write.{item_named}
use Rattle.payload.specs.Writing.{pool_of}

pub record Root : Type 0 where
  pub tag : ℕ
  pub items : List (Item (List ℕ))

unfoldable pub roots : Trees (List ℕ) → List Root
roots nil = []
roots (node t is ks ts) = record { tag = t; items = is } ∷ roots ts

unfoldable pub same_kind : ItemKind → ItemKind → Bool
same_kind a b = elim (ItemKind-discrete NumberKind-discrete a b) [ yes p ↦ true | no q ↦ false ]

unfoldable pub same_kinds : List ItemKind → List (Item (List ℕ)) → Bool
same_kinds [] [] = true
same_kinds [] (i ∷ is) = false
same_kinds (k ∷ ks) [] = false
same_kinds (k ∷ ks) (i ∷ is) = same_kind k (kind_of i) and same_kinds ks is

-- every row's tag passes a test
unfoldable pub all_tags : (ℕ → Bool) → List Root → Bool
all_tags g [] = true
all_tags g (r ∷ rs) = g r.tag and all_tags g rs

abbrev pub is_value_tag : ℕ → Bool
is_value_tag t = leb t 26

abbrev pub is_tag : ℕ → ℕ → Bool
is_tag t u = eqb u t

abbrev pub all_values : List Root → Bool
all_values rs = all_tags is_value_tag rs

unfoldable pub distinct_keys : List (List ℕ) → List Root → Bool
distinct_keys seen [] = true
distinct_keys seen (r ∷ rs) = is_key_tag r.tag and not (is_in (key_of r.tag r.items) seen) and distinct_keys (key_of r.tag r.items ∷ seen) rs

-- key and value by turns
unfoldable pub distinct_pairs : List (List ℕ) → List Root → Bool
distinct_pairs seen [] = true
distinct_pairs seen (r ∷ []) = false
distinct_pairs seen (r ∷ v ∷ rs) = is_key_tag r.tag and not (is_in (key_of r.tag r.items) seen) and distinct_pairs (key_of r.tag r.items ∷ seen) rs

unfoldable pub kids_rule : Kids → List Root → Bool
kids_rule no_value rs = eqb (length rs) 0
kids_rule one_value rs = eqb (length rs) 1 and all_values rs
kids_rule values rs = all_values rs
kids_rule keys rs = all_values rs and distinct_keys [] rs
kids_rule pairs rs = all_values rs and distinct_pairs [] rs

unfoldable pub row_rule : Shape → List (Item (List ℕ)) → List Root → Bool
row_rule (with_kids ks kk) is rs = same_kinds ks is and kids_rule kk rs
row_rule (with_chunk ks) is rs = same_kinds ks is and eqb (length rs) 1 and all_tags (is_tag 32) rs
row_rule (with_fields ks) is rs = same_kinds ks is and all_tags (is_tag 33) rs
row_rule (with_template ks) is [] = false
row_rule (with_template ks) is (r ∷ rs) = same_kinds ks is and eqb r.tag 7 and all_values rs

-- with d levels left: a value takes one, a chunk or field row none
unfoldable pub obey_rules : ℕ → Trees (List ℕ) → Bool
obey_rules d nil = true
obey_rules d (node t is ks ts) = row_rule (shape t) is (roots ks) and when◌then◌else◌ (leb t 26) (ltb 0 d and obey_rules (pred d) ks) (obey_rules d ks) and obey_rules d ts

unfoldable pub item_sound : Item (List ℕ) → Bool
item_sound (number k w) = fits_kind k w
item_sound (string b) = is_utf8 b
item_sound (native_name b) = is_utf8 b
item_sound (record_name b) = is_utf8 b
item_sound (code b ss) = eqb (length ss) (length b) and small_spans ss

unfoldable pub item_gathered : List (List ℕ) → Item (List ℕ) → Bool
item_gathered l (number k w) = true
item_gathered l (string b) = is_in b l
item_gathered l (native_name b) = is_in b l
item_gathered l (record_name b) = true
item_gathered l (code b ss) = true

unfoldable pub line_rule : Option (LineIndex (List ℕ)) → Bool
line_rule none = true
line_rule (some x) = is_utf8 x.name and all_starts x.starts

-- the rules of soundness that are of the script and not of its tables
pub record SoundScript (s : Script (List ℕ)) : Type 0 where
  pub outer_is_chunk : s.outer.tag ≡ 32
  pub obeys : obey_rules depth_limit (single s.outer) ≡ true
  pub items_sound : all_items (item_sound) (single s.outer) ≡ true
  pub line_sound_lem : line_rule s.line ≡ true

unfoldable pub Named : Script (List ℕ) → Type 0
Named s = all_items (item_named (pool_of s)) (single s.outer) ≡ true

-- capacities are below these
pub record Small (c : Capacities) : Type 0 where
  pub small_rows : c.rows < 2 ^ 64
  pub small_spans_lem : c.spans < 2 ^ 64
  pub small_strings : c.strings ≤ 2 ^ 32
  pub small_starts : c.starts < 2 ^ 64

-- trees without their spans, which the row table does not hold
unfoldable pub without_spans_item : Item Part → Item Part
without_spans_item (number k w) = number k w
without_spans_item (string l) = string l
without_spans_item (native_name l) = native_name l
without_spans_item (record_name l) = record_name l
without_spans_item (code l ss) = code l []

unfoldable pub without_spans_items : List (Item Part) → List (Item Part)
without_spans_items [] = []
without_spans_items (i ∷ is) = without_spans_item i ∷ without_spans_items is

unfoldable pub without_spans : Trees Part → Trees Part
without_spans nil = nil
without_spans (node t is ks ts) = node t (without_spans_items is) (without_spans ks) (without_spans ts)
