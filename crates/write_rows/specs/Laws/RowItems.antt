-- One row: what the walk takes from its words is what the definition writes of its items.
use Rattle.std.specs.Prelude.{Bool, true, false, ◌≡◌, ℕ, zero, suc, ◌+◌, ◌≤◌, ◌<◌, min, leb}
use mathlib.Core.List.{List, [], ◌∷◌, ◌++◌, append_assoc, append-nil}
use Rattle.std.proofs.Math.Path.{refl, sym, ap, ap₂}
use Rattle.std.proofs.Common.{◌∙◌, mod-eq_of_lt, add-zero, le_of_suc-le-suc, not-suc-le-zero}
use native.Mathlib.Omega.{arith}
use Rattle.std.proofs.Math.ListN.{length, get_or, length-append}
use Rattle.std.proofs.Math.Seq.{get_or-append-add}
use borrow.Author.Tests.{leb-true, ltb-true}
use Rattle.varint.specs.Uleb128.{uleb128}
use Rattle.payload.specs.Choice.{when◌then◌else◌, ◌and◌}
use Rattle.payload.specs.Demand3.{all_of}
use Rattle.payload.specs.Laws.Pool.{and_left, and_right, false≢true}
use Rattle.payload.proofs.Laws.RoundTrip.{same_kind_eq}
use Rattle.payload.specs.Laws.Rules.{same_kind, same_kinds, item_sound}
use Rattle.payload.proofs.Laws.ScanWritten.{InItem, InItems, kind_bytes}
use Rattle.payload.specs.Numbers.{NumberKind, u64, u32, u16, u8, i64, i32, i16, i8, bool, char, handle, f64, f32, fits_kind, write_number}
use Rattle.payload.specs.Pool.{index_of}
use Rattle.payload.specs.Reader.{Part}
use Rattle.payload.specs.Rows.{part_words, item_words, items_words, kind_width, kinds_width}
use Rattle.payload.specs.Shapes.{ItemKind, Shape, with_kids, with_chunk, with_fields, with_template, shape, shapes}
use Rattle.payload.specs.Spans.{Span, write_code}
use Rattle.payload.specs.Trees.{Item, number, string, native_name, record_name, code, kind_of, forget_item, forget_items}
use Rattle.payload.specs.Writing.{write_item, write_items}
use Rattle.pool_index.specs.Strings.{bytes_at}
use Rattle.row_layout.specs.Laws.Layout.{shape_min}
use Rattle.row_layout.specs.Layout.{number_form, item_form, first_of, second_of, after_first}
use Rattle.write_rows.specs.Walk.{item_bytes}

---- the shapes: code comes first, at most two items

unfoldable pub no_code : List ItemKind → Bool
no_code [] = true
no_code (ItemKind.number k ∷ ks) = no_code ks
no_code (ItemKind.string ∷ ks) = no_code ks
no_code (ItemKind.native_name ∷ ks) = no_code ks
no_code (ItemKind.record_name ∷ ks) = no_code ks
no_code (ItemKind.code ∷ ks) = false

unfoldable pub code_first : List ItemKind → Bool
code_first [] = true
code_first (ItemKind.number k ∷ ks) = no_code ks
code_first (ItemKind.string ∷ ks) = no_code ks
code_first (ItemKind.native_name ∷ ks) = no_code ks
code_first (ItemKind.record_name ∷ ks) = no_code ks
code_first (ItemKind.code ∷ ks) = no_code ks

unfoldable pub fine : Shape → Bool
fine (with_kids kn kk) = leb (length kn) 2 and code_first kn
fine (with_chunk kn) = leb (length kn) 2 and code_first kn
fine (with_fields kn) = leb (length kn) 2 and code_first kn
fine (with_template kn) = leb (length kn) 2 and no_code kn

every_fine : ℕ → ℕ → Bool
every_fine zero k = true
every_fine (suc n) k = fine (shape k) and every_fine n (suc k)

fine_from : (n k : ℕ) → every_fine n k ≡ true → (i : ℕ) → i < n → fine (shape (k + i)) ≡ true
unfolding every_fine
fine_from zero k h i l = absurd (not-suc-le-zero l)
fine_from (suc n) k h zero l = rw (add-zero k) (and_left _ _ h)
fine_from (suc n) k h (suc i) l = let e : k + suc i ≡ suc k + i = omega arith in rw e (fine_from n (suc k) (and_right _ _ h) i (le_of_suc-le-suc l))

fine_low : every_fine 35 0 ≡ true
unfolding every_fine fine shape shapes when◌then◌else◌ ◌and◌ no_code code_first
fine_low = refl

pub fine_shape : (t : ℕ) → fine (shape t) ≡ true
fine_shape t = let e : 0 + min t 34 ≡ min t 34 = omega arith in
    ap fine (sym (shape_min t)) ∙ ap (λ (n : ℕ). fine (shape n)) (sym e) ∙ fine_from 35 0 fine_low (min t 34) (omega arith)

---- one item

-- the spans of an item with code
unfoldable pub Spanned : Item Part → List Span → Type 0
Spanned (number k w) ss = Unit {0}
Spanned (string l) ss = Unit {0}
Spanned (native_name l) ss = Unit {0}
Spanned (record_name l) ss = Unit {0}
Spanned (code l ts) ss = ss ≡ ts

unfoldable pub AllSpanned : List (Item Part) → List Span → Type 0
AllSpanned [] ss = Unit {0}
AllSpanned (i ∷ is) ss = Spanned i ss × AllSpanned is ss

module _ (s : List ℕ) (l : List (List ℕ)) (ss : List Span) where
  item_num : (k : NumberKind) (w b : ℕ) → fits_kind k w ≡ true → item_bytes s l ss (number_form k) w b ≡ write_number k w
  unfolding item_bytes number_form write_number fits_kind when◌then◌else◌
  item_num u64 w b h = refl
  item_num u32 w b h = refl
  item_num u16 w b h = refl
  item_num handle w b h = refl
  item_num char w b h = refl
  item_num i64 w b h = refl
  item_num i32 w b h = refl
  item_num i16 w b h = refl
  item_num i8 w b h = refl
  item_num u8 w b h = ap (λ (x : ℕ). x ∷ []) (mod-eq_of_lt (ltb-true w 256 h))
  item_num bool w b h = let g = ltb-true w 2 h in let lt : w < 256 = omega arith in ap (λ (x : ℕ). x ∷ []) (mod-eq_of_lt lt)
  item_num f64 w b h = refl
  item_num f32 w b h = refl

  item_written : (x : Item Part) (a b : ℕ) (ws : List ℕ) → a ≡ get_or (item_words x ++ ws) 0 0 → b ≡ get_or (item_words x ++ ws) 1 0 → InItem s x → item_sound (forget_item x) ≡ true → Spanned x ss
      → item_bytes s l ss (item_form (kind_of x)) a b ≡ write_item l (forget_item x)
  unfolding item_words part_words InItem item_sound forget_item Spanned item_form kind_of write_item
  item_written (number k w) a b ws ea eb i h q = ap (λ (x : ℕ). item_bytes s l ss (number_form k) x b) ea ∙ item_num k w b h
  item_written (string x) a b ws ea eb i h q =
      ap₂ (λ (m n : ℕ). item_bytes s l ss 6 m n) ea eb ∙ unfold item_bytes in (unfold when◌then◌else◌ in (unfold bytes_at in (ap (λ (y : List ℕ). uleb128 (index_of y l)) i.its_bytes)))
  item_written (native_name x) a b ws ea eb i h q =
      ap₂ (λ (m n : ℕ). item_bytes s l ss 6 m n) ea eb ∙ unfold item_bytes in (unfold when◌then◌else◌ in (unfold bytes_at in (ap (λ (y : List ℕ). uleb128 (index_of y l)) i.its_bytes)))
  item_written (record_name x) a b ws ea eb i h q =
      ap₂ (λ (m n : ℕ). item_bytes s l ss 6 m n) ea eb ∙ unfold item_bytes in (unfold when◌then◌else◌ in (unfold bytes_at in (ap (λ (y : List ℕ). uleb128 (index_of y l)) i.its_bytes)))
  item_written (code x ts) a b ws ea eb i h q = ap₂ (λ (m n : ℕ). item_bytes s l ss 7 m n) ea eb ∙ unfold item_bytes in (unfold when◌then◌else◌ in (unfold bytes_at in (ap₂ write_code i.its_bytes q)))

  item_none : (a b : ℕ) → item_bytes s l ss 0 a b ≡ []
  unfolding item_bytes when◌then◌else◌
  item_none a b = refl

  length_item : (x : Item Part) → length (item_words x) ≡ kind_width (kind_of x)
  unfolding item_words part_words kind_width kind_of
  length_item (number k w) = refl
  length_item (string x) = refl
  length_item (native_name x) = refl
  length_item (record_name x) = refl
  length_item (code x ts) = refl

  of_kind : (k : ItemKind) (x : Item Part) → same_kind k (kind_of (forget_item x)) ≡ true → k ≡ kind_of x
  of_kind k x q = same_kind_eq k (kind_of (forget_item x)) q ∙ kind_bytes x

  width_low : (k : ItemKind) → kind_width k ≤ 2
  unfolding kind_width
  width_low (ItemKind.number k) = omega arith
  width_low ItemKind.string = omega arith
  width_low ItemKind.native_name = omega arith
  width_low ItemKind.record_name = omega arith
  width_low ItemKind.code = omega arith

  too_long : {A : Type 0} (kn : List ItemKind) → leb (suc (suc (suc (length kn)))) 2 ≡ true → A
  too_long kn c = let h = leb-true (suc (suc (suc (length kn)))) 2 c in absurd (omega arith)

  -- the first two items of a row whose words are w
  pub items_written : (kn : List ItemKind) (is : List (Item Part)) (ws : List ℕ) (w : ℕ → ℕ) → leb (length kn) 2 ≡ true → same_kinds kn (forget_items is) ≡ true
      → InItems s is → all_of item_sound (forget_items is) ≡ true → AllSpanned is ss
      → ((k : ℕ) → k < 4 → w (1 + k) ≡ get_or (items_words is ++ ws) k 0)
      → item_bytes s l ss (first_of kn) (w 1) (w 2) ++ item_bytes s l ss (second_of kn) (w (after_first kn)) (w (after_first kn + 1)) ≡ write_items l (forget_items is)
  unfolding same_kinds forget_items InItems all_of AllSpanned items_words first_of second_of after_first write_items
  items_written [] [] ws w c q i h p e = ap₂ (λ (x y : List ℕ). x ++ y) (item_none (w 1) (w 2)) (item_none (w 1) (w 2))
  items_written [] (x ∷ is) ws w c q i h p e = false≢true q
  items_written (k ∷ []) [] ws w c q i h p e = false≢true q
  items_written (k ∷ k' ∷ []) [] ws w c q i h p e = false≢true q
  items_written (k ∷ []) (x ∷ []) ws w c q i h p e =
      let at : (n : ℕ) → n < 2 → w (1 + n) ≡ get_or (item_words x ++ ([] ++ ws)) n 0 = λ n hn. e n (omega arith) ∙ ap (λ (v : List ℕ). get_or v n 0) (append_assoc (item_words x) [] ws) in
      rw (of_kind k x (and_left _ _ q))
      (ap₂ (λ (y z : List ℕ). y ++ z) (item_written x (w 1) (w 2) ([] ++ ws) (at 0 (omega arith)) (at 1 (omega arith)) i.0 (and_left _ _ h) p.0) (item_none _ _))
  items_written (k ∷ []) (x ∷ y ∷ is) ws w c q i h p e = false≢true (and_right (same_kind k (kind_of (forget_item x))) _ q)
  items_written (k ∷ k' ∷ []) (x ∷ []) ws w c q i h p e = false≢true (and_right (same_kind k (kind_of (forget_item x))) _ q)
  items_written (k ∷ k' ∷ []) (x ∷ y ∷ []) ws w c q i h p e =
      let ek = of_kind k x (and_left _ _ q) in
      let ek' = of_kind k' y (and_left _ _ (and_right _ _ q)) in
      let lx : length (item_words x) ≡ kind_width k = length_item x ∙ ap kind_width (sym ek) in
      let lw = width_low k in
      let again : (item_words x ++ (item_words y ++ [])) ++ ws ≡ item_words x ++ (item_words y ++ ws) = append_assoc (item_words x) (item_words y ++ []) ws
      ∙ ap (λ (v : List ℕ). item_words x ++ v) (append_assoc (item_words y) [] ws) in
      let at : (n : ℕ) → n < 2 → w (1 + kind_width k + n) ≡ get_or (item_words y ++ ws) n 0 = λ n hn.
      let z : 1 + kind_width k + n ≡ 1 + (kind_width k + n) = omega arith in
      ap w z ∙ e (kind_width k + n) (omega arith)
      ∙ ap (λ (v : List ℕ). get_or v (kind_width k + n) 0) again ∙ ap (λ (m : ℕ). get_or (item_words x ++ (item_words y ++ ws)) (m + n) 0) (sym lx) ∙ get_or-append-add (item_words x) (item_words y ++ ws) n 0 in
      let first : item_bytes s l ss (item_form k) (w 1) (w 2) ≡ write_item l (forget_item x) =
      ap (λ (m : ItemKind). item_bytes s l ss (item_form m) (w 1) (w 2)) ek
      ∙ item_written x (w 1) (w 2) (item_words y ++ ws) (e 0 (omega arith) ∙ ap (λ (v : List ℕ). get_or v 0 0) again) (e 1 (omega arith) ∙ ap (λ (v : List ℕ). get_or v 1 0) again) i.0 (and_left _ _ h) p.0 in
      let z0 : 1 + kind_width k ≡ 1 + kind_width k + 0 = omega arith in
      let a = w (1 + kind_width k) in
      let b = w (1 + kind_width k + 1) in
      let second : item_bytes s l ss (item_form k') a b ≡ write_item l (forget_item y) =
      ap (λ (m : ItemKind). item_bytes s l ss (item_form m) a b) ek' ∙ item_written y a b ws (ap w z0 ∙ at 0 (omega arith)) (at 1 (omega arith)) i.1.0 (and_left _ _ (and_right _ _ h)) p.1.0 in
      ap₂ (λ (m n : List ℕ). m ++ n) first (second ∙ sym (append-nil _))
  items_written (k ∷ k' ∷ []) (x ∷ y ∷ z ∷ is) ws w c q i h p e = false≢true (and_right (same_kind k' (kind_of (forget_item y))) _ (and_right (same_kind k (kind_of (forget_item x))) _ q))
  items_written (k ∷ k' ∷ k'' ∷ kn) [] ws w c q i h p e = false≢true q
  items_written (k ∷ k' ∷ k'' ∷ kn) (x ∷ []) ws w c q i h p e = too_long kn c
  items_written (k ∷ k' ∷ k'' ∷ kn) (x ∷ y ∷ []) ws w c q i h p e = too_long kn c
  items_written (k ∷ k' ∷ k'' ∷ kn) (x ∷ y ∷ z ∷ is) ws w c q i h p e = too_long kn c

  pub length_items : (kn : List ItemKind) (is : List (Item Part)) → same_kinds kn (forget_items is) ≡ true → length (items_words is) ≡ kinds_width kn
  unfolding same_kinds forget_items items_words kinds_width
  length_items [] [] q = refl
  length_items [] (x ∷ is) q = false≢true q
  length_items (k ∷ kn) [] q = false≢true q
  length_items (k ∷ kn) (x ∷ is) q = length-append (item_words x) (items_words is) ∙ ap₂ (λ (m n : ℕ). m + n) (length_item x ∙ ap kind_width (sym (of_kind k x (and_left _ _ q)))) (length_items kn is (and_right _ _ q))
