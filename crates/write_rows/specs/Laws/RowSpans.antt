-- The spans of a row: those of its code, which is its first item.
use Rattle.std.specs.Prelude.{Bool, true, false, ◌≡◌, ℕ, suc, ◌*◌, eqb, get_or, take, drop}
use mathlib.Core.List.{List, [], ◌∷◌, ◌++◌, append-nil}
use Rattle.std.proofs.Math.Path.{refl, sym, ap}
use Rattle.std.proofs.Common.{ap₂, ◌∙◌, arith}
use Rattle.std.proofs.Math.ListN.{length}
use borrow.Author.Tests.{eqb-true}
use Rattle.payload.specs.Choice.{when◌then◌else◌}
use Rattle.payload.specs.Demand3.{all_of}
use Rattle.payload.specs.Laws.Pool.{and_left, and_right, false≢true}
use Rattle.payload.proofs.Laws.RoundTrip.{same_kind_eq}
use Rattle.payload.specs.Laws.Rules.{same_kind, same_kinds, item_sound}
use Rattle.payload.proofs.Laws.ScanWritten.{InStore, InItem, InItems, kind_bytes}
use Rattle.payload.specs.Numbers.{NumberKind, u64, u32, u16, u8, i64, i32, i16, i8, bool, char, handle, f64, f32}
use Rattle.payload.specs.Reader.{Part}
use Rattle.payload.specs.Rows.{part_words, item_words, items_words, items_spans}
use Rattle.payload.specs.Shapes.{ItemKind}
use Rattle.payload.specs.Sound.{spans_of}
use Rattle.payload.specs.Spans.{Span}
use Rattle.payload.specs.Tables.{span_words}
use Rattle.payload.specs.Trees.{Item, number, string, native_name, record_name, code, kind_of, forget_item, forget_items, span_item, span_items}
use Rattle.pool_index.specs.Strings.{bytes_at}
use Rattle.row_layout.specs.Layout.{number_form, item_form, first_of}
use Rattle.write_rows.specs.Laws.RowItems.{no_code, code_first, Spanned, AllSpanned}

---- spans as words

pub spans_back : (x y : List Span) (r : List ℕ) (n : ℕ) → n ≡ 2 * length x → spans_of (take n (span_words (x ++ y) ++ r)) ≡ x
unfolding span_words spans_of
spans_back [] y r n e = rw e
spans_back (a ∷ x) y r n e = let z : n ≡ suc (suc (2 * length x)) = omega arith in rw z (ap (λ (l : List Span). a ∷ l) (spans_back x y r (2 * length x) refl))

pub spans_drop : (x y : List Span) (r : List ℕ) → drop (2 * length x) (span_words (x ++ y) ++ r) ≡ span_words y ++ r
unfolding span_words
spans_drop [] y r = refl
spans_drop (a ∷ x) y r = let z : 2 * length (a ∷ x) ≡ suc (suc (2 * length x)) = omega arith in rw z (spans_drop x y r)

---- the code of a row

is_code : ItemKind → Bool
is_code (ItemKind.number k) = false
is_code ItemKind.string = false
is_code ItemKind.native_name = false
is_code ItemKind.record_name = false
is_code ItemKind.code = true

-- an item that is no code has no spans
no_span : (x : Item Part) (is : List (Item Part)) → is_code (kind_of x) ≡ false → (items_spans is ≡ []) × (span_items (forget_items is) ≡ 0) → (items_spans (x ∷ is) ≡ []) × (span_items (forget_items (x ∷ is)) ≡ 0)
unfolding is_code kind_of items_spans span_items span_item forget_items forget_item
no_span (number k w) is c h = (h.0, omega (arith, h.1))
no_span (string l) is c h = (h.0, omega (arith, h.1))
no_span (native_name l) is c h = (h.0, omega (arith, h.1))
no_span (record_name l) is c h = (h.0, omega (arith, h.1))
no_span (code l ss) is c h = false≢true (sym c)

not_code : (k : ItemKind) (kn : List ItemKind) → no_code (k ∷ kn) ≡ true → (is_code k ≡ false) × (no_code kn ≡ true)
unfolding no_code is_code
not_code (ItemKind.number k) kn c = (refl, c)
not_code ItemKind.string kn c = (refl, c)
not_code ItemKind.native_name kn c = (refl, c)
not_code ItemKind.record_name kn c = (refl, c)
not_code ItemKind.code kn c = false≢true c

of_kind : (k : ItemKind) (x : Item Part) → same_kind k (kind_of (forget_item x)) ≡ true → k ≡ kind_of x
of_kind k x q = same_kind_eq k (kind_of (forget_item x)) q ∙ kind_bytes x

pub no_spans : (kn : List ItemKind) (is : List (Item Part)) → no_code kn ≡ true → same_kinds kn (forget_items is) ≡ true → (items_spans is ≡ []) × (span_items (forget_items is) ≡ 0)
unfolding same_kinds forget_items items_spans span_items
no_spans [] [] c q = (refl, refl)
no_spans [] (x ∷ is) c q = false≢true q
no_spans (k ∷ kn) [] c q = false≢true q
no_spans (k ∷ kn) (x ∷ is) c q = let d = not_code k kn c in no_span x is (ap is_code (sym (of_kind k x (and_left _ _ q))) ∙ d.0) (no_spans kn is d.1 (and_right _ _ q))

-- what a row's spans are
pub record Coded (s : List ℕ) (kn : List ItemKind) (is : List (Item Part)) (a b : ℕ) : Type 0 where
  pub spanned : AllSpanned is (items_spans is)
  pub many : span_items (forget_items is) ≡ length (items_spans is)
  pub long : when◌then◌else◌ (eqb (first_of kn) 7) (length (bytes_at s a b)) 0 ≡ span_items (forget_items is)

no_spanned : (kn : List ItemKind) (is : List (Item Part)) (ss : List Span) → no_code kn ≡ true → same_kinds kn (forget_items is) ≡ true → AllSpanned is ss
unfolding same_kinds forget_items AllSpanned
no_spanned [] [] ss c q = tt
no_spanned [] (x ∷ is) ss c q = false≢true q
no_spanned (k ∷ kn) [] ss c q = false≢true q
no_spanned (k ∷ kn) (x ∷ is) ss c q = let d = not_code k kn c in (go x (ap is_code (sym (of_kind k x (and_left _ _ q))) ∙ d.0), no_spanned kn is ss d.1 (and_right _ _ q))
  where
    go : (x : Item Part) → is_code (kind_of x) ≡ false → Spanned x ss
    go (number k w) e = unfold Spanned in tt
    go (string l) e = unfold Spanned in tt
    go (native_name l) e = unfold Spanned in tt
    go (record_name l) e = unfold Spanned in tt
    go (code l ts) e = unfold is_code in (unfold kind_of in (false≢true (sym e)))

num_not : (k : NumberKind) → eqb (number_form k) 7 ≡ false
unfolding number_form
num_not u64 = refl
num_not u32 = refl
num_not u16 = refl
num_not handle = refl
num_not char = refl
num_not i64 = refl
num_not i32 = refl
num_not i16 = refl
num_not i8 = refl
num_not u8 = refl
num_not bool = refl
num_not f64 = refl
num_not f32 = refl

first_not : (k : ItemKind) → is_code k ≡ false → eqb (item_form k) 7 ≡ false
unfolding is_code item_form
first_not (ItemKind.number k) e = num_not k
first_not ItemKind.string e = refl
first_not ItemKind.native_name e = refl
first_not ItemKind.record_name e = refl
first_not ItemKind.code e = false≢true (sym e)

cf_rest : (k : ItemKind) (kn : List ItemKind) → code_first (k ∷ kn) ≡ true → no_code kn ≡ true
unfolding code_first
cf_rest (ItemKind.number k) kn c = c
cf_rest ItemKind.string kn c = c
cf_rest ItemKind.native_name kn c = c
cf_rest ItemKind.record_name kn c = c
cf_rest ItemKind.code kn c = c

module _ (s : List ℕ) where
  coded_plain : (k : ItemKind) (kn : List ItemKind) (x : Item Part) (is : List (Item Part)) (a b : ℕ)
      → k ≡ kind_of x → is_code (kind_of x) ≡ false → no_code kn ≡ true → same_kinds kn (forget_items is) ≡ true → Spanned x (items_spans (x ∷ is)) → Coded s (k ∷ kn) (x ∷ is) a b
  unfolding AllSpanned first_of when◌then◌else◌
  coded_plain k kn x is a b e c n q p = let bare = no_span x is c (no_spans kn is n q) in record {
    spanned = (p, no_spanned kn is _ n q);
    many = bare.1 ∙ sym (ap length bare.0);
    long = rw (first_not k (ap is_code e ∙ c)) (sym bare.1);
  }

  coded_code : (k : ItemKind) (kn : List ItemKind) (l : Part) (ss : List Span) (is : List (Item Part)) (a b : ℕ) (ws : List ℕ) → k ≡ ItemKind.code → no_code kn ≡ true → same_kinds kn (forget_items is) ≡ true → InStore s l
      → eqb (length ss) (length l.bytes) ≡ true → a ≡ l.offset → b ≡ length l.bytes → Coded s (k ∷ kn) (code l ss ∷ is) a b
  unfolding AllSpanned Spanned first_of item_form when◌then◌else◌ items_spans span_items span_item forget_items forget_item bytes_at
  coded_code k kn l ss is a b ws e n q i z ea eb =
      let bare = no_spans kn is n q in
      let all-spans : ss ++ items_spans is ≡ ss = ap (λ (v : List Span). ss ++ v) bare.0 ∙ append-nil ss in
      let m = eqb-true (length ss) (length l.bytes) z in
      record {
        spanned = (all-spans, no_spanned kn is _ n q);
        many = omega (arith, bare.1, ap length all-spans);
        long = rw e (ap₂ (λ (x y : ℕ). length (take y (drop x s))) ea eb ∙ ap length i.its_bytes ∙ omega (arith, bare.1));
      }

  pub coded : (kn : List ItemKind) (is : List (Item Part)) (ws : List ℕ) (a b : ℕ) → code_first kn ≡ true → same_kinds kn (forget_items is) ≡ true → InItems s is → all_of item_sound (forget_items is) ≡ true
      → a ≡ get_or (items_words is ++ ws) 0 0 → b ≡ get_or (items_words is ++ ws) 1 0 → Coded s kn is a b
  unfolding same_kinds forget_items forget_item InItems InItem all_of item_sound items_words item_words part_words
  coded [] [] ws a b c q i h ea eb = record { spanned = unfold AllSpanned in tt; many = unfold span_items items_spans in refl; long = unfold first_of when◌then◌else◌ span_items in refl }
  coded [] (x ∷ is) ws a b c q i h ea eb = false≢true q
  coded (k ∷ kn) [] ws a b c q i h ea eb = false≢true q
  coded (k ∷ kn) (number n w ∷ is) ws a b c q i h ea eb = coded_plain k kn (number n w) is a b (of_kind k (number n w) (and_left _ _ q)) (unfold is_code kind_of in refl) (cf_rest k kn c) (and_right _ _ q) (unfold Spanned in tt)
  coded (k ∷ kn) (string l ∷ is) ws a b c q i h ea eb = coded_plain k kn (string l) is a b (of_kind k (string l) (and_left _ _ q)) (unfold is_code kind_of in refl) (cf_rest k kn c) (and_right _ _ q) (unfold Spanned in tt)
  coded (k ∷ kn) (native_name l ∷ is) ws a b c q i h ea eb = coded_plain k kn (native_name l) is a b (of_kind k (native_name l) (and_left _ _ q)) (unfold is_code kind_of in refl) (cf_rest k kn c) (and_right _ _ q) (unfold Spanned in tt)
  coded (k ∷ kn) (record_name l ∷ is) ws a b c q i h ea eb = coded_plain k kn (record_name l) is a b (of_kind k (record_name l) (and_left _ _ q)) (unfold is_code kind_of in refl) (cf_rest k kn c) (and_right _ _ q) (unfold Spanned in tt)
  coded (k ∷ kn) (code l ss ∷ is) ws a b c q i h ea eb = coded_code k kn l ss is a b ws (of_kind k (code l ss) (and_left _ _ q) ∙ unfold kind_of in refl) (cf_rest k kn c) (and_right _ _ q) i.0 (and_left _ _ (and_left _ _ h)) ea eb
