-- Rows given their spans: nothing but the spans changes, and the span table gives them back.
use Rattle.std.specs.Prelude.{Bool, true, List, [], ◌++◌, ◌∷◌, ◌≡◌, ◌*◌, ◌+◌, ◌≤◌, pred, suc, zero, ℕ, drop, length, take}
use Rattle.std.proofs.Common.{append_assoc, ◌∙◌, ap, ap₂, sym, add_assoc, zero-add, arith, length-append, length-drop, drop_at, drop-drop, length-take-le, take-add, take_at, eq-eqb, eqb-true}
use Rattle.std.proofs.Math.Path.{refl}
use Rattle.payload.specs.Choice.{◌and◌}
use Rattle.payload.specs.Demand3.{all_items, all_of}
use Rattle.payload.specs.Laws.Pool.{and_both, and_left, and_right}
use Rattle.payload.specs.Laws.Rules.{Root, all_tags, distinct_keys, distinct_pairs, is_tag, is_value_tag, item_sound, kids_rule, obey_rules, roots, row_rule, same_kinds, without_spans, without_spans_item, without_spans_items}
use Rattle.payload.proofs.Laws.ScanWritten.{InItem, InItems, InTrees, count_roots, key_bare}
use Rattle.payload.proofs.Laws.Takes.{item_row_sound}
use Rattle.payload.specs.Reader.{Part}
use Rattle.payload.specs.Rows.{item_words, items_spans, items_words, root_count, row_table, row_words, span_table}
use Rattle.payload.specs.Shapes.{ItemKind, Kids, Shape, keys, no_value, one_value, pairs, shape, values, with_chunk, with_fields, with_kids, with_template}
use Rattle.payload.specs.Sound.{give, give_item, give_items, spans_of}
use Rattle.payload.specs.Spans.{Span, small_spans}
use Rattle.payload.specs.Tables.{span_words}
use Rattle.payload.specs.Trees.{Item, Trees, code, forget_item, forget_items, forget_trees, key_of, kind_of, native_name, nil, node, number, record_name, span_count, span_item, span_items, string}

---- a span table's words

pub spans_of_words : (ss : List Span) → spans_of (span_words ss) ≡ ss
unfolding spans_of span_words
spans_of_words [] = refl
spans_of_words (s ∷ ss) = ap (λ (x : List Span). s ∷ x) (spans_of_words ss)

-- an odd last word belongs to no span
pub words_of_spans : (ws : List ℕ) (n : ℕ) → length ws ≡ 2 * n → span_words (spans_of ws) ≡ ws
unfolding spans_of span_words
words_of_spans [] n e = refl
words_of_spans (a ∷ []) n e = absurd (omega arith)
words_of_spans (a ∷ b ∷ ws) n e = ap (λ (x : List ℕ). a ∷ b ∷ x) (words_of_spans ws (pred n) (omega arith))

pub length_spans_of : (ws : List ℕ) (n : ℕ) → length ws ≡ 2 * n → length (spans_of ws) ≡ n
unfolding spans_of
length_spans_of [] n e = omega arith
length_spans_of (a ∷ []) n e = absurd (omega arith)
length_spans_of (a ∷ b ∷ ws) n e = let h = length_spans_of ws (pred n) (omega arith) in omega arith

pub length_span_words : (ss : List Span) → length (span_words ss) ≡ 2 * length ss
unfolding span_words
length_span_words [] = refl
length_span_words (s ∷ ss) = let h = length_span_words ss in omega arith

small_append : (ss rs : List Span) → small_spans ss ≡ true → small_spans rs ≡ true → small_spans (ss ++ rs) ≡ true
unfolding small_spans
small_append [] rs p q = q
small_append (s ∷ ss) rs p q = and_both (and_left _ _ p) (and_both (and_left _ _ (and_right _ _ p)) (small_append ss rs (and_right _ _ (and_right _ _ p)) q))

small_take : (n : ℕ) (ss : List Span) → small_spans ss ≡ true → small_spans (take n ss) ≡ true
unfolding small_spans
small_take zero ss p = refl
small_take (suc n) [] p = refl
small_take (suc n) (s ∷ ss) p = and_both (and_left _ _ p) (and_both (and_left _ _ (and_right _ _ p)) (small_take n ss (and_right _ _ (and_right _ _ p))))

small_drop : (n : ℕ) (ss : List Span) → small_spans ss ≡ true → small_spans (drop n ss) ≡ true
unfolding small_spans
small_drop zero ss p = p
small_drop (suc n) [] p = refl
small_drop (suc n) (s ∷ ss) p = small_drop n ss (and_right _ _ (and_right _ _ p))

---- what does not look at spans

words_without : (i : Item Part) → item_words (without_spans_item i) ≡ item_words i
unfolding item_words without_spans_item
words_without (number k w) = refl
words_without (string l) = refl
words_without (native_name l) = refl
words_without (record_name l) = refl
words_without (code l ss) = refl

items_words_without : (is : List (Item Part)) → items_words (without_spans_items is) ≡ items_words is
unfolding items_words without_spans_items
items_words_without [] = refl
items_words_without (i ∷ is) = ap₂ ◌++◌ (words_without i) (items_words_without is)

pub root_count_without : (ts : Trees Part) → root_count (without_spans ts) ≡ root_count ts
unfolding root_count without_spans
root_count_without nil = refl
root_count_without (node t is ks ts) = ap suc (root_count_without ts)

pub row_table_without : (ts : Trees Part) → row_table (without_spans ts) ≡ row_table ts
unfolding row_table without_spans row_words
row_table_without nil = refl
row_table_without (node t is ks ts) = rw (items_words_without is, root_count_without ks, row_table_without ks, row_table_without ts)

span_item_without : (i : Item Part) → span_item (forget_item (without_spans_item i)) ≡ span_item (forget_item i)
unfolding span_item forget_item without_spans_item
span_item_without (number k w) = refl
span_item_without (string l) = refl
span_item_without (native_name l) = refl
span_item_without (record_name l) = refl
span_item_without (code l ss) = refl

pub span_items_without : (is : List (Item Part)) → span_items (forget_items (without_spans_items is)) ≡ span_items (forget_items is)
unfolding span_items forget_items without_spans_items
span_items_without [] = refl
span_items_without (i ∷ is) = ap₂ ◌+◌ (span_item_without i) (span_items_without is)

pub span_count_without : (ts : Trees Part) → span_count (forget_trees (without_spans ts)) ≡ span_count (forget_trees ts)
unfolding span_count forget_trees without_spans
span_count_without nil = refl
span_count_without (node t is ks ts) = rw (span_items_without is, span_count_without ks, span_count_without ts)

---- the rules look at tags, kinds and keys

kind_without : (i : Item Part) → kind_of (forget_item (without_spans_item i)) ≡ kind_of (forget_item i)
unfolding kind_of forget_item without_spans_item
kind_without (number k w) = refl
kind_without (string l) = refl
kind_without (native_name l) = refl
kind_without (record_name l) = refl
kind_without (code l ss) = refl

kinds_without : (kn : List ItemKind) (is : List (Item Part)) → same_kinds kn (forget_items (without_spans_items is)) ≡ same_kinds kn (forget_items is)
unfolding same_kinds forget_items without_spans_items
kinds_without [] [] = refl
kinds_without [] (i ∷ is) = refl
kinds_without (k ∷ kn) [] = refl
kinds_without (k ∷ kn) (i ∷ is) = rw (kind_without i, kinds_without kn is)

abbrev roots_of : Trees Part → List Root
roots_of ts = roots (forget_trees ts)

tags_without : (g : ℕ → Bool) (ts : Trees Part) → all_tags g (roots_of (without_spans ts)) ≡ all_tags g (roots_of ts)
unfolding all_tags roots forget_trees without_spans
tags_without g nil = refl
tags_without g (node t is ks ts) = ap (λ (b : Bool). g t and b) (tags_without g ts)

length_without : (ts : Trees Part) → length (roots_of (without_spans ts)) ≡ length (roots_of ts)
length_without ts = count_roots (without_spans ts) ∙ root_count_without ts ∙ sym (count_roots ts)

keys_without : (seen : List (List ℕ)) (ts : Trees Part) → distinct_keys seen (roots_of (without_spans ts)) ≡ distinct_keys seen (roots_of ts)
unfolding distinct_keys roots forget_trees without_spans
keys_without seen nil = refl
keys_without seen (node t is ks ts) = rw (key_bare t is, keys_without (key_of t (forget_items is) ∷ seen) ts)

pairs_without : (seen : List (List ℕ)) (ts : Trees Part) → distinct_pairs seen (roots_of (without_spans ts)) ≡ distinct_pairs seen (roots_of ts)
unfolding distinct_pairs roots forget_trees without_spans
pairs_without seen nil = refl
pairs_without seen (node t is ks nil) = refl
pairs_without seen (node t is ks (node t' is' ks' ts)) = rw (key_bare t is, pairs_without (key_of t (forget_items is) ∷ seen) ts)

kids_rule_without : (kk : Kids) (ts : Trees Part) → kids_rule kk (roots_of (without_spans ts)) ≡ kids_rule kk (roots_of ts)
unfolding kids_rule
kids_rule_without no_value ts = rw (length_without ts)
kids_rule_without one_value ts = rw (length_without ts, tags_without is_value_tag ts)
kids_rule_without values ts = tags_without is_value_tag ts
kids_rule_without keys ts = rw (tags_without is_value_tag ts, keys_without [] ts)
kids_rule_without pairs ts = rw (tags_without is_value_tag ts, pairs_without [] ts)

row_rule_without : (sh : Shape) (is : List (Item Part)) (ks : Trees Part) → row_rule sh (forget_items (without_spans_items is)) (roots_of (without_spans ks)) ≡ row_rule sh (forget_items is) (roots_of ks)
unfolding row_rule
row_rule_without (with_kids kn kk) is ks = rw (kinds_without kn is, kids_rule_without kk ks)
row_rule_without (with_chunk kn) is ks = rw (kinds_without kn is, length_without ks, tags_without (is_tag 32) ks)
row_rule_without (with_fields kn) is ks = rw (kinds_without kn is, tags_without (is_tag 33) ks)
row_rule_without (with_template kn) is nil = unfold roots forget_trees without_spans in refl
row_rule_without (with_template kn) is (node t js us ks) = unfold roots forget_trees without_spans in (rw (kinds_without kn is, tags_without is_value_tag ks))

pub obey_without : (d : ℕ) (ts : Trees Part) → obey_rules d (forget_trees (without_spans ts)) ≡ obey_rules d (forget_trees ts)
unfolding obey_rules forget_trees without_spans
obey_without d nil = refl
obey_without d (node t is ks ts) = rw (row_rule_without (shape t) is ks, obey_without (pred d) ks, obey_without d ks, obey_without d ts)

---- giving changes nothing but the spans

given_item : (ss : List Span) (i : Item Part) → without_spans_item (give_item ss i) ≡ without_spans_item i
unfolding without_spans_item give_item
given_item ss (number k w) = refl
given_item ss (string l) = refl
given_item ss (native_name l) = refl
given_item ss (record_name l) = refl
given_item ss (code l rs) = refl

given_items : (ss : List Span) (is : List (Item Part)) → without_spans_items (give_items ss is) ≡ without_spans_items is
unfolding without_spans_items give_items
given_items ss [] = refl
given_items ss (i ∷ is) = ap₂ ◌∷◌ (given_item ss i) (given_items (drop (span_item (forget_item i)) ss) is)

pub without_given : (ss : List Span) (ts : Trees Part) → without_spans (give ss ts) ≡ without_spans ts
unfolding without_spans give
without_given ss nil = refl
without_given ss (node t is ks ts) = rw (given_items ss is, without_given (drop (span_items (forget_items is)) ss) ks, without_given (drop (span_items (forget_items is) + span_count (forget_trees ks)) ss) ts)

-- what does not look at spans is the same of rows given theirs
pub same_given : {A : Type 0} (f : Trees Part → A) → ((ts : Trees Part) → f (without_spans ts) ≡ f ts) → (ss : List Span) (ts : Trees Part) → f (give ss ts) ≡ f ts
same_given f e ss ts = sym (e (give ss ts)) ∙ ap f (without_given ss ts) ∙ e ts

pub row_table_given : (ss : List Span) (ts : Trees Part) → row_table (give ss ts) ≡ row_table ts
row_table_given = same_given row_table row_table_without

pub obey_given : (d : ℕ) (ss : List Span) (ts : Trees Part) → obey_rules d (forget_trees (give ss ts)) ≡ obey_rules d (forget_trees ts)
obey_given d = same_given (λ ts. obey_rules d (forget_trees ts)) (obey_without d)

in_item_given : (store : List ℕ) (ss : List Span) (i : Item Part) → InItem store i → InItem store (give_item ss i)
unfolding InItem give_item
in_item_given store ss (number k w) h = h
in_item_given store ss (string l) h = h
in_item_given store ss (native_name l) h = h
in_item_given store ss (record_name l) h = h
in_item_given store ss (code l rs) h = h

in_items_given : (store : List ℕ) (ss : List Span) (is : List (Item Part)) → InItems store is → InItems store (give_items ss is)
unfolding InItems give_items span_item forget_item
in_items_given store ss [] h = h
in_items_given store ss (i ∷ is) h = (in_item_given store ss i h.0, in_items_given store _ is h.1)

-- the parts stand where they stood
pub in_given : (store : List ℕ) (ss : List Span) (ts : Trees Part) → InTrees store ts → InTrees store (give ss ts)
unfolding InTrees give span_items forget_items
in_given store ss nil h = h
in_given store ss (node t is ks ts) h = (
  in_items_given store ss is h.0,
  in_given store (drop (span_items (forget_items is)) ss) ks h.1,
  in_given store (drop (span_items (forget_items is) + span_count (forget_trees ks)) ss) ts h.2,
)

---- the spans given are the span table

spans_given_items : (ss : List Span) (is : List (Item Part)) → items_spans (give_items ss is) ≡ take (span_items (forget_items is)) ss
unfolding items_spans give_items give_item span_items span_item forget_items forget_item
spans_given_items ss [] = refl
spans_given_items ss (number k w ∷ is) = rw (zero-add (span_items (forget_items is))) (spans_given_items ss is)
spans_given_items ss (string l ∷ is) = rw (zero-add (span_items (forget_items is))) (spans_given_items ss is)
spans_given_items ss (native_name l ∷ is) = rw (zero-add (span_items (forget_items is))) (spans_given_items ss is)
spans_given_items ss (record_name l ∷ is) = rw (zero-add (span_items (forget_items is))) (spans_given_items ss is)
spans_given_items ss (code l rs ∷ is) = let n = length l.bytes in
    ap (λ (x : List Span). take n ss ++ x) (spans_given_items (drop n ss) is) ∙ sym (take-add n (span_items (forget_items is)) ss)

pub span_table_given : (ss : List Span) (ts : Trees Part) → span_table (give ss ts) ≡ take (span_count (forget_trees ts)) ss
unfolding span_table give span_count forget_trees
span_table_given ss nil = refl
span_table_given ss (node t is ks ts) =
    let n = span_items (forget_items is) in
    let m = span_count (forget_trees ks) in
    let k = span_count (forget_trees ts) in
    rw (spans_given_items ss is, span_table_given (drop n ss) ks, span_table_given (drop (n + m) ss) ts)
    (rw (add_assoc n m k, take-add n (m + k) ss, take-add m k (drop n ss), drop-drop m n ss))

---- and giving the span table back gives the rows back

length_items_spans : (is : List (Item Part)) → all_of item_sound (forget_items is) ≡ true → length (items_spans is) ≡ span_items (forget_items is)
unfolding items_spans span_items span_item forget_items forget_item all_of item_sound
length_items_spans [] h = refl
length_items_spans (number k w ∷ is) h = length_items_spans is (and_right _ _ h) ∙ sym (zero-add _)
length_items_spans (string l ∷ is) h = length_items_spans is (and_right _ _ h) ∙ sym (zero-add _)
length_items_spans (native_name l ∷ is) h = length_items_spans is (and_right _ _ h) ∙ sym (zero-add _)
length_items_spans (record_name l ∷ is) h = length_items_spans is (and_right _ _ h) ∙ sym (zero-add _)
length_items_spans (code l ss ∷ is) h = length-append ss (items_spans is) ∙ ap₂ ◌+◌ (eqb-true _ _ (and_left _ _ (and_left _ _ h))) (length_items_spans is (and_right _ _ h))

-- one span for each byte of code
pub length_span_table : (ts : Trees Part) → all_items item_sound (forget_trees ts) ≡ true → length (span_table ts) ≡ span_count (forget_trees ts)
unfolding span_table span_count forget_trees all_items
length_span_table nil h = refl
length_span_table (node t is ks ts) h =
    let a = length_items_spans is (and_left _ _ h) in
    let b = length_span_table ks (and_left _ _ (and_right _ _ h)) in
    let d = length_span_table ts (and_right _ _ (and_right _ _ h)) in
    simp length-append (omega arith)

small_items_spans : (is : List (Item Part)) → all_of item_sound (forget_items is) ≡ true → small_spans (items_spans is) ≡ true
unfolding items_spans forget_items forget_item all_of item_sound
small_items_spans [] h = unfold small_spans in refl
small_items_spans (number k w ∷ is) h = small_items_spans is (and_right _ _ h)
small_items_spans (string l ∷ is) h = small_items_spans is (and_right _ _ h)
small_items_spans (native_name l ∷ is) h = small_items_spans is (and_right _ _ h)
small_items_spans (record_name l ∷ is) h = small_items_spans is (and_right _ _ h)
small_items_spans (code l ss ∷ is) h = small_append ss _ (and_right _ _ (and_left _ _ h)) (small_items_spans is (and_right _ _ h))

pub small_span_table : (ts : Trees Part) → all_items item_sound (forget_trees ts) ≡ true → small_spans (span_table ts) ≡ true
unfolding span_table forget_trees all_items
small_span_table nil h = unfold small_spans in refl
small_span_table (node t is ks ts) h = small_append _ _ (small_items_spans is (and_left _ _ h))
    (small_append _ _ (small_span_table ks (and_left _ _ (and_right _ _ h))) (small_span_table ts (and_right _ _ (and_right _ _ h))))

given_back_items : (is : List (Item Part)) (more : List Span) → all_of item_sound (forget_items is) ≡ true → give_items (items_spans is ++ more) (without_spans_items is) ≡ is
unfolding give_items give_item items_spans without_spans_items without_spans_item span_item forget_items forget_item all_of item_sound
given_back_items [] more h = refl
given_back_items (number k w ∷ is) more h = ap (λ (x : List (Item Part)). number k w ∷ x) (given_back_items is more (and_right _ _ h))
given_back_items (string l ∷ is) more h = ap (λ (x : List (Item Part)). string l ∷ x) (given_back_items is more (and_right _ _ h))
given_back_items (native_name l ∷ is) more h = ap (λ (x : List (Item Part)). native_name l ∷ x) (given_back_items is more (and_right _ _ h))
given_back_items (record_name l ∷ is) more h = ap (λ (x : List (Item Part)). record_name l ∷ x) (given_back_items is more (and_right _ _ h))
given_back_items (code l ss ∷ is) more h =
    let e : length ss ≡ length l.bytes = eqb-true _ _ (and_left _ _ (and_left _ _ h)) in
    rw (append_assoc ss (items_spans is) more, take_at ss (items_spans is ++ more) (length l.bytes) e, drop_at ss (items_spans is ++ more) (length l.bytes) e)
    (ap (λ (x : List (Item Part)). code l ss ∷ x) (given_back_items is more (and_right _ _ h)))

pub given_back : (ts : Trees Part) (more : List Span) → all_items item_sound (forget_trees ts) ≡ true → give (span_table ts ++ more) (without_spans ts) ≡ ts
unfolding give span_table without_spans forget_trees all_items
given_back nil more h = refl
given_back (node t is ks ts) more h =
    let n = span_items (forget_items (without_spans_items is)) in
    let m = span_count (forget_trees (without_spans ks)) in
    let a : length (items_spans is) ≡ n = length_items_spans is (and_left _ _ h) ∙ sym (span_items_without is) in
    let b : length (span_table ks) ≡ m = length_span_table ks (and_left _ _ (and_right _ _ h)) ∙ sym (span_count_without ks) in
    rw (
      append_assoc (items_spans is) (span_table ks ++ span_table ts) more,
      append_assoc (span_table ks) (span_table ts) more,
      ← (drop-drop m n (items_spans is ++ (span_table ks ++ (span_table ts ++ more)))),
      drop_at (items_spans is) (span_table ks ++ (span_table ts ++ more)) n a,
      drop_at (span_table ks) (span_table ts ++ more) m b,
    )
    (λ i. node t (given_back_items is (span_table ks ++ (span_table ts ++ more)) (and_left _ _ h) i)
    (given_back ks (span_table ts ++ more) (and_left _ _ (and_right _ _ h)) i) (given_back ts more (and_right _ _ (and_right _ _ h)) i))

---- rows that obey the rules of rows, given small spans, are sound

sound_given_item : (ss : List Span) (i : Item Part) → small_spans ss ≡ true → span_item (forget_item i) ≤ length ss → item_row_sound (forget_item i) ≡ true → item_sound (forget_item (give_item ss i)) ≡ true
unfolding give_item span_item forget_item item_row_sound item_sound
sound_given_item ss (number k w) p q h = h
sound_given_item ss (string l) p q h = h
sound_given_item ss (native_name l) p q h = h
sound_given_item ss (record_name l) p q h = h
sound_given_item ss (code l rs) p q h = and_both (eq-eqb _ _ (length-take-le (length l.bytes) ss q)) (small_take (length l.bytes) ss p)

sound_given_items : (ss : List Span) (is : List (Item Part)) → small_spans ss ≡ true → span_items (forget_items is) ≤ length ss → all_of item_row_sound (forget_items is) ≡ true
    → all_of item_sound (forget_items (give_items ss is)) ≡ true
unfolding give_items span_items forget_items all_of
sound_given_items ss [] p q h = refl
sound_given_items ss (i ∷ is) p q h = and_both (sound_given_item ss i p (omega arith) (and_left _ _ h))
    (sound_given_items (drop (span_item (forget_item i)) ss) is (small_drop (span_item (forget_item i)) ss p) (simp length-drop (omega arith)) (and_right _ _ h))

pub sound_given : (ss : List Span) (ts : Trees Part) → small_spans ss ≡ true → span_count (forget_trees ts) ≤ length ss → all_items item_row_sound (forget_trees ts) ≡ true → all_items item_sound (forget_trees (give ss ts)) ≡ true
unfolding give span_count forget_trees all_items
sound_given ss nil p q h = refl
sound_given ss (node t is ks ts) p q h =
    let n = span_items (forget_items is) in
    let m = span_count (forget_trees ks) in
    and_both (sound_given_items ss is p (omega arith) (and_left _ _ h))
    (and_both (sound_given (drop n ss) ks (small_drop n ss p) (simp length-drop (omega arith)) (and_left _ _ (and_right _ _ h)))
    (sound_given (drop (n + m) ss) ts (small_drop (n + m) ss p) (simp length-drop (omega arith)) (and_right _ _ (and_right _ _ h))))
