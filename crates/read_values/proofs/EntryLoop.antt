-- The loop over the elements of a set or the entries of a map: the keys before stand in the rows, where the key test finds them.
use mathlib.Core.Bool.{Bool, true, false, cond, not}
use mathlib.Core.List.{List, [], ◌∷◌, ◌++◌, append_assoc}
use mathlib.Core.Path.{◌≡◌, refl, sym, ap, subst, ◌∙◌}
use Prim.Native.Nat.{ℕ, suc, ◌+◌, ◌*◌, ◌-◌, ◌≤◌, ◌<◌}
use native.Mathlib.Omega.{arith}
use lib.ListN.{drop, length, length-append}
use lib.Seq.{drop_at, drop-drop}
use Rattle.slices.specs.Put.{put}
use Rattle.slices.specs.Same.{same}
use Rattle.slices.specs.Laws.Put.{drop_put, length_put, put_none}
use Rattle.payload.specs.Choice.{◌or◌}
use Rattle.payload.specs.Pool.{is_in}
use Rattle.payload.specs.Reader.{Part, Reader, ◌>>=◌, ◌>>◌, and_then, here, must, ok, pure, refused}
use Rattle.payload.specs.Reader as reader
use Rattle.payload.specs.Reading.{Context, node_key, read_many, read_value, test_key}
use Rattle.payload.specs.Rows.{row_table, row_width, row_words}
use Rattle.payload.specs.Shapes.{is_key_tag}
use Rattle.payload.specs.Trees.{Node, Trees, cons, single}
use Rattle.refusal.specs.Number.{number}
use Rattle.refusal.specs.Laws.Number.{number_positive}
use Rattle.refusal.specs.declared.Reason.{Reason}
use Rattle.refusal.specs.declared.Refusal.{Refusal}
use Rattle.std.specs.Prelude.{Result, Ok, Err}
use Rattle.read_values.specs.Did.{many_trees, one_tree, context_in}
use Rattle.read_values.specs.Does.{Does, Loan, loan_of}
use Rattle.read_values.specs.State.{state_of}
use Rattle.key_test.specs.Keys.{key_refusal, seen_in, tag_of}
use Rattle.read_values.specs.Entries.{joined, read_entries}
use Rattle.read_values.specs.Laws.Did.{ran_joined, ran_more, two_runs}
use Rattle.read_values.specs.Laws.Does.{did_from}
use Rattle.read_values.specs.declared.sources.Source.{Source}
use Rattle.read_values.specs.declared.values.Decoder.{Decoder}
use Rattle.key_test.specs.Laws.Entries.{AllGood, Entry, Good, KeyNode, entries_size, entries_table, good_more, keys_of, seen_entries, table_length, table_more}
use Rattle.read_values.proofs.KeyRead.{key_read}
use Rattle.read_values.proofs.Loop.{does_none}
use Rattle.read_heads.specs.Laws.Following.{many_count}

---- the test's answer is the definition's

unfoldable pub tested : Bool → Bool → ℕ
tested b c = cond b (cond c 10 0) 9

module _ (q : ℕ) (seen : List (List ℕ)) (t : Node Part) (z : reader.State) {r : ℕ} (e : r ≡ tested (is_key_tag t.tag) (is_in (node_key t) seen)) where
  pub test_refused : (r ≡ 0 → ⊥) → test_key q seen t z ≡ refused r q
  unfolding test_key ◌>>◌ and_then must tested
  test_refused n = by (is_key_tag t.tag) (is_in (node_key t) seen) e
    where
      by : (b c : Bool) → r ≡ tested b c → and_then (must b 9 q z) (λ u. must (not c) 10 q) ≡ refused r q
      by false c w = rw w
      by true true w = rw w
      by true false w = absurd (n w)

  pub test_passed : r ≡ 0 → test_key q seen t z ≡ ok tt z
  unfolding test_key ◌>>◌ and_then must tested
  test_passed n = by (is_key_tag t.tag) (is_in (node_key t) seen) e
    where
      by : (b c : Bool) → r ≡ tested b c → and_then (must b 9 q z) (λ u. must (not c) 10 q) ≡ ok tt z
      by false c w = absurd (omega arith)
      by true true w = absurd (omega arith)
      by true false w = refl

  pub test_tag : r ≡ 0 → is_key_tag t.tag ≡ true
  unfolding tested
  test_tag n = by (is_key_tag t.tag) refl
    where
      by : (b : Bool) → is_key_tag t.tag ≡ b → is_key_tag t.tag ≡ true
      by true w = w
      by false w = let v : r ≡ 9 = e ∙ rw w in absurd (omega arith)

---- After k elements or entries: the keys before stand in the rows, and whatever the rest does from here, all of it does from the start.

pub record EntrySofar (gap : ℕ) (s r : Decoder) (rd : Context → Reader (Node Part)) (count k : ℕ) : Type 0 where
  pub upto : k ≤ count
  pub same : loan_of r ≡ loan_of s
  pub entries : List Entry
  pub seen : List (List ℕ)
  pub good : AllGood s.source.payload.now gap entries
  pub listed : (x : List ℕ) → is_in x seen ≡ is_in x (keys_of entries)
  pub held : r.rows.now ≡ put s.rows.now (row_width * s.state.rows) (entries_table entries)
  pub size : row_width * r.state.rows ≡ row_width * s.state.rows + length (entries_table entries)
  pub rest : (z : Decoder) (x : Result (Unit {0}) Refusal) → Does many_trees r z x (λ e. read_entries gap (count - k) seen (rd e)) →
      Does many_trees s z x (λ e. read_entries gap count [] (rd e))

or_next : (a b c : Bool) → (a or (b or c)) ≡ (b or (a or c))
or_next true true c = refl
or_next true false c = refl
or_next false true c = refl
or_next false false c = refl

-- a key more, in front of those seen, is a key more at the end of the entries
key_more : (x : List ℕ) (es : List Entry) (e : Entry) → (same x (node_key e.key) or is_in x (keys_of es)) ≡ is_in x (keys_of (es ++ (e ∷ [])))
unfolding keys_of is_in
key_more x [] e = refl
key_more x (a ∷ es) e =
    or_next (same x (node_key e.key)) (same x (node_key a.key)) (is_in x (keys_of es)) ∙ ap (λ (b : Bool). same x (node_key a.key) or b) (key_more x es e)

seen_more :
    (x : List ℕ) (seen : List (List ℕ)) (es : List Entry) (e : Entry) → is_in x seen ≡ is_in x (keys_of es) →
    is_in x (node_key e.key ∷ seen) ≡ is_in x (keys_of (es ++ (e ∷ [])))
unfolding is_in
seen_more x seen es e h = rw h (key_more x es e)

pub entries_start : {gap : ℕ} {s : Decoder} {rd : Context → Reader (Node Part)} {count : ℕ} → EntrySofar gap s s rd count 0
unfolding AllGood keys_of entries_table
entries_start {s = s} {count = count} = record {
  upto = omega arith;
  same = refl;
  entries = [];
  seen = [];
  good = tt;
  listed = λ x. refl;
  held = sym (put_none s.rows.now (row_width * s.state.rows));
  size = omega arith;
  rest = λ z x d. let e : count - 0 ≡ count = omega arith in rw e at d;
}

module _ {gap : ℕ} {s r : Decoder} {rd : Context → Reader (Node Part)} {count k : ℕ} (g : EntrySofar gap s r rd count k) (t : Node Part) (v : Trees Part) (z : Decoder)
    (wrote : z.rows.now ≡ put r.rows.now (row_width * r.state.rows) (row_table (single t) ++ row_table v))
    (size : row_width * z.state.rows ≡ row_width * r.state.rows + length (row_table (single t) ++ row_table v)) where
  abbrev es : List Entry
  es = g.entries

  abbrev p : List ℕ
  p = s.source.payload.now

  held_more : z.rows.now ≡ put s.rows.now (row_width * s.state.rows) (entries_table es ++ (row_table (single t) ++ row_table v))
  held_more =
      two_runs s.rows.now r.rows.now z.rows.now (row_width * s.state.rows) (row_width * r.state.rows) (entries_table es) (row_table (single t) ++ row_table v) g.held
      g.size wrote

  tail : List ℕ
  tail = drop (row_width * s.state.rows + length (entries_table es ++ (row_table (single t) ++ row_table v))) s.rows.now

  room : row_width * s.state.rows + length (entries_table es ++ (row_table (single t) ++ row_table v)) ≤ length s.rows.now
  room = omega (
    arith,
    g.size,
    size,
    z.fits.room,
    z.fits.used,
    ap length held_more ∙ length_put s.rows.now (row_width * s.state.rows) (entries_table es ++ (row_table (single t) ++ row_table v)),
    length-append (entries_table es) (row_table (single t) ++ row_table v),
  )

  from_first : drop (row_width * s.state.rows) z.rows.now ≡ entries_table es ++ (row_table (single t) ++ (row_table v ++ tail))
  unfolding tail
  from_first =
      ap (drop (row_width * s.state.rows)) held_more
      ∙ drop_put s.rows.now (row_width * s.state.rows) (entries_table es ++ (row_table (single t) ++ row_table v)) room
      ∙ simp append_assoc

  own_size : r.state.rows - s.state.rows ≡ entries_size es
  own_size = omega (arith, g.size, table_length p gap es g.good)

  from_own : drop (row_width * r.state.rows) z.rows.now ≡ row_table (single t) ++ (row_table v ++ tail)
  from_own =
      let e : row_width * r.state.rows ≡ row_width * s.state.rows + length (entries_table es) = g.size in
      ap (λ (n : ℕ). drop n z.rows.now) e ∙ sym (drop-drop (length (entries_table es)) (row_width * s.state.rows) z.rows.now) ∙ ap (drop (length (entries_table es))) from_first
      ∙ drop_at (entries_table es) (row_table (single t) ++ (row_table v ++ tail)) (length (entries_table es)) refl

  own_tag : tag_of (row_table (single t) ++ (row_table v ++ tail)) ≡ t.tag
  unfolding row_table single row_words
  own_tag = refl

  pub refusal_is :
      (is_key_tag t.tag ≡ true → KeyNode p t) → key_refusal p z.rows.now gap s.state.rows r.state.rows ≡ tested (is_key_tag t.tag) (is_in (node_key t) g.seen)
  unfolding key_refusal tested
  refusal_is f = rw (from_own, from_first, own_tag, own_size) (by (is_key_tag t.tag) refl)
    where
      by :
          (b : Bool) → is_key_tag t.tag ≡ b →
          ◌≡◌ {A = ℕ}
          (cond (is_key_tag t.tag)
          (cond
          (seen_in p (row_table (single t) ++ (row_table v ++ tail)) gap 0 (entries_size es) (entries_table es ++ (row_table (single t) ++ (row_table v ++ tail))))
          10 0) 9) (cond (is_key_tag t.tag) (cond (is_in (node_key t) g.seen) 10 0) 9)
      by true e =
          rw (
            e,
            g.listed (node_key t),
            seen_entries p gap (f e) (row_table v ++ tail) es g.good (omega (arith, own_size, r.fits.few, r.fits.used))
                (row_table (single t) ++ (row_table v ++ tail)),
          )
      by false e = rw e

  -- the entry that was read joins those before it
  pub entries_more :
      loan_of z ≡ loan_of s → k < count → Good p gap (record { key = t; value = v }) →
      ((y : Decoder) (x : Result (Unit {0}) Refusal) → Does many_trees z y x (λ e. read_entries gap (count - (k + 1)) (node_key t ∷ g.seen) (rd e)) →
      Does many_trees r y x (λ e. read_entries gap (suc (count - (k + 1))) g.seen (rd e))) →
      EntrySofar gap s z rd count (k + 1)
  entries_more same h good step =
      let e : Entry = record { key = t; value = v } in
      let w : entries_table (es ++ (e ∷ [])) ≡ entries_table es ++ (row_table (single t) ++ row_table v) = table_more es e in
      record {
        upto = omega arith;
        same = same;
        entries = es ++ (e ∷ []);
        seen = node_key t ∷ g.seen;
        good = good_more es g.good good;
        listed = λ x. seen_more x g.seen es e (g.listed x);
        held = held_more ∙ ap (put s.rows.now (row_width * s.state.rows)) (sym w);
        size = omega (arith, g.size, size, ap length w, length-append (entries_table es) (row_table (single t) ++ row_table v));
        rest = λ y x d. let n : count - k ≡ suc (count - (k + 1)) = omega arith in g.rest y x (rw n (step y x d));
      }

---- one entry more

-- a key, the values that follow it, and the rest
does_entry :
    {r m z y : Decoder} {rd : Context → Reader (Node Part)} {u w : Unit {0}} {x : Result (Unit {0}) Refusal} (gap : ℕ) (seen : List (List ℕ)) (n : ℕ)
    (g : Does one_tree r m (Ok u) rd) → Does many_trees m z (Ok w) (λ e. read_many gap (rd e)) →
    ((s : reader.State) → test_key r.state.at seen g.did.out.0 s ≡ ok tt s) →
    Does many_trees z y x (λ e. read_entries gap n (node_key g.did.out.0 ∷ seen) (rd e)) → Does many_trees r y x (λ e. read_entries gap (suc n) seen (rd e))
unfolding read_entries ◌>>=◌ ◌>>◌ and_then here pure
does_entry {r = r} {x = Err a} gap seen n g f w d = record {
  same = d.same ∙ f.same ∙ g.same;
  did = record { out = rw (g.did.out.1.is, (did_from r g.same f).out.1.is, w _, (did_from r (f.same ∙ g.same) d).out) };
}
does_entry {r = r} {x = Ok u} gap seen n g f w d =
    let vs = (did_from r g.same f).out in
    let ts = (did_from r (f.same ∙ g.same) d).out in
    record {
      same = d.same ∙ f.same ∙ g.same;
      did = record {
        out = (
          cons g.did.out.0 (joined vs.0 ts.0),
          ran_more g.did.out.1 (ran_joined vs.1 ts.1 (ok (joined vs.0 ts.0) _) refl) _ (rw (g.did.out.1.is, vs.1.is, w _, ts.1.is)),
        );
      };
    }

module _ {gap : ℕ} {s : Decoder} (left : ℕ) {count k : ℕ} where
  module _ {r : Decoder} (g : EntrySofar gap s r (λ e. read_value e left) count k) where
    pub entries_end : {u : Unit {0}} → count ≤ k → Does many_trees s r (Ok u) (λ e. read_entries gap count [] (read_value e left))
    unfolding read_entries
    entries_end h = let e : count - k ≡ 0 = omega arith in g.rest r _ (rw e (does_none r))

    module _ (h : k < count) where
      more : count - k ≡ suc (count - (k + 1))
      more = omega arith

      -- the key is refused
      pub entries_stop : {m : Decoder} {a : Refusal} → Does one_tree r m (Err a) (λ e. read_value e left) →
          Does many_trees s m (Err a) (λ e. read_entries gap count [] (read_value e left))
      unfolding read_entries ◌>>=◌ ◌>>◌ and_then here
      entries_stop x = g.rest _ _ (rw more (record { same = x.same; did = record { out = rw x.did.out } }))

      module _ {m : Decoder} {u : Unit {0}} (x : Does one_tree r m (Ok u) (λ e. read_value e left)) where
        -- the value after the key is refused
        pub entries_half : {z : Decoder} {a : Refusal} → Does many_trees m z (Err a) (λ e. read_many gap (read_value e left)) →
            Does many_trees s z (Err a) (λ e. read_entries gap count [] (read_value e left))
        unfolding read_entries ◌>>=◌ ◌>>◌ and_then here
        entries_half y = g.rest _ _ (rw more (record { same = y.same ∙ x.same; did = record { out = rw (x.did.out.1.is, (did_from r x.same y).out) } }))

        module _ {z : Decoder} {w : Unit {0}} (y : Does many_trees m z (Ok w) (λ e. read_many gap (read_value e left)))
            {n : ℕ} (told : n ≡ key_refusal z.source.payload.now z.rows.now gap s.state.rows r.state.rows) where
          t : Node Part
          t = x.did.out.0

          vs : Trees Part
          vs = y.did.out.0

          kept : loan_of z ≡ loan_of s
          kept = y.same ∙ x.same ∙ g.same

          wrote : z.rows.now ≡ put r.rows.now (row_width * r.state.rows) (row_table (single t) ++ row_table vs)
          unfolding t vs
          wrote =
              two_runs r.rows.now m.rows.now z.rows.now (row_width * r.state.rows) (row_width * m.state.rows) (row_table (single t)) (row_table vs)
              x.did.out.1.wrote x.did.out.1.size y.did.out.1.wrote

          grown : row_width * z.state.rows ≡ row_width * r.state.rows + length (row_table (single t) ++ row_table vs)
          unfolding t vs
          grown = omega (arith, x.did.out.1.size, y.did.out.1.size, length-append (row_table (single t)) (row_table vs))

          key : is_key_tag t.tag ≡ true → KeyNode s.source.payload.now t
          unfolding t
          key i =
              subst (λ (e : Source). KeyNode e.payload.now t) (ap (λ (l : Loan). l.source) g.same)
              (key_read r.source left (state_of r.source.payload.now r.state) t _ x.did.out.1.is i)

          is_tested : n ≡ tested (is_key_tag t.tag) (is_in (node_key t) g.seen)
          is_tested =
              told ∙ ap (λ (l : Loan). key_refusal l.source.payload.now z.rows.now gap s.state.rows r.state.rows) kept ∙ refusal_is g t vs z wrote grown key

          -- the key test refuses
          pub entries_bad : (reason : Reason) → n ≡ number reason →
              Does many_trees s z (Err (record { reason = reason; place = r.state.at })) (λ e. read_entries gap count [] (read_value e left))
          unfolding read_entries ◌>>=◌ ◌>>◌ and_then here t
          entries_bad reason q =
              g.rest _ _
              (rw more (record {
                same = y.same ∙ x.same;
                did = record {
                  out = rw (
                    x.did.out.1.is,
                    (did_from r x.same y).out.1.is,
                    test_refused r.state.at g.seen t _ (sym q ∙ is_tested) (number_positive reason),
                  );
                };
              }))

          pub entries_next : n ≡ 0 → EntrySofar gap s z (λ e. read_value e left) count (k + 1)
          unfolding t vs
          entries_next q =
              entries_more g t vs z wrote grown kept h
              (record {
                key_node_lem = key (test_tag r.state.at g.seen t (state_of r.source.payload.now r.state) is_tested q);
                value_told = y.did.out.1.told;
                value_roots = many_count (read_value (context_in m.source) left) gap _ vs _ y.did.out.1.is;
              }) (λ b f d. does_entry gap g.seen (count - (k + 1)) x y (λ a. test_passed r.state.at g.seen t a is_tested q) d)
