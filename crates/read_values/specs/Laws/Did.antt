-- Laws of `Did`: what a match on its answer tells, and how two parts follow each other.
use mathlib.Core.List.{List, [], ◌∷◌, ◌++◌, append-nil}
use Rattle.std.specs.Prelude.{◌≡◌, refl, ℕ, ◌+◌, ◌*◌, Ok, Err}
use Rattle.refusal.specs.Number.{number}
use Rattle.refusal.specs.declared.Refusal.{Refusal}
use Rattle.std.proofs.Common.{sym, ◌∙◌, arith}
use Rattle.std.proofs.Math.Path.{ap}
use Rattle.std.proofs.Math.ListN.{length, length-append}
use Rattle.slices.specs.Put.{put}
use Rattle.slices.specs.Laws.Put.{put_put}
use Rattle.payload.specs.Reader.{Part, Result, ok, refused, and_then, pure}
use Rattle.payload.specs.Reader as reader
use Rattle.payload.specs.Rows.{items_spans, root_count, row_table, row_width, row_words, span_table}
use Rattle.payload.specs.Spans.{Span}
use Rattle.payload.specs.Tables.{span_words}
use Rattle.payload.specs.Trees.{Item, Node, Trees, cons, node_of, single}
use Rattle.key_test.specs.Told.{RowTold, Told}
use Rattle.read_values.specs.Did.{View, Step, many_trees, one_tree, Ran, Did, rows_in, spans_in}
use Rattle.read_values.specs.Entries.{joined}
use Rattle.read_values.specs.Laws.Entries.{joined_rows, joined_spans, joined_told}
use Rattle.read_values.specs.State.{state_of}
use Rattle.payload.specs.declared.Capacities.{Capacities}
use Rattle.read_values.specs.declared.State.{State}

---- the variant that a match found

module _ {A : Type 0} {view : View A} {capacities : Capacities} {p a b a' b' : List ℕ} {i j : ℕ} {r : Step} {x : Result A} where
  pub ran_of : {s : State} → r ≡ Ok s → Did view capacities p a b a' b' i j r x → (t : A) × Ran view capacities p a b a' b' i j s t x
  ran_of e d = (rw e at d).out

  pub no_of : {e : Refusal} → r ≡ Err e → Did view capacities p a b a' b' i j r x → x ≡ refused (number e.reason) e.place
  no_of e d = (rw e at d).out

-- the same result by another reader
pub did_same :
    {A : Type 0} {view : View A} {capacities : Capacities} {p a b a' b' : List ℕ} {i j : ℕ} {r : Step} {x y : Result A} → x ≡ y →
    Did view capacities p a b a' b' i j r y → Did view capacities p a b a' b' i j r x
did_same e d = rw e d

-- two facts of one result
pub via : {A : Type 0} {r x y : A} → r ≡ x → r ≡ y → x ≡ y
via e f = sym e ∙ f

---- the words of trees

pub span_words_append : (xs ys : List Span) → span_words (xs ++ ys) ≡ span_words xs ++ span_words ys
unfolding span_words
span_words_append [] ys = refl
span_words_append (x ∷ xs) ys = ap (λ (l : List ℕ). x.start ∷ x.end ∷ l) (span_words_append xs ys)

pub length_span_words_lem : (ss : List Span) → length (span_words ss) ≡ 2 * length ss
unfolding span_words
length_span_words_lem [] = refl
length_span_words_lem (s ∷ ss) = let h = length_span_words_lem ss in omega arith

-- a row, and the rows under it
pub own_rows : (t : ℕ) (is : List (Item Part)) (ts : Trees Part) → row_table (single (node_of t is ts)) ≡ row_words t is (root_count ts) ++ row_table ts
unfolding row_table single node_of
own_rows t is ts = append-nil (row_words t is (root_count ts) ++ row_table ts)

pub own_spans : (t : ℕ) (is : List (Item Part)) (ts : Trees Part) → span_words (span_table (single (node_of t is ts))) ≡ span_words (items_spans is) ++ span_words (span_table ts)
unfolding span_table single node_of
own_spans t is ts = ap (λ (m : List Span). span_words (items_spans is ++ m)) (append-nil (span_table ts)) ∙ span_words_append (items_spans is) (span_table ts)

-- a tree, and the trees after it
pub cons_rows : (t : Node Part) (ts : Trees Part) → row_table (cons t ts) ≡ row_table (single t) ++ row_table ts
unfolding cons single joined
cons_rows t ts = joined_rows (single t) ts

pub joined_span_words : (vs ts : Trees Part) → span_words (span_table (joined vs ts)) ≡ span_words (span_table vs) ++ span_words (span_table ts)
joined_span_words vs ts = ap span_words (joined_spans vs ts) ∙ span_words_append (span_table vs) (span_table ts)

pub cons_spans : (t : Node Part) (ts : Trees Part) → span_words (span_table (cons t ts)) ≡ span_words (span_table (single t)) ++ span_words (span_table ts)
unfolding cons single joined
cons_spans t ts = joined_span_words (single t) ts

pub cons_told : (t : Node Part) (ts : Trees Part) → Told (single t) → Told ts → Told (cons t ts)
unfolding cons single joined
cons_told t ts h k = joined_told (single t) ts h k

pub own_told : (t : ℕ) (is : List (Item Part)) (ts : Trees Part) → RowTold t is (root_count ts) → Told ts → Told (single (node_of t is ts))
unfolding Told single node_of
own_told t is ts h k = (h, k, tt)

---- one run of words after another

pub two_runs : (a b c : List ℕ) (i k : ℕ) (us ws : List ℕ) → b ≡ put a i us → k ≡ i + length us → c ≡ put b k ws → c ≡ put a i (us ++ ws)
two_runs a b c i k us ws w z v = v ∙ ap (λ (n : ℕ). put b n ws) z ∙ ap (λ (l : List ℕ). put l (i + length us) ws) w ∙ put_put a i us ws

module _ {capacities : Capacities} {p : List ℕ} where
  -- a row and spans of its own, then the rows under it
  pub did_node : {a b c a' b' c' : List ℕ} {i j l : ℕ} {r : Step} {x : Result (Trees Part)} (t : ℕ) (is : List (Item Part)) (row us : List ℕ) →
      b ≡ put a (row_width * i) row → length row ≡ row_width → b' ≡ put a' (2 * j) us → 2 * l ≡ 2 * j + length us → us ≡ span_words (items_spans is) →
      ((ts : Trees Part) (z : reader.State) → x ≡ ok ts z → (row_words t is (root_count ts) ≡ row) × RowTold t is (root_count ts)) →
      Did many_trees capacities p b c b' c' (i + 1) l r x → Did one_tree capacities p a c a' c' i j r (and_then x (λ ts. pure (node_of t is ts)))
  unfolding and_then pure
  did_node {r = Err e'} t is row us w n5 w' z e h d = record { out = rw d.out }
  did_node {a} {b} {c} {a'} {b'} {c'} {i} {j} {l} {r = Ok s} {x} t is row us w n5 w' z e h d =
      let ts = d.out.0 in let g = d.out.1 in
      let k = h ts (state_of p s) g.is in
      let ws : row_table (single (node_of t is ts)) ≡ row ++ row_table ts = own_rows t is ts ∙ ap (λ (m : List ℕ). m ++ row_table ts) k.0 in
      let ss : span_words (span_table (single (node_of t is ts))) ≡ us ++ span_words (span_table ts) = own_spans t is ts ∙ ap (λ (m : List ℕ). m ++ span_words (span_table ts)) (sym e) in
      record {
        out = (
          node_of t is ts,
          record {
            is = rw g.is;
            wrote = two_runs a b c (row_width * i) (row_width * (i + 1)) row (row_table ts) w (omega arith) g.wrote ∙ ap (λ (m : List ℕ). put a (row_width * i) m) (sym ws);
            size = omega (arith, g.size, ap length ws, length-append row (row_table ts));
            filled = two_runs a' b' c' (2 * j) (2 * l) us (span_words (span_table ts)) w' z g.filled ∙ ap (λ (m : List ℕ). put a' (2 * j) m) (sym ss);
            spanned = omega (arith, g.spanned, ap length ss, length-append us (span_words (span_table ts)));
            used = g.used;
            covered = g.covered;
            place = g.place;
            told = own_told t is ts k.1 g.told;
          },
        );
      }

  -- what is read, then more after it
  ran_then :
      {A B C : Type 0} {one : View A} {more : View B} {both : View C} {a b c a' b' c' : List ℕ} {i j : ℕ} {s z : State} {t : A} {ts : B} {x : Result A} {y : Result B}
      (u : C) → rows_in both u ≡ rows_in one t ++ rows_in more ts → spans_in both u ≡ spans_in one t ++ spans_in more ts →
      (Told (one.trees_of t) → Told (more.trees_of ts) → Told (both.trees_of u)) → Ran one capacities p a b a' b' i j s t x →
      Ran more capacities p b c b' c' s.rows s.spans z ts y → (v : Result C) → v ≡ ok u (state_of p z) → Ran both capacities p a c a' c' i j z u v
  ran_then {one = one} {more = more} {a = a} {b} {c} {a'} {b'} {c'} {i} {j} {s} {z} {t} {ts} u ws ss told g h v e = record {
    is = e;
    wrote = two_runs a b c (row_width * i) (row_width * s.rows) (rows_in one t) (rows_in more ts) g.wrote g.size h.wrote
        ∙ ap (λ (m : List ℕ). put a (row_width * i) m) (sym ws);
    size = omega (arith, g.size, h.size, ap length ws, length-append (rows_in one t) (rows_in more ts));
    filled = two_runs a' b' c' (2 * j) (2 * s.spans) (spans_in one t) (spans_in more ts) g.filled g.spanned h.filled
        ∙ ap (λ (m : List ℕ). put a' (2 * j) m) (sym ss);
    spanned = omega (arith, g.spanned, h.spanned, ap length ss, length-append (spans_in one t) (spans_in more ts));
    used = h.used;
    covered = h.covered;
    place = h.place;
    told = told g.told h.told;
  }

  -- a tree, then more after it
  pub ran_more : {a b c a' b' c' : List ℕ} {i j : ℕ} {s z : State} {t : Node Part} {ts : Trees Part} {x : Result (Node Part)} {y : Result (Trees Part)} →
      Ran one_tree capacities p a b a' b' i j s t x → Ran many_trees capacities p b c b' c' s.rows s.spans z ts y → (v : Result (Trees Part)) →
      v ≡ ok (cons t ts) (state_of p z) → Ran many_trees capacities p a c a' c' i j z (cons t ts) v
  ran_more {t = t} {ts = ts} g h = ran_then (cons t ts) (cons_rows t ts) (cons_spans t ts) (cons_told t ts) g h

  -- trees, then more after them
  pub ran_joined : {a b c a' b' c' : List ℕ} {i j : ℕ} {s z : State} {vs ts : Trees Part} {x y : Result (Trees Part)} →
      Ran many_trees capacities p a b a' b' i j s vs x → Ran many_trees capacities p b c b' c' s.rows s.spans z ts y → (v : Result (Trees Part)) →
      v ≡ ok (joined vs ts) (state_of p z) → Ran many_trees capacities p a c a' c' i j z (joined vs ts) v
  ran_joined {vs = vs} {ts = ts} g h = ran_then (joined vs ts) (joined_rows vs ts) (joined_span_words vs ts) (joined_told vs ts) g h

  -- a tree in front of the trees that a reader gives
  pub did_front : {a b c a' b' c' : List ℕ} {i j : ℕ} {s : State} {t : Node Part} {r : Step} {x : Result (Node Part)} {y : Result (Trees Part)} →
      Ran one_tree capacities p a b a' b' i j s t x → Did many_trees capacities p b c b' c' s.rows s.spans r y →
      Did many_trees capacities p a c a' c' i j r (and_then y (λ ts. pure (cons t ts)))
  unfolding and_then pure
  did_front {r = Err e} g d = record { out = rw d.out }
  did_front {t = t} {r = Ok z} g d = record { out = (cons t d.out.0, ran_more g d.out.1 _ (rw d.out.1.is)) }
