-- Demand 3 on what the contracts of the read and of the house check say: the check answers 0 exactly for the writings of sound programs that the tables hold,
-- and then a read into tables of the same lengths gives that program back. The number and values of an answer are document 01's.
use Rattle.std.specs.Prelude.{true, List, [], ◌∷◌, ◌↔◌, ◌≡◌, ◌/◌, ◌<◌, ℕ}
use Rattle.std.proofs.Common.{◌∙◌, sym, arith}
use Rattle.std.proofs.Math.Path.{ap, refl}
use Rattle.std.proofs.Math.ListN.{length}
use Rattle.slices.specs.Laws.LittleEndian.{Bytes}
use Rattle.slices.specs.Zeros.{pad_to}
use Rattle.payload.specs.Answers.{read_fields, read_number, written_fields}
use Rattle.payload.specs.Demand3.{GivesBack, HouseProgram, PartsOf}
use Rattle.payload.specs.House.{house, is_ok}
use Rattle.payload.proofs.Laws.Demand3.{demand_3, demand_3_back, is_writing_lem, small_capacities}
use Rattle.payload.proofs.Laws.House.{IsWriting, check_passed, read_strings_lem, reading_ok}
use Rattle.payload.proofs.Laws.Kept.{TextsIn}
use Rattle.payload.specs.Laws.Pool.{false≢true}
use Rattle.payload.proofs.Laws.ReadSound.{read_is, rows_counted, spans_counted}
use Rattle.payload.proofs.Laws.Refusals.{house_refusal}
use Rattle.payload.specs.Laws.Rules.{Small}
use Rattle.payload.specs.Laws.Tables.{flag_of_line, length_of_line, length_parts_words, offset_of_line}
use Rattle.payload.specs.Names.{is_listed}
use Rattle.payload.specs.Reader.{Part, Result, ok, refused}
use Rattle.payload.specs.Reading.{Payload}
use Rattle.payload.specs.Rows.{row_table, row_width, span_table}
use Rattle.payload.specs.declared.Capacities.{Capacities}
use Rattle.payload.specs.Answers.{Read}
use Rattle.payload.specs.Sound.{Tables}
use Rattle.payload.specs.Tables.{Leaves, capacities_of, fields_of, parts_words, read_answer, reading, span_words, tables_of, used_pool, used_rows, used_spans, used_starts}
use Rattle.payload.specs.Trees.{forget_script, single}
use Rattle.payload.specs.Write.{Writing, not_written, write_answer, writing_fields, written}
use Rattle.payload.specs.Writing.{pool_of}

---- the number of the check's answer

-- no refusal has the number 0
zero_ok : (x : Result Payload) → ((n q : ℕ) → x ≡ refused n q → 0 < n) → read_number (read_answer x) ≡ 0 → is_ok x ≡ true
unfolding read_answer is_ok
zero_ok (ok u s) h e = refl
zero_ok (refused n q) h e = let g = h n q refl in absurd (omega arith)

ok_zero : (x : Result Payload) → is_ok x ≡ true → read_number (read_answer x) ≡ 0
unfolding read_answer is_ok
ok_zero (ok u s) e = refl
ok_zero (refused n q) e = false≢true e

-- 0 exactly if some sound program that tables with these capacities hold, with its native names listed, has those bytes as its writing
pub house_number : (c : Capacities) → Small c → (names p : List ℕ) → Bytes p → (read_number (read_answer (house c names p)) ≡ 0) ↔ ((T : Tables) × HouseProgram c names p T)
house_number c small names p bytes =
    let d = demand_3 c small names p bytes in
    (λ e. d.0 (zero_ok (house c names p) (house_refusal c names p) e), λ x. ok_zero (house c names p) (d.1 x))

---- the fields of an answer

-- what a read says is used is what stands in the tables
module _ (c : Capacities) (names p : List ℕ) (bytes : Bytes p) where
  pub fields_are : (x : Result Payload) → reading c names p ≡ x → read_fields (read_answer x) ≡ fields_of x
  unfolding read_answer fields_of used_rows used_spans used_starts used_pool
  fields_are (refused n q) e = refl
  fields_are (ok u s) e =
      let k = read_is c p (is_listed names) bytes u s (reading_ok c names p u s e).1 in
      let rows : s.rows ≡ length (row_table (single u.script.outer)) / row_width = omega (arith, rows_counted k) in
      let spans : s.spans ≡ length (span_words (span_table (single u.script.outer))) / 2 = omega (arith, spans_counted k) in
      let strings : length u.pool ≡ length (parts_words u.pool) / 2 = omega (arith, length_parts_words u.pool) in
      rw (rows, spans, strings, flag_of_line u.script.line, offset_of_line u.script.line, length_of_line u.script.line)

pub written_fields_lem : (x : Writing) → written_fields (write_answer x) ≡ writing_fields x
unfolding write_answer writing_fields
written_fields_lem (written out pool) = refl
written_fields_lem (not_written n p) = refl

---- what the read of a house-written payload leaves

texts_parts : (p : List ℕ) (xs : List Part) → TextsIn p xs → PartsOf p xs
unfolding TextsIn PartsOf
texts_parts p [] h = tt
texts_parts p (x ∷ xs) h = (h.0.text_stands.in_store, h.0.text_stands.its_bytes, texts_parts p xs h.1)

module _ (names p : List ℕ) (bytes : Bytes p) (rows spans starts pool : List ℕ) where
  abbrev caps : Capacities
  caps = capacities_of (length rows) (length spans) (length starts) (length pool)

  -- the check's contract
  pub check_passes : {rows' spans' starts' pool' : List ℕ} {r : Read} → Leaves (house caps names p) rows spans starts pool rows' spans' starts' pool' r
      → (read_number r ≡ 0) ↔ ((T : Tables) × HouseProgram caps names p T)
  check_passes h = rw h.answer (house_number caps (small_capacities _ _ _ _) names p bytes)

  -- the read's contract
  pub read_gives_back : {rows' spans' starts' pool' : List ℕ} {r : Read} → Leaves (reading caps names p) rows spans starts pool rows' spans' starts' pool' r
      → (T : Tables) → HouseProgram caps names p T → GivesBack T p rows spans starts pool rows' spans' starts' pool' r
  unfolding read_answer tables_of forget_script used_rows used_spans used_starts used_pool
  read_gives_back h T w =
      let b = demand_3_back caps (small_capacities _ _ _ _) names p bytes T w in
      let u = b.0 in
      let s = b.1 in
      let e = (reading_ok caps names p u s b.2).1 in
      let k = read_is caps p (is_listed names) bytes u s e in
      let i : IsWriting caps (is_listed names) p (forget_script u.script) = rw b.5 (is_writing_lem caps (small_capacities _ _ _ _) names p bytes T w) in
      record {
        counts = _;
        accepted = h.answer ∙ ap read_answer b.2;
        all_consumed = b.4;
        program = tables_of p u.script;
        same_program = b.6;
        store_is = refl;
        rows_used = rows_counted k;
        spans_used = spans_counted k;
        starts_used = refl;
        flag_is = sym (flag_of_line u.script.line);
        name_offset_is = sym (offset_of_line u.script.line);
        name_length_is = sym (length_of_line u.script.line);
        rows_are = h.rows_are ∙ ap (λ (x : Result Payload). pad_to (length rows) (used_rows x)) b.2;
        spans_are = h.spans_are ∙ ap (λ (x : Result Payload). pad_to (length spans) (used_spans x)) b.2;
        starts_are = h.starts_are ∙ ap (λ (x : Result Payload). pad_to (length starts) (used_starts x)) b.2;
        script = w.script;
        end = w.end;
        its_script = w.sound;
        strings = u.pool;
        strings_stand = texts_parts p u.pool k.pool_stands;
        strings_are = read_strings_lem caps (small_capacities _ _ _ _) (is_listed names) p u s e i ∙ ap pool_of b.5;
        strings_used = refl;
        pool_is = h.pool_is ∙ ap (λ (x : Result Payload). pad_to (length pool) (used_pool x)) b.2;
      }

---- from the check to the read

module _ (names p : List ℕ) (bytes : Bytes p) (rows spans starts pool : List ℕ) {rows' spans' starts' pool' : List ℕ} {r : Read}
    (check : Leaves (house (capacities_of (length rows) (length spans) (length starts) (length pool)) names p) rows spans starts pool rows' spans' starts' pool' r) (passed : read_number r ≡ 0) where
  -- the check leaves what the read gives
  left_by_read : Leaves (reading (capacities_of (length rows) (length spans) (length starts) (length pool)) names p) rows spans starts pool rows' spans' starts' pool' r
  unfolding house
  left_by_read =
      let c = capacities_of (length rows) (length spans) (length starts) (length pool) in
      let good = zero_ok (house c names p) (house_refusal c names p) (ap read_number (sym check.answer) ∙ passed) in
      rw (check_passed p (reading c names p) good) at check

  -- A payload that the check passes is the writing of a sound program that the tables hold. The check has given that program, and so does every read into
  -- tables of the same lengths, whatever stood in them.
  pub passed_gives_back : (T : Tables) × HouseProgram (capacities_of (length rows) (length spans) (length starts) (length pool)) names p T
      × GivesBack T p rows spans starts pool rows' spans' starts' pool' r
      × ((rows₁ spans₁ starts₁ pool₁ rows₂ spans₂ starts₂ pool₂ : List ℕ) (s : Read)
      → length rows₁ ≡ length rows → length spans₁ ≡ length spans → length starts₁ ≡ length starts → length pool₁ ≡ length pool
      → Leaves (reading (capacities_of (length rows₁) (length spans₁) (length starts₁) (length pool₁)) names p) rows₁ spans₁ starts₁ pool₁ rows₂ spans₂ starts₂ pool₂ s
      → GivesBack T p rows₁ spans₁ starts₁ pool₁ rows₂ spans₂ starts₂ pool₂ s)
  passed_gives_back =
      let x = (check_passes names p bytes rows spans starts pool check).0 passed in (
        x.0,
        x.1,
        read_gives_back names p bytes rows spans starts pool left_by_read x.0 x.1,
        λ rows₁ spans₁ starts₁ pool₁ rows₂ spans₂ starts₂ pool₂ s a b c d h. read_gives_back names p bytes rows₁ spans₁ starts₁ pool₁ h x.0 (rw (a, b, c, d) x.1),
      )
