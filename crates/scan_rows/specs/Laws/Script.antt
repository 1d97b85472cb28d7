-- The whole answer: rows, spans, line index.
use Rattle.std.specs.Prelude.{Bool, ◌&&◌, List, [], ◌∷◌, ◌≡◌, ◌*◌, ◌+◌, ◌/◌, ◌<◌, ◌^◌, ◌≤◌, suc, ℕ, leb, ltb, drop, get_or, take, Ok, Err}
use Rattle.std.proofs.Math.Bool.{false, true}
use Rattle.std.proofs.Common.{◌∙◌, ap, drop_of_length-le, drop-cons}
use Rattle.std.proofs.Math.Path.{refl}
use native.Mathlib.Omega.{arith}
use Rattle.std.proofs.Math.Dec.{eqb}
use Rattle.std.proofs.Math.ListN.{length}
use borrow.Author.Tests.{eq-eqb, eqb-false, eqb-true, le-ltb, lt-ltb, ne_eqb}
use Rattle.payload.specs.Choice.{◌and◌, when◌then◌else◌}
use Rattle.payload.specs.Laws.Pool.{and_both}
use Rattle.payload.specs.Reader.{Part, ◌>>=◌, ◌>>◌, and_then, ok, pure, refused, start}
use Rattle.payload.specs.Rows.{row_width}
use Rattle.payload.specs.Scan.{scan_outer, scan_value}
use Rattle.payload.specs.Sound.{Tables, all_starts, give_node, is_nil, line_of, line_sound, no_more_rows, script_of, sound_script, spans_of, spans_sound, tables}
use Rattle.payload.specs.Spans.{small_spans}
use Rattle.payload.specs.Trees.{Node, Script}
use Rattle.utf8.specs.Utf8.{is_utf8, part_is_utf8}
use Rattle.scan_rows.specs.Code.{code_total, spans_fit}
use Rattle.scan_rows.specs.Found.{Answers, Scanned, Scan, broken}
use Rattle.scan_rows.specs.declared.BrokenRow.{BrokenRow}
use Rattle.scan_rows.specs.Laws.Code.{scanned_code}
use Rattle.scan_rows.specs.Laws.Found.{bad_of, next_of}
use Rattle.scan_rows.specs.Laws.Steps.{and_pass, must_pass, pass}
use Rattle.scan_rows.specs.Row.{at_row, row_count}
use Rattle.scan_rows.specs.Under.{scan_chunk}

---- spans

module _ (ws : List ℕ) (i : ℕ) where
  two_words : 2 * i + 1 < length ws → drop (2 * i) ws ≡ get_or ws (2 * i) 0 ∷ get_or ws (2 * i + 1) 0 ∷ drop (2 * (i + 1)) ws
  two_words h =
      let e : suc (2 * i) ≡ 2 * i + 1 = omega arith in
      let f : suc (2 * i + 1) ≡ 2 * (i + 1) = omega arith in
      drop-cons ws (2 * i) 0 (omega arith) ∙ ap (λ (l : List ℕ). get_or ws (2 * i) 0 ∷ l) (ap (λ (k : ℕ). drop k ws) e ∙ drop-cons ws (2 * i + 1) 0 h ∙ ap (λ (k : ℕ). get_or ws (2 * i + 1) 0 ∷ drop k ws) f)

  small_is : 2 * i + 1 < length ws → small_spans (spans_of (drop (2 * i) ws)) ≡ (ltb (get_or ws (2 * i) 0) (2 ^ 63) and ltb (get_or ws (2 * i + 1) 0) (2 ^ 63) and small_spans (spans_of (drop (2 * (i + 1)) ws)))
  unfolding small_spans spans_of
  small_is h = rw (two_words h)

  pub small_next : 2 * i + 1 < length ws → get_or ws (2 * i) 0 < 2 ^ 63 → get_or ws (2 * i + 1) 0 < 2 ^ 63 → small_spans (spans_of (drop (2 * i) ws)) ≡ small_spans (spans_of (drop (2 * (i + 1)) ws))
  unfolding ◌and◌
  small_next h a b = small_is h ∙ rw (lt-ltb _ _ a, lt-ltb _ _ b)

  pub large_start : 2 * i + 1 < length ws → 2 ^ 63 ≤ get_or ws (2 * i) 0 → small_spans (spans_of (drop (2 * i) ws)) ≡ false
  unfolding ◌and◌
  large_start h a = small_is h ∙ rw (le-ltb _ _ a)

  pub large_end : 2 * i + 1 < length ws → get_or ws (2 * i) 0 < 2 ^ 63 → 2 ^ 63 ≤ get_or ws (2 * i + 1) 0 → small_spans (spans_of (drop (2 * i) ws)) ≡ false
  unfolding ◌and◌
  large_end h a b = small_is h ∙ rw (lt-ltb _ _ a, le-ltb _ _ b)

  pub small_end : length ws ≤ 2 * i → small_spans (spans_of (drop (2 * i) ws)) ≡ true
  unfolding small_spans spans_of
  small_end h = rw (drop_of_length-le ws h)

---- line index

pub starts_small : (ss : List ℕ) → ((k : ℕ) → get_or ss k 0 < 2 ^ 32) → all_starts ss ≡ true
unfolding all_starts
starts_small [] h = refl
starts_small (s ∷ ss) h = and_both (lt-ltb s (2 ^ 32) (h 0)) (starts_small ss (λ k. h (suc k)))

-- where there are none
pub none_small : (ss : List ℕ) → length ss ≡ 0 → all_starts ss ≡ true
unfolding all_starts
none_small [] e = refl
none_small (s ∷ ss) e = absurd (omega arith)

pub no_starts : (ss : List ℕ) → eqb (length ss) 0 ≡ is_nil ss
unfolding is_nil
no_starts [] = refl
no_starts (s ∷ ss) = ne_eqb (suc (length ss)) 0 (λ e. omega arith)

-- flag 0, and flag 1
module _ (T : Tables) where
  pub no_line : T.flag ≡ 0 → ((eqb T.name_offset 0 && eqb T.name_length 0) && is_nil T.starts) ≡ line_sound T
  unfolding line_sound when◌then◌else◌ ◌and◌
  no_line e = rw (eq-eqb T.flag 0 e) (go (eqb T.name_offset 0) (eqb T.name_length 0) (is_nil T.starts))
    where
      go : (a b c : Bool) → ((a && b) && c) ≡ (a and b and c)
      go true true c = refl
      go true false c = refl
      go false b c = refl

  pub bad_flag : (T.flag ≡ 0 → ⊥) → (T.flag ≡ 1 → ⊥) → line_sound T ≡ false
  unfolding line_sound when◌then◌else◌ ◌and◌
  bad_flag e f = rw (ne_eqb T.flag 0 e) (rw (ne_eqb T.flag 1 f))

  pub a_line : T.flag ≡ 1 → all_starts T.starts ≡ true → part_is_utf8 T.store T.name_offset T.name_length ≡ line_sound T
  unfolding line_sound when◌then◌else◌ ◌and◌ part_is_utf8
  a_line e s = rw (e, s) (go (leb (T.name_offset + T.name_length) (length T.store)) (is_utf8 (take T.name_length (drop T.name_offset T.store))))
    where
      go : (a b : Bool) → (a && b) ≡ (a and b and true)
      go true true = refl
      go true false = refl
      go false b = refl

-- the line index needs neither rows nor spans
pub line_alone : (store rows spans starts : List ℕ) (flag o n : ℕ) → line_sound (tables store [] [] starts flag o n) ≡ line_sound (tables store rows spans starts flag o n)
unfolding line_sound
line_alone store rows spans starts flag o n = refl

---- the script

module _ (T : Tables) where
  abbrev script_from : Node Part → Script Part
  script_from n = record { outer = give_node (spans_of T.spans) n; line = line_of T }

  script_refused : {k : ℕ} → scan_outer T.store (start T.rows) ≡ refused 17 k → script_of T ≡ refused 17 k
  unfolding script_of sound_script ◌>>=◌ and_then
  script_refused e = rw e

  module _ (j : ℕ) (n : Node Part) (e : scan_outer T.store (start T.rows) ≡ ok n (at_row T.rows j)) where
    script_scanned : script_of T ≡ pass (is_nil (drop (row_width * j) T.rows)) j (pass (spans_sound T.spans n) j (pass (line_sound T) j (ok (script_from n) (at_row T.rows j))))
    unfolding script_of sound_script no_more_rows ◌>>=◌ ◌>>◌ and_then pure
    script_scanned = rw e (rw (must_pass, and_pass, must_pass, and_pass, must_pass, and_pass))

    rows_left : j < row_count T.rows → script_of T ≡ refused 17 j
    unfolding pass is_nil
    rows_left h = script_scanned ∙ rw (drop-cons T.rows (row_width * j) 0 (omega arith))

    module _ (h : row_count T.rows ≤ j) (w : length T.rows ≡ row_width * row_count T.rows) (even : length T.spans ≡ 2 * (length T.spans / 2)) where
      none_left : is_nil (drop (row_width * j) T.rows) ≡ true
      unfolding is_nil
      none_left = let g : length T.rows ≤ row_width * j = omega arith in rw (drop_of_length-le T.rows g)

      spans_test : spans_sound T.spans n ≡ spans_fit T.rows T.spans
      unfolding spans_sound spans_fit
      spans_test = rw (← (scanned_code T.store T.rows n (at_row T.rows j) e none_left w)) (ap (λ (b : Bool). b and small_spans (spans_of T.spans)) (halves (code_total (row_count T.rows) T.rows)))
        where
          halves : (m : ℕ) → eqb (length T.spans) (2 * m) ≡ eqb m (length T.spans / 2)
          halves m = go (eqb m (length T.spans / 2)) refl
            where
              go : (b : Bool) → eqb m (length T.spans / 2) ≡ b → eqb (length T.spans) (2 * m) ≡ b
              go true q = eq-eqb (length T.spans) (2 * m) (omega (arith, even, eqb-true m (length T.spans / 2) q))
              go false q = ne_eqb (length T.spans) (2 * m) (λ z. eqb-false m (length T.spans / 2) q (omega (arith, even)))

      spans_unsound : spans_fit T.rows T.spans ≡ false → script_of T ≡ refused 17 j
      unfolding pass
      spans_unsound f = script_scanned ∙ rw (none_left, spans_test ∙ f)

      line_unsound : spans_fit T.rows T.spans ≡ true → line_sound T ≡ false → script_of T ≡ refused 17 j
      unfolding pass
      line_unsound f g = script_scanned ∙ rw (none_left, spans_test ∙ f, g)

      all_sound : spans_fit T.rows T.spans ≡ true → line_sound T ≡ true → script_of T ≡ ok (script_from n) (at_row T.rows j)
      unfolding pass
      all_sound f g = script_scanned ∙ rw (none_left, spans_test ∙ f, g)

---- what the scan of the outer chunk tells of the script

outer_is : (store rows : List ℕ) → scan_chunk store (scan_value store 32) (at_row rows 0) ≡ scan_outer store (start rows)
unfolding scan_outer
outer_is store rows = refl

module _ (T : Tables) {r : Scan} (s : Scanned T.rows 1 0 r (scan_chunk T.store (scan_value T.store 32) (at_row T.rows 0))) where
  outer_found : Scanned T.rows 1 0 r (scan_outer T.store (start T.rows))
  outer_found = rw (outer_is T.store T.rows) at s

  pub answer_bad_row : {k : BrokenRow} → r ≡ Err k → Answers (Err k) (script_of T)
  answer_bad_row e = record { answer = script_refused T (bad_of e outer_found) }

  module _ {j : ℕ} (e : r ≡ Ok j) where
    pub answer_rows_left : j < row_count T.rows → Answers (Err (broken j)) (script_of T)
    answer_rows_left h = let g = next_of e outer_found in record { answer = rows_left T j g.0 g.1 h }

    module _ (h : row_count T.rows ≤ j) (w : length T.rows ≡ row_width * row_count T.rows) (even : length T.spans ≡ 2 * (length T.spans / 2)) where
      pub answer_spans : spans_fit T.rows T.spans ≡ false → Answers (Err (broken j)) (script_of T)
      answer_spans f = let g = next_of e outer_found in record { answer = spans_unsound T j g.0 g.1 h w even f }

      pub answer_line_lem : spans_fit T.rows T.spans ≡ true → line_sound T ≡ false → Answers (Err (broken j)) (script_of T)
      answer_line_lem f l = let g = next_of e outer_found in record { answer = line_unsound T j g.0 g.1 h w even f l }

      pub answer_sound : spans_fit T.rows T.spans ≡ true → line_sound T ≡ true → Answers (Ok tt) (script_of T)
      answer_sound f l = let g = next_of e outer_found in record { answer = (_, _, all_sound T j g.0 g.1 h w even f l) }
