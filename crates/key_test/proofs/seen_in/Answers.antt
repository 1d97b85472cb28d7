-- `seen_in` meets its contract: the search from each row on finds what the search from the first row finds.
use Rattle.payload.specs.Rows.{row_width}
use Rattle.key_test.specs.Keys.{most_rows, rows_told, same_key, seen_in}
use Rattle.key_test.proofs.KeyTest.{seen_end, seen_same, seen_other, seen_skip}
use Prim.Native.Nat.{ℕ, suc, ◌+◌, ◌-◌, ◌*◌, ◌≤◌, ◌<◌}
use mathlib.Core.Path.{◌≡◌, sym, ap, ◌∙◌}
use mathlib.Core.Bool.{true, false}
use mathlib.Core.List.{List}
use native.Mathlib.Omega.{arith}
use lib.ListN.{drop}
use Rattle.key_test.proofs.seen_in.Invariants.{Searched}
use Rattle.key_test.proofs.seen_in.Goals.{then-skip-eq0+else-same_key, else-skip-eq0}
use Rattle.key_test.proofs.seen_in.Goals as goal

module _ {p rows : List ℕ} {first own gap skip i : ℕ} (s : Searched p rows first own gap skip i) (a : first ≤ i) (h : i < own) where
  zero_skip :
      skip ≡ 0 →
      seen_in p (drop (row_width * own) rows) gap 0 (own - first) (drop (row_width * first) rows)
      ≡ seen_in p (drop (row_width * own) rows) gap 0 (own - i) (drop (row_width * i) rows)
  zero_skip z = s.found ∙ ap (λ (n : ℕ). seen_in p (drop (row_width * own) rows) gap n (own - i) (drop (row_width * i) rows)) z

  hit :
      skip ≡ 0 → same_key p (drop (row_width * own) rows) (drop (row_width * i) rows) ≡ true →
      true ≡ seen_in p (drop (row_width * own) rows) gap 0 (own - first) (drop (row_width * first) rows)
  hit z e = sym (zero_skip z ∙ seen_same p (drop (row_width * own) rows) gap rows own i h e)

  miss : skip ≡ 0 → same_key p (drop (row_width * own) rows) (drop (row_width * i) rows) ≡ false → gap ≤ 1 → Searched p rows first own gap gap (i + 1)
  miss z e g = record {
    small = omega arith;
    found = zero_skip z ∙ seen_other p (drop (row_width * own) rows) gap rows own i h e;
  }

  past : (skip ≡ 0 → ⊥) → (n : ℕ) → n ≡ rows_told (drop (row_width * i) rows) → n ≤ 2 * most_rows → Searched p rows first own gap (skip - 1 + n) (i + 1)
  past z n e m =
      let b = s.small in
      let k : skip ≡ suc (skip - 1) = omega arith in
      record {
        small = omega arith;
        found = s.found ∙ ap (λ (j : ℕ). seen_in p (drop (row_width * own) rows) gap j (own - i) (drop (row_width * i) rows)) k
            ∙ seen_skip p (drop (row_width * own) rows) gap rows own i h (skip - 1)
            ∙ ap (λ (j : ℕ). seen_in p (drop (row_width * own) rows) gap (skip - 1 + j) (own - (i + 1)) (drop (row_width * (i + 1)) rows)) (sym e);
      }

pub returns-then-same_key : goal.returns-then-same_key
returns-then-same_key c =
    let loop = c.loop-number in
    hit loop.invariant loop.auto.number c.loop-number-test.true c.if-skip-eq0.true (sym c.same_key.ensures ∙ c.if-same_key.true)

pub loop-number-preserved : goal.loop-number-preserved
loop-number-preserved c =
    let loop = c.loop-number in
    let pre = c.requires in
    elim c.if-skip-eq0.branch [
      | then-skip-eq0+else-same_key w ↦ rw w.skip-is
          (miss loop.invariant loop.auto.number c.loop-number-test.true w.if-skip-eq0.true (sym w.same_key.ensures ∙ w.if-same_key.false) pre.2)
      | else-skip-eq0 w ↦ rw w.skip-is (past loop.invariant loop.auto.number c.loop-number-test.true w.if-skip-eq0.false _ w.rows_told.ensures.told w.rows_told.ensures.bound)
    ]

pub returns : goal.returns
returns c = sym (c.loop-number.invariant.found ∙ seen_end _ _ _ _ _ _ _ c.loop-number-test.false)
