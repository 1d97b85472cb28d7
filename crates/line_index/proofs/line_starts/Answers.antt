-- The table's front holds the starts that the loop has met, and the rest of the text gives the others.
use Prim.Native.Nat.{ℕ}
use mathlib.Core.Path.{◌≡◌, sym, ap, ◌∙◌}
use mathlib.Core.List.{List, ◌++◌, append-nil}
use native.Mathlib.Omega.{arith}
use lib.Arith.{lt_of_le-ne}
use lib.ListN.{length, take, length-set}
use lib.Seq.{length-take-le, take_all}
use Rattle.line_index.specs.LineIndex.{line_starts}
use Rattle.line_index.specs.Laws.LineIndex.{newline, no_newline, text_end, too_long, no_room, made, full}
use Rattle.line_index.proofs.Table.{first_start, next_start}
use Rattle.line_index.proofs.line_starts.Goals.{else-text-i-eq10, then-text-i-eq10+else-count-most, After-loop-i}
use Rattle.line_index.proofs.line_starts.Goals as goal

pub returns-then-text-gt-SIZE-clause-value : goal.returns-then-text-gt-SIZE-clause-value
returns-then-text-gt-SIZE-clause-value c = rw c.at.ensures (sym (too_long _ _ c.if-text-gt-SIZE.true))

pub returns-then-most-eq0-clause-value : goal.returns-then-most-eq0-clause-value
returns-then-most-eq0-clause-value c = rw c.at-then-most-eq0.ensures (sym (no_room _ _ (omega arith) (sym c.room-most.ensures ∙ c.if-most-eq0.true)))

pub loop-i-init : goal.loop-i-init
loop-i-init c = record { one = omega arith; room = omega arith; met = first_start c.args.starts.now _ (omega arith) }

pub returns-then-count-most-clause-value : goal.returns-then-count-most-clause-value
returns-then-count-most-clause-value c =
    let at = c.loop-i in
    let t : List ℕ = c.args.text.now in
    let s : List ℕ = at.starts in
    let held : length (take at.count s) ≡ at.count = length-take-le at.count s (omega (arith, length-set c.args.starts.now 0 0)) in
    let taken = sym c.room-most.ensures ∙ sym c.if-count-most.true ∙ sym held in
    let met = at.invariant.met ∙ ap (λ (r : List ℕ). take at.count s ++ r) (newline t at.i c.loop-i-test.true c.if-text-i-eq10.true) in
    rw c.at-then-count-most.ensures (sym (full t _ (omega arith) at.i (take at.count s) _ taken met))

pub loop-i-preserved : goal.loop-i-preserved
loop-i-preserved c =
    let at = c.loop-i in
    let t : List ℕ = c.args.text.now in
    let s : List ℕ = at.starts in
    let z = length-set c.args.starts.now 0 0 in
    elim c.if-text-i-eq10.branch [
      | then-text-i-eq10+else-count-most w ↦ let below = lt_of_le-ne at.invariant.room w.if-count-most.false in
          rw (w.starts-is, w.count-is) record {
            one = omega arith;
            room = omega arith;
            met = next_start _ t s at.count at.i (omega arith) c.loop-i-test.true w.if-text-i-eq10.true at.invariant.met;
          }
      | else-text-i-eq10 w ↦ rw (w.starts-is, w.count-is) record {
        one = at.invariant.one;
        room = at.invariant.room;
        met = at.invariant.met ∙ ap (λ (r : List ℕ). take at.count s ++ r) (no_newline t at.i c.loop-i-test.true w.if-text-i-eq10.false);
      }
    ]

-- the starts that the table holds after the loop are all
all_met : (c : After-loop-i) → line_starts c.args.text.now ≡ take c.loop-i.count c.loop-i.starts
all_met c =
    let s : List ℕ = c.loop-i.starts in
    c.loop-i.invariant.met ∙ ap (λ (r : List ℕ). take c.loop-i.count s ++ r) (text_end c.args.text.now c.loop-i.i c.loop-i-test.false) ∙ append-nil (take c.loop-i.count s)

pub returns-clause-value : goal.returns-clause-value
returns-clause-value c =
    let at = c.loop-i in
    let long : length (line_starts c.args.text.now) ≡ at.count =
    ap length (all_met c) ∙ length-take-le at.count at.starts (omega (arith, length-set c.args.starts.now 0 0)) in
    sym (made c.args.text.now _ (omega arith) at.count (omega arith) long)

pub returns-clause-starts_after : goal.returns-clause-starts_after
returns-clause-starts_after c =
    let at = c.loop-i in
    let z = length-set c.args.starts.now 0 0 in
    let long : length (line_starts c.args.text.now) ≡ at.count = ap length (all_met c) ∙ length-take-le at.count at.starts (omega arith) in
    (sym (all_met c) ∙ sym (take_all at.count (line_starts c.args.text.now) (omega (arith, long))), omega arith)
