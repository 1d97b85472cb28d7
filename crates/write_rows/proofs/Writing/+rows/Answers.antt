-- `write_rows::Writing::write_row` and `write_rows` meet their contracts: what is left to walk makes the whole.
use Rattle.std.proofs.Common.{◌≡◌, List, ℕ, Bor, suc, ◌-◌, sym, ap, ◌∙◌, arith, eqb-true}
use Rattle.payload.specs.Sound.{spans_of}
use Rattle.write_rows.specs.Laws.Leaf.{leaf_reached}
use Rattle.write_rows.specs.Laws.Tests.{under_test}
use Rattle.write_rows.specs.Laws.Walk.{row_reached, row_none, closure_reached, reached_none, loop_start, loop_next, loop_end, loop_past}
use Rattle.write_rows.specs.Walk.{walk}
use Rattle.write_rows.specs.Written.{held_in}
use Rattle.write_rows.proofs.Writing.+rows.Goals.{write_rows-then-eq, write_rows-else-eq}
use Rattle.write_rows.proofs.Writing.+rows.Goals as goal

pub write_row-returns-then-eq : goal.write_row-returns-then-eq
unfolding spans_of
write_row-returns-then-eq t c =
    closure_reached _ _ _ _ _ _ c.requires.0 (walk (held_in c.args.self.now) c.args.depth) (under_test 4 _ c.eq.ensures c.under_form.ensures c.tag.ensures) c.if-eq.true c.rows_under-n.ensures
    c.write_head-next.ensures c.write_rows-mid.ensures (rw c.runs.ensures at c.write_items-expected.ensures) c.write_rows.ensures

pub write_row-returns-then-n-eq0 : goal.write_row-returns-then-n-eq0
write_row-returns-then-n-eq0 t c =
    row_none _ _ _ _ _ _ c.requires.0 c.args.depth (under_test 4 _ c.eq.ensures c.under_form.ensures c.tag.ensures) c.if-eq.false c.rows_under-n.ensures c.if-n-eq0.true c.write_head-next.ensures

pub write_row-returns : goal.write_row-returns
write_row-returns t c =
    row_reached _ _ _ _ _ _ c.requires.0 (walk (held_in c.args.self.now) c.args.depth) (under_test 4 _ c.eq.ensures c.under_form.ensures c.tag.ensures) c.if-eq.false c.rows_under-n.ensures
    c.write_head-next.ensures c.write_rows-2.ensures

pub write_rows-returns-then-depth-eq0 : goal.write_rows-returns-then-depth-eq0
unfolding walk
write_rows-returns-then-depth-eq0 t c = rw c.if-depth-eq0.true (reached_none _ c.requires)

pub write_rows-loop-k-init : goal.write_rows-loop-k-init
write_rows-loop-k-init t c = loop_start _ _ _ c.args.count c.requires

pub write_rows-returns-in_default : goal.write_rows-returns-in_default
unfolding walk
write_rows-returns-in_default t c =
    let e : c.args.depth ≡ suc (c.args.depth - 1) = omega arith in
    rw e (loop_past _ _ c.loop-k.invariant c.in_default.ensures.none)

pub write_rows-loop-k-preserved : goal.write_rows-loop-k-preserved
write_rows-loop-k-preserved t c =
    let here = c.loop-k.here in
    let row = c.in-Some.row in
    let is = c.in-Some.ensures.some in
    let same : row.table.now ≡ c.args.self.now.tables.rows.now = ap (λ (table : Bor (List ℕ)). table.now) is.0 in
    let inside = rw (is.1, same) at row.inside in
    loop_next _ _ c.loop-k.invariant c.loop-k-test.true (omega arith)
    (elim c.if-eq.branch [
      | write_rows-then-eq w ↦
          let under = eqb-true _ 0 (sym (under_test 0 _ c.eq.ensures c.under_form.ensures (rw is.1 at c.tag.ensures)) ∙ w.if-eq.true) in
          rw (w.emitter-is, w.here-is) (leaf_reached _ _ _ _ _ here.row here.span same under c.loop-k.invariant.within (rw is.1 at w.write_leaf.ensures))
      | write_rows-else-eq w ↦ rw (w.emitter-is, w.here-is) (rw is.1 at w.write_row-here.ensures)
    ])

pub write_rows-returns : goal.write_rows-returns
unfolding walk
write_rows-returns t c =
    let e : c.args.depth ≡ suc (c.args.depth - 1) = omega arith in
    rw e (loop_end _ _ c.loop-k.invariant c.loop-k-test.false)
