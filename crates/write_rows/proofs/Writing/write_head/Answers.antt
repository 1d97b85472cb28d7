-- `write_rows::Writing::write_head` meets its contract: the tag, and, but for a closure, the items.
use Rattle.std.proofs.Common.{[], ap}
use Rattle.payload.specs.Writing.{tag_byte}
use Rattle.emit.specs.Laws.Emitter.{emits_then, emits_as, emits_none}
use Rattle.write_rows.specs.Laws.Tests.{under_test, when_yes, when_no}
use Rattle.write_rows.specs.Laws.Walk.{head_reached}
use Rattle.write_rows.specs.Walk.{head_bytes}
use Rattle.write_rows.proofs.Writing.write_head.Goals.{then-eq, else-eq}
use Rattle.write_rows.proofs.Writing.write_head.Goals as goal

pub returns : goal.returns
unfolding head_bytes
returns c =
    let test = under_test 4 _ c.eq.ensures c.under_form.ensures c.tag-tag.ensures in
    head_reached _ _ _ c.span_after-after.ensures.value c.span_after-after.ensures.within.1
    (emits_then (emits_as (ap tag_byte c.tag-tag.ensures) c.write_tag.ensures)
    (elim c.if-eq.branch [
      | then-eq w ↦ rw w.emitter-is (emits_as (when_yes [] _ test w.if-eq.true) (emits_none _))
      | else-eq w ↦ rw w.emitter-is (emits_as (when_no [] _ test w.if-eq.false) (rw w.runs.ensures at w.write_items-next.ensures))
    ]))
