-- `write_rows::Writing::write_leaf` meets its contract: the tag, and the items, which need no spans.
use Rattle.payload.specs.Sound.{spans_of}
use Rattle.write_rows.specs.Laws.Leaf.{leaf_emitted}
use Rattle.write_rows.proofs.Writing.write_leaf.Goals as goal

pub returns : goal.returns
unfolding spans_of
returns c = leaf_emitted _ _ _ _ _ c.requires c.tag.ensures c.write_tag.ensures (rw c.runs.ensures at c.write_both_items.ensures)
