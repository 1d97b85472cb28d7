-- `write_rows::write_tag` meets its contract: values have a tag byte, chunk and field rows none.
use borrow.Author.Tests.{le-leb, lt-leb}
use Rattle.payload.specs.Choice.{when◌then◌else◌}
use Rattle.payload.specs.Writing.{tag_byte}
use Rattle.emit.specs.Laws.Emitter.{emits_none}
use Rattle.write_rows.proofs.write_tag.Goals as goal

pub returns-then-tag-le-LAST : goal.returns-then-tag-le-LAST
unfolding tag_byte when◌then◌else◌
returns-then-tag-le-LAST c = rw (le-leb c.args.tag 26 c.if-tag-le-LAST.true) c.byte.ensures

pub returns-else-tag-le-LAST : goal.returns-else-tag-le-LAST
unfolding tag_byte when◌then◌else◌
returns-else-tag-le-LAST c = rw (lt-leb c.args.tag 26 c.if-tag-le-LAST.false) (emits_none _)
