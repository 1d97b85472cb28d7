-- `write_rows::Writing::write_other_item` meets its contract: each form of an item is one call.
use Rattle.std.proofs.Common.{List, ℕ, ap, ⊎_elim}
use Rattle.varint.specs.Uleb128.{uleb128}
use Rattle.payload.specs.Choice.{when◌then◌else◌}
use Rattle.payload.specs.Sound.{spans_of}
use Rattle.payload.specs.Spans.{write_code}
use Rattle.emit.specs.Laws.Emitter.{emits_as, emits_none}
use Rattle.write_rows.specs.Walk.{item_bytes}
use Rattle.write_rows.proofs.Writing.write_other_item.Goals as goal

pub returns-in-NoItem : goal.returns-in-NoItem
unfolding item_bytes when◌then◌else◌
returns-in-NoItem c = ⊎_elim (λ e. rw e (emits_none _)) (λ e. absurd (c.requires e)) c.in-NoItem.is

pub returns-in-Varint : goal.returns-in-Varint
unfolding item_bytes when◌then◌else◌
returns-in-Varint c = rw c.in-Varint.is c.varint.ensures

pub returns-in-Zigzag : goal.returns-in-Zigzag
unfolding item_bytes when◌then◌else◌
returns-in-Zigzag c = rw c.in-Zigzag.is (emits_as (ap uleb128 c.zigzag_word.ensures) c.varint-in-Zigzag.ensures)

pub returns-in-Byte : goal.returns-in-Byte
unfolding item_bytes when◌then◌else◌
returns-in-Byte c = rw c.in-Byte.is c.byte.ensures

pub returns-in-EightBytes : goal.returns-in-EightBytes
unfolding item_bytes when◌then◌else◌
returns-in-EightBytes c = rw c.in-EightBytes.is c.little_endian.ensures

pub returns-in-FourBytes : goal.returns-in-FourBytes
unfolding item_bytes when◌then◌else◌
returns-in-FourBytes c = rw c.in-FourBytes.is c.little_endian-in-FourBytes.ensures

pub returns-in-Code : goal.returns-in-Code
unfolding item_bytes when◌then◌else◌
returns-in-Code c =
    rw c.in-Code.is (emits_as (ap (λ (l : List ℕ). write_code l (spans_of c.args.spans.spans.now)) c.bytes_at.ensures) c.write_chunk.ensures)
