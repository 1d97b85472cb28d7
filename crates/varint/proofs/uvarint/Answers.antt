-- `varint::uvarint` meets its contract: nothing there, or one byte.
use Rattle.std.proofs.Common.{rules, sym}
use Rattle.varint.specs.Laws.Varint.{varint_end, varint_one}
use Rattle.varint.proofs.uvarint.Goals as goal

pub returns-then-bytes-at : goal.returns-then-bytes-at
returns-then-bytes-at c = rw c.at.ensures (sym (varint_end _ _ c.if-bytes-at.true))

pub returns-then-b-lt128 : goal.returns-then-b-lt128
returns-then-b-lt128 c = sym (varint_one _ _ (search rules) c.if-b-lt128.true)
