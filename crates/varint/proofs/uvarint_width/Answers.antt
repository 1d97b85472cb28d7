-- `varint::uvarint_width` meets its contract: the number's bits, at seven to a group, rounded up. Assumes nothing.
use Rattle.std.proofs.Common.{rules, arith}
use Rattle.varint.specs.Laws.Uleb128.{uleb_width}
use Rattle.varint.proofs.uvarint_width.Goals as goal

pub returns : goal.returns
returns c = uleb_width c.args.n _ (search rules) (omega arith) (omega arith) (omega arith)
