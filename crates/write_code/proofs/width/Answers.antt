-- `write_code::width` meets its contract: a number of 64 bits has at most ten groups of seven bits.
use Rattle.std.proofs.Common.{arith}
use Rattle.varint.specs.Laws.Uleb128.{uleb_at_most}
use Rattle.write_code.proofs.width.Goals as goal

pub returns : goal.returns
returns c = (c.uvarint_width.ensures, omega (arith, c.uvarint_width.ensures, uleb_at_most 9 c.args.n (omega arith)))
