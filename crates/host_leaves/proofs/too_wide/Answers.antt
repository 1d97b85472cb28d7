-- `too_wide` meets its contract: no number has more than ten bytes.
use mathlib.Core.Path.{sym, ap}
use native.Mathlib.Omega.{arith}
use lib.Dec.{ltb}
use lib.ListN.{length}
use borrow.Author.Tests.{le-ltb}
use Rattle.varint.specs.Uleb128.{uleb128}
use Rattle.varint.specs.Laws.Uleb128.{uleb_at_most}
use Rattle.host_leaves.proofs.too_wide.Goals as goal

pub returns-then-room-ge10 : goal.returns-then-room-ge10
returns-then-room-ge10 c =
    let most = uleb_at_most 9 c.args.n (omega arith) in
    sym (le-ltb c.args.room (length (uleb128 c.args.n)) (omega arith))

pub returns : goal.returns
returns c = ap (ltb c.args.room) c.uvarint_width.ensures
