-- `emit::further_on` meets its contract: the sum is tested before it is made.
use Prim.Native.Nat.{◌+◌}
use native.Mathlib.Omega.{arith}
use borrow.Author.Tests.{le-leb, lt-leb}
use Rattle.payload.specs.Tables.{size_limit}
use Rattle.emit.specs.Emit.{further}
use Rattle.emit.proofs.further_on.Goals.{else-at-le-LIMIT-via-then-at-le-LIMIT+else-n-at, else-at-le-LIMIT-via-else-at-le-LIMIT}
use Rattle.emit.proofs.further_on.Goals as goal

pub returns-then-n-at : goal.returns-then-n-at
unfolding further
returns-then-n-at c =
    let args = c.args in
    rw (le-leb (args.at + args.n) size_limit (omega arith))

pub returns : goal.returns
unfolding further
returns c =
    elim c.else-at-le-LIMIT.branch [
      | else-at-le-LIMIT-via-then-at-le-LIMIT+else-n-at w ↦ rw (lt-leb (c.args.at + c.args.n) size_limit (omega arith))
      | else-at-le-LIMIT-via-else-at-le-LIMIT w ↦ rw (lt-leb (c.args.at + c.args.n) size_limit (omega arith))
    ]
