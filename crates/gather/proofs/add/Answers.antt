-- `gather::add` meets its contract: three stores, the link first, so that a first entry overwrites it.
use Rattle.pool_index.specs.Strings.{link_base}
use Rattle.gather.specs.Entries.{added}
use Prim.Native.Nat.{ℕ, ◌+◌, ◌*◌}
use mathlib.Core.Path.{ap}
use lib.ListN.{set}
use Rattle.gather.proofs.add.Goals as goal

pub returns : goal.returns
unfolding added
returns c =
    let args = c.args in
    ap (λ (v : ℕ). set (set (set args.table.now args.slot (v + args.used * link_base)) (2 * args.used) args.o) (2 * args.used + 1) args.marked)
    c.low_in.ensures.0
