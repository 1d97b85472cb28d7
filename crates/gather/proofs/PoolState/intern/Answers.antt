-- `gather::intern` meets its contract: an entry at the part's place has its bytes.
use mathlib.Core.Path.{refl, ap₂, ◌∙◌}
use Prim.Native.Nat.{◌-◌, min}
use lib.ListN.{length}
use Rattle.pool_index.specs.Strings.{bytes_at}
use Rattle.gather.specs.Laws.Interning.{cut_bytes}
use Rattle.gather.specs.Laws.Placing.{placed_there}
use Rattle.gather.proofs.PoolState.intern.Goals as goal

pub returns-in-Some : goal.returns-in-Some
returns-in-Some c =
    let s = c.args.store.now in
    let o = c.args.at.offset in
    let n = c.args.at.size in
    let a = min o (length s) in
    let m = min n (length s - a) in
    let at = c.in-Some.ensures in
    placed_there c.requires o n a m refl refl _ at.0 (ap₂ (bytes_at s) at.1 at.2 ∙ cut_bytes s o n a m refl refl)
