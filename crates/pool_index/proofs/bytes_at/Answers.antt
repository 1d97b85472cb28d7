-- `pool_index::bytes_at` meets its contract: cutting offset and length to the store changes no part.
use mathlib.Core.Path.{◌≡◌}
use Prim.Native.Nat.{◌+◌, ◌-◌}
use native.Mathlib.Omega.{arith}
use Rattle.pool_index.specs.Laws.Strings.{bytes_cut}
use Rattle.pool_index.proofs.bytes_at.Goals as goal

pub returns : goal.returns
returns c =
    let cut = c.cut-a in
    let args = c.args in
    let e : cut.result + c.cut-m.result - cut.result ≡ c.cut-m.result = omega arith in
    rw e (bytes_cut args.store.now args.o args.n cut.result c.cut-m.result cut.ensures c.cut-m.ensures)
