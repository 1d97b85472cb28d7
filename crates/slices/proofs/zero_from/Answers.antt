-- `zero_from` meets its contract: at each turn the words from `from` to i are 0.
use mathlib.Core.Path.{◌≡◌}
use Prim.Native.Nat.{◌-◌}
use native.Mathlib.Omega.{arith}
use Rattle.std.specs.Prelude.{length}
use Rattle.slices.specs.Laws.Put.{put_none}
use Rattle.slices.specs.Laws.Zeros.{put_same, same_more}
use Rattle.slices.proofs.zero_from.Goals as goal

pub loop-i-init : goal.loop-i-init
loop-i-init g c =
    let from = c.args.from in
    let e : from - from ≡ 0 = omega arith in
    (omega arith, rw (e, put_none))

pub loop-i-preserved : goal.loop-i-preserved
loop-i-preserved g c =
    let loop = c.loop-i in
    let args = c.args in
    (omega arith, rw (c.ZERO.ensures, loop.invariant.1, same_more g.W.Zero.ZERO args.t.now args.from loop.i loop.auto.i))

pub returns : goal.returns
returns g c =
    let args = c.args in
    let e : c.loop-i.i - args.from ≡ length args.t.now - args.from = omega arith in
    rw (c.loop-i.invariant.1, e, put_same)
