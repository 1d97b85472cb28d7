-- `pool_check::meet_string` meets its contract: the next entry, a later one, one that was met.
use Prim.Native.Nat.{◌*◌, ◌<◌}
use native.Mathlib.Omega.{arith}
use lib.ListN.{get_or}
use mathlib.Core.Path.{refl}
use Rattle.std.specs.Cmp.{ranked}
use Rattle.gather.specs.Places.{parts_of}
use Rattle.pool_check.specs.Laws.Order.{met_next, met_late, met_old, met_all, met_part, met_none}
use Rattle.pool_check.proofs.meet_string.Goals as goal

pub returns-in_default : goal.returns-in_default
unfolding parts_of
returns-in_default c = rw c.in_default.is (met_none _ _ (omega arith), c.requires)

pub returns-then-met-pool : goal.returns-then-met-pool
unfolding parts_of
returns-then-met-pool c =
    let at = c.in-Some.at in
    rw c.in-Some.is (met_part c.args.store.now at.offset at.size refl (met_all c.args.pool.now c.args.met _ (omega arith) (omega arith)), c.requires)

pub returns-in-Less : goal.returns-in-Less
unfolding parts_of
returns-in-Less c =
    let at = c.in-Some.at in
    let low : c.cut.result < get_or c.args.pool.now (2 * c.args.met) 0 = ranked _ _ _ c.in-Less.ensures in
    rw c.in-Some.is
    (met_part c.args.store.now at.offset at.size c.cut.ensures (met_old c.args.pool.now c.args.met c.cut.result (omega arith) (λ e. absurd (omega arith)) (omega arith)), c.requires)

pub returns-in-Equal : goal.returns-in-Equal
unfolding parts_of
returns-in-Equal c =
    let at = c.in-Some.at in
    rw c.in-Some.is
    (met_part c.args.store.now at.offset at.size c.cut.ensures (met_next c.args.pool.now c.args.met c.cut.result (omega arith) (ranked _ _ _ c.in-Equal.ensures)), omega arith)

pub returns-in-Greater : goal.returns-in-Greater
unfolding parts_of
returns-in-Greater c =
    let at = c.in-Some.at in
    let high : get_or c.args.pool.now (2 * c.args.met) 0 < c.cut.result = ranked _ _ _ c.in-Greater.ensures in
    rw c.in-Some.is
    (met_part c.args.store.now at.offset at.size c.cut.ensures (met_late c.args.pool.now c.args.met c.cut.result (omega arith) (λ e. absurd (omega arith)) high))
