-- `numbers_in` meets its contract: at each turn the first numbers are put in.
use Rattle.std.proofs.Common.{◌∙◌, ◌&&◌, Bool, ap, arith}
use Rattle.recorded.specs.Laws.Recorded.{put_start, put_next, put_end, rest_after}
use Rattle.recorded.proofs.numbers_in.Goals as goal

pub loop-number-init : goal.loop-number-init
loop-number-init g c = put_start _ _ _ _ _

pub loop-number-preserved : goal.loop-number-preserved
loop-number-preserved g c =
    let w = c.WIDTH.ensures in
    put_next _ _ _ _ _ _ _ _ _ c.loop-number.invariant _ _ _ _ c.first-n.ensures c.eq-agrees.ensures (rest_after _ _ _ (rw w at c.min.ensures)) (omega arith)

pub returns-clause-value : goal.returns-clause-value
returns-clause-value g c =
    ap (λ (t : Bool). c.loop-number.agrees && t) c.is_empty.ensures ∙ (put_end _ _ _ _ _ _ _ _ _ c.loop-number.invariant (omega arith) (omega arith)).0

pub returns-clause-table_after : goal.returns-clause-table_after
returns-clause-table_after g c = (put_end _ _ _ _ _ _ _ _ _ c.loop-number.invariant (omega arith) (omega arith)).1
