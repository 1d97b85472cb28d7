-- `read_float` meets its contract: the bytes are one body, or they end.
use Rattle.std.specs.Prelude.{drop, length}
use Rattle.std.proofs.Common.{arith, ap, length-drop, length-take}
use Rattle.payload.specs.Numbers.{read_float}
use Rattle.refusal.specs.Laws.Errors.{same_error}
use Rattle.cursor.specs.Laws.Advances.{then_reads, stop_reads, pure_reads}
use Rattle.read_items.proofs.numbers.read_float.Goals as goal

pub returns-in_err-take-clause-advances : goal.returns-in_err-take-clause-advances
unfolding read_float
returns-in_err-take-clause-advances g c = rw (same_error c.from_residual.result _ c.from_residual.ensures.1) (stop_reads _ c.in_err-take.ensures.advances)

pub number_of-requires : goal.number_of-requires
number_of-requires g c =
    let t = c.in_ok-take.ensures.taken in
    let s = c.args.cursor.now in
    (omega (arith, t.inside, ap length t.are, length-take g.row.N (drop s.at s.payload.now), length-drop s.at s.payload.now), c.requires)

pub returns-clause-advances : goal.returns-clause-advances
unfolding read_float
returns-clause-advances g c = rw c.number_of.ensures.is (then_reads _ c.in_ok-take.ensures.advances (pure_reads _))
