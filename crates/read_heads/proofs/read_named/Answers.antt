-- `read_named` meets its contract: name and number are read, or the one that is not stops the reading.
use Rattle.refusal.specs.Laws.Errors.{same_error}
use Rattle.cursor.specs.Laws.Advances.{pure_reads, stop_reads, then_reads}
use Rattle.read_items.specs.Laws.Over.{over_by}
use Rattle.read_heads.specs.Heads.{read_named}
use Rattle.read_heads.proofs.read_named.Goals as goal

pub returns-in_err-name : goal.returns-in_err-name
unfolding read_named
returns-in_err-name c = rw (same_error c.from_residual.result _ c.from_residual.ensures.1) (over_by (λ g. record { is = λ names cs. stop_reads _ (g.is names cs); inside = tt }) c.in_err-name.ensures)

pub returns-in_err-number : goal.returns-in_err-number
unfolding read_named
returns-in_err-number c =
    let name = c.in_ok-name.ensures in
    rw (same_error c.from_residual-in_err-number.result _ c.from_residual-in_err-number.ensures.1) (record {
      same_pool = name.same_pool;
      moves = record { is = λ names cs. then_reads _ (name.moves.is names cs) (stop_reads _ c.in_err-number.ensures.advances); inside = tt };
    })

pub returns : goal.returns
unfolding read_named
returns c =
    let name = c.in_ok-name.ensures in
    record {
      same_pool = name.same_pool;
      moves = record { is = λ names cs. then_reads _ (name.moves.is names cs) (then_reads _ c.in_ok-number.ensures.advances (pure_reads _)); inside = name.moves.inside };
    }
