-- `fill_starts` meets its contract: the flag, and what stands after it.
use Rattle.std.proofs.Common.{arith, refl}
use Rattle.std.proofs.lemmas.Bool.{lt-leb}
use Rattle.payload.specs.Reading.{read_line_index}
use Rattle.refusal.specs.Laws.Errors.{same_error}
use Rattle.cursor.specs.Laws.Advances.{then_reads, stop_reads, here_reads, must_not_reads}
use Rattle.read_lines.proofs.Flagged.{refuses, without_lines, with_lines}
use Rattle.read_lines.proofs.fill_starts.Goals as goal

pub returns-in_err-byte : goal.returns-in_err-byte
unfolding read_line_index
returns-in_err-byte c = refuses (same_error c.from_residual.result _ c.from_residual.ensures.1) refl (λ cs names h. here_reads _ (stop_reads _ c.in_err-byte.ensures.advances))

pub returns-in-0 : goal.returns-in-0
returns-in-0 c = record { same_pool = refl; moves = without_lines (rw c.in-0.is at c.in_ok-byte.ensures.advances) }

pub returns-in-1 : goal.returns-in-1
returns-in-1 c = let after = c.read_flagged.ensures in record { same_pool = after.same_pool; moves = with_lines (rw c.in-1.is at c.in_ok-byte.ensures.advances) after.moves }

pub returns-in_default : goal.returns-in_default
unfolding read_line_index
returns-in_default c = rw c.at.ensures (refuses refl refl (λ cs names h. here_reads _ (then_reads _ c.in_ok-byte.ensures.advances (must_not_reads _ (lt-leb _ 1 (omega arith)) refl))))
