-- `read_char` meets its contract: the cut number is a Unicode scalar, is none, or no varint is read.
use Rattle.std.proofs.Common.{sym, ◌∙◌}
use Rattle.payload.specs.Numbers.{read_number}
use Rattle.refusal.specs.Laws.Errors.{same_error}
use Rattle.cursor.specs.Laws.Advances.{by_law}
use Rattle.read_items.specs.Laws.Numbers.{reads_tested, reads_tested_not, reads_tested_stop}
use Rattle.read_items.proofs.numbers.read_char.Goals as goal

pub returns-in_err-c : goal.returns-in_err-c
unfolding read_number
returns-in_err-c c = rw (same_error c.from_residual.result _ c.from_residual.ensures.1) (by_law (λ g. reads_tested_stop g _ _ _) c.in_err-c.ensures.advances)

pub returns-then-is_scalar : goal.returns-then-is_scalar
unfolding read_number
returns-then-is_scalar c = by_law (λ g. reads_tested g _ _ _ (sym c.is_scalar.ensures ∙ c.if-is_scalar.true)) c.in_ok-c.ensures.advances

pub returns : goal.returns
unfolding read_number
returns c = rw c.at.ensures (by_law (λ g. reads_tested_not g _ _ _ (sym c.is_scalar.ensures ∙ c.if-is_scalar.false)) c.in_ok-c.ensures.advances)
