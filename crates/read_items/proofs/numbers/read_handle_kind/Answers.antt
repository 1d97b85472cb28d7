-- `read_handle_kind` meets its contract: the cut number is a kind, is none, or no varint is read.
use Rattle.std.proofs.Common.{le-leb}
use Rattle.std.proofs.lemmas.Bool.{lt-leb}
use Rattle.payload.specs.Numbers.{read_number}
use Rattle.refusal.specs.Laws.Errors.{same_error}
use Rattle.cursor.specs.Laws.Advances.{by_law}
use Rattle.read_items.specs.Laws.Numbers.{reads_tested, reads_tested_not, reads_tested_stop}
use Rattle.read_items.proofs.numbers.read_handle_kind.Goals as goal

pub returns-in_err-kind : goal.returns-in_err-kind
unfolding read_number
returns-in_err-kind c = rw (same_error c.from_residual.result _ c.from_residual.ensures.1) (by_law (λ g. reads_tested_stop g _ _ _) c.in_err-kind.ensures.advances)

pub returns-then-kind-le5 : goal.returns-then-kind-le5
unfolding read_number
returns-then-kind-le5 c = by_law (λ g. reads_tested g _ _ _ (le-leb _ _ c.if-kind-le5.true)) c.in_ok-kind.ensures.advances

pub returns : goal.returns
unfolding read_number
returns c = rw c.at.ensures (by_law (λ g. reads_tested_not g _ _ _ (lt-leb _ _ c.if-kind-le5.false)) c.in_ok-kind.ensures.advances)
