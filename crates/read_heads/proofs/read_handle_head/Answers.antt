-- `read_handle_head` meets its contract: kind and id are read, or the one that is not stops the head.
use Rattle.std.specs.Prelude.{refl}
use Rattle.payload.specs.Numbers.{handle, read_number}
use Rattle.payload.specs.Shapes.{kinds_of}
use Rattle.refusal.specs.Laws.Errors.{same_error}
use Rattle.read_heads.specs.Class.{shape_of}
use Rattle.read_heads.specs.Laws.Heads.{head_handle, no_id, no_number}
use Rattle.read_heads.specs.Laws.Scalars.{fits_handle}
use Rattle.read_heads.proofs.read_handle_head.Goals as goal

pub returns-in_err-kind : goal.returns-in_err-kind
unfolding shape_of kinds_of
returns-in_err-kind c = λ names pool. rw (same_error c.from_residual.result _ c.from_residual.ensures.1) (no_number handle refl c.in_err-kind.ensures)

pub returns-in_err-id : goal.returns-in_err-id
returns-in_err-id c = λ names pool. rw (same_error c.from_residual-in_err-id.result _ c.from_residual-in_err-id.ensures.1) (no_id c.in_ok-kind.ensures c.in_err-id.ensures.advances)

pub scalar_head-requires : goal.scalar_head-requires
unfolding read_number
scalar_head-requires c = fits_handle c.in_ok-kind.ensures c.in_ok-id.ensures.advances

pub returns : goal.returns
returns c = λ names pool. rw c.scalar_head.ensures (head_handle c.in_ok-kind.ensures c.in_ok-id.ensures.advances)
