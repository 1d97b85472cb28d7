-- `read_field_head` meets its contract: the head of a string is a field's, or no string is read.
use Rattle.std.specs.Prelude.{refl}
use Rattle.payload.specs.Choice.{when◌then◌else◌}
use Rattle.payload.specs.Shapes.{kinds_of, shape}
use Rattle.refusal.specs.Laws.Errors.{same_error}
use Rattle.read_items.specs.Laws.Over.{over_by}
use Rattle.read_heads.specs.Laws.Heads.{follows_one, head_string, no_string}
use Rattle.read_heads.proofs.read_field_head.Goals as goal

pub returns-in_err-string : goal.returns-in_err-string
unfolding kinds_of shape when◌then◌else◌
returns-in_err-string c = λ names. rw (same_error c.from_residual.result _ c.from_residual.ensures.1) (over_by (no_string refl) c.in_err-string.ensures)

pub returns : goal.returns
unfolding shape when◌then◌else◌
returns c = λ names. rw c.of_part.ensures (over_by (head_string follows_one) c.in_ok-string.ensures)
