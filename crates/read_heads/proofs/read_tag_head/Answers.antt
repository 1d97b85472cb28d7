-- `read_tag_head` meets its contract: name and variant are read, or the one that is not stops the head.
use Rattle.std.specs.Prelude.{refl}
use Rattle.payload.specs.Shapes.{kinds_of}
use Rattle.refusal.specs.Laws.Errors.{same_error}
use Rattle.read_items.specs.Laws.Over.{over_by, over_then}
use Rattle.read_heads.specs.Class.{shape_of}
use Rattle.read_heads.specs.Laws.Heads.{head_tag, no_string, no_variant}
use Rattle.read_heads.proofs.read_tag_head.Goals as goal

pub returns-in_err-name : goal.returns-in_err-name
unfolding shape_of kinds_of
returns-in_err-name c = λ names. rw (same_error c.from_residual.result _ c.from_residual.ensures.1) (over_by (no_string refl) c.in_err-name.ensures)

pub returns-in_err-variant : goal.returns-in_err-variant
returns-in_err-variant c = λ names. rw (same_error c.from_residual-in_err-variant.result _ c.from_residual-in_err-variant.ensures.1) (over_then (λ g h. no_variant g h) c.in_ok-name.ensures c.in_err-variant.ensures)

pub returns : goal.returns
returns c = λ names. rw c.of_part.ensures (over_then (λ g h. head_tag g h) c.in_ok-name.ensures c.in_ok-variant.ensures)
