-- `read_closure_head` meets its contract: start and count are read, or the one that is not stops the head.
use Rattle.std.specs.Prelude.{refl}
use Rattle.payload.specs.Numbers.{u16}
use Rattle.payload.specs.Shapes.{kinds_of}
use Rattle.refusal.specs.Laws.Errors.{same_error}
use Rattle.read_items.specs.Numbers.{kind_of}
use Rattle.read_heads.specs.Class.{shape_of}
use Rattle.read_heads.specs.Laws.Heads.{head_closure, no_captured, no_number}
use Rattle.read_heads.proofs.read_closure_head.Goals as goal

pub returns-in_err-start : goal.returns-in_err-start
unfolding shape_of kinds_of kind_of
returns-in_err-start c = λ names pool. rw (same_error c.from_residual.result _ c.from_residual.ensures.1) (no_number u16 refl c.in_err-start.ensures)

pub returns-in_err-count : goal.returns-in_err-count
unfolding kind_of
returns-in_err-count c = λ names pool. rw (same_error c.from_residual-in_err-count.result _ c.from_residual-in_err-count.ensures.1) (no_captured c.in_ok-start.ensures c.in_err-count.ensures.advances)

pub returns : goal.returns
unfolding kind_of
returns c = λ names pool. rw c.of_words.ensures (head_closure c.in_ok-start.ensures c.in_ok-count.ensures.advances)
