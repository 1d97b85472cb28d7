-- `write_code::Span::has` meets its contract: both words are the same.
use Rattle.std.proofs.Common.{◌≡◌, Bool, true, false, ◌&&◌, refl}
use Rattle.payload.specs.Choice.{◌and◌}
use Rattle.payload.specs.Spans.{same_span}
use Rattle.write_code.proofs.Span.has.Goals as goal

both : (p q : Bool) → (p && q) ≡ (p and q)
unfolding ◌and◌
both true q = refl
both false q = refl

pub returns : goal.returns
unfolding same_span
returns c = both _ _
