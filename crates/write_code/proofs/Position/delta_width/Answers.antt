-- `write_code::Position::delta_width` meets its contract: a delta is the ULEB128 of its zigzag.
use Rattle.std.proofs.Common.{ℕ, length, ap, ◌∙◌}
use Rattle.varint.specs.Uleb128.{uleb128}
use Rattle.payload.specs.Spans.{write_delta}
use Rattle.write_code.proofs.Position.delta_width.Goals as goal

pub returns : goal.returns
unfolding write_delta
returns c = (c.width.ensures.0 ∙ ap (λ (z : ℕ). length (uleb128 z)) c.delta_to.ensures, c.width.ensures.1)
