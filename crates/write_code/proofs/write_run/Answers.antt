-- `write_code::write_run` meets its contract: a delta is the ULEB128 of its zigzag.
use Rattle.std.proofs.Common.{ℕ, ◌++◌, ap₂}
use Rattle.varint.specs.Uleb128.{uleb128}
use Rattle.payload.specs.Spans.{write_delta}
use Rattle.emit.specs.Laws.Emitter.{emits_as}
use Rattle.write_code.proofs.write_run.Goals as goal

pub returns : goal.returns
unfolding write_delta
returns c =
    let run = c.args.run in
    emits_as
    (ap₂ (λ (x y : ℕ). (uleb128 x ++ uleb128 y) ++ uleb128 run.count) c.delta_to.ensures
    c.delta_to-2.ensures) c.three_varints.ensures
