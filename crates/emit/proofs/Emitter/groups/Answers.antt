-- `emit::Emitter::groups` meets its contract: what is left to write is the ULEB128 of what is left of the number.
use native.Mathlib.Omega.{arith}
use Rattle.varint.specs.Laws.Uleb128.{uleb_small, uleb_large}
use Rattle.emit.specs.Laws.Emitter.{rest_next, rest_last}
use Rattle.emit.proofs.Emitter.groups.Goals as goal

pub loop-rest-preserved : goal.loop-rest-preserved
loop-rest-preserved c =
    let loop = c.loop-rest in
    (rest_next loop.invariant.0 (uleb_large loop.rest c.loop-rest-test.true) c.byte.ensures, omega arith)

pub returns : goal.returns
returns c =
    let loop = c.loop-rest in
    rest_last loop.invariant.0 (uleb_small loop.rest c.loop-rest-test.false) c.byte-2.ensures
