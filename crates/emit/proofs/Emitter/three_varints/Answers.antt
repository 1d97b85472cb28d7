-- `emit::Emitter::three_varints` meets its contract: a number below 128 is its own ULEB128; others are written one after another.
use Rattle.varint.specs.Laws.Uleb128.{uleb_small}
use Rattle.emit.specs.Laws.Emitter.{emits_then}
use Rattle.emit.proofs.Emitter.three_varints.Goals as goal

pub returns-then-third-lt128 : goal.returns-then-third-lt128
returns-then-third-lt128 c =
    rw (uleb_small _ c.if-first-lt128.true, uleb_small _ c.if-second-lt128.true, uleb_small _ c.if-third-lt128.true) c.three_bytes.ensures

pub returns : goal.returns
returns c = emits_then (emits_then c.varint.ensures c.varint-2.ensures) c.varint-3.ensures
