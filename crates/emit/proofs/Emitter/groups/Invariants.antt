use Prim.Native.Nat.{◌≤◌}
use Rattle.varint.specs.Uleb128.{uleb128}
use Rattle.emit.specs.Laws.Emitter.{EmitsRest}
use Rattle.emit.proofs.Emitter.groups.Given as goal

abbrev pub invariant-loop-rest : goal.invariant-loop-rest
invariant-loop-rest l = EmitsRest l.initial.self l.self (uleb128 l.n) (uleb128 l.rest) × (l.rest ≤ l.n)

abbrev pub decreases-loop-rest : goal.decreases-loop-rest
decreases-loop-rest l = l.rest
