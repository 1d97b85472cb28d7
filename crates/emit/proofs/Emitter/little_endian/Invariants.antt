use Prim.Native.Nat.{◌-◌}
use Rattle.slices.specs.LittleEndian.{to_le_bytes}
use Rattle.emit.specs.Laws.Emitter.{EmitsRest}
use Rattle.emit.proofs.Emitter.little_endian.Given as goal

abbrev pub invariant-loop-i : goal.invariant-loop-i
invariant-loop-i l = EmitsRest l.initial.self l.self (to_le_bytes l.n l.w) (to_le_bytes (l.n - l._i) l.rest)
