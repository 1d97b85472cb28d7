use Prim.Native.Nat.{◌*◌}
use lib.ListN.{drop}
use Rattle.payload.specs.Writing.{write_strings}
use Rattle.emit.specs.Laws.Emitter.{EmitsRest}
use Rattle.pool_index.specs.Strings.{pool_strings}
use Rattle.pool_index.proofs.PoolPart.emit.Given as goal

abbrev pub invariant-loop-k : goal.invariant-loop-k
invariant-loop-k l =
    EmitsRest l.initial.emitter l.emitter (write_strings (pool_strings l.self.store.now l.self.words.now)) (write_strings (pool_strings l.self.store.now (drop (2 * l.k) l.self.words.now)))
