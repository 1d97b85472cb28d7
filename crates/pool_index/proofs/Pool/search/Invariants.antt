use Rattle.pool_index.specs.Laws.Strings.{Sought}
use Rattle.pool_index.specs.Strings.{bytes_at}
use Rattle.pool_index.proofs.Pool.search.Given as goal

abbrev pub invariant-loop-k : goal.invariant-loop-k
invariant-loop-k l = Sought l.self.store.now l.self.words.now (bytes_at l.self.store.now l.o l.n) l.k
