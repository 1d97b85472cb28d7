-- `serialize::counts_fit` meets its contract: rows, then spans, then starts.
use Rattle.std.proofs.Common.{arith}
use Rattle.std.proofs.lemmas.Bool.Decides.{nat_tests}
use Rattle.payload.specs.Choice.{◌and◌}
use Rattle.payload.specs.Write.{counts_fit}
use Rattle.serialize.proofs.counts_fit.Goals as goal

pub returns-then-program-capacities-2 : goal.returns-then-program-capacities-2
unfolding counts_fit ◌and◌
returns-then-program-capacities-2 c = grind (arith, nat_tests)

pub returns-else-program-capacities-2 : goal.returns-else-program-capacities-2
unfolding counts_fit ◌and◌
returns-else-program-capacities-2 c = grind (arith, nat_tests)
