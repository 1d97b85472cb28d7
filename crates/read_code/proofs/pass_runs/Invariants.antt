use Rattle.std.specs.Prelude.{List}
use Rattle.payload.specs.Spans.{Run}
use Rattle.read_code.proofs.Runs.{Passed}
use Rattle.read_code.proofs.pass_runs.Given as goal

abbrev pub invariant-loop : goal.invariant-loop
invariant-loop l = (runs : List Run) × Passed l.initial.cursor l.cursor l.count l.fn.before l.counter l.run runs
