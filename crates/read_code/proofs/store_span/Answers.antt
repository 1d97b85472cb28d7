-- `store_span` meets its contract.
use Rattle.std.specs.Prelude.{◌*◌}
use Rattle.read_code.specs.Runs.{span_of}
use Rattle.read_code.proofs.SpanTable.{span_stored}
use Rattle.read_code.proofs.store_span.Goals as goal

pub returns : goal.returns
returns c = span_stored c.args.spans.now (2 * c.args.k) (span_of c.args.span)
