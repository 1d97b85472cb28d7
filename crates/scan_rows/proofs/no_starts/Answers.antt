-- `scan_rows::no_starts` meets its contract: a start of 32 bits is below 2^32.
use mathlib.Core.Path.{◌∙◌}
use native.Mathlib.Omega.{arith}
use Rattle.scan_rows.specs.Laws.Script.{no_starts, starts_small}
use Rattle.scan_rows.proofs.no_starts.Goals as goal

pub returns : goal.returns
returns c = (c.is_empty.ensures ∙ no_starts c.args.starts.now, starts_small c.args.starts.now (λ k. omega (arith, c.type_inv.starts k)))
