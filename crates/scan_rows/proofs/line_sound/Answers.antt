-- `scan_rows::line_sound` meets its contract: by the flag.
use mathlib.Core.Path.{sym, ◌∙◌}
use native.Mathlib.Omega.{arith}
use Rattle.std.proofs.lemmas.Bool.Decides.{nat_tests}
use Rattle.payload.specs.Held.{tables_in}
use Rattle.scan_rows.specs.Laws.Script.{no_line, bad_flag, a_line}
use Rattle.scan_rows.proofs.line_sound.Goals as goal

pub returns-then-tables-eq0-2 : goal.returns-then-tables-eq0-2
returns-then-tables-eq0-2 c = let h = no_line (tables_in c.args.tables.now) c.in-0.is in grind (arith, nat_tests)

pub returns-else-tables-eq0-2 : goal.returns-else-tables-eq0-2
returns-else-tables-eq0-2 c = let h = no_line (tables_in c.args.tables.now) c.in-0.is in grind (arith, nat_tests)

pub returns-in-1 : goal.returns-in-1
returns-in-1 c = c.part_is_utf8.ensures ∙ a_line (tables_in c.args.tables.now) c.in-1.is c.no_starts-no_starts.ensures.1

pub returns-in_default : goal.returns-in_default
returns-in_default c = sym (bad_flag (tables_in c.args.tables.now) (λ e. omega arith) (λ e. omega arith))
