-- `scan_rows::Rows::is_new_key` meets its contract: a key that fits and was not seen.
use mathlib.Core.Bool.{not}
use mathlib.Core.Path.{sym, ap}
use Rattle.payload.specs.Choice.{◌and◌}
use Rattle.scan_rows.proofs.Rows.is_new_key.Goals as goal

pub returns-then-key_fits : goal.returns-then-key_fits
unfolding ◌and◌
returns-then-key_fits c = λ l e. rw (sym c.if-key_fits.ensures) (ap not (c.key_seen.ensures l e))

pub returns-else-key_fits : goal.returns-else-key_fits
unfolding ◌and◌
returns-else-key_fits c = λ l e. rw (c.if-key_fits.false, sym c.if-key_fits.ensures)
