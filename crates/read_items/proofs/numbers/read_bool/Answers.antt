-- `read_bool` meets its contract: a byte that is 0, one that is not, or none.
use Rattle.std.specs.Prelude.{Bool, true, false, not, eqb, ◌≡◌, refl}
use Rattle.std.specs.Int.{from_bool}
use Rattle.payload.specs.Choice.{when◌then◌else◌}
use Rattle.payload.specs.Numbers.{read_number}
use Rattle.refusal.specs.Laws.Errors.{same_error}
use Rattle.cursor.specs.Laws.Advances.{by_law, stop_reads}
use Rattle.read_items.specs.Laws.Numbers.{reads_bool}
use Rattle.read_items.proofs.numbers.read_bool.Goals as goal

-- whether a byte is not 0, as a number
zero_or_one : (t : Bool) → when t then 0 else 1 ≡ from_bool (not t)
unfolding when◌then◌else◌
zero_or_one true = refl
zero_or_one false = refl

pub returns-in_err-byte : goal.returns-in_err-byte
unfolding read_number
returns-in_err-byte c = rw (same_error c.from_residual.result _ c.from_residual.ensures.1) (stop_reads _ c.in_err-byte.ensures.advances)

pub returns : goal.returns
returns c = rw (← zero_or_one (eqb c.in_ok-byte.field-0 0)) (by_law reads_bool c.in_ok-byte.ensures.advances)
