-- `Cursor::uvarint` meets its contract: a varint at a place of the payload is one at the front of what stands from there on.
use Rattle.std.proofs.Common.{refl, sym}
use Rattle.refusal.specs.Laws.Errors.{same_error}
use Rattle.cursor.specs.Laws.Advances.{stays}
use Rattle.cursor.specs.Laws.Reads.{reads_varint}
use Rattle.cursor.proofs.Cursor.uvarint.Goals as goal

pub returns-in_err-number-clause-advances : goal.returns-in_err-number-clause-advances
returns-in_err-number-clause-advances c = let s = c.args.self.now in rw (same_error c.from_residual.result _ c.from_residual.ensures.1) (stays (rw (sym c.in_err-number.ensures) at (reads_varint s.payload.now s.at)))

pub invariant_of-self : goal.invariant_of-self
invariant_of-self c = let s = c.args.self.now in record { inside = (rw (sym c.in_ok-number.ensures) at (reads_varint s.payload.now s.at)).inside }

pub returns-clause-advances : goal.returns-clause-advances
returns-clause-advances c = let s = c.args.self.now in record { payload = refl; reads = rw (sym c.in_ok-number.ensures) at (reads_varint s.payload.now s.at) }
