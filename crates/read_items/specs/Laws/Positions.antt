-- A running position, from the varint that its delta is read from.
use Rattle.std.specs.Prelude.{Bool, true, false, cond, List, ◌≡◌, refl, ℕ, ℤ, ◌+ℤ◌, Option, None, Some}
use Rattle.std.specs.Option.{ok_or}
use Rattle.refusal.specs.declared.Reason.TheVariants.{PositionOutOfRange}
use Rattle.signed.specs.Position.{in_range, position_of}
use Rattle.signed.specs.Signed.{unzigzag_of}
use Rattle.payload.specs.Numbers.{varint}
use Rattle.payload.specs.Spans.{read_position}
use Rattle.cursor.specs.Reads.{read, stopped, Reads}
use Rattle.cursor.specs.Advances.{answer_of}
use Rattle.cursor.specs.Laws.Reads.{reads_pure, reads_then, reads_stop, reads_here, reads_must, reads_must_not}

module _ {p : List ℕ} {at : ℕ} (old : ℤ) where
  -- a delta that was read, added
  pub reads_position : {z next : ℕ} {given delta : ℤ} {r : Option ℤ} → given ≡ old → delta ≡ unzigzag_of z → r ≡ position_of given delta → Reads p at varint (read z next)
      → Reads p at (read_position old) (answer_of (ok_or r (record { reason = PositionOutOfRange; place = at })) next)
  unfolding read_position
  reads_position {z} {next} o d e g = rw (e, o, d) (go (in_range (old +ℤ unzigzag_of z)) refl)
    where
      go : (t : Bool) → in_range (old +ℤ unzigzag_of z) ≡ t
          → Reads p at (read_position old)
          (answer_of (ok_or (cond t (Some (old +ℤ unzigzag_of z)) None) (record { reason = PositionOutOfRange; place = at })) next)
      go true q = reads_here _ (reads_then _ g (reads_must _ _ q (reads_pure _ g.inside)))
      go false q = reads_here _ (reads_then _ g (reads_must_not _ q))

  pub reads_position_stop : {n q : ℕ} → Reads p at varint (stopped n q) → Reads p at (read_position old) (stopped n q)
  unfolding read_position
  reads_position_stop g = reads_here _ (reads_stop _ g)
