-- `rlc2_uvarint` meets its contract: no room for the number, a number, a refusal.
use Rattle.std.proofs.Common.{◌≡◌, ℕ, ◌<◌, List, length, refl, sym, arith}
use Rattle.slices.specs.LittleEndian.{to_le_bytes}
use Rattle.slices.specs.Laws.LittleEndian.{length_to_le_bytes}
use Rattle.slices.specs.Put.{put}
use Rattle.answer.specs.PutIfRoom.{put_if_room}
use Rattle.answer.specs.Laws.PutIfRoom.{put_room, put_no_room}
use Rattle.varint.specs.Varint.{Varint, Number, Refused}
use Rattle.host.specs.Host.{number_after}
use Rattle.host.proofs.rlc2_uvarint.Goals as goal

no_room : (read : Varint) (number : List ℕ) → length number < 8 → number ≡ number_after read number
no_room (Number n next) number h = sym (put_no_room number 0 (to_le_bytes 8 n) (omega (arith, length_to_le_bytes 8 n)))
no_room (Refused refusal place) number h = refl

pub returns-then-number-lt8-clause-number_after : goal.returns-then-number-lt8-clause-number_after
returns-then-number-lt8-clause-number_after c = no_room _ c.args.number.now c.if-number-lt8.true

pub returns-clause-number_after : goal.returns-clause-number_after
returns-clause-number_after c =
    let number = c.args.number.now in
    let bytes = to_le_bytes 8 c.in-Ok.n in
    let room : put_if_room number 0 bytes ≡ put number 0 bytes = put_room number 0 bytes (omega (arith, length_to_le_bytes 8 c.in-Ok.n)) in
    rw (← c.in-Ok.ensures, room) c.put_word.ensures
