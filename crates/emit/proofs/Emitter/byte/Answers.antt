-- `emit::Emitter::byte` meets its contract: each way through the code is one law of a single byte.
use Rattle.std.proofs.Common.{refl, ap}
use Rattle.std.specs.Prelude.{is_some}
use Rattle.emit.specs.Laws.Bytes.{far_byte, end_byte, same_byte, other_byte, in_byte, past_byte}
use Rattle.emit.specs.Laws.Emitter.{with_payload, room_with_payload}
use Rattle.emit.proofs.Emitter.byte.Goals.{else-self-payload-via-then-self-payload+else-payload-self, else-self-payload-via-else-self-payload}
use Rattle.emit.proofs.Emitter.byte.Goals as goal

pub returns-then-self-ge-LIMIT : goal.returns-then-self-ge-LIMIT
returns-then-self-ge-LIMIT c = record { same_output = refl; same_expected = refl; wrote = far_byte c.args.self.now.room c.if-self-ge-LIMIT.true }

pub returns-then-payload-self : goal.returns-then-payload-self
returns-then-payload-self c =
    let room = room_with_payload c.args.self.now.out.now c.in-Some.is c.args.self.now.room in
    record {
      same_output = refl;
      same_expected = refl;
      wrote = with_payload c.in-Some.is (same_byte refl room c.if-self-payload.true c.if-self-ge-LIMIT.false c.if-payload-self.true);
    }

pub returns-in-Some : goal.returns-in-Some
returns-in-Some c =
    let room = room_with_payload c.args.self.now.out.now c.in-Some.is c.args.self.now.room in
    record {
      same_output = refl;
      same_expected = refl;
      wrote = with_payload c.in-Some.is (elim c.else-self-payload.branch [
        | else-self-payload-via-then-self-payload+else-payload-self w ↦ other_byte refl room w.if-self-payload.true w.if-payload-self.false
        | else-self-payload-via-else-self-payload w ↦ end_byte refl room w.if-self-payload.false
      ]);
    }

pub returns-then-self : goal.returns-then-self
returns-then-self c = record { same_output = refl; same_expected = refl; wrote = in_byte (ap is_some c.in_default.is) c.args.self.now.room c.if-self.true }

pub returns : goal.returns
returns c = record { same_output = refl; same_expected = refl; wrote = past_byte (ap is_some c.in_default.is) c.if-self-ge-LIMIT.false c.if-self.false }
