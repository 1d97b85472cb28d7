-- `emit::Emitter::body` meets its contract: compared, measured, or stored.
use Rattle.std.proofs.Common.{refl, ap, ◌∙◌}
use Rattle.std.specs.Prelude.{is_some}
use Rattle.emit.specs.Laws.Bytes.{emitted_like, emitted_over}
use Rattle.emit.specs.Laws.Emit.{place_reach}
use Rattle.emit.specs.Laws.Emitter.{with_payload, room_with_payload, emits_past}
use Rattle.emit.proofs.Emitter.body.Goals as goal

pub invariant_of-self-clause-place : goal.invariant_of-self-clause-place
invariant_of-self-clause-place c = rw c.compare_body-self.ensures (place_reach _ _ _ _)

pub returns-in-Some : goal.returns-in-Some
returns-in-Some c = record {
  same_output = refl;
  same_expected = refl;
  wrote = with_payload c.in-Some.is (emitted_like refl (room_with_payload c.args.self.now.out.now c.in-Some.is c.args.self.now.room) c.compare_body-self.ensures);
}

pub returns-then-self : goal.returns-then-self
returns-then-self c = emits_past (ap is_some c.in_default.is) c.if-self.true refl c.advance.ensures

pub returns : goal.returns
returns c =
    let to = c.advance-2.ensures in
    record {
      same_output = to.same_output;
      same_expected = to.same_expected;
      wrote = emitted_over (ap is_some c.in_default.is) (to.same_bytes ∙ c.store_body.ensures) to.place;
    }
