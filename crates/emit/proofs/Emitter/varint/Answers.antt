-- `emit::Emitter::varint` meets its contract: a number of one group is a byte; past the output only the length counts, and where ten bytes fit every ULEB128 does.
use Rattle.std.proofs.Common.{refl, sym}
use native.Mathlib.Omega.{arith}
use Rattle.varint.specs.Laws.Uleb128.{uleb_small, uleb_at_most}
use Rattle.slices.specs.Laws.Put.{length_put}
use Rattle.varint.specs.Uleb128.{uleb128}
use Rattle.emit.specs.Laws.Bytes.{emitted_in}
use Rattle.emit.specs.Laws.Emit.{output_limit_lem}
use Rattle.emit.specs.Laws.Emitter.{emits_as, emits_measured}
use Rattle.emit.proofs.Emitter.varint.Goals as goal

pub returns-then-n-lt128 : goal.returns-then-n-lt128
returns-then-n-lt128 c = emits_as (sym (uleb_small _ c.if-n-lt128.true)) c.byte.ensures

pub returns-then-only_measures : goal.returns-then-only_measures
returns-then-only_measures c = emits_measured c.only_measures.ensures c.if-only_measures.true c.uvarint_width.ensures c.advance.ensures

pub write_uvarint-self-requires : goal.write_uvarint-self-requires
write_uvarint-self-requires c = omega (arith, (c.if-has_room.ensures refl).1, uleb_at_most 9 c.args.n (omega arith))

pub returns-then-has_room : goal.returns-then-has_room
returns-then-has_room c = record {
  same_output = refl;
  same_expected = refl;
  wrote = emitted_in (c.if-has_room.ensures refl).0 c.args.self.now.room (omega (arith, (c.if-has_room.ensures refl).1, uleb_at_most 9 c.args.n (omega arith))) c.write_uvarint-self.ensures.1 c.write_uvarint-self.ensures.0;
}

pub invariant_of-self-clause-room : goal.invariant_of-self-clause-room
invariant_of-self-clause-room c = let room = c.args.self.now.room in rw c.write_uvarint-self.ensures.1 (rw (length_put c.args.self.now.out.now c.args.self.now.at (uleb128 c.args.n)) room)

pub invariant_of-self-clause-place : goal.invariant_of-self-clause-place
invariant_of-self-clause-place c =
    let room = c.args.self.now.room in
    omega (arith, (c.if-has_room.ensures refl).1, output_limit_lem, uleb_at_most 9 c.args.n (omega arith))
