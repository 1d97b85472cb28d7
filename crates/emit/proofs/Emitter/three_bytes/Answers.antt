-- `emit::Emitter::three_bytes` meets its contract: three stores where they fit, else one byte after another.
use Rattle.std.proofs.Common.{refl}
use native.Mathlib.Numerals.{towards_suc}
use native.Mathlib.Omega.{arith}
use lib.ListN.{length-set}
use Rattle.slices.specs.Put.{put}
use Rattle.emit.specs.Laws.Bytes.{emitted_in}
use Rattle.emit.specs.Laws.Emit.{output_limit_lem}
use Rattle.emit.specs.Laws.Emitter.{emits_then}
use Rattle.emit.proofs.Emitter.three_bytes.Goals as goal

pub invariant_of-self-then-has_room-2-clause-room : goal.invariant_of-self-then-has_room-2-clause-room
invariant_of-self-then-has_room-2-clause-room c = let room = c.args.self.now.room in simp length-set room

pub invariant_of-self-then-has_room-2-clause-place : goal.invariant_of-self-then-has_room-2-clause-place
invariant_of-self-then-has_room-2-clause-place c = let room = c.args.self.now.room in omega (arith, (c.if-has_room.ensures refl).1, output_limit_lem)

pub returns-then-has_room : goal.returns-then-has_room
unfolding put
returns-then-has_room c = record {
  same_output = refl;
  same_expected = refl;
  wrote = emitted_in (c.if-has_room.ensures refl).0 c.args.self.now.room (c.if-has_room.ensures refl).1 (simp towards_suc) refl;
}

pub returns : goal.returns
returns c = emits_then (emits_then c.byte.ensures c.byte-2.ensures) c.byte-3.ensures
