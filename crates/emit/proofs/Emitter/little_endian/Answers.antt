-- `emit::Emitter::little_endian` meets its contract: what is left to write is the bytes of what is left of the number.
use native.Mathlib.Omega.{arith}
use Prim.Native.Nat.{◌-◌}
use Rattle.std.proofs.Common.{◌≡◌, refl, sym}
use Rattle.slices.specs.Laws.LittleEndian.{length_to_le_bytes}
use Rattle.slices.specs.Laws.Put.{length_put}
use Rattle.emit.specs.Laws.Bytes.{emitted_in, le_some, le_none}
use Rattle.emit.specs.Laws.Emit.{output_limit_lem}
use Rattle.emit.specs.Laws.Emitter.{rest_start, rest_next, rest_end, emits_measured}
use Rattle.emit.proofs.Emitter.little_endian.Goals as goal

pub returns-then-only_measures : goal.returns-then-only_measures
returns-then-only_measures c = emits_measured c.only_measures.ensures c.if-only_measures.true (sym (length_to_le_bytes c.args.n c.args.w)) c.advance.ensures

pub invariant_of-self-clause-room : goal.invariant_of-self-clause-room
invariant_of-self-clause-room c = let room = c.args.self.now.room in rw (c.store_number.ensures, length_put) room

pub invariant_of-self-clause-place : goal.invariant_of-self-clause-place
invariant_of-self-clause-place c = let room = c.args.self.now.room in omega (arith, (c.if-has_room.ensures refl).1, output_limit_lem)

pub returns-then-has_room : goal.returns-then-has_room
returns-then-has_room c = record {
  same_output = refl;
  same_expected = refl;
  wrote = emitted_in (c.if-has_room.ensures refl).0 c.args.self.now.room (rw (length_to_le_bytes c.args.n c.args.w) (c.if-has_room.ensures refl).1) c.store_number.ensures (rw (length_to_le_bytes c.args.n c.args.w) refl);
}

pub loop-i-init : goal.loop-i-init
loop-i-init c = let e : c.args.n - 0 ≡ c.args.n = omega arith in rw e (rest_start _ _)

pub loop-i-preserved : goal.loop-i-preserved
loop-i-preserved c = rest_next c.loop-i.invariant (le_some c.args.n c.loop-i._i c.loop-i.rest c.loop-i-test.true) c.byte.ensures

pub returns : goal.returns
returns c = rest_end c.loop-i.invariant (le_none c.args.n c.loop-i._i c.loop-i.rest c.loop-i-test.false)
