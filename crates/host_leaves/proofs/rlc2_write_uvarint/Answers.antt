-- `rlc2_write_uvarint` meets its contract: the tests before the write find whether there is room.
use mathlib.Core.Path.{◌≡◌, sym, ◌∙◌}
use mathlib.Core.List.{List}
use Prim.Native.Nat.{ℕ, ◌+◌, ◌-◌, ◌≤◌, ◌<◌}
use native.Mathlib.Omega.{arith}
use lib.ListN.{length}
use borrow.Author.Tests.{le-leb, lt-leb, ltb-true}
use Rattle.slices.specs.Put.{put}
use Rattle.answer.specs.PutIfRoom.{put_if_room}
use Rattle.answer.specs.Laws.PutIfRoom.{put_room, put_no_room}
use Rattle.varint.specs.Uleb128.{uleb128}
use Rattle.host_leaves.specs.HostLeaves.{place_after}
use Rattle.host_leaves.proofs.Room.{fits}
use Rattle.host_leaves.proofs.rlc2_write_uvarint.Goals as goal

module _ (out : List ℕ) (at n : ℕ) where
  no_room : length out < at + length (uleb128 n) → (0 ≡ place_after (length out) at n) × (out ≡ put_if_room out at (uleb128 n))
  no_room h = (simp (lt-leb (at + length (uleb128 n)) (length out) h), sym (put_no_room out at (uleb128 n) h))

  room :
      at + length (uleb128 n) ≤ length out → (at + length (uleb128 n) ≡ place_after (length out) at n) × (put out at (uleb128 n) ≡ put_if_room out at (uleb128 n))
  room h = (simp (le-leb (at + length (uleb128 n)) (length out) h), sym (put_room out at (uleb128 n) h))

pub returns-then-out-at : goal.returns-then-out-at
returns-then-out-at c =
    let done = no_room c.args.out.now c.args.at c.args.n (omega arith) in
    record { value = done.0; out_after = done.1 }

pub returns-then-too_wide : goal.returns-then-too_wide
returns-then-too_wide c =
    let args = c.args in
    let out = args.out.now in
    let wide : length out - args.at < length (uleb128 args.n) = ltb-true _ _ (sym c.too_wide.ensures ∙ c.if-too_wide.true) in
    let done = no_room out args.at args.n (omega arith) in
    record { value = done.0; out_after = done.1 }

pub write_uvarint-requires : goal.write_uvarint-requires
write_uvarint-requires c = fits c.args.out.now c.args.at c.args.n (omega arith) c.if-too_wide.ensures

pub returns : goal.returns
returns c =
    let args = c.args in
    let done = room args.out.now args.at args.n (fits args.out.now args.at args.n (omega arith) c.if-too_wide.ensures) in
    record { value = c.write_uvarint.ensures.0 ∙ done.0; out_after = c.write_uvarint.ensures.1 ∙ done.1 }
