-- `rlc2_write_all` meets its contract. The loop's invariant: the bytes that are still written, put where the next go, make the whole.
use mathlib.Core.Path.{◌≡◌, sym}
use mathlib.Core.List.{List}
use Prim.Native.Nat.{ℕ, ◌+◌, ◌-◌, ◌≤◌, ◌<◌}
use native.Mathlib.Nat.{sub-zero}
use native.Mathlib.Omega.{arith}
use lib.ListN.{length, get_or}
use borrow.Author.Tests.{ltb-true}
use Rattle.slices.specs.Put.{put}
use Rattle.varint.specs.Uleb128.{uleb128}
use Rattle.host_leaves.specs.HostLeaves.{bytes_of}
use Rattle.host_leaves.specs.Laws.HostLeaves.{bytes_end, bytes_more, bytes_full}
use Rattle.host_leaves.proofs.Room.{fits}
use Rattle.host_leaves.proofs.Loops.{left_none, left_run, left_start}
use Rattle.host_leaves.proofs.rlc2_write_all.Invariants.{ToWrite}
use Rattle.host_leaves.proofs.rlc2_write_all.Goals as goal

abbrev Done : (numbers before t : List ℕ) (at : ℕ) → Type 0
Done numbers before t at = (at ≡ length (bytes_of (length before) numbers)) × (t ≡ put before 0 (bytes_of (length before) numbers))

begin : (numbers before : List ℕ) → ToWrite numbers before before 0 0
begin numbers before = rw (sub-zero (length before)) (left_start before (bytes_of (length before) numbers))

module _ (numbers before t : List ℕ) (at i : ℕ) (l : ToWrite numbers before t at i) where
  more : (next : ℕ) (t' : List ℕ) → i < length numbers → at + length (uleb128 (get_or numbers i 0)) ≤ length t
      → next ≡ at + length (uleb128 (get_or numbers i 0)) → t' ≡ put t at (uleb128 (get_or numbers i 0)) → ToWrite numbers before t' next (i + 1)
  more next t' h fits p q =
      let u = uleb128 (get_or numbers i 0) in
      let k : length before - at - length u ≡ length before - (at + length u) = omega (arith, l.long) in
      let bytes = rw k at (bytes_more (length before - at) numbers i h (omega (arith, l.long))) in
      rw (p, q) (left_run _ _ _ t at _ l u _ bytes fits)

  full : i < length numbers → length t - at < length (uleb128 (get_or numbers i 0)) → Done numbers before t at
  full h short = left_none _ _ _ t at _ l (bytes_full (length before - at) numbers i h (omega (arith, l.long)))

  end : length numbers ≤ i → Done numbers before t at
  end h = left_none _ _ _ t at _ l (bytes_end _ numbers i h)

pub loop-n-init : goal.loop-n-init
loop-n-init c = begin c.args.numbers.now c.args.out.now

pub returns-then-too_wide : goal.returns-then-too_wide
returns-then-too_wide c =
    let done = full _ _ _ _ _ c.loop-n.invariant c.loop-n-test.true (ltb-true _ _ (sym c.if-too_wide.ensures)) in
    record { value = done.0; out_after = done.1 }

pub write_uvarint-at-requires : goal.write_uvarint-at-requires
write_uvarint-at-requires c = fits c.loop-n.out c.loop-n.at _ c.loop-n.invariant.inside c.if-too_wide.ensures

pub loop-n-preserved : goal.loop-n-preserved
loop-n-preserved c =
    let room = fits c.loop-n.out c.loop-n.at _ c.loop-n.invariant.inside c.if-too_wide.ensures in
    more _ _ _ _ _ c.loop-n.invariant _ _ c.loop-n-test.true room c.write_uvarint-at.ensures.0 c.write_uvarint-at.ensures.1

pub returns : goal.returns
returns c =
    let done = end _ _ _ _ _ c.loop-n.invariant c.loop-n-test.false in
    record { value = done.0; out_after = done.1 }
