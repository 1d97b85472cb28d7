-- `rlc2_read_all` meets its contract. The loop's invariant: the numbers that are still read, put where the next goes, make the whole.
use mathlib.Core.Path.{◌≡◌, sym, ap, ◌∙◌}
use mathlib.Core.List.{List}
use Prim.Native.Nat.{ℕ, suc, ◌+◌, ◌-◌, ◌≤◌, ◌<◌}
use native.Mathlib.Nat.{sub-zero}
use native.Mathlib.Omega.{arith}
use lib.ListN.{length, set}
use Rattle.std.proofs.lemmas.List.{set-get_or}
use Rattle.slices.specs.Put.{put}
use Rattle.varint.specs.Varint.{Number, Refused}
use Rattle.varint.specs.Varint.{varint_of}
use Rattle.host_leaves.specs.HostLeaves.{numbers_of}
use Rattle.host_leaves.specs.Laws.HostLeaves.{numbers_full, numbers_more, numbers_refused}
use Rattle.host_leaves.proofs.Loops.{left_none, left_one, left_start}
use Rattle.host_leaves.proofs.rlc2_read_all.Invariants.{ToRead}
use Rattle.host_leaves.proofs.rlc2_read_all.Goals as goal

abbrev Done : (bytes before t : List ℕ) (count : ℕ) → Type 0
Done bytes before t count = (count ≡ length (numbers_of (length before) bytes 0)) × (t ≡ put before 0 (numbers_of (length before) bytes 0))

begin : (bytes before : List ℕ) → ToRead bytes before before 0 0
begin bytes before = rw (sub-zero (length before)) (left_start before (numbers_of (length before) bytes 0))

module _ (bytes before t : List ℕ) (at count : ℕ) (l : ToRead bytes before t at count) where
  more : (n next : ℕ) → Number n next ≡ varint_of bytes at → count < length t → ToRead bytes before (set t count n) next (count + 1)
  more n next e h =
      let k : length before - count ≡ suc (length before - (count + 1)) = omega (arith, l.long) in
      left_one _ _ _ t count _ l n _ (ap (λ (m : ℕ). numbers_of m bytes at) k ∙ numbers_more bytes at _ n next (sym e)) h

  refused : (number place : ℕ) → Refused number place ≡ varint_of bytes at → Done bytes before t count
  refused number place e = left_none _ _ _ t count _ l (numbers_refused bytes at _ number place (sym e))

  full : length t ≤ count → Done bytes before t count
  full h =
      let k : length before - count ≡ 0 = omega (arith, l.long) in
      left_none _ _ _ t count _ l (ap (λ (m : ℕ). numbers_of m bytes at) k ∙ numbers_full bytes at)

pub loop-count-init : goal.loop-count-init
loop-count-init c = begin c.args.bytes.now c.args.numbers.now

pub returns-in_default : goal.returns-in_default
returns-in_default c =
    let done = refused _ _ _ _ _ c.loop-count.invariant _ _ c.in_default.ensures in
    record { value = done.0; numbers_after = cc (set-get_or c.loop-count.numbers c.loop-count.count 0, done.1) }

pub loop-count-preserved : goal.loop-count-preserved
loop-count-preserved c = more _ _ _ _ _ c.loop-count.invariant _ _ c.in-Ok.ensures (omega arith)

pub returns : goal.returns
returns c =
    let done = full _ _ _ _ _ c.loop-count.invariant (omega (arith, c.loop-count-test.false)) in
    record { value = omega (arith, done.0, c.loop-count-test.false); numbers_after = done.1 }
