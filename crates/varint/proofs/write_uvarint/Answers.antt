-- `varint::write_uvarint` meets its contract. The loop's invariant: what is left to write, put where the next byte goes, makes the whole.
-- Assumes nothing.
use mathlib.Core.Path.{◌≡◌, refl, sym, ap, ◌∙◌}
use mathlib.Core.List.{List}
use Prim.Native.Nat.{ℕ, ◌≤◌, ◌<◌, ◌+◌, ◌%◌, ◌/◌}
use native.Mathlib.Numerals.{add-one}
use native.Mathlib.Omega.{arith}
use lib.ListN.{length, set, length-set}
use Rattle.slices.specs.Put.{put}
use Rattle.varint.specs.Laws.Uleb128.{uleb_small, uleb_large, uleb_some}
use Rattle.varint.proofs.write_uvarint.Invariants.{Left}
use Rattle.varint.proofs.write_uvarint.Goals as goal

-- a turn: one byte written, the next group's number left
step : (w o : List ℕ) (e : ℕ) (out : List ℕ) (rest i : ℕ) → 128 ≤ rest → Left w e o out rest i → Left w e o (set out i (rest % 128 + 128)) (rest / 128) (i + 1)
unfolding put
step w o e out rest i h l =
    let u = ap length (uleb_large rest h) in
    record {
      bytes = rw add-one (ap (put out i) (sym (uleb_large rest h)) ∙ l.bytes);
      ends = omega (arith, l);
      room = simp length-set l.room;
      long = length-set out i (rest % 128 + 128) ∙ l.long;
    }

last : (w o : List ℕ) (e : ℕ) (out : List ℕ) (rest i : ℕ) → rest < 128 → Left w e o out rest i → (i + 1 ≡ e) × (set out i rest ≡ w)
unfolding put
last w o e out rest i h l =
    let u = ap length (uleb_small rest h) in
    (omega (arith, l), ap (put out i) (sym (uleb_small rest h)) ∙ l.bytes)

pub loop-rest-init : goal.loop-rest-init
loop-rest-init c = record { bytes = refl; ends = refl; room = c.requires; long = refl }

pub overflow_add-out : goal.overflow_add-out
overflow_add-out c = omega arith

pub overflow_cast-out : goal.overflow_cast-out
overflow_cast-out c = omega arith

pub bounds-out-i : goal.bounds-out-i
bounds-out-i c = omega (arith, uleb_some c.loop-rest.rest)

pub overflow_add-i : goal.overflow_add-i
overflow_add-i c = omega (arith, uleb_some c.loop-rest.rest)

pub loop-rest-smaller : goal.loop-rest-smaller
loop-rest-smaller c = omega arith

pub loop-rest-preserved : goal.loop-rest-preserved
loop-rest-preserved c = step _ _ _ _ _ _ c.loop-rest-test.true c.loop-rest.invariant

pub overflow_cast-out-2 : goal.overflow_cast-out-2
overflow_cast-out-2 c = omega arith

pub bounds-out-i-2 : goal.bounds-out-i-2
bounds-out-i-2 c = omega (arith, uleb_some c.loop-rest.rest)

pub overflow_add-result : goal.overflow_add-result
overflow_add-result c = omega (arith, uleb_some c.loop-rest.rest)

pub shape_of-out : goal.shape_of-out
shape_of-out c = simp length-set c.loop-rest.invariant.long

pub returns : goal.returns
returns c = last _ _ _ _ _ _ c.loop-rest-test.false c.loop-rest.invariant
