-- `varint::uvarint_long` meets its contract. The loop's invariant: the whole number is, modulo 2 ^ 64, what was read so far, below `shift`, and what is
-- read from `i` on. Assumes nothing.
use mathlib.Core.Path.{◌≡◌, refl, sym, ap, ◌∙◌}
use mathlib.Core.List.{List}
use Prim.Native.Nat.{ℕ, zero, suc, ◌+◌, ◌-◌, ◌*◌, ◌/◌, ◌%◌, ◌^◌, ◌≤◌, ◌<◌}
use native.Mathlib.Omega.{arith}
use native.Mathlib.Nat.{mod-lt, mul-mod_left}
use lib.Arith.{digits_lt}
use lib.Pow.{pow-add, pow_pos, mod-pow-add}
use lib.ListN.{length, drop, get_or}
use Rattle.varint.specs.Varint.{Varint}
use Rattle.varint.specs.Varint.{Number, Refused}
use Rattle.varint.specs.Varint.{under, scan, cut, varint_of}
use Rattle.varint.specs.Laws.Varint.{at_end, at_last, at_more, onto, onto_under, scan_none}
use Rattle.varint.proofs.uvarint_long.Invariants.{Sofar}
use Rattle.varint.proofs.uvarint_long.Goals as goal

-- seven more bits above the `shift` that are there
above : (v b shift : ℕ) → b < 128 → v < 2 ^ shift → v + b * 2 ^ shift < 2 ^ (shift + 7)
above v b shift hb hv = rw (pow-add 2 shift 7) (let h : b * 2 ^ shift + v < 128 * 2 ^ shift = digits_lt hb hv in omega arith)

-- what is shifted in stands above what is there, so that the sum stays in 64 bits
sum_fits : (v b shift : ℕ) → shift < 64 → v < 2 ^ shift → v + (b * 2 ^ shift) % 2 ^ 64 < 2 ^ 64
sum_fits v b shift hs hv =
    let j : ℕ = 64 - shift in
    let e : j + shift ≡ 64 = omega arith in
    let q : ℕ = b * 2 ^ shift / 2 ^ shift % 2 ^ j in
    let m : (b * 2 ^ shift) % 2 ^ 64 ≡ q * 2 ^ shift + (b * 2 ^ shift) % 2 ^ shift = ap (λ (k : ℕ). (b * 2 ^ shift) % 2 ^ k) (sym e)
    ∙ mod-pow-add (b * 2 ^ shift) j shift in
    let p : 2 ^ j * 2 ^ shift ≡ 2 ^ 64 = sym (pow-add 2 j shift) ∙ ap (λ (k : ℕ). 2 ^ k) e in
    let d : q * 2 ^ shift + v < 2 ^ j * 2 ^ shift = digits_lt (mod-lt (b * 2 ^ shift / 2 ^ shift) (pow_pos j)) hv in
    omega (arith, mul-mod_left b (2 ^ shift))

-- only the low 64 bits of what was read count
cut_onto : (v u w : ℕ) (x : Varint) → v % 2 ^ 64 ≡ u % 2 ^ 64 → cut (onto v w x) ≡ cut (onto u w x)
cut_onto v u w (Number n next) e = ap (λ (k : ℕ). Number k next) (let y : ℕ = w * n in omega arith)
cut_onto v u w (Refused number place) e = refl

under_onto : (g : ℕ) (x : Varint) → under g x ≡ onto g 128 x
under_onto g (Number n next) = refl
under_onto g (Refused number place) = refl

-- after the first byte
first : (s : List ℕ) (at end : ℕ) → at < length s → 128 ≤ get_or s at 0 → at < end → end ≤ length s → end ≤ at + 10 → (end < at + 10 → end ≡ length s)
    → Sofar s at end (get_or s at 0 % 128) 7 (at + 1)
unfolding varint_of
first s at end h hb begun inside ten whole =
    let n : at + 10 - (at + 1) ≡ 9 = omega arith in
    record {
      begun = omega arith;
      upto = omega arith;
      inside = inside;
      ten = ten;
      whole = whole;
      sevens = omega arith;
      small = omega arith;
      reads = ap cut (at_more at 9 s at h hb ∙ under_onto (get_or s at 0 % 128) (scan at 9 (drop (at + 1) s) (at + 1))) ∙ simp n;
    }

module _ (s : List ℕ) (at end value shift i : ℕ) (inv : Sofar s at end value shift i) where
  answer : {m : ℕ} → at + 10 - i ≡ m → (x : Varint) → scan at m (drop i s) i ≡ x → varint_of s at ≡ cut (onto value (2 ^ shift) x)
  answer e x q = inv.reads ∙ ap (λ (k : ℕ). cut (onto value (2 ^ shift) (scan at k (drop i s) i))) e ∙ ap (λ (y : Varint). cut (onto value (2 ^ shift) y)) q

  in_64 : i < end → shift < 64
  in_64 h = omega (arith, inv)

  last : i < end → get_or s i 0 < 128 → Number (value + (get_or s i 0 * 2 ^ shift) % 2 ^ 64) (i + 1) ≡ varint_of s at
  last h hb =
      let b : ℕ = get_or s i 0 in
      let f = sum_fits value b shift (in_64 h) inv.small in
      let e : (value + 2 ^ shift * b) % 2 ^ 64 ≡ value + (b * 2 ^ shift) % 2 ^ 64 = omega arith in
      sym (answer {m = suc (at + 9 - i)} (omega (arith, inv)) _ (at_last at _ s i (omega (arith, inv)) hb) ∙ ap (λ (k : ℕ). Number k (i + 1)) e)

  more : i < end → 128 ≤ get_or s i 0 → Sofar s at end (value + (get_or s i 0 % 128 * 2 ^ shift) % 2 ^ 64) (shift + 7) (i + 1)
  more h hb =
      let g : ℕ = get_or s i 0 % 128 in
      let n : at + 10 - (i + 1) ≡ at + 9 - i = omega arith in
      let low : (value + g * 2 ^ shift) % 2 ^ 64 ≡ (value + (g * 2 ^ shift) % 2 ^ 64) % 2 ^ 64 = omega arith in
      record {
        begun = omega (arith, inv);
        upto = omega arith;
        inside = inv.inside;
        ten = inv.ten;
        whole = inv.whole;
        sevens = omega (arith, inv);
        small = omega (arith, above value g shift (omega arith) inv.small);
        reads =
            answer {m = suc (at + 9 - i)} (omega (arith, inv)) _ (at_more at _ s i (omega (arith, inv)) hb)
            ∙ ap cut (onto_under value (2 ^ shift) g (scan at (at + 9 - i) (drop (i + 1) s) (i + 1)))
            ∙ cut_onto _ _ (2 ^ shift * 128) (scan at (at + 9 - i) (drop (i + 1) s) (i + 1)) low
            ∙ simp (pow-add 2 shift 7, n);
      }

  ended : end ≤ i → i - at < 10 → Refused 1 at ≡ varint_of s at
  ended h l =
      let w = inv.whole (omega (arith, inv)) in
      sym (answer {m = suc (at + 9 - i)} (omega (arith, inv)) _ (at_end at _ s i (omega (arith, inv))))

  too_long : end ≤ i → 10 ≤ i - at → Refused 2 at ≡ varint_of s at
  too_long h l = sym (answer {m = zero} (omega (arith, inv)) _ (scan_none at _ _))

pub loop-i-init : goal.loop-i-init
loop-i-init c =
    let p = c.requires in
    let e = c.min-end.ensures in
    let f = c.saturating_add.ensures in
    let one : 7 * (c.args.at + 1 - c.args.at) ≡ 7 = omega arith in
    rw one (first _ _ _ p.0 p.1 (omega arith) (omega arith) (omega arith) (λ l. omega arith))

pub bounds-bytes-i : goal.bounds-bytes-i
bounds-bytes-i c = omega (arith, c.loop-i.invariant)

pub overflow_shl-result : goal.overflow_shl-result
overflow_shl-result c = in_64 _ _ _ _ _ _ c.loop-i.invariant c.loop-i-test.true

pub overflow_add-result : goal.overflow_add-result
overflow_add-result c =
    let l = c.loop-i in
    record { fits = sum_fits l.value _ _ (in_64 _ _ _ _ _ _ l.invariant c.loop-i-test.true) l.invariant.small }

pub returns-then-b-lt128 : goal.returns-then-b-lt128
returns-then-b-lt128 c = last _ _ _ _ _ _ c.loop-i.invariant c.loop-i-test.true c.if-b-lt128.true

pub overflow_shl-value : goal.overflow_shl-value
overflow_shl-value c = in_64 _ _ _ _ _ _ c.loop-i.invariant c.loop-i-test.true

pub overflow_add-value : goal.overflow_add-value
overflow_add-value c =
    let l = c.loop-i in
    record { fits = sum_fits l.value _ _ (in_64 _ _ _ _ _ _ l.invariant c.loop-i-test.true) l.invariant.small }

pub loop-i-preserved : goal.loop-i-preserved
loop-i-preserved c =
    let l = c.loop-i in
    let next : 7 * (l.i - c.args.at) + 7 ≡ 7 * (l.i + 1 - c.args.at) = omega (arith, l.invariant) in
    rw (← next) (more _ _ _ _ _ _ l.invariant c.loop-i-test.true c.if-b-lt128.false)

pub returns-then-end-at-lt10 : goal.returns-then-end-at-lt10
returns-then-end-at-lt10 c = rw c.at.ensures (ended _ _ _ _ _ _ c.loop-i.invariant c.loop-i-test.false (omega (arith, c.loop-i.invariant)))

pub returns : goal.returns
returns c = rw c.at-2.ensures (too_long _ _ _ _ _ _ c.loop-i.invariant c.loop-i-test.false (omega (arith, c.loop-i.invariant)))
