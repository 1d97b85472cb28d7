-- The bytes below the lowest high bit are ASCII, and so is the run behind a word that has none.
use Prim.Native.Nat.{ℕ, ◌+◌, ◌/◌}
use mathlib.Core.Path.{◌≡◌, ap}
use mathlib.Core.List.{List}
use native.Mathlib.Omega.{arith}
use lib.Count.{count_trailing_zeros, trailing_le}
use Rattle.slices.specs.Laws.LittleEndian.{Bytes}
use Rattle.utf8.specs.Skips.{high_bits}
use Rattle.utf8.proofs.Ascii.{prefix_ascii}
use Rattle.utf8.proofs.Skips.{skips_none, skips_on, skips_ascii}
use Rattle.utf8.proofs.skip_ascii.Goals as goal

pub returns-then-s-from-lt8 : goal.returns-then-s-from-lt8
returns-then-s-from-lt8 c = skips_none _ _ c.requires

pub overflow_cast-n : goal.overflow_cast-n
overflow_cast-n c = omega (arith, trailing_le 64 c.high_bits.result)

pub returns-then-n-lt8 : goal.returns-then-n-lt8
returns-then-n-lt8 c =
    let a = c.args in
    let s : List ℕ = a.s.now in
    let small : Bytes s = λ k. omega (arith, c.type_inv.s k) in
    let n : ℕ = count_trailing_zeros 64 c.high_bits.result / 8 in
    let e : n ≡ count_trailing_zeros 64 (high_bits s a.from) / 8 = ap (λ (m : ℕ). count_trailing_zeros 64 m / 8) c.high_bits.ensures in
    let ascii = prefix_ascii s a.from (omega arith) small n (omega arith) e in
    skips_ascii s a.from (a.from + n) (omega arith) (omega arith) ascii

pub returns : goal.returns
returns c =
    let a = c.args in
    let s : List ℕ = a.s.now in
    let small : Bytes s = λ k. omega (arith, c.type_inv.s k) in
    let t = ap (λ (m : ℕ). count_trailing_zeros 64 m) c.high_bits.ensures in
    let e : 8 ≡ count_trailing_zeros 64 (high_bits s a.from) / 8 = omega (arith, trailing_le 64 (high_bits s a.from)) in
    let ascii = prefix_ascii s a.from (omega arith) small 8 (omega arith) e in
    skips_on (skips_ascii s a.from (a.from + 8) (omega arith) (omega arith) ascii) c.skip_words.ensures
