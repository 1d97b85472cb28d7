-- Four words of ASCII, end to end.
use mathlib.Core.List.{List}
use Prim.Native.Nat.{ℕ}
use native.Mathlib.Omega.{arith}
use Rattle.slices.specs.Laws.LittleEndian.{Bytes}
use Rattle.utf8.proofs.Ascii.{test_ascii, ascii_and}
use Rattle.utf8.proofs.block_is_ascii.Goals as goal

pub returns : goal.returns
returns c =
    let s : List ℕ = c.args.block.now in
    let small : Bytes s = λ k. omega (arith, c.type_inv.block k) in
    ascii_and s 0 24 32 _ _
    (ascii_and s 0 16 24 _ _
    (ascii_and s 0 8 16 _ _ (test_ascii s 0 (omega arith) small _ c.high_bits.ensures) (test_ascii s 8 (omega arith) small _ c.high_bits-2.ensures))
    (test_ascii s 16 (omega arith) small _ c.high_bits-3.ensures))
    (test_ascii s 24 (omega arith) small _ c.high_bits-4.ensures)
