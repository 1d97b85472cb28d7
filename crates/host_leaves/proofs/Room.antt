-- What the test for room says where it fails: there is room for the number.
use mathlib.Core.Path.{◌≡◌, sym}
use mathlib.Core.Bool.{false}
use mathlib.Core.List.{List}
use Prim.Native.Nat.{ℕ, ◌+◌, ◌-◌, ◌≤◌}
use native.Mathlib.Omega.{arith}
use lib.Dec.{ltb}
use lib.ListN.{length}
use borrow.Author.Tests.{ltb-false}
use Rattle.varint.specs.Uleb128.{uleb128}

pub fits : (out : List ℕ) (at n : ℕ) → at ≤ length out → false ≡ ltb (length out - at) (length (uleb128 n)) → at + length (uleb128 n) ≤ length out
fits out at n h e =
    let narrow : length (uleb128 n) ≤ length out - at = ltb-false _ _ (sym e) in
    omega arith
