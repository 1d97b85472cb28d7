-- `number_at` meets its contract: the bytes stand at the front of a word.
use mathlib.Core.Path.{◌≡◌, ◌∙◌}
use native.Mathlib.Omega.{arith}
use Prim.Native.Nat.{◌≤◌}
use lib.ListN.{length, take, drop, length-take}
use Rattle.slices.specs.LittleEndian.{from_le_bytes}
use Rattle.slices.specs.Laws.LittleEndian.{Bytes}
use Rattle.recorded.specs.Laws.Recorded.{number_in_word, number_small}
use Rattle.recorded.proofs.number_at.Goals as goal

pub copy_part-requires : goal.copy_part-requires
copy_part-requires c =
    let e = c.part.ensures in
    rw e (simp length-take (omega arith))

pub returns : goal.returns
returns c =
    let part = c.part in
    let args = c.args in
    let bytes = args.bytes.now in
    let s = take args.width (drop args.at bytes) in
    let small : Bytes bytes = λ j. omega (arith, c.shared_slice_known-1.given j) in
    let few : length s ≤ 8 = simp length-take (omega arith) in
    let e = c.copy_part.ensures in
    let f = part.ensures in
    let is : c.word.result ≡ from_le_bytes s = c.word.ensures ∙ rw (e, f) (number_in_word s few) in
    (is, rw is (number_small args.width args.at bytes small))
