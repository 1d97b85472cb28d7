-- `word` meets its contract: std reads the eight bytes that were copied.
use Rattle.std.proofs.Common.{◌≡◌, ◌+◌, ◌-◌, ◌∙◌, refl, arith}
use Rattle.std.specs.Int.{w64}
use Rattle.slices.proofs.LeBytes.{whole}
use Rattle.slices.proofs.word.Goals as goal

pub returns : goal.returns
returns c =
    let copied = c.copy_from_slice.ensures in
    let i = c.args.i in
    let e : i + 8 - i ≡ 8 = omega arith in
    c.from_le_bytes.ensures ∙ whole w64 7 _ refl copied.len ∙ rw (copied.after, e)
