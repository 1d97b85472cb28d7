-- `half` meets its contract: std reads the four bytes that were copied.
use Rattle.std.proofs.Common.{◌≡◌, ◌+◌, ◌-◌, ◌∙◌, refl, arith}
use Rattle.std.specs.Int.{w32}
use Rattle.slices.proofs.LeBytes.{whole}
use Rattle.slices.proofs.half.Goals as goal

pub returns : goal.returns
returns c =
    let copied = c.copy_from_slice.ensures in
    let i = c.args.i in
    let e : i + 4 - i ≡ 4 = omega arith in
    (c.from.ensures ∙ c.from_le_bytes.ensures ∙ whole w32 3 _ refl copied.len ∙ rw (copied.after, e), omega arith)
