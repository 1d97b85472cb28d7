-- `signed_word` meets its contract: what zigzag gives fits 64 signed bits.
use mathlib.Core.Path.{ap, ◌∙◌}
use native.Mathlib.Omega.{arith}
use mir.Facts.{to_z-of_z}
use mir.Syntax.{w64}
use mir.Val.{SFits}
use Rattle.signed.specs.Laws.Signed.{unzigzag_range}
use Rattle.signed.specs.Signed.{word_of, unzigzag_of}
use Rattle.signed.specs.Signed.{word_of}
use Rattle.read_items.proofs.numbers.signed_word.Goals as goal

pub returns : goal.returns
returns c =
    let z = unzigzag_of c.args.z in
    let fits : SFits w64 z = record { sfits = unzigzag_range c.args.z (omega (arith, c.ranges.z)) } in
    c.to_word.ensures ∙ rw c.unzigzag.ensures (ap word_of (to_z-of_z {w = w64} {z = z} fits))
