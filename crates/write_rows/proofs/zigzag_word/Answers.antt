-- `write_rows::zigzag_word` meets its contract: the word's signed number is in 64 bits.
use mathlib.Core.Path.{sym, ap, ◌∙◌, subst}
use Prim.Native.Nat.{◌^◌, ◌<◌}
use native.Mathlib.Omega.{arith}
use lib.IntN.{ℤ}
use lib.Signed.{mag}
use mir.Facts.{to_z-of_z}
use Rattle.signed.specs.Laws.Signed.{signed_range}
use Rattle.signed.specs.Signed.{zigzag_of}
use mir.Syntax.{w64}
use Rattle.write_rows.proofs.zigzag_word.Goals as goal

pub returns : goal.returns
returns c =
    c.zigzag.ensures
    ∙ ap zigzag_of (to_z-of_z {w = w64} (record { sfits = subst (λ (z : ℤ). mag z < 2 ^ 63) (sym c.from_word.ensures) (signed_range 64 c.args.w (omega arith)) }) ∙ c.from_word.ensures)
