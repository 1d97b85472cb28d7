-- `scalar::bits_of_f32` meets its contract. Assumes nothing.
use mathlib.Core.Path.{ap, sym, ◌∙◌}
use lib.Ieee.{to_bits, binary32}
use Rattle.scalar.proofs.Nan.{is_nan_lem}
use Rattle.scalar.proofs.bits_of_f32.Goals as goal

pub returns-then-is_nan : goal.returns-then-is_nan
unfolding to_bits
returns-then-is_nan c = sym (ap (to_bits binary32) (is_nan_lem c.args.x (sym c.is_nan.ensures.value ∙ c.if-is_nan.true)))
