-- `signed::unzigzag` meets its contract. Assumes nothing.
use native.Mathlib.Omega.{arith}
use Prim.Native.Nat.{◌%◌, ◌/◌}
use Rattle.signed.proofs.Signs.{minus_bit, unfold_is}
use Rattle.signed.proofs.unzigzag.Goals as goal

pub overflow_sub-sign : goal.overflow_sub-sign
overflow_sub-sign c = minus_bit (c.args.u % 2) (omega arith)

pub returns : goal.returns
returns c = unfold_is (c.args.u / 2) (c.args.u % 2) (omega arith) (omega arith)
