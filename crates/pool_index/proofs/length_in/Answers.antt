-- `pool_index::length_in` meets its contract: a remainder.
use native.Mathlib.Nat.{mod-lt}
use lib.Dec.{lit<}
use Rattle.pool_index.specs.Strings.{length_in, length_base}
use Prim.Native.Nat.{ℕ, ◌%◌}
use mathlib.Core.Path.{ap}
use Rattle.pool_index.proofs.length_in.Goals as goal

pub returns : goal.returns
unfolding length_in
returns c = (ap (λ (n : ℕ). n % length_base) c.low_in.ensures.0, mod-lt c.low_in.result (lit< tt))
