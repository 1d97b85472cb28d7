-- `write_code::leading_trues` meets its contract: each test counts where it and all before it are true.
use Rattle.std.proofs.Common.{◌≡◌, ◌+◌, Bool, true, false, ◌&&◌, [], ◌∷◌, refl, arith}
use mir.Val.{bool_byte}
use Rattle.payload.specs.Choice.{when◌then◌else◌}
use Rattle.write_code.specs.Runs.{leading_trues}
use Rattle.write_code.proofs.Tests.{at_most_one}
use Rattle.write_code.proofs.leading_trues.Goals as goal

sum : (p q r s : Bool) → bool_byte p + bool_byte (p && q) + bool_byte ((p && q) && r) + bool_byte (((p && q) && r) && s) ≡ leading_trues (p ∷ q ∷ r ∷ s ∷ [])
unfolding leading_trues when◌then◌else◌
sum false q r s = refl
sum true false r s = refl
sum true true false s = refl
sum true true true false = refl
sum true true true true = refl

pub returns-clause-trues : goal.returns-clause-trues
returns-clause-trues c =
    let a = c.args in
    rw (c.from.ensures, c.from-2.ensures, c.from-3.ensures, c.from-4.ensures) (sum a.p a.q a.r a.s)

pub returns-clause-bound : goal.returns-clause-bound
returns-clause-bound c = omega (arith, at_most_one)
