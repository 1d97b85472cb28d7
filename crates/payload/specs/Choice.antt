-- Choice by a test, and tests joined. They unfold only where that is asked for, so that a goal shows the test and not its cases.
use Rattle.std.specs.Prelude.{Bool, false, true}

infixr 10 when◌then◌else◌
infixr 35 ◌and◌
infixr 33 ◌or◌
unfoldable pub when◌then◌else◌ : {A : Type 0} → Bool → A → A → A
when◌then◌else◌ true a b = a
when◌then◌else◌ false a b = b

unfoldable pub ◌and◌ : Bool → Bool → Bool
◌and◌ true b = b
◌and◌ false b = false

abbrev pub ◌or◌ : Bool → Bool → Bool
◌or◌ true b = true
◌or◌ false b = b
