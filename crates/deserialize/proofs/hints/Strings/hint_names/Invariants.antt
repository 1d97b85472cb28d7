use Prim.Native.Nat.{◌-◌, ◌≤◌}
use lib.ListN.{length}
use Rattle.deserialize.specs.Hints.{Keeps}
use Rattle.deserialize.proofs.hints.Strings.hint_names.Given as goal

abbrev pub invariant-loop-n : goal.invariant-loop-n
invariant-loop-n l = Keeps l.initial.self l.self × (l.from ≤ length l.names)

abbrev pub decreases-loop-n : goal.decreases-loop-n
decreases-loop-n l = length l.names - l.from
