use Rattle.deserialize.specs.Hints.{Keeps}
use Rattle.deserialize.proofs.hints.Strings.hint_name.Given as goal

abbrev pub invariant-loop-link : goal.invariant-loop-link
invariant-loop-link l = Keeps l.initial.self l.self

abbrev pub decreases-loop-link : goal.decreases-loop-link
decreases-loop-link l = l.link
