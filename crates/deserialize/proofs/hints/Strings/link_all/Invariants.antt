use Rattle.deserialize.specs.Hints.{Keeps}
use Rattle.deserialize.proofs.hints.Strings.link_all.Given as goal

abbrev pub invariant-loop-k : goal.invariant-loop-k
invariant-loop-k l = Keeps l.initial.self l.self
