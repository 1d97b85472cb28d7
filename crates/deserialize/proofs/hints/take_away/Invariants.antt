use mathlib.Core.List.{◌++◌}
use mathlib.Core.Path.{◌≡◌}
use Prim.Native.Nat.{◌%◌}
use lib.ListN.{drop, take}
use Rattle.std.specs.Prelude.{map}
use Rattle.read_items.specs.Context.{hint_base}
use Rattle.deserialize.proofs.hints.take_away.Given as goal

abbrev pub invariant-loop-word : goal.invariant-loop-word
invariant-loop-word l =
    l.word-items ≡ map (λ word. word % hint_base) (take l.word-index l.initial.word-items) ++ drop l.word-index l.initial.word-items
