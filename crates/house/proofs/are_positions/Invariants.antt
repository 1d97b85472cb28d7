use Rattle.std.proofs.Common.{◌≡◌, drop}
use Rattle.payload.specs.Choice.{◌and◌}
use Rattle.house.specs.Written.{all_positions}
use Rattle.house.proofs.are_positions.Given as goal

abbrev pub invariant-loop-word : goal.invariant-loop-word
invariant-loop-word l = all_positions l.words ≡ (l.ok and all_positions (drop l.word-index l.words))
